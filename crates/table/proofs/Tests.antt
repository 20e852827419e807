-- Tests as the code makes them: a word's last bit by whole bytes, and a search of the numbers below a number, from 0 on.
use mathlib.Core.Path.{◌≡◌, refl, sym, ap, ap₂, ◌∙◌}
use mathlib.Core.Bool.{Bool, true, false}
use mathlib.Core.List.{[], ◌∷◌}
use Prim.Native.Nat.{ℕ, zero, suc, ◌+◌, ◌*◌, ◌-◌, ◌/◌, ◌^◌, ◌<◌, ◌≤◌}
use native.Mathlib.Omega.{arith}
use native.Mathlib.Decide.{dec_lt}
use lib.Dec.{eqb, leb}
use borrow.Author.Tests.{le-leb, lt-leb, eq-eqb}
use Rattle.limits.specs.Limits.{word_most}
use Rattle.std.specs.Prelude.{◌||◌}
use Rattle.std.specs.List.{list_any, range_with_len}
use Rattle.common.specs.Checks.{clash, some_below, below_none}
use Rattle.scope.specs.Numbers.{every, any_below}
use Rattle.scope.specs.Stages.{numbers_rule}
use Rattle.table.specs.Lent.{word_rule}

-- so many bits are within so many bytes exactly if the bytes that hold them are
whole_bytes : (end bytes : ℕ) → leb end (8 * bytes) ≡ leb ((end + 7) / 8) bytes
whole_bytes end bytes =
    elim (dec_lt (8 * bytes) end) [
      | yes h ↦ lt-leb end (8 * bytes) h ∙ sym (lt-leb ((end + 7) / 8) bytes (omega arith))
      | no n ↦ le-leb end (8 * bytes) (omega arith) ∙ sym (le-leb ((end + 7) / 8) bytes (omega arith))
    ]

-- the rule of a word's numbers: n from 1 to 32, the third number 0, and the last bit within the bytes
module _ (bytes a b c : ℕ) where
  pub word_end : 1 ≤ a → a ≤ word_most → c ≡ 0 → leb ((b + 2 ^ (a - 1) + 7) / 8) bytes ≡ word_rule (8 * bytes) a b c
  unfolding numbers_rule every
  word_end l h n =
      sym (ap₂ (λ (s t : Bool). elim (every (s ∷ t ∷ eqb c 0 ∷ [])) [ true ↦ leb (b + 2 ^ (a - 1)) (8 * bytes) | false ↦ false ])
      (le-leb 1 a l) (le-leb a word_most h)
      ∙ ap (λ (t : Bool). elim (every (t ∷ [])) [ true ↦ leb (b + 2 ^ (a - 1)) (8 * bytes) | false ↦ false ]) (eq-eqb c 0 n)
      ∙ whole_bytes (b + 2 ^ (a - 1)) bytes)

-- a number below n passes the test exactly if one of those tried from 0 on does
module _ (test : ℕ → Bool) where
  tried_one : (a n : ℕ) → list_any test (range_with_len a n) ≡ true → any_below (a + n) test ≡ true
  tried_one a zero e = clash (cc)
  tried_one a (suc n) e = go (test a) refl e (tried_one (a + 1) n)
    where
      go : (b : Bool) → test a ≡ b → (b || list_any test (range_with_len (a + 1) n)) ≡ true
          → (list_any test (range_with_len (a + 1) n) ≡ true → any_below (a + 1 + n) test ≡ true) → any_below (a + suc n) test ≡ true
      go true p e h = some_below (a + suc n) test a (omega arith) p
      go false p e h = ap (λ (k : ℕ). any_below k test) (let q : a + suc n ≡ a + 1 + n = omega arith in q) ∙ h e

  tried_none : (a n : ℕ) → list_any test (range_with_len a n) ≡ false → (j : ℕ) → a ≤ j → j < a + n → test j ≡ false
  tried_none a zero e j l h = absurd (omega arith)
  tried_none a (suc n) e j l h = go (test a) refl e (tried_none (a + 1) n)
    where
      go : (b : Bool) → test a ≡ b → (b || list_any test (range_with_len (a + 1) n)) ≡ false
          → (list_any test (range_with_len (a + 1) n) ≡ false → (j : ℕ) → a + 1 ≤ j → j < a + 1 + n → test j ≡ false) → test j ≡ false
      go true p e k = clash (cc)
      go false p e k = elim (dec_lt a j) [ yes m ↦ k e j (omega arith) (omega arith) | no m ↦ (let q : j ≡ a = omega arith in ap test q ∙ p) ]

  pub any_tried : (n : ℕ) → list_any test (range_with_len 0 n) ≡ any_below n test
  any_tried n = go (list_any test (range_with_len 0 n)) refl
    where
      go : (b : Bool) → list_any test (range_with_len 0 n) ≡ b → b ≡ any_below n test
      go true e = sym (ap (λ (k : ℕ). any_below k test) (let q : n ≡ 0 + n = omega arith in q) ∙ tried_one 0 n e)
      go false e = sym (below_none n test (λ j l. tried_none 0 n e j (omega arith) (omega arith)))
