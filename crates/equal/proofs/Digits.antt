-- Bits taken as digits, eight at once or one: the number that they add to another, as far as buckets tell it, and whether two runs of them
-- are the same.
use mathlib.Core.Path.{◌≡◌, refl, sym, ap, ap₂, ◌∙◌}
use mathlib.Core.Bool.{Bool, true, false}
use mathlib.Core.List.{List, [], ◌∷◌, ◌++◌}
use Prim.Native.Nat.{ℕ, zero, suc, ◌+◌, ◌*◌, ◌-◌, ◌/◌, ◌%◌, ◌≤◌, ◌<◌}
use native.Mathlib.Nat.{add-mul-mod_self_left}
use native.Mathlib.Omega.{arith}
use lib.ListN.{length, get_or, take, drop}
use borrow.Author.Tests.{eq-eqb, ne_eqb}
use Rattle.report.specs.Bits.{byte_bits, bits_of, number_from}
use Rattle.scope.specs.Numbers.{same}
use Rattle.common.specs.Checks.{same_equal}
use Rattle.common.specs.Cells.{bits_from}
use Rattle.cells.proofs.Bytes.{eight_from}
use Rattle.equal.specs.Buckets.{buckets}

-- the first of n bits, and the first eight
one_ahead : (l : List ℕ) (p n : ℕ) → 0 < n → bits_from l p n ≡ get_or l p 0 ∷ bits_from l (p + 1) (n - 1)
unfolding bits_from
one_ahead l p zero h = absurd (omega arith)
one_ahead l p (suc n) h = ap₂ (λ (q m : ℕ). get_or l p 0 ∷ bits_from l q m) (let e : suc p ≡ p + 1 = omega arith in e) (let e : n ≡ suc n - 1 = omega arith in e)

bits_split : (l : List ℕ) (p k n : ℕ) → bits_from l p (k + n) ≡ bits_from l p k ++ bits_from l (p + k) n
unfolding bits_from
bits_split l p zero n = ap₂ (λ (q m : ℕ). bits_from l q m) (let e : p ≡ p + 0 = omega arith in e) (let e : 0 + n ≡ n = omega arith in e)
bits_split l p (suc k) n =
    ap (bits_from l p) (let e : suc k + n ≡ suc (k + n) = omega arith in e)
    ∙ ap (λ (t : List ℕ). get_or l p 0 ∷ t) (bits_split l (suc p) k n ∙ ap (λ (q : ℕ). bits_from l (suc p) k ++ bits_from l q n)
    (let e : suc p + k ≡ p + suc k = omega arith in e))

eight_ahead : (l : List ℕ) (p n : ℕ) → 8 ≤ n → bits_from l p n ≡ bits_from l p 8 ++ bits_from l (p + 8) (n - 8)
eight_ahead l p n h = ap (bits_from l p) (let e : n ≡ 8 + (n - 8) = omega arith in e) ∙ bits_split l p 8 (n - 8)

-- what eight bits add to a number
number_eight : (l : List ℕ) (p h : ℕ) (rest : List ℕ) → number_from h (bits_from l p 8 ++ rest) ≡ number_from (h * 256 + number_from 0 (bits_from l p 8)) rest
unfolding bits_from number_from
number_eight l p h rest = ap (λ (y : ℕ). number_from y rest) (omega arith)

-- a number may be taken by its remainder
pub by_remainder : (y : ℕ) (xs : List ℕ) → number_from (y % buckets) xs % buckets ≡ number_from y xs % buckets
unfolding number_from
by_remainder y [] = omega arith
by_remainder y (x ∷ xs) =
    sym (by_remainder (y % buckets * 2 + x) xs)
    ∙ ap (λ (z : ℕ). number_from z xs % buckets)
    (sym (add-mul-mod_self_left (y % buckets * 2 + x) buckets (y / buckets * 2)) ∙ ap (λ (z : ℕ). z % buckets) whole)
    ∙ by_remainder (y * 2 + x) xs
  where
    whole : y % buckets * 2 + x + buckets * (y / buckets * 2) ≡ y * 2 + x
    whole = omega arith

-- the first bit is the top one of the eight
top_bit : (s : List ℕ) (p x : ℕ) → x ≡ number_from 0 (bits_from (bits_of s) p 8) → x < 256 → x / 128 ≡ get_or (bits_of s) p 0
unfolding bits_from
top_bit s p x e h =
    let b : x / 128 % 2 ≡ get_or (bits_of s) p 0 = ap (λ (y : ℕ). y / 128 % 2) e ∙ ap (λ (l : List ℕ). get_or l 0 0) (eight_from s p) in
    omega arith

module _ (s : List ℕ) where
  -- THE NUMBER: how a turn goes on, and what is left at the end
  pub number_by_eight : (at left h x : ℕ) → 8 ≤ left → x ≡ number_from 0 (bits_from (bits_of s) at 8)
      → number_from h (bits_from (bits_of s) at left) % buckets
      ≡ number_from ((h * 256 + x) % buckets) (bits_from (bits_of s) (at + 8) (left - 8)) % buckets
  number_by_eight at left h x m e =
      ap (λ (t : List ℕ). number_from h t % buckets) (eight_ahead (bits_of s) at left m)
      ∙ ap (λ (y : ℕ). y % buckets) (number_eight (bits_of s) at h (bits_from (bits_of s) (at + 8) (left - 8)))
      ∙ ap (λ (y : ℕ). number_from (h * 256 + y) (bits_from (bits_of s) (at + 8) (left - 8)) % buckets) (sym e)
      ∙ sym (by_remainder (h * 256 + x) (bits_from (bits_of s) (at + 8) (left - 8)))

  pub number_by_one : (at left h x : ℕ) → 0 < left → x ≡ number_from 0 (bits_from (bits_of s) at 8) → x < 256
      → number_from h (bits_from (bits_of s) at left) % buckets
      ≡ number_from ((h * 2 + x / 128) % buckets) (bits_from (bits_of s) (at + 1) (left - 1)) % buckets
  unfolding number_from
  number_by_one at left h x m e l =
      ap (λ (t : List ℕ). number_from h t % buckets) (one_ahead (bits_of s) at left m)
      ∙ ap (λ (b : ℕ). number_from (h * 2 + b) (bits_from (bits_of s) (at + 1) (left - 1)) % buckets) (sym (top_bit s at x e l))
      ∙ sym (by_remainder (h * 2 + x / 128) (bits_from (bits_of s) (at + 1) (left - 1)))

  pub number_ends : (at left h : ℕ) → left ≤ 0 → number_from h (bits_from (bits_of s) at left) % buckets ≡ h % buckets
  unfolding number_from bits_from
  number_ends at left h m = ap (λ (n : ℕ). number_from h (bits_from (bits_of s) at n) % buckets) (let e : left ≡ 0 = omega arith in e)

  -- WHETHER TWO RUNS ARE THE SAME, by eight bits or one
  abbrev pub runs : (p q n : ℕ) → Bool
  runs p q n = same (bits_from (bits_of s) p n) (bits_from (bits_of s) q n)

  same_behind : (a b x y : List ℕ) → a ≡ b → same (a ++ x) (b ++ y) ≡ same x y
  unfolding same
  same_behind a b x y e = ap (λ (t : List ℕ). same (a ++ x) (t ++ y)) (sym e) ∙ go a
    where
      go : (a : List ℕ) → same (a ++ x) (a ++ y) ≡ same x y
      go [] = refl
      go (c ∷ a) = rw (eq-eqb c c refl, same) (go a)

  module _ (p q n x y : ℕ) (u : x ≡ number_from 0 (bits_from (bits_of s) p 8)) (v : y ≡ number_from 0 (bits_from (bits_of s) q 8)) where
    pub same_by_eight : 8 ≤ n → x ≡ y → runs p q n ≡ runs (p + 8) (q + 8) (n - 8)
    same_by_eight m e =
        ap₂ same (eight_ahead (bits_of s) p n m) (eight_ahead (bits_of s) q n m)
        ∙ same_behind (bits_from (bits_of s) p 8) (bits_from (bits_of s) q 8) _ _
        (sym (eight_from s p) ∙ ap (λ (z : ℕ). byte_bits z) (sym u ∙ e ∙ v) ∙ eight_from s q)

    pub unlike_by_eight : 8 ≤ n → (x ≡ y → ⊥) → runs p q n ≡ false
    unfolding bits_from
    unlike_by_eight m ne = go (runs p q n) refl
      where
        eight : (t : List ℕ) (r : ℕ) → t ≡ bits_from (bits_of s) r n → number_from 0 (take 8 t) ≡ number_from 0 (bits_from (bits_of s) r 8)
        eight t r e = ap (λ (w : List ℕ). number_from 0 (take 8 w)) (e ∙ eight_ahead (bits_of s) r n m)

        go : (b : Bool) → runs p q n ≡ b → runs p q n ≡ false
        go true e =
            let alike = same_equal (bits_from (bits_of s) p n) (bits_from (bits_of s) q n) e in
            absurd (ne (u ∙ sym (eight (bits_from (bits_of s) p n) p refl) ∙ eight (bits_from (bits_of s) p n) q alike ∙ sym v))
        go false e = e

    module _ (m : 0 < n) (l : x < 256) (k : y < 256) where
      heads : runs p q n ≡ same (x / 128 ∷ bits_from (bits_of s) (p + 1) (n - 1)) (y / 128 ∷ bits_from (bits_of s) (q + 1) (n - 1))
      heads =
          ap₂ same (one_ahead (bits_of s) p n m) (one_ahead (bits_of s) q n m)
          ∙ ap₂ (λ (a b : ℕ). same (a ∷ bits_from (bits_of s) (p + 1) (n - 1)) (b ∷ bits_from (bits_of s) (q + 1) (n - 1)))
          (sym (top_bit s p x u l)) (sym (top_bit s q y v k))

      pub same_by_one : x / 128 ≡ y / 128 → runs p q n ≡ runs (p + 1) (q + 1) (n - 1)
      unfolding same
      same_by_one e = heads ∙ rw (eq-eqb (x / 128) (y / 128) e, same)

      pub unlike_by_one : (x / 128 ≡ y / 128 → ⊥) → runs p q n ≡ false
      unfolding same
      unlike_by_one ne = heads ∙ rw (ne_eqb (x / 128) (y / 128) ne, same)

  pub same_starts : (p q n : ℕ) → runs p q n ≡ runs (p + 0) (q + 0) (n - 0)
  same_starts p q n =
      let e : p ≡ p + 0 = omega arith in
      let f : q ≡ q + 0 = omega arith in
      let g : n ≡ n - 0 = omega arith in
      λ i. runs (e i) (f i) (g i)

  -- k bits and then r more
  pub same_turn : (p q n k r : ℕ) → runs (p + k + r) (q + k + r) (n - k - r) ≡ runs (p + (k + r)) (q + (k + r)) (n - (k + r))
  same_turn p q n k r =
      let e : p + k + r ≡ p + (k + r) = omega arith in
      let f : q + k + r ≡ q + (k + r) = omega arith in
      let g : n - k - r ≡ n - (k + r) = omega arith in
      λ i. runs (e i) (f i) (g i)

  pub same_ends : (p q n : ℕ) → n ≤ 0 → runs p q n ≡ true
  unfolding same bits_from
  same_ends p q n m = ap (λ (k : ℕ). runs p q k) (let e : n ≡ 0 = omega arith in e)

-- the number of bytes, one digit each
module _ (bytes : List ℕ) where
  next : (bytes : List ℕ) (k : ℕ) → k < length bytes → drop k bytes ≡ get_or bytes k 0 ∷ drop (k + 1) bytes
  next [] k m = absurd (omega arith)
  next (b ∷ bytes) zero m = refl
  next (b ∷ bytes) (suc k) m =
      next bytes k (omega arith) ∙ ap (λ (j : ℕ). get_or bytes k 0 ∷ drop j (b ∷ bytes)) (let q : suc (k + 1) ≡ suc k + 1 = omega arith in q)

  past : (bytes : List ℕ) (k : ℕ) → length bytes ≤ k → drop k bytes ≡ []
  past [] zero m = refl
  past [] (suc k) m = refl
  past (b ∷ bytes) zero m = absurd (omega arith)
  past (b ∷ bytes) (suc k) m = past bytes k (omega arith)

  pub bytes_by_one : (k h : ℕ) → k < length bytes
      → number_from h (drop k bytes) % buckets ≡ number_from ((h * 2 + get_or bytes k 0) % buckets) (drop (k + 1) bytes) % buckets
  unfolding number_from
  bytes_by_one k h m =
      ap (λ (t : List ℕ). number_from h t % buckets) (next bytes k m) ∙ sym (by_remainder (h * 2 + get_or bytes k 0) (drop (k + 1) bytes))

  pub bytes_end : (k h : ℕ) → length bytes ≤ k → number_from h (drop k bytes) % buckets ≡ h % buckets
  unfolding number_from
  bytes_end k h m = ap (λ (t : List ℕ). number_from h t % buckets) (past bytes k m)
