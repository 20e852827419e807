-- The bits of a word by its n, as the code computes them: a shift that loses nothing.
use Rattle.std.specs.Prelude.{◌≡◌, true, false, [], ◌∷◌, ℕ, ◌*◌, ◌-◌, ◌%◌, ◌^◌, ◌<◌, ◌≤◌, leb}
use Rattle.std.proofs.Common.{sym, ap, ◌∙◌, one-mul, mod-eq_of_lt, arith, le-leb}
use Rattle.std.proofs.Math.Pow.{pow-lt}
use Rattle.std.proofs.lemmas.Bool.{lt-leb}
use Rattle.limits.specs.Limits.{word_most}
use Rattle.scope.specs.Numbers.{every}

-- a word of n, from 1 to the largest, has 2 ^ (n - 1) bits; there is no other word
unfoldable pub word_bits : (n : ℕ) → ℕ
unfolding every
word_bits n = elim (every (leb 1 n ∷ leb n word_most ∷ [])) [ true ↦ 2 ^ (n - 1) | false ↦ 0 ]

pub word_has : (n : ℕ) → 1 ≤ n → n ≤ word_most → word_bits n ≡ 2 ^ (n - 1)
unfolding word_bits every
word_has n l h = rw (le-leb 1 n l, le-leb n word_most h, word_bits)

pub word_none : (n : ℕ) → n < 1 → word_bits n ≡ 0
unfolding word_bits every
word_none n h = rw (lt-leb 1 n h, word_bits)

pub word_over : (n : ℕ) → word_most < n → word_bits n ≡ 0
unfolding word_bits every
word_over n h = rw (le-leb 1 n (omega arith), lt-leb n word_most h, word_bits)

pub word_exact : (n : ℕ) → 1 ≤ n → n ≤ word_most → 1 * 2 ^ (n - 1) % 2 ^ 64 ≡ word_bits n
word_exact n l h =
    let e : 1 * 2 ^ (n - 1) ≡ 2 ^ (n - 1) = one-mul (2 ^ (n - 1)) in
    ap (λ (x : ℕ). x % 2 ^ 64) e ∙ mod-eq_of_lt (pow-lt {j = 64} (omega arith)) ∙ sym (word_has n l h)

pub word_small : (n : ℕ) → 1 ≤ n → n ≤ word_most → 1 * 2 ^ (n - 1) % 2 ^ 64 < 2 ^ word_most
word_small n l h = rw (word_exact n l h, word_has n l h) (pow-lt {j = word_most} (omega arith))
