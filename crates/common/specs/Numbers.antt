-- Numbers by their bits and by their bytes: one bit more doubles, a natural's length has a limit, and past the end of a slice numbers are 0.
use Rattle.std.specs.Prelude.{◌≡◌, List, ℕ, suc, ◌+◌, ◌*◌, ◌^◌, ◌≤◌, ◌<◌, length}
use Rattle.std.proofs.Common.{ap, ◌∙◌, mul_assoc, add-mul, arith, pow-add, le-leb}
use Rattle.std.proofs.Math.ListN.{get_or-eq_default}
use Rattle.std.proofs.lemmas.Bool.{lt-leb}
use Rattle.limits.specs.Limits.{natural_length}
use Rattle.report.specs.Bits.{Bit}
use Rattle.scope.specs.Numbers.{be16, be32}
use Rattle.scope.specs.Naturals.{natural, too_long, more_bits, of_length}

pub double : (k : ℕ) → 2 ^ suc k ≡ 2 * 2 ^ k
double k = ap (λ (i : ℕ). 2 ^ i) (let e : suc k ≡ 1 + k = omega arith in e) ∙ pow-add 2 1 k

pub shift_in : (n b p : ℕ) → (n * 2 + b) * p ≡ n * (2 * p) + b * p
shift_in n b p = add-mul (n * 2) b p ∙ rw mul_assoc

-- a natural's length within the limit is followed by its bits, a longer one is refused
pub length_fits : (n : ℕ) (rest : List Bit) → n ≤ natural_length → of_length (natural n rest) ≡ more_bits n 1 rest
unfolding of_length
length_fits n rest h = rw (le-leb n natural_length h, of_length)

pub length_too_long_lem : (n : ℕ) (rest : List Bit) → natural_length < n → of_length (natural n rest) ≡ too_long
unfolding of_length
length_too_long_lem n rest h = rw (lt-leb n natural_length h, of_length)

-- past the end
pub half_past : (s : List ℕ) (at : ℕ) → length s ≤ at → be16 s at ≡ 0
half_past s at past = rw (get_or-eq_default s 0 {n = at} past, get_or-eq_default s 0 {n = at + 1} (omega arith))

pub number_past : (s : List ℕ) (at : ℕ) → length s ≤ at → be32 s at ≡ 0
number_past s at past = omega (arith, half_past s at past, half_past s (at + 2) (omega arith))
