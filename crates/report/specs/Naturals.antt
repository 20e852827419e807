-- The report's code of a positive natural: 1 is `0`; a larger n is `1`, the code of floor (log2 n), then n's bits below the top one.
-- So 2 is `100`, 4 is `110000`, 8 is `1101000`.
use Rattle.std.specs.Prelude.{List, [], ◌∷◌, ◌++◌, ℕ, zero, suc, ◌/◌, ◌%◌, ◌^◌}
use Rattle.report.specs.Bits.{Bit}

-- the k low bits of n, the highest first
unfoldable pub low_bits : ℕ → ℕ → List Bit
low_bits zero n = []
low_bits (suc k) n = n / 2 ^ k % 2 ∷ low_bits k n

-- floor (log2 n) by halving; the first number bounds the halvings
unfoldable pub log2_by : ℕ → ℕ → ℕ
log2_by zero n = zero
log2_by (suc f) zero = zero
log2_by (suc f) (suc zero) = zero
log2_by (suc f) (suc (suc n)) = suc (log2_by f (suc (suc n) / 2))

abbrev pub log2 : ℕ → ℕ
log2 n = log2_by n n

-- the code of n; the first number bounds the depth, and n is enough, since floor (log2 n) is below n
unfoldable pub code_by : ℕ → ℕ → List Bit
code_by zero n = 0 ∷ []
code_by (suc f) zero = 0 ∷ []
code_by (suc f) (suc zero) = 0 ∷ []
code_by (suc f) (suc (suc n)) = 1 ∷ (code_by f (log2 (suc (suc n))) ++ low_bits (log2 (suc (suc n))) (suc (suc n)))

abbrev pub code_natural : ℕ → List Bit
code_natural n = code_by n n
