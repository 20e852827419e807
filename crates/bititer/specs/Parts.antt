-- The parts of a natural's code that are read one after the other: the ones that begin it, and the bits of each length.
use Rattle.std.specs.Prelude.{◌≡◌, Option, Some, None, List, ℕ, zero, suc, ◌+◌, ◌≤◌, length, drop}
use Rattle.report.specs.Bits.{Bit}
use Rattle.scope.specs.Naturals.{Natural, natural, ended, of_length, read_natural, more_bits}

-- the number that so many lengths lead to, of which the first was read
unfoldable pub of_lengths : (lengths : ℕ) → Natural → Natural
unfolding of_length
of_lengths zero x = x
of_lengths (suc k) x = of_lengths k (of_length x)

-- after `count` ones and a zero a natural is what as many lengths lead to from 1; without the zero it has ended
abbrev pub OnesMean : List Bit → (p : ℕ) → Option (ℕ × ℕ) → Type 0
OnesMean bits p (Some (count, next)) =
    (read_natural (drop p bits) ≡ of_lengths count (natural 1 (drop next bits))) × (p ≤ next) × (next ≤ length bits)
OnesMean bits p None = read_natural (drop p bits) ≡ ended

-- the number that is 1 followed by `count` bits
abbrev pub BitsMean : List Bit → (p count : ℕ) → Option (ℕ × ℕ) → Type 0
BitsMean bits p count (Some (n, next)) =
    (more_bits count 1 (drop p bits) ≡ natural n (drop next bits)) × (next ≡ p + count)
BitsMean bits p count None = more_bits count 1 (drop p bits) ≡ ended
