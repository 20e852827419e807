-- Bits and bytes. A bit is the number 0 or 1, everywhere: in codes, in values, in the machine's cells and in stores.
-- Bits fill bytes from the top bit.
use Rattle.std.specs.Prelude.{List, [], ◌∷◌, ◌++◌, ℕ, zero, suc, ◌+◌, ◌*◌, ◌/◌, ◌%◌, take, drop}

abbrev pub Bit : Type 0
Bit = ℕ

-- the eight bits of a byte
abbrev pub byte_bits : ℕ → List Bit
byte_bits b = b / 128 % 2 ∷ b / 64 % 2 ∷ b / 32 % 2 ∷ b / 16 % 2 ∷ b / 8 % 2 ∷ b / 4 % 2 ∷ b / 2 % 2 ∷ b % 2 ∷ []

-- the bits of a string of bytes
unfoldable pub bits_of : List ℕ → List Bit
bits_of [] = []
bits_of (b ∷ bs) = byte_bits b ++ bits_of bs

-- the number whose binary digits are those of n and then the bits
unfoldable pub number_from : ℕ → List Bit → ℕ
number_from n [] = n
number_from n (b ∷ bs) = number_from (n * 2 + b) bs

-- k bytes of a stream of bits
unfoldable pub bytes_of : (k : ℕ) → List Bit → List ℕ
unfolding number_from
bytes_of zero bs = []
bytes_of (suc k) bs = number_from 0 (take 8 bs) ∷ bytes_of k (drop 8 bs)
