-- Reading a natural: the ones up to a zero tell how many lengths follow, and each length read tells how many bits the next number has.
-- A length above 31 is refused when it is read, before its bits are asked for.
use Rattle.std.specs.Prelude.{true, false, List, [], ◌∷◌, ℕ, zero, suc, ◌+◌, ◌*◌, leb}
use Rattle.limits.specs.Limits.{natural_length}
use Rattle.report.specs.Bits.{Bit}

-- a natural with the bits after it; or the stream ended; or a length was too long
pub data Natural : Type 0 where
  natural : (n : ℕ) → (rest : List Bit) → Natural
  ended too_long : Natural

-- the number that begins with n and goes on with the next k bits
unfoldable pub more_bits : (k n : ℕ) → List Bit → Natural
more_bits zero n bs = natural n bs
more_bits (suc k) n [] = ended
more_bits (suc k) n (b ∷ bs) = more_bits k (n * 2 + b) bs

-- the number whose length was read
unfoldable pub of_length : Natural → Natural
unfolding more_bits
of_length (natural n rest) = elim (leb n natural_length) [ true ↦ more_bits n 1 rest | false ↦ too_long ]
of_length ended = ended
of_length too_long = too_long

unfoldable pub read_natural : List Bit → Natural
unfolding of_length
read_natural [] = ended
read_natural (zero ∷ bs) = natural 1 bs
read_natural (suc b ∷ bs) = of_length (read_natural bs)
