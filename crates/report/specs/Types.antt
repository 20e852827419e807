-- The report's types, the width of a type in cells, and the types of words.
use Rattle.std.specs.Prelude.{ℕ, zero, suc, ◌+◌, ◌-◌, max}

-- unit, sums and products
pub data Ty : Type 0 where
  one : Ty
  sum prod : Ty → Ty → Ty

-- how many cells a value of the type takes
unfoldable pub width : Ty → ℕ
width one = 0
width (sum A B) = 1 + max (width A) (width B)
width (prod A B) = width A + width B

-- the padding of a sum's left part, and of its right part: the larger width minus its own
unfoldable pub pad_l : Ty → Ty → ℕ
pad_l A B = max (width A) (width B) - width A

unfoldable pub pad_r : Ty → Ty → ℕ
pad_r A B = max (width A) (width B) - width B

-- the words of 2 ^ k bits: a bit, or two words of half as many
unfoldable pub word_ty : ℕ → Ty
word_ty zero = sum one one
word_ty (suc k) = prod (word_ty k) (word_ty k)

-- the parts of a sum or a product
unfoldable pub left_of : Ty → Ty
left_of one = one
left_of (sum A B) = A
left_of (prod A B) = A

unfoldable pub right_of : Ty → Ty
right_of one = one
right_of (sum A B) = B
right_of (prod A B) = B
