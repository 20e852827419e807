-- The report's values, which values a type has, and the two ways to spell a value in bits.
-- Compact bits hold no padding; padded cells fill the width of the type.
use Rattle.std.specs.Prelude.{List, [], ◌∷◌, ◌++◌, ℕ, zero, suc, ◌+◌, replicate}
use Rattle.report.specs.Bits.{Bit}
use Rattle.report.specs.Types.{Ty, one, sum, prod, width, pad_l, pad_r, left_of, right_of}

infixr 60 ◌&◌
pub data Val : Type 0 where
  ⟨⟩ : Val
  inl inr : Val → Val
  ◌&◌ : Val → Val → Val

-- v is a value of the type A
pub data HasTy : Val → Ty → Type 0 where
  is_unit : HasTy ⟨⟩ one
  is_left : {v : Val} {A B : Ty} → HasTy v A → HasTy (inl v) (sum A B)
  is_right : {v : Val} {A B : Ty} → HasTy v B → HasTy (inr v) (sum A B)
  is_pair : {v w : Val} {A B : Ty} → HasTy v A → HasTy w B → HasTy (v & w) (prod A B)

-- compact bits: unit none; a sum its tag, then the part; a product left, then right
unfoldable pub compact : Val → List Bit
compact ⟨⟩ = []
compact (inl v) = 0 ∷ compact v
compact (inr v) = 1 ∷ compact v
compact (v & w) = compact v ++ compact w

-- padded cells of a value of the type T: the same, with zeros as padding after a tag
unfoldable pub padded : Ty → Val → List Bit
unfolding left_of right_of pad_l pad_r
padded T ⟨⟩ = []
padded T (inl v) = 0 ∷ replicate (pad_l (left_of T) (right_of T)) 0 ++ padded (left_of T) v
padded T (inr v) = 1 ∷ replicate (pad_r (left_of T) (right_of T)) 0 ++ padded (right_of T) v
padded T (v & w) = padded (left_of T) v ++ padded (right_of T) w

-- a value read from the front of compact bits with the bits after it, or too few bits
pub data Read : Type 0 where
  value : Val → (rest : List Bit) → Read
  short : Read

unfoldable pub and_then : Read → (Val → List Bit → Read) → Read
and_then (value v rest) f = f v rest
and_then short f = short

-- compact bits read along the type
unfoldable pub read_value : Ty → List Bit → Read
unfolding and_then
read_value one bs = value ⟨⟩ bs
read_value (sum A B) [] = short
read_value (sum A B) (zero ∷ bs) = and_then (read_value A bs) λ v rest. value (inl v) rest
read_value (sum A B) (suc b ∷ bs) = and_then (read_value B bs) λ v rest. value (inr v) rest
read_value (prod A B) bs = and_then (read_value A bs) λ v bs. and_then (read_value B bs) λ w rest. value (v & w) rest

-- cells: a bit at each place
abbrev pub Cells : Type 0
Cells = ℕ → Bit

-- the value of the type A that the cells from a place on hold, whatever the padding is
unfoldable pub value_at : Ty → Cells → ℕ → Val
unfolding pad_l pad_r
value_at one c at = ⟨⟩
value_at (sum A B) c at = elim (c at) [
  | zero ↦ inl (value_at A c (at + (1 + pad_l A B)))
  | suc b ↦ inr (value_at B c (at + (1 + pad_r A B)))
]
value_at (prod A B) c at = value_at A c at & value_at B c (at + width A)
