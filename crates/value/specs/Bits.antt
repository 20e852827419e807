-- Values of a shape in bits: how many compact bits a value takes, its padded cells in a store of cells, its compact bits from cells.
-- And what each public call answers, with what it leaves in the store that it writes: where bits or room are too few, the store is as it was.
use Rattle.std.specs.Prelude.{Bool, true, false, Option, Some, None, List, [], ◌∷◌, ◌++◌, ℕ, zero, suc, ◌+◌, leb, length, take, drop}
use Rattle.std.proofs.lemmas.List.Edits.{sets}
use Rattle.limits.specs.Limits.{cell_count}
use Rattle.report.specs.Bits.{Bit}
use Rattle.report.specs.Values.{Cells}
use Rattle.scope.specs.Numbers.{zeros, every, tabulate_from}
use Rattle.value.specs.Shapes.{Shape, nothing, plain, tag, both}

-- how many bits a value takes, or too few bits
pub data Used : Type 0 where
  used : ℕ → Used
  short : Used

-- so many bits, and then those of a part
abbrev pub after : (k : ℕ) → Used → Used
after k (used n) = used (k + n)
after k short = short

-- the tag that a bit is read as: 0, or else 1
abbrev pub tag_of : Bit → Bit
tag_of zero = 0
tag_of (suc b) = 1

unfoldable pub tags_of : List Bit → List Bit
tags_of [] = []
tags_of (b ∷ bs) = tag_of b ∷ tags_of bs

-- the compact bits of a value of the shape, at the front of the bits
unfoldable pub skip_shape : Shape → List Bit → Used
skip_shape nothing bs = used 0
skip_shape (plain n) bs = elim (leb n (length bs)) [ true ↦ used n | false ↦ short ]
skip_shape (tag pad_left pad_right A B) [] = short
skip_shape (tag pad_left pad_right A B) (zero ∷ bs) = after 1 (skip_shape A bs)
skip_shape (tag pad_left pad_right A B) (suc b ∷ bs) = after 1 (skip_shape B bs)
skip_shape (both left A B) bs = elim (skip_shape A bs) [ used k ↦ after k (skip_shape B (drop k bs)) | short ↦ short ]

-- the cells with the padded value from a place on, as far as there are bits for it
unfoldable pub pad_shape : Shape → List Bit → (cells : List Bit) → (at : ℕ) → List Bit
unfolding skip_shape tags_of
pad_shape nothing bs cells at = cells
pad_shape (plain n) bs cells at = elim (leb n (length bs)) [ true ↦ sets cells at (tags_of (take n bs)) | false ↦ cells ]
pad_shape (tag pad_left pad_right A B) [] cells at = cells
pad_shape (tag pad_left pad_right A B) (zero ∷ bs) cells at = pad_shape A bs (sets cells at (0 ∷ zeros pad_left)) (at + (1 + pad_left))
pad_shape (tag pad_left pad_right A B) (suc b ∷ bs) cells at = pad_shape B bs (sets cells at (1 ∷ zeros pad_right)) (at + (1 + pad_right))
pad_shape (both left A B) bs cells at = elim (skip_shape A bs) [
  | used k ↦ pad_shape B (drop k bs) (pad_shape A bs cells at) (at + left)
  | short ↦ pad_shape A bs cells at
]

-- the compact bits of the value that the cells from a place on hold, whatever the padding is
unfoldable pub unpad_shape : Shape → Cells → (at : ℕ) → List Bit
unfolding tabulate_from
unpad_shape nothing c at = []
unpad_shape (plain n) c at = tabulate_from at n (λ k. tag_of (c k))
unpad_shape (tag pad_left pad_right A B) c at = elim (c at) [
  | zero ↦ 0 ∷ unpad_shape A c (at + (1 + pad_left))
  | suc b ↦ 1 ∷ unpad_shape B c (at + (1 + pad_right))
]
unpad_shape (both left A B) c at = unpad_shape A c at ++ unpad_shape B c (at + left)

-- the position after a value's bits that begin at p
abbrev pub skipped : (p : ℕ) → Used → Option ℕ
skipped p (used n) = Some (p + n)
skipped p short = None

-- cells from a place on lie in the store, and within the most cells of a run; no cells lie anywhere
unfoldable pub room : (width at : ℕ) → (cells : List Bit) → Bool
unfolding every
room zero at cells = true
room (suc w) at cells = every (leb (at + suc w) (length cells) ∷ leb (at + suc w) cell_count ∷ [])

-- what padding says, and the cells as it leaves them
pub record Padded : Type 0 where
  pub says : Option ℕ
  pub cells : List Bit

-- an end of padding as a call meets it
abbrev pub padding : Option ℕ → List Bit → Padded
padding says cells = record { says = says; cells = cells }

-- the value at bit p as padded cells from `at` on, where there are bits and cells enough
unfoldable pub pad_stage : Shape → (width : ℕ) → (bits : List Bit) → (p : ℕ) → (cells : List Bit) → (at : ℕ) → Padded
unfolding skip_shape pad_shape room
pad_stage A width bits p cells at = elim (skip_shape A (drop p bits)) [
  | used n ↦ elim (room width at cells) [
    | true ↦ padding (Some (p + n)) (pad_shape A (drop p bits) cells at)
    | false ↦ padding None cells
  ]
  | short ↦ padding None cells
]

-- what unpadding says, and the bits of the store as it leaves them
pub record Unpadded : Type 0 where
  pub says : Option ℕ
  pub bits : List Bit

-- an end of unpadding as a call meets it
abbrev pub unpadding : Option ℕ → List Bit → Unpadded
unpadding says bits = record { says = says; bits = bits }

-- the compact bits of the value in the cells from `at` on, from bit q of the store on, where both have room for the width
unfoldable pub unpad_stage : Shape → (width : ℕ) → (cells : List Bit) → Cells → (at : ℕ) → (store : List Bit) → (q : ℕ) → Unpadded
unfolding unpad_shape every room
unpad_stage A width cells c at store q = elim (every (room width at cells ∷ room width q store ∷ [])) [
  | true ↦ unpadding (Some (length (unpad_shape A c at))) (sets store q (unpad_shape A c at))
  | false ↦ unpadding None store
]
