-- Types and values, computed: widths, paddings, parts, compact bits, padded cells, and both read back.
-- The two sides of a sum or a product are unlike, each wider than the other in turn, so that one taken for the other shows.
use Rattle.std.specs.Prelude.{refl, List, [], ◌∷◌, get_or}
use Rattle.report.specs.Lines.{◌is◌, Hold, b1, b2, b3, o, i}
use Rattle.report.specs.Bits.{Bit}
use Rattle.report.specs.Types.{Ty, one, sum, prod, width, pad_l, pad_r, word_ty, left_of, right_of}
use Rattle.report.specs.Values.{Val, ⟨⟩, inl, inr, ◌&◌, HasTy, is_unit, is_left, is_right, is_pair, compact, padded, value, short, read_value, Cells, value_at}

widths : Hold (
    width one is 0
    ∷ width b1 is 1
    ∷ width (sum b1 b3) is 4
    ∷ width (sum b3 b1) is 4
    ∷ width (prod b1 b3) is 4
    ∷ width (prod b3 b2) is 5
    ∷ [])
unfolding Hold width
widths = refl

-- the larger width minus the part's own
paddings : Hold (
    pad_l b1 b3 is 2
    ∷ pad_l b3 b1 is 0
    ∷ pad_r b1 b3 is 0
    ∷ pad_r b3 b1 is 2
    ∷ [])
unfolding Hold width pad_l pad_r
paddings = refl

parts : Hold (
    left_of one is one
    ∷ right_of one is one
    ∷ left_of (sum b1 b2) is b1
    ∷ right_of (sum b1 b2) is b2
    ∷ left_of (prod b1 b2) is b1
    ∷ right_of (prod b1 b2) is b2
    ∷ word_ty 0 is b1
    ∷ word_ty 2 is prod b2 b2
    ∷ [])
unfolding Hold left_of right_of word_ty
parts = refl

compact_bits : Hold (
    compact ⟨⟩ is []
    ∷ compact (inl i) is (0 ∷ 1 ∷ [])
    ∷ compact (inr o) is (1 ∷ 0 ∷ [])
    ∷ compact (i & inr o) is (1 ∷ 1 ∷ 0 ∷ [])
    ∷ [])
unfolding Hold compact
compact_bits = refl

-- padding stands after the tag, before the part
padded_cells : Hold (
    padded one ⟨⟩ is []
    ∷ padded (sum b1 b3) (inl i) is (0 ∷ 0 ∷ 0 ∷ 1 ∷ [])
    ∷ padded (sum b1 b3) (inr (i & o & i)) is (1 ∷ 1 ∷ 0 ∷ 1 ∷ [])
    ∷ padded (sum b3 b1) (inl (i & o & i)) is (0 ∷ 1 ∷ 0 ∷ 1 ∷ [])
    ∷ padded (sum b3 b1) (inr i) is (1 ∷ 0 ∷ 0 ∷ 1 ∷ [])
    ∷ padded (sum (sum one b2) b1) (inl (inl ⟨⟩)) is (0 ∷ 0 ∷ 0 ∷ 0 ∷ [])
    ∷ padded (sum b1 (sum b2 one)) (inr (inr ⟨⟩)) is (1 ∷ 1 ∷ 0 ∷ 0 ∷ [])
    ∷ padded (prod (sum one b1) (sum b2 one)) (inl ⟨⟩ & inr ⟨⟩) is (0 ∷ 0 ∷ 1 ∷ 0 ∷ 0 ∷ [])
    ∷ [])
unfolding Hold padded compact width pad_l pad_r left_of right_of
padded_cells = refl

read_back : Hold (
    read_value one (1 ∷ []) is value ⟨⟩ (1 ∷ [])
    ∷ read_value (sum b1 b2) (0 ∷ 1 ∷ 0 ∷ []) is value (inl i) (0 ∷ [])
    ∷ read_value (sum b1 b2) (1 ∷ 1 ∷ 0 ∷ []) is value (inr (i & o)) []
    ∷ read_value (prod b1 (sum one b1)) (1 ∷ 1 ∷ 0 ∷ 1 ∷ []) is value (i & inr o) (1 ∷ [])
    ∷ read_value (sum b1 b2) [] is short
    ∷ read_value (sum b1 b2) (1 ∷ 1 ∷ []) is short
    ∷ read_value (prod b1 b2) (1 ∷ 1 ∷ []) is short
    ∷ read_value (prod b2 b1) (1 ∷ []) is short
    ∷ [])
unfolding Hold read_value
read_back = refl

-- the cells that begin with these bits
abbrev cells : List Bit → Cells
cells bits p = get_or bits p 0

-- read from place 1 on, with ones as padding
cells_back : Hold (
    value_at one (cells []) 1 is ⟨⟩
    ∷ value_at (sum b1 b3) (cells (1 ∷ 0 ∷ 1 ∷ 1 ∷ 0 ∷ 1 ∷ [])) 1 is inl o
    ∷ value_at (sum b1 b3) (cells (0 ∷ 1 ∷ 1 ∷ 0 ∷ 0 ∷ 1 ∷ [])) 1 is inr (i & o & o)
    ∷ value_at (sum b3 b1) (cells (1 ∷ 0 ∷ 1 ∷ 0 ∷ 1 ∷ 1 ∷ [])) 1 is inl (i & o & i)
    ∷ value_at (sum b3 b1) (cells (0 ∷ 1 ∷ 1 ∷ 1 ∷ 0 ∷ 1 ∷ [])) 1 is inr o
    ∷ value_at (prod b1 b2) (cells (1 ∷ 0 ∷ 1 ∷ 1 ∷ [])) 1 is (o & i & i)
    ∷ value_at (prod b2 b1) (cells (1 ∷ 0 ∷ 1 ∷ 1 ∷ [])) 1 is ((o & i) & i)
    ∷ [])
unfolding Hold value_at width pad_l pad_r
cells_back = refl

-- a derivation for each rule of which values a type has
left_typed : HasTy (inl i) (sum b1 b2)
left_typed = is_left (is_right is_unit)

right_typed : HasTy (inr (i & o)) (sum b1 b2)
right_typed = is_right (is_pair (is_right is_unit) (is_left is_unit))

pair_typed : HasTy (i & inl ⟨⟩) (prod b1 (sum one b2))
pair_typed = is_pair (is_right is_unit) (is_left is_unit)

pairs_typed : HasTy (i & i & o) (prod b1 b2)
pairs_typed = is_pair (is_right is_unit) (is_pair (is_right is_unit) (is_left is_unit))

-- and what each rule asks for: the parts of a value have the parts of its type
left_part : {v : Val} {A B : Ty} → HasTy (inl v) (sum A B) → HasTy v A
left_part (is_left v) = v

right_part : {v : Val} {A B : Ty} → HasTy (inr v) (sum A B) → HasTy v B
right_part (is_right v) = v

pair_parts : {v w : Val} {A B : Ty} → HasTy (v & w) (prod A B) → HasTy v A × HasTy w B
pair_parts (is_pair v w) = (v, w)
