-- The shape of a type as it is read from lent tables: nothing, bits without padding, a tag with the padding of each part, or both parts.
-- Shapes are built upwards, as types are, one for each record; the tables may hold anything: a type with the mark is as many bits as its width,
-- whatever its record is, and a record that does not fit its widths, or whose parts do not lie below it, has the shape of nothing.
use Rattle.std.specs.Prelude.{Bool, true, false, List, [], ◌∷◌, ℕ, zero, suc, ◌+◌, ◌-◌, max, leb, ltb, eqb}
use Rattle.std.proofs.Math.ListN.{get_or}
use Rattle.limits.specs.Limits.{type_count}
use Rattle.report.specs.Table.{entries}
use Rattle.scope.specs.Numbers.{every, tabulate}
use Rattle.scope.specs.Types.{TypeRecord, type_records, type_at}
use Rattle.types.specs.Records.{unpadded_mark}
use Rattle.value.specs.declared.Step.{Step}
use Rattle.value.specs.declared.Step.TheVariants.{Nothing, Plain, Tag, Both}

-- so many bits without padding; a tag, its padding on either side and the parts; or the left part, which takes so many cells, and the right part
pub data Shape : Type 0 where
  nothing : Shape
  plain : (width : ℕ) → Shape
  tag : (pad_left pad_right : ℕ) → Shape → Shape → Shape
  both : (left : ℕ) → Shape → Shape → Shape

-- of two sides the one that a tag names
abbrev pub part : {X : Type 0} → (side : ℕ) → (left right : X) → X
part zero left right = left
part (suc k) left right = right

-- record j is none after i, and the parts lie below it
abbrev pub falls : (i j left right : ℕ) → Bool
falls i j left right = every (leb j i ∷ ltb left j ∷ ltb right j ∷ [])

-- a step where the test holds, and else nothing
abbrev pub step_where : Bool → Step → Step
step_where true s = s
step_where false s = Nothing

-- a sum, and a product, of this width, whose parts have widths a and b
abbrev pub tag_step : (own left right a b : ℕ) → Step
tag_step own left right a b = step_where (eqb own (1 + max a b)) (Tag left right (max a b - a) (max a b - b))

abbrev pub both_step : (own left right a b : ℕ) → Step
both_step own left right a b = step_where (eqb own (a + b)) (Both left right a)

-- the step of a record by its tag: unit, and any tag above 2, is nothing
abbrev pub step_by : (kind own left right a b : ℕ) → Step
step_by zero own left right a b = Nothing
step_by (suc zero) own left right a b = tag_step own left right a b
step_by (suc (suc zero)) own left right a b = both_step own left right a b
step_by (suc (suc (suc k))) own left right a b = Nothing

-- the step of a type of width 0 is nothing; of one with the mark, all its bits; of any other, what the next record that matters says
abbrev pub step_from : (few : Bool) → (own : ℕ) → (marked fits : Bool) → (kind left right a b : ℕ) → Step
step_from false own marked fits kind left right a b = Nothing
step_from true zero marked fits kind left right a b = Nothing
step_from true (suc w) true fits kind left right a b = Plain (suc w)
step_from true (suc w) false false kind left right a b = Nothing
step_from true (suc w) false true kind left right a b = step_by kind (suc w) left right a b

-- the shape of a step, of the shapes of earlier records
unfoldable pub shape_from : List Shape → Step → Shape
shape_from before Nothing = nothing
shape_from before (Plain width) = plain width
shape_from before (Tag left right pad_left pad_right) = tag pad_left pad_right (get_or before left nothing) (get_or before right nothing)
shape_from before (Both left right width) = both width (get_or before left nothing) (get_or before right nothing)

module _ (types widths next : List ℕ) where
  -- the record that matters for type i
  abbrev pub record_for : (i : ℕ) → TypeRecord
  record_for i = type_at (type_records types) (get_or next i 0)

  -- the record that matters is none after i, and its parts lie below it
  abbrev pub fits_at : (i : ℕ) → Bool
  fits_at i = falls i (get_or next i 0) (record_for i).left (record_for i).right

  -- type i has the mark
  abbrev pub marked_at : (i : ℕ) → Bool
  marked_at i = eqb (get_or next i 0) unpadded_mark

  -- how a value of type i goes on
  unfoldable pub step_at : (i : ℕ) → Step
  unfolding every type_at type_records
  step_at i =
      step_from (ltb i type_count) (get_or widths i 0) (marked_at i) (fits_at i) (record_for i).tag (record_for i).left (record_for i).right
      (get_or widths (record_for i).left 0) (get_or widths (record_for i).right 0)

  -- the shape of type i
  unfoldable pub shape_at : (i : ℕ) → Shape
  unfolding entries shape_from tabulate step_at
  shape_at i = get_or (entries shape_from (tabulate type_count step_at)) i nothing
