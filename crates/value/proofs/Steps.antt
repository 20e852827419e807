-- Laws of the steps and of the shapes that lent tables give: what each test of the code says of a step,
-- what a step tells of its parts, and that a shape is made of the shapes of its parts.
use mathlib.Core.Path.{◌≡◌, refl, ap, ap₂, sym, subst, ◌∙◌}
use mathlib.Core.Bool.{Bool, true, false}
use mathlib.Core.List.{List, [], ◌∷◌}
use Prim.Native.Nat.{ℕ, zero, suc, ◌+◌, ◌-◌, ◌≤◌, ◌<◌, max}
use native.Mathlib.Decide.{dec_lt}
use native.Mathlib.Omega.{arith}
use lib.Dec.{leb, ltb, eqb}
use lib.ListN.{get_or, take}
use lib.Seq.{get_or-take}
use borrow.Author.Tests.{ltb-true, leb-true, eqb-true, lt-ltb, eq-eqb, ne_eqb}
use Rattle.limits.specs.Limits.{type_count}
use Rattle.report.specs.Table.{entries}
use Rattle.scope.specs.Numbers.{tabulate}
use Rattle.scope.specs.Types.{TypeRecord}
use Rattle.common.specs.Checks.{every_all}
use Rattle.common.specs.Tables.{length-tabulate, tabulate_at, entries_at, entries_past}
use Rattle.types.specs.Records.{unpadded_mark}
use Rattle.value.specs.Shapes.{Shape, nothing, plain, tag, both, part, falls, step_where, tag_step, both_step, step_by, step_from, record_for, fits_at, marked_at, step_at, shape_from, shape_at}
use Rattle.value.specs.declared.Step.{Step}
use Rattle.value.specs.declared.Step.TheVariants.{Nothing, Plain, Tag, Both}

-- of two sides the one that a tag names
pub part_right : {X : Type 0} (side : ℕ) (a b : X) → (side ≡ 0 → ⊥) → b ≡ part side a b
part_right zero a b n = absurd (n refl)
part_right (suc k) a b n = refl

pub part_falls : (i side l r k : ℕ) → l < i → r < i → k ≡ part side l r → k < i
part_falls i zero l r k h m e = omega arith
part_falls i (suc s) l r k h m e = omega arith

-- steps of a sum and of a product
pub tag_fits : (own left right a b m : ℕ) → m ≡ max a b → own ≡ 1 + m → Tag left right (m - a) (m - b) ≡ tag_step own left right a b
tag_fits own left right a b m e f =
    ap (λ (k : ℕ). Tag left right (k - a) (k - b)) e
    ∙ ap (λ (t : Bool). step_where t (Tag left right (max a b - a) (max a b - b))) (sym (eq-eqb own (1 + max a b) (f ∙ ap (λ (k : ℕ). 1 + k) e)))

pub both_fits : (own left right a b : ℕ) → own ≡ a + b → Both left right a ≡ both_step own left right a b
both_fits own left right a b e = ap (λ (t : Bool). step_where t (Both left right a)) (sym (eq-eqb own (a + b) e))

from_zero : (few marked fits : Bool) (own k left right a b : ℕ) → own ≡ 0 → step_from few own marked fits k left right a b ≡ Nothing
from_zero true marked fits zero k left right a b e = refl
from_zero true marked fits (suc w) k left right a b e = absurd (omega arith)
from_zero false marked fits own k left right a b e = refl

from_mark : (fits : Bool) (own k left right a b : ℕ) → (own ≡ 0 → ⊥) → step_from true own true fits k left right a b ≡ Plain own
from_mark fits zero k left right a b n = absurd (n refl)
from_mark fits (suc w) k left right a b n = refl

from_some : (own k left right a b : ℕ) → (own ≡ 0 → ⊥) → step_from true own false true k left right a b ≡ step_by k own left right a b
from_some zero k left right a b n = absurd (n refl)
from_some (suc w) k left right a b n = refl

-- what a step tells of its record: its parts lie below it, and the widths add up
abbrev Tells : (i own left right a b : ℕ) → Step → Type 0
Tells i own left right a b Nothing = Unit {0}
Tells i own left right a b (Plain w) = (i < type_count) × (w ≡ own) × (0 < own)
Tells i own left right a b (Tag l r pad_left pad_right) =
    (i < type_count) × (l ≡ left) × (r ≡ right) × (left < i) × (right < i) × (1 + pad_left + a ≡ own) × (1 + pad_right + b ≡ own)
Tells i own left right a b (Both l r w) =
    (i < type_count) × (l ≡ left) × (r ≡ right) × (left < i) × (right < i) × (w ≡ a) × (a + b ≡ own) × (0 < own)

module _ (i left right a b : ℕ) (few : i < type_count) (l : left < i) (r : right < i) where
  tag_tells : (own : ℕ) (t : Bool) → eqb own (1 + max a b) ≡ t
      → Tells i own left right a b (step_where t (Tag left right (max a b - a) (max a b - b)))
  tag_tells own true e = let q = eqb-true own (1 + max a b) e in (few, refl, refl, l, r, omega arith, omega arith)
  tag_tells own false e = tt

  both_tells : (own : ℕ) (t : Bool) → 0 < own → eqb own (a + b) ≡ t → Tells i own left right a b (step_where t (Both left right a))
  both_tells own true h e = let q = eqb-true own (a + b) e in (few, refl, refl, l, r, refl, sym q, h)
  both_tells own false h e = tt

  by_tells : (own k : ℕ) → 0 < own → Tells i own left right a b (step_by k own left right a b)
  by_tells own zero h = tt
  by_tells own (suc zero) h = tag_tells own (eqb own (1 + max a b)) refl
  by_tells own (suc (suc zero)) h = both_tells own (eqb own (a + b)) h refl
  by_tells own (suc (suc (suc k))) h = tt

from_tells : (i j left right a b own k : ℕ) (few marked fits : Bool) → ltb i type_count ≡ few → falls i j left right ≡ fits
    → Tells i own left right a b (step_from few own marked fits k left right a b)
from_tells i j left right a b own k false marked fits e f = tt
from_tells i j left right a b zero k true marked fits e f = tt
from_tells i j left right a b (suc w) k true true fits e f = (ltb-true i type_count e, refl, omega arith)
from_tells i j left right a b (suc w) k true false false e f = tt
from_tells i j left right a b (suc w) k true false true e f =
    let z = every_all (leb j i ∷ ltb left j ∷ ltb right j ∷ []) f in
    let ji = leb-true j i z.0 in
    let lj = ltb-true left j z.1.0 in
    let rj = ltb-true right j z.1.1.0 in
    by_tells i left right a b (ltb-true i type_count e) (omega arith) (omega arith) (suc w) k (omega arith)

module _ (types widths next : List ℕ) (i : ℕ) where
  abbrev R : TypeRecord
  R = record_for types widths next i

  abbrev own : ℕ
  own = get_or widths i 0

  -- the step of type i, by what its index, its entry and its record say
  step_with : {few marked fits : Bool} → ltb i type_count ≡ few → marked_at types widths next i ≡ marked → fits_at types widths next i ≡ fits
      → step_at types widths next i
      ≡ step_from few own marked fits R.tag R.left R.right (get_or widths R.left 0) (get_or widths R.right 0)
  unfolding step_at
  step_with e f g = λ k. step_from (e k) own (f k) (g k) R.tag R.left R.right (get_or widths R.left 0) (get_or widths R.right 0)

  -- the same by the tests of the code
  pub step_narrow : own ≡ 0 → Nothing ≡ step_at types widths next i
  step_narrow e =
      sym (step_with refl refl refl
      ∙ from_zero (ltb i type_count) (marked_at types widths next i) (fits_at types widths next i) own R.tag R.left R.right
      (get_or widths R.left 0) (get_or widths R.right 0) e)

  pub step_marked : i < type_count → (own ≡ 0 → ⊥) → get_or next i 0 ≡ unpadded_mark → Plain own ≡ step_at types widths next i
  step_marked h n e =
      sym (step_with (lt-ltb i type_count h) (eq-eqb (get_or next i 0) unpadded_mark e) refl
      ∙ from_mark (fits_at types widths next i) own R.tag R.left R.right (get_or widths R.left 0) (get_or widths R.right 0) n)

  module _ (h : i < type_count) (m : get_or next i 0 ≡ unpadded_mark → ⊥) where
    pub step_fits : true ≡ falls i (get_or next i 0) R.left R.right → (own ≡ 0 → ⊥)
        → step_by R.tag own R.left R.right (get_or widths R.left 0) (get_or widths R.right 0) ≡ step_at types widths next i
    step_fits e n =
        sym (step_with (lt-ltb i type_count h) (ne_eqb (get_or next i 0) unpadded_mark m) (sym e)
        ∙ from_some own R.tag R.left R.right (get_or widths R.left 0) (get_or widths R.right 0) n)

  -- what a step tells: the bits are as many as the width; the parts lie below, and the widths add up
  pub record PlainTells (w : ℕ) : Type 0 where
    pub few : i < type_count
    pub width : w ≡ own
    pub some : 0 < own

  pub record TagTells (l r pad_left pad_right : ℕ) : Type 0 where
    pub few : i < type_count
    pub left_falls : l < i
    pub right_falls : r < i
    pub left-width : 1 + pad_left + get_or widths l 0 ≡ own
    pub right_width : 1 + pad_right + get_or widths r 0 ≡ own

  pub record BothTells (l r w : ℕ) : Type 0 where
    pub few : i < type_count
    pub left_falls : l < i
    pub right_falls : r < i
    pub left-width : w ≡ get_or widths l 0
    pub both_width : w + get_or widths r 0 ≡ own
    pub some : 0 < own

  tells : Tells i own R.left R.right (get_or widths R.left 0) (get_or widths R.right 0) (step_at types widths next i)
  unfolding step_at
  tells =
      from_tells i (get_or next i 0) R.left R.right (get_or widths R.left 0) (get_or widths R.right 0) own R.tag
      (ltb i type_count) (marked_at types widths next i) (fits_at types widths next i) refl refl

  pub plain_told : (w : ℕ) → step_at types widths next i ≡ Plain w → PlainTells w
  plain_told w e =
      let t = subst (Tells i own R.left R.right (get_or widths R.left 0) (get_or widths R.right 0)) e tells in
      record { few = t.0; width = t.1; some = t.2 }

  pub tag_told : (l r pad_left pad_right : ℕ) → step_at types widths next i ≡ Tag l r pad_left pad_right → TagTells l r pad_left pad_right
  tag_told l r pad_left pad_right e =
      let t = subst (Tells i own R.left R.right (get_or widths R.left 0) (get_or widths R.right 0)) e tells in
      let x = ap (λ (k : ℕ). get_or widths k 0) t.1 in
      let y = ap (λ (k : ℕ). get_or widths k 0) t.2 in
      record { few = t.0; left_falls = omega arith; right_falls = omega arith; left-width = omega arith; right_width = omega arith }

  pub both_told : (l r w : ℕ) → step_at types widths next i ≡ Both l r w → BothTells l r w
  both_told l r w e =
      let t = subst (Tells i own R.left R.right (get_or widths R.left 0) (get_or widths R.right 0)) e tells in
      let x = ap (λ (k : ℕ). get_or widths k 0) t.1 in
      let y = ap (λ (k : ℕ). get_or widths k 0) t.2 in
      record { few = t.0; left_falls = omega arith; right_falls = omega arith; left-width = omega arith; both_width = omega arith; some = t.7 }

-- the part that a tag names lies below, and its padding and its width fill the record's
module _ (types widths next : List ℕ) (i l r pad_left pad_right : ℕ) (told : TagTells types widths next i l r pad_left pad_right) where
  pub part_wide : (side k m : ℕ) → k ≡ part side l r → m ≡ part side pad_left pad_right → (k < i) × (1 + m + get_or widths k 0 ≡ get_or widths i 0)
  part_wide zero k m e f =
      let w = ap (λ (j : ℕ). get_or widths j 0) e in
      let x = told.left_falls in
      let y = told.left-width in
      (omega arith, omega arith)
  part_wide (suc s) k m e f =
      let w = ap (λ (j : ℕ). get_or widths j 0) e in
      let x = told.right_falls in
      let y = told.right_width in
      (omega arith, omega arith)

-- the shape of type i is made of the shapes of its parts
module _ (types widths next : List ℕ) where
  shapes : List Shape
  shapes = entries shape_from (tabulate type_count (step_at types widths next))

  shape_made : (i : ℕ) → i < type_count → shape_at types widths next i ≡ shape_from (take i shapes) (step_at types widths next i)
  unfolding shape_at shapes
  shape_made i h =
      entries_at shape_from (tabulate type_count (step_at types widths next)) i nothing Nothing
      (omega (arith, length-tabulate (step_at types widths next) type_count))
      ∙ ap (shape_from (take i shapes)) (tabulate_at (step_at types widths next) type_count i Nothing h)

  shape_part : (i j : ℕ) → j < i → get_or (take i shapes) j nothing ≡ shape_at types widths next j
  unfolding shape_at shapes
  shape_part i j h = get_or-take i shapes j nothing h

  pub shape_past : (i : ℕ) → type_count ≤ i → shape_at types widths next i ≡ nothing
  unfolding shape_at
  shape_past i h =
      entries_past shape_from (tabulate type_count (step_at types widths next)) i nothing (omega (arith, length-tabulate (step_at types widths next) type_count))

  pub shape_nothing : (i : ℕ) → step_at types widths next i ≡ Nothing → shape_at types widths next i ≡ nothing
  unfolding shape_from
  shape_nothing i e = elim (dec_lt i type_count) [
    | yes l ↦ shape_made i l ∙ ap (shape_from (take i shapes)) e
    | no m ↦ shape_past i (omega arith)
  ]

  pub shape_plain : (i w : ℕ) → step_at types widths next i ≡ Plain w → shape_at types widths next i ≡ plain w
  unfolding shape_from
  shape_plain i w e = shape_made i (plain_told types widths next i w e).few ∙ ap (shape_from (take i shapes)) e

  pub shape_tag : (i l r pad_left pad_right : ℕ) → step_at types widths next i ≡ Tag l r pad_left pad_right
      → shape_at types widths next i ≡ tag pad_left pad_right (shape_at types widths next l) (shape_at types widths next r)
  unfolding shape_from
  shape_tag i l r pad_left pad_right e =
      let t = tag_told types widths next i l r pad_left pad_right e in
      shape_made i t.few
      ∙ ap (shape_from (take i shapes)) e
      ∙ ap₂ (tag pad_left pad_right) (shape_part i l t.left_falls) (shape_part i r t.right_falls)

  pub shape_both : (i l r w : ℕ) → step_at types widths next i ≡ Both l r w
      → shape_at types widths next i ≡ both w (shape_at types widths next l) (shape_at types widths next r)
  unfolding shape_from
  shape_both i l r w e =
      let t = both_told types widths next i l r w e in
      shape_made i t.few
      ∙ ap (shape_from (take i shapes)) e
      ∙ ap₂ (both w) (shape_part i l t.left_falls) (shape_part i r t.right_falls)
