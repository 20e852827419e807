-- What the calls do on a table that passed the check of types: the shape that is read from its bytes and its arrays is the shape of the type,
-- so that skipping reads a value, padding writes its padded cells, and unpadding writes its compact bits.
use mathlib.Core.Path.{◌≡◌, refl, ap, ap₂, sym, subst, ◌∙◌}
use mathlib.Core.Bool.{Bool, true, false}
use mathlib.Core.List.{List, [], ◌∷◌}
use Prim.Native.Nat.{ℕ, zero, suc, ◌+◌, ◌-◌, ◌≤◌, ◌<◌, max}
use native.Mathlib.Decide.{dec_lt}
use native.Mathlib.Nat.{not-suc-le-zero}
use native.Mathlib.Omega.{arith}
use lib.Dec.{leb, ltb}
use lib.ListN.{length, get_or, drop}
use lib.Seq.{sets}
use borrow.Author.Tests.{le-leb, lt-ltb, eqb-true}
use Rattle.report.specs.Bits.{Bit}
use Rattle.report.specs.Types.{Ty, sum, prod, width, pad_l, pad_r}
use Rattle.report.specs.Values.{Val, compact, padded, Read, value, short, read_value, Cells, value_at}
use Rattle.scope.specs.Numbers.{every}
use Rattle.scope.specs.Types.{TypeRecord, type_records, type_from, ty_at, type_at, parts_rule}
use Rattle.types.proofs.Core.{core, core_alike, Matters, product_matters, core_matters, spelled}
use Rattle.common.specs.Types.{parts_below, type_past, type_step, PartsKept}
use Rattle.common.specs.Checks.{every_held}
use Rattle.types.proofs.Records.{every_both}
use Rattle.types.proofs.Sound.{Passed, parts_of, next_tells, next_falls, next_core, widths_are_lem, next_are_lem}
use Rattle.types.specs.Records.{pass_over, unpadded, unpadded_mark, next_at}
use Rattle.types.specs.Table.{type_widths, type_next}
use Rattle.value.specs.Bits.{skip_shape, pad_shape, unpad_shape, skipped, room, Padded, padding, pad_stage, Unpadded, unpadding, unpad_stage}
use Rattle.value.specs.Shapes.{Shape, plain, tag, both, falls, step_by, record_for, step_at, shape_at}
use Rattle.std.specs.Prelude.{Option, Some, None}
use Rattle.value.proofs.Steps.{tag_fits, both_fits, step_narrow, step_marked, step_fits, shape_nothing, shape_plain, shape_tag, shape_both}
use Rattle.value.proofs.Types.{plain_shape, shape_of, shape_unpadded, shape_sum, shape_product, shape_none, core_padded, shape_core, taken, skip_reads, pad_writes, unpad_writes}

falls-true : (i j l r : ℕ) → j ≤ i → l < j → r < j → true ≡ falls i j l r
falls-true i j l r h m n =
    sym (every_held (leb j i) (ltb l j ∷ ltb r j ∷ []) (le-leb j i h) ∙ every_both (ltb l j) (ltb r j) (lt-ltb l j m) ∙ lt-ltb r j n)

product_wide : (A B : Ty) → Matters (prod A B) → (0 < width A) × (0 < width B)
product_wide A B (product_matters x y) = (x, y)

-- the shape of a product with padding, both of whose parts have a width
shape_pair : (A B : Ty) → unpadded (prod A B) ≡ false → 0 < width A → 0 < width B → both (width A) (shape_of A) (shape_of B) ≡ shape_of (prod A B)
shape_pair A B p h k = go (width A) (width B) refl refl h k ∙ shape_product A B p
  where
    go : (a b : ℕ) → a ≡ width A → b ≡ width B → 0 < a → 0 < b
        → both (width A) (shape_of A) (shape_of B) ≡ pass_over (width A) (width B) (shape_of A) (shape_of B) (both (width A) (shape_of A) (shape_of B))
    go zero b e f h k = absurd (omega arith)
    go (suc a) zero e f h k = absurd (omega arith)
    go (suc a) (suc b) e f h k = ap₂ (λ (x y : ℕ). pass_over x y (shape_of A) (shape_of B) (both (width A) (shape_of A) (shape_of B))) e f

-- bits of a width that is not 0
plain_wide : (w : ℕ) → 0 < w → plain w ≡ plain_shape w
plain_wide zero h = absurd (omega arith)
plain_wide (suc w) h = refl

module _ (bytes : List ℕ) (n : ℕ) (ok : Passed bytes n) where
  abbrev T : List TypeRecord
  T = type_records bytes

  abbrev W : List ℕ
  W = type_widths bytes

  abbrev N : List ℕ
  N = type_next bytes

  -- the shape that is read from the table is the type's
  abbrev Right : ℕ → Type 0
  Right i = shape_at bytes W N i ≡ shape_of (ty_at T i)

  right_none : (i : ℕ) → width (ty_at T i) ≡ 0 → Right i
  right_none i e =
      shape_nothing bytes W N i (sym (step_narrow bytes W N i (widths_are_lem bytes n ok i ∙ e))) ∙ sym (shape_none (ty_at T i) e)

  -- a type with a width and without padding
  right_plain : (i : ℕ) → i < length T → 0 < width (ty_at T i) → unpadded (ty_at T i) ≡ true → Right i
  right_plain i h wide p =
      let few = ok.sound.few in
      let w = widths_are_lem bytes n ok i in
      let m : get_or N i 0 ≡ unpadded_mark = next_are_lem bytes n ok i h ∙ eqb-true (next_at T i) unpadded_mark (next_tells T ok.sound i h ∙ p) in
      shape_plain bytes W N i (get_or W i 0) (sym (step_marked bytes W N i (omega arith) (λ z. omega arith) m))
      ∙ ap plain w
      ∙ plain_wide (width (ty_at T i)) wide
      ∙ sym (shape_unpadded (ty_at T i) p)

  -- a type with a width and with padding, through the next record that matters
  module _ (i : ℕ) (h : i < length T) (wide : 0 < width (ty_at T i)) (pads : unpadded (ty_at T i) ≡ false) (earlier : (j : ℕ) → j < i → Right j) where
    j_is : get_or N i 0 ≡ next_at T i
    j_is = next_are_lem bytes n ok i h

    j_low : next_at T i ≤ i
    j_low = next_falls T ok.sound i h pads

    record_is : record_for bytes W N i ≡ type_at T (next_at T i)
    record_is = ap (type_at T) j_is

    parts_are : PartsKept T (next_at T i)
    parts_are = parts_of T ok.sound (next_at T i) (omega (arith, j_low))

    type_is : ty_at T (next_at T i) ≡ core (ty_at T i)
    type_is = next_core T ok.sound i h pads

    type_made : core (ty_at T i) ≡ type_from (type_at T (next_at T i)).tag (ty_at T (type_at T (next_at T i)).left) (ty_at T (type_at T (next_at T i)).right)
    type_made = sym type_is ∙ type_step T (next_at T i) (omega (arith, j_low)) parts_are

    own_is : get_or W i 0 ≡ width (core (ty_at T i))
    own_is = widths_are_lem bytes n ok i ∙ sym (core_alike (ty_at T i)).wide

    -- the step of type i is that of the next record, whose numbers are t, l and r
    stepped : (t l r : ℕ) → (type_at T (next_at T i)).tag ≡ t → (type_at T (next_at T i)).left ≡ l → (type_at T (next_at T i)).right ≡ r
        → l < next_at T i → r < next_at T i → step_by t (get_or W i 0) l r (get_or W l 0) (get_or W r 0) ≡ step_at bytes W N i
    stepped t l r p q s x y =
        let t' : (record_for bytes W N i).tag ≡ t = ap (λ (z : TypeRecord). z.tag) record_is ∙ p in
        let l' : (record_for bytes W N i).left ≡ l = ap (λ (z : TypeRecord). z.left) record_is ∙ q in
        let r' : (record_for bytes W N i).right ≡ r = ap (λ (z : TypeRecord). z.right) record_is ∙ s in
        let few = ok.sound.few in
        let low = j_low in
        let at = j_is in
        (λ k. step_by (sym t' k) (get_or W i 0) (sym l' k) (sym r' k) (get_or W (sym l' k) 0) (get_or W (sym r' k) 0))
        ∙ step_fits bytes W N i (omega arith) (λ z. omega arith)
        (falls-true i (get_or N i 0) (record_for bytes W N i).left (record_for bytes W N i).right (omega arith) (omega arith) (omega arith))
        (λ z. (let w = widths_are_lem bytes n ok i in omega arith))

    right-sum : (l r : ℕ) → (type_at T (next_at T i)).tag ≡ 1 → (type_at T (next_at T i)).left ≡ l → (type_at T (next_at T i)).right ≡ r
        → l < next_at T i → r < next_at T i → core (ty_at T i) ≡ sum (ty_at T l) (ty_at T r) → Right i
    unfolding shape_of pad_l pad_r width
    right-sum l r p q s x y c =
        let a = widths_are_lem bytes n ok l in
        let b = widths_are_lem bytes n ok r in
        let low = j_low in
        let own : get_or W i 0 ≡ 1 + max (get_or W l 0) (get_or W r 0) = own_is ∙ ap width c ∙ ap₂ (λ (u v : ℕ). 1 + max u v) (sym a) (sym b) in
        let e = sym (tag_fits (get_or W i 0) l r (get_or W l 0) (get_or W r 0) (max (get_or W l 0) (get_or W r 0)) refl own ∙ stepped 1 l r p q s x y) in
        shape_tag bytes W N i l r (max (get_or W l 0) (get_or W r 0) - get_or W l 0) (max (get_or W l 0) (get_or W r 0) - get_or W r 0) e
        ∙ ap₂ (λ (u v : ℕ). tag (max u v - u) (max u v - v) (shape_at bytes W N l) (shape_at bytes W N r)) a b
        ∙ ap₂ (tag (pad_l (ty_at T l) (ty_at T r)) (pad_r (ty_at T l) (ty_at T r))) (earlier l (omega arith)) (earlier r (omega arith))
        ∙ shape_sum (ty_at T l) (ty_at T r) (ap unpadded (sym c) ∙ core_padded (ty_at T i) pads)
        ∙ ap shape_of (sym c)
        ∙ shape_core (ty_at T i) pads

    right_product : (l r : ℕ) → (type_at T (next_at T i)).tag ≡ 2 → (type_at T (next_at T i)).left ≡ l → (type_at T (next_at T i)).right ≡ r
        → l < next_at T i → r < next_at T i → core (ty_at T i) ≡ prod (ty_at T l) (ty_at T r) → Right i
    unfolding width
    right_product l r p q s x y c =
        let a = widths_are_lem bytes n ok l in
        let b = widths_are_lem bytes n ok r in
        let low = j_low in
        let m = product_wide (ty_at T l) (ty_at T r) (subst Matters c (core_matters (ty_at T i))) in
        let own : get_or W i 0 ≡ get_or W l 0 + get_or W r 0 = own_is ∙ ap width c ∙ ap₂ (λ (u v : ℕ). u + v) (sym a) (sym b) in
        let e = sym (both_fits (get_or W i 0) l r (get_or W l 0) (get_or W r 0) own ∙ stepped 2 l r p q s x y) in
        shape_both bytes W N i l r (get_or W l 0) e
        ∙ ap (λ (u : ℕ). both u (shape_at bytes W N l) (shape_at bytes W N r)) a
        ∙ ap₂ (both (width (ty_at T l))) (earlier l (omega arith)) (earlier r (omega arith))
        ∙ shape_pair (ty_at T l) (ty_at T r) (ap unpadded (sym c) ∙ core_padded (ty_at T i) pads) m.0 m.1
        ∙ ap shape_of (sym c)
        ∙ shape_core (ty_at T i) pads

    right_by : (t l r : ℕ) → (type_at T (next_at T i)).tag ≡ t → (type_at T (next_at T i)).left ≡ l → (type_at T (next_at T i)).right ≡ r
        → parts_rule T (next_at T i) t l r ≡ true → core (ty_at T i) ≡ type_from t (ty_at T l) (ty_at T r) → Right i
    unfolding type_from width parts_rule
    right_by zero l r p q s rule c =
        let w : width (ty_at T i) ≡ 0 = sym (core_alike (ty_at T i)).wide ∙ ap width c in
        absurd (omega arith)
    right_by (suc zero) l r p q s rule c =
        let f = parts_below T (next_at T i) 1 l r (λ z. omega arith) rule in
        right-sum l r p q s f.0 f.1 c
    right_by (suc (suc zero)) l r p q s rule c =
        let f = parts_below T (next_at T i) 2 l r (λ z. omega arith) rule in
        right_product l r p q s f.0 f.1 c
    right_by (suc (suc (suc t))) l r p q s rule c = let z : ◌≡◌ {A = ℕ} 0 1 = cc in absurd (omega arith)

    right_wide : Right i
    right_wide =
        right_by (type_at T (next_at T i)).tag (type_at T (next_at T i)).left (type_at T (next_at T i)).right refl refl refl parts_are type_made

  right_either : (i : ℕ) → i < length T → 0 < width (ty_at T i) → ((j : ℕ) → j < i → Right j) → (u : Bool) → unpadded (ty_at T i) ≡ u → Right i
  right_either i h w earlier true p = right_plain i h w p
  right_either i h w earlier false p = right_wide i h w p earlier

  right_below_lem : (m i : ℕ) → i < m → Right i
  unfolding width
  right_below_lem zero i l = absurd (not-suc-le-zero l)
  right_below_lem (suc m) i l = elim (dec_lt i (length T)) [
    | yes h ↦ elim (dec_lt 0 (width (ty_at T i))) [
      | yes w ↦ right_either i h w (λ j k. right_below_lem m j (omega arith)) (unpadded (ty_at T i)) refl
      | no w ↦ right_none i (omega arith)
    ]
    | no h ↦ right_none i (ap width (type_past T i (omega arith)))
  ]

  pub shape_right : (i : ℕ) → shape_at bytes W N i ≡ shape_of (ty_at T i)
  shape_right i = right_below_lem (suc i) i (omega arith)

-- what the calls answer and leave, in the words of the report
unfoldable pub read_to : (p : ℕ) → Read → Option ℕ
read_to p (value v rest) = Some (p + length (compact v))
read_to p short = None

unfoldable pub padded_to : Ty → (p : ℕ) → (cells : List Bit) → (at : ℕ) → Read → Padded
unfolding room
padded_to A p cells at (value v rest) = elim (room (width A) at cells) [
  | true ↦ padding (Some (p + length (compact v))) (sets cells at (padded A v))
  | false ↦ padding None cells
]
padded_to A p cells at short = padding None cells

unfoldable pub unpadded_to : Ty → (cells : List Bit) → Cells → (at : ℕ) → (store : List Bit) → (q : ℕ) → Unpadded
unfolding room every
unpadded_to A cells c at store q = elim (every (room (width A) at cells ∷ room (width A) q store ∷ [])) [
  | true ↦ unpadding (Some (length (compact (value_at A c at)))) (sets store q (compact (value_at A c at)))
  | false ↦ unpadding None store
]

skip_type : (A : Ty) (p : ℕ) (bs : List Bit) → skipped p (skip_shape (shape_of A) bs) ≡ read_to p (read_value A bs)
unfolding read_to spelled
skip_type A p bs = ap (skipped p) (skip_reads A bs) ∙ go (read_value A bs)
  where
    go : (r : Read) → skipped p (taken (spelled A r)) ≡ read_to p r
    go (value v rest) = refl
    go short = refl

pad_type : (A : Ty) (bits : List Bit) (p : ℕ) (cells : List Bit) (at : ℕ)
    → pad_stage (shape_of A) (width A) bits p cells at ≡ padded_to A p cells at (read_value A (drop p bits))
unfolding pad_stage padded_to spelled
pad_type A bits p cells at = go (read_value A (drop p bits)) refl
  where
    fill : (v : Val) (rest : List Bit) → read_value A (drop p bits) ≡ value v rest → (b : Bool)
        → ◌≡◌ {A = Padded} (elim b [
          | true ↦ padding (Some (p + length (compact v))) (pad_shape (shape_of A) (drop p bits) cells at)
          | false ↦ padding None cells
        ])
        (elim b [ true ↦ padding (Some (p + length (compact v))) (sets cells at (padded A v)) | false ↦ padding None cells ])
    fill v rest e true = ap (padding (Some (p + length (compact v)))) (pad_writes A (drop p bits) (compact v) (padded A v) rest (ap (spelled A) e) cells at)
    fill v rest e false = refl

    go : (r : Read) → read_value A (drop p bits) ≡ r → pad_stage (shape_of A) (width A) bits p cells at ≡ padded_to A p cells at r
    go (value v rest) e = rw (skip_reads A (drop p bits) ∙ ap (λ (r : Read). taken (spelled A r)) e, pad_stage) (fill v rest e (room (width A) at cells))
    go short e = rw (skip_reads A (drop p bits) ∙ ap (λ (r : Read). taken (spelled A r)) e, pad_stage)

unpad_type : (A : Ty) (cells : List Bit) (c : Cells) (at : ℕ) (store : List Bit) (q : ℕ)
    → unpad_stage (shape_of A) (width A) cells c at store q ≡ unpadded_to A cells c at store q
unfolding unpad_stage unpadded_to
unpad_type A cells c at store q = go (every (room (width A) at cells ∷ room (width A) q store ∷ []))
  where
    go : (b : Bool) → ◌≡◌ {A = Unpadded} (elim b [
      | true ↦ unpadding (Some (length (unpad_shape (shape_of A) c at))) (sets store q (unpad_shape (shape_of A) c at))
      | false ↦ unpadding None store
    ])
        (elim b [ true ↦ unpadding (Some (length (compact (value_at A c at)))) (sets store q (compact (value_at A c at))) | false ↦ unpadding None store ])
    go true = ap (λ (x : List Bit). unpadding (Some (length x)) (sets store q x)) (unpad_writes A c at)
    go false = refl

module _ (bytes : List ℕ) (n : ℕ) (ok : Passed bytes n) (i : ℕ) where
  abbrev pub type_of : Ty
  type_of = ty_at (type_records bytes) i

  pub skip_is : (p : ℕ) (bs : List Bit)
      → skipped p (skip_shape (shape_at bytes (type_widths bytes) (type_next bytes) i) bs) ≡ read_to p (read_value type_of bs)
  skip_is p bs = ap (λ (A : Shape). skipped p (skip_shape A bs)) (shape_right bytes n ok i) ∙ skip_type type_of p bs

  pub pad_is : (bits : List Bit) (p : ℕ) (cells : List Bit) (at : ℕ)
      → pad_stage (shape_at bytes (type_widths bytes) (type_next bytes) i) (get_or (type_widths bytes) i 0) bits p cells at
      ≡ padded_to type_of p cells at (read_value type_of (drop p bits))
  pad_is bits p cells at =
      ap₂ (λ (A : Shape) (w : ℕ). pad_stage A w bits p cells at) (shape_right bytes n ok i) (widths_are_lem bytes n ok i) ∙ pad_type type_of bits p cells at

  pub unpad_is : (cells : List Bit) (c : Cells) (at : ℕ) (store : List Bit) (q : ℕ)
      → unpad_stage (shape_at bytes (type_widths bytes) (type_next bytes) i) (get_or (type_widths bytes) i 0) cells c at store q
      ≡ unpadded_to type_of cells c at store q
  unpad_is cells c at store q =
      ap₂ (λ (A : Shape) (w : ℕ). unpad_stage A w cells c at store q) (shape_right bytes n ok i) (widths_are_lem bytes n ok i) ∙ unpad_type type_of cells c at store q
