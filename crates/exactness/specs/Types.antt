-- A type table that passes its rules: each record stands for the type made of its parts' types, and equal types have equal indices.
-- So to compare indices is to compare types, and a record's tag tells the type's shape.
use Rattle.std.specs.Prelude.{◌≡◌, List, [], ◌∷◌, length}
use Rattle.std.proofs.Math.Path.{refl, subst₂}
use Rattle.std.proofs.Common.{sym, ◌∙◌, not-suc-le-zero, arith, eqb-true, eq-eqb, ltb-true, leb-true}
use Rattle.std.proofs.Math.Bool.{true, not}
use Prim.Native.Nat.{ℕ, zero, suc, ◌≤◌, ◌<◌}
use Rattle.std.proofs.Math.Decide.{dec_lt}
use Rattle.std.proofs.Math.Dec.{eqb, ltb, leb}
use Rattle.std.proofs.lemmas.Bool.{not-true}
use Rattle.limits.specs.Limits.{type_width}
use Rattle.refusal.specs.declared.Refusal.TheVariants.{TypeRecord as BadTypeRecord}
use Rattle.report.specs.Types.{width}
use Rattle.scope.specs.Check.{passed}
use Rattle.scope.specs.Numbers.{any_below}
use Rattle.scope.specs.Types.{TypeRecord, type_from, ty_at, type_at, same_type, parts_rule, type_rule, check_types, left_at, right_at}
use Rattle.common.specs.Types.{PartsKept, type_step as type-made}
use Rattle.common.specs.Checks.{clash, AllTrue, every_all, all_every, none_below, each_holds, holds_each}

-- every record keeps the rules
abbrev pub TypesPass : List TypeRecord → Type 0
TypesPass types = (i : ℕ) → i < length types → type_rule types i ≡ true

-- the check of the table passes exactly if they do
pub types_pass : (types : List TypeRecord) → check_types types ≡ passed tt → TypesPass types
unfolding check_types
types_pass types e = each_holds (length types) (type_rule types) BadTypeRecord tt e

pub pass_types : (types : List TypeRecord) → TypesPass types → check_types types ≡ passed tt
unfolding check_types
pass_types types h = holds_each (length types) (type_rule types) BadTypeRecord h

-- what a record's numbers are: a unit's are zeros, a sum's or a product's parts are earlier records
pub data Parts (i : ℕ) : (tag left right : ℕ) → Type 0 where
  of_unit : Parts i 0 0 0
  of_sum : (l r : ℕ) → l < i → r < i → Parts i 1 l r
  of_product : (l r : ℕ) → l < i → r < i → Parts i 2 l r

module _ (types : List TypeRecord) where
  rule_parts : (i tag l r : ℕ) → parts_rule types i tag l r ≡ true → Parts i tag l r
  unfolding parts_rule
  rule_parts i zero l r e =
      let p = every_all (eqb l 0 ∷ eqb r 0 ∷ []) e in
      subst₂ (Parts i 0) (sym (eqb-true l 0 p.0)) (sym (eqb-true r 0 p.1.0)) of_unit
  rule_parts i (suc zero) l r e =
      let p = every_all (ltb l i ∷ ltb r i ∷ []) e in
      of_sum l r (ltb-true l i p.0) (ltb-true r i p.1.0)
  rule_parts i (suc (suc zero)) l r e =
      let p = every_all (ltb l i ∷ ltb r i ∷ []) e in
      of_product l r (ltb-true l i p.0) (ltb-true r i p.1.0)
  rule_parts i (suc (suc (suc k))) l r e = clash (cc)

  -- the tag of record i
  abbrev pub tag_at : (i : ℕ) → ℕ
  tag_at i = (type_at types i).tag

  module _ (pass : TypesPass types) where
    rules_at : (i : ℕ) → i < length types
        → AllTrue (parts_rule types i (tag_at i) (left_at types i) (right_at types i) ∷ not (any_below i (same_type types i))
        ∷ leb (width (ty_at types i)) type_width ∷ [])
    unfolding type_rule left_at right_at
    rules_at i h =
        every_all (parts_rule types i (tag_at i) (left_at types i) (right_at types i) ∷ not (any_below i (same_type types i))
        ∷ leb (width (ty_at types i)) type_width ∷ []) (pass i h)

    pub parts_kept : (i : ℕ) → i < length types → PartsKept types i
    unfolding left_at right_at
    parts_kept i h = (rules_at i h).0

    -- the numbers of record i are those of a unit, a sum or a product
    pub parts_at : (i : ℕ) → i < length types → Parts i (tag_at i) (left_at types i) (right_at types i)
    parts_at i h = rule_parts i (tag_at i) (left_at types i) (right_at types i) (rules_at i h).0

    -- its type is no wider than the limit
    pub type_fits : (i : ℕ) → i < length types → width (ty_at types i) ≤ type_width
    type_fits i h = leb-true (width (ty_at types i)) type_width (rules_at i h).1.1.0

    -- a record stands for the type that its tag makes of its parts' types
    pub type_step : (i : ℕ) → i < length types → ty_at types i ≡ type_from (tag_at i) (ty_at types (left_at types i)) (ty_at types (right_at types i))
    unfolding left_at right_at
    type_step i h = type-made types i h (parts_kept i h)

    -- no two records are equal
    earlier_apart : (i j : ℕ) → i < length types → j < i → tag_at i ≡ tag_at j → left_at types i ≡ left_at types j → right_at types i ≡ right_at types j → ⊥
    unfolding same_type left_at right_at
    earlier_apart i j h l p q r =
        let none = none_below i (same_type types i) (not-true _ (rules_at i h).1.0) j l in
        let same : same_type types i j ≡ true =
        all_every (eqb (tag_at i) (tag_at j) ∷ eqb (left_at types i) (left_at types j) ∷ eqb (right_at types i) (right_at types j) ∷ [])
        (eq-eqb _ _ p, (eq-eqb _ _ q, (eq-eqb _ _ r, tt))) in
        clash (cc)

    apart : (i j : ℕ) → i < length types → j < length types → tag_at i ≡ tag_at j → left_at types i ≡ left_at types j
        → right_at types i ≡ right_at types j → i ≡ j
    apart i j h k p q r =
        elim (dec_lt j i) [
          | yes l ↦ absurd (earlier_apart i j h l p q r)
          | no m ↦ elim (dec_lt i j) [ yes l ↦ absurd (earlier_apart j i k l (sym p) (sym q) (sym r)) | no n ↦ omega arith ]
        ]

    -- equal types of two records have equal tags and parts, where equal types of their parts have equal indices
    same_parts : (i j : ℕ) → ((l m : ℕ) → l < i → m < j → ty_at types l ≡ ty_at types m → l ≡ m)
        → (t l r t' l' r' : ℕ) → Parts i t l r → Parts j t' l' r'
        → type_from t (ty_at types l) (ty_at types r) ≡ type_from t' (ty_at types l') (ty_at types r') → (t ≡ t') × (l ≡ l') × (r ≡ r')
    unfolding type_from
    same_parts i j ih _ _ _ _ _ _ of_unit of_unit e = (refl, refl, refl)
    same_parts i j ih _ _ _ _ _ _ of_unit (of_sum l' r' p q) e = clash (cc)
    same_parts i j ih _ _ _ _ _ _ of_unit (of_product l' r' p q) e = clash (cc)
    same_parts i j ih _ _ _ _ _ _ (of_sum l r p q) of_unit e = clash (cc)
    same_parts i j ih _ _ _ _ _ _ (of_sum l r p q) (of_sum l' r' p' q') e =
        let x : ty_at types l ≡ ty_at types l' = cc in
        let y : ty_at types r ≡ ty_at types r' = cc in
        (refl, ih l l' p p' x, ih r r' q q' y)
    same_parts i j ih _ _ _ _ _ _ (of_sum l r p q) (of_product l' r' p' q') e = clash (cc)
    same_parts i j ih _ _ _ _ _ _ (of_product l r p q) of_unit e = clash (cc)
    same_parts i j ih _ _ _ _ _ _ (of_product l r p q) (of_sum l' r' p' q') e = clash (cc)
    same_parts i j ih _ _ _ _ _ _ (of_product l r p q) (of_product l' r' p' q') e =
        let x : ty_at types l ≡ ty_at types l' = cc in
        let y : ty_at types r ≡ ty_at types r' = cc in
        (refl, ih l l' p p' x, ih r r' q q' y)

    same_index_upto : (n i j : ℕ) → i < n → i < length types → j < length types → ty_at types i ≡ ty_at types j → i ≡ j
    same_index_upto zero i j l h k e = absurd (not-suc-le-zero l)
    same_index_upto (suc n) i j l h k e =
        let s = same_parts i j (λ a b p q x. same_index_upto n a b (omega arith) (omega arith) (omega arith) x)
        (tag_at i) (left_at types i) (right_at types i) (tag_at j) (left_at types j) (right_at types j)
        (parts_at i h) (parts_at j k) (sym (type_step i h) ∙ e ∙ type_step j k) in
        apart i j h k s.0 s.1 s.2

    -- equal types have equal indices
    pub same_index : (i j : ℕ) → i < length types → j < length types → ty_at types i ≡ ty_at types j → i ≡ j
    same_index i j h k e = same_index_upto (suc i) i j (omega arith) h k e
