-- The parts of a record of a sound table stand for the parts of its type. A unit's are record 0, which is unit, and so are those past the table.
use mathlib.Core.Path.{◌≡◌, refl, sym, ap, ◌∙◌}
use mathlib.Core.Bool.{true}
use mathlib.Core.List.{List, [], ◌∷◌}
use Prim.Native.Nat.{ℕ, zero, suc, ◌≤◌, ◌<◌}
use native.Mathlib.Omega.{arith}
use native.Mathlib.Decide.{dec_lt}
use lib.Dec.{eqb}
use lib.ListN.{length, get_or-eq_default}
use borrow.Author.Tests.{eqb-true}
use Rattle.report.specs.Types.{one, left_of, right_of}
use Rattle.scope.specs.Types.{TypeRecord, type_from, no_type, ty_at, type_at, parts_rule, left_at, right_at}
use Rattle.common.specs.Checks.{every_all}
use Rattle.common.specs.Types.{type_past, type_step, first_unit, PartsKept}
use Rattle.types.proofs.Sound.{Sound, parts_of}

module _ (T : List TypeRecord) (sound : Sound T) where
  parts : (k : ℕ) → k < length T → PartsKept T k
  parts k h = parts_of T sound k h

  first : ty_at T 0 ≡ one
  first = first_unit T parts

  made : (t a b : ℕ) (i : ℕ) → parts_rule T i t a b ≡ true
      → (left_of (type_from t (ty_at T a) (ty_at T b)) ≡ ty_at T a) × (right_of (type_from t (ty_at T a) (ty_at T b)) ≡ ty_at T b)
  unfolding left_of right_of type_from parts_rule
  made zero a b i e =
      let h = every_all (eqb a 0 ∷ eqb b 0 ∷ []) e in
      let ea : a ≡ 0 = eqb-true a 0 h.0 in
      let eb : b ≡ 0 = eqb-true b 0 h.1.0 in
      (sym (ap (λ (j : ℕ). ty_at T j) ea ∙ first), sym (ap (λ (j : ℕ). ty_at T j) eb ∙ first))
  made (suc zero) a b i e = (refl, refl)
  made (suc (suc t)) a b i e = (refl, refl)

  past : (k : ℕ) → length T ≤ k → type_at T k ≡ no_type
  unfolding type_at
  past k h = get_or-eq_default T no_type {n = k} h

  pub left_type : (k : ℕ) → left_of (ty_at T k) ≡ ty_at T (left_at T k)
  unfolding left_at left_of
  left_type k = elim (dec_lt k (length T)) [
    | yes h ↦ ap left_of (type_step T k h (parts k h)) ∙ (made (type_at T k).tag (type_at T k).left (type_at T k).right k (parts k h)).0
    | no n ↦ ap left_of (type_past T k (omega arith)) ∙ sym (ap (λ (r : TypeRecord). ty_at T r.left) (past k (omega arith)) ∙ first)
  ]

  pub right_type : (k : ℕ) → right_of (ty_at T k) ≡ ty_at T (right_at T k)
  unfolding right_at right_of
  right_type k = elim (dec_lt k (length T)) [
    | yes h ↦ ap right_of (type_step T k h (parts k h)) ∙ (made (type_at T k).tag (type_at T k).left (type_at T k).right k (parts k h)).1
    | no n ↦ ap right_of (type_past T k (omega arith)) ∙ sym (ap (λ (r : TypeRecord). ty_at T r.right) (past k (omega arith)) ∙ first)
  ]
