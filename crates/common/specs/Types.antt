-- The type that a record of a type table stands for: it is made of the types of the record's parts, which are earlier records.
use Rattle.std.specs.Prelude.{◌≡◌, ltb, length, get_or}
use Rattle.std.proofs.Math.Path.{refl}
use Rattle.std.proofs.Common.{ap₂, ◌∙◌, arith, get_or-take, ltb-true}
use Rattle.std.proofs.Math.Bool.{true}
use mathlib.Core.List.{List, [], ◌∷◌}
use Prim.Native.Nat.{ℕ, zero, suc, ◌≤◌, ◌<◌}
use Rattle.std.proofs.Math.Decide.{dec_lt}
use Rattle.std.proofs.Math.ListN.{take}
use Rattle.report.specs.Table.{entries}
use Rattle.report.specs.Types.{Ty, one}
use Rattle.scope.specs.Types.{TypeRecord, type_from, type_make, no_type, ty_at, type_at, parts_rule}
use Rattle.common.specs.Checks.{clash, every_all}
use Rattle.common.specs.Tables.{entries_at, entries_past}

-- the parts of a sum or a product that keeps the rule are earlier records; a unit's are 0
pub parts_below : (S : List TypeRecord) (i t a b : ℕ) → (t ≡ 0 → ⊥) → parts_rule S i t a b ≡ true → (a < i) × (b < i)
unfolding parts_rule
parts_below S i zero a b n e = absurd (n refl)
parts_below S i (suc zero) a b n e =
    let h = every_all (ltb a i ∷ ltb b i ∷ []) e in
    (ltb-true a i h.0, ltb-true b i h.1.0)
parts_below S i (suc (suc zero)) a b n e =
    let h = every_all (ltb a i ∷ ltb b i ∷ []) e in
    (ltb-true a i h.0, ltb-true b i h.1.0)
parts_below S i (suc (suc (suc t))) a b n e = clash (cc)

module _ (T : List TypeRecord) where
  -- record i keeps the parts' rule
  abbrev pub PartsKept : ℕ → Type 0
  PartsKept i = parts_rule T i (type_at T i).tag (type_at T i).left (type_at T i).right ≡ true

  pub type_past : (i : ℕ) → length T ≤ i → ty_at T i ≡ one
  unfolding ty_at
  type_past i h = entries_past type_make T i one h

  pub type_step : (i : ℕ) → i < length T → PartsKept i
      → ty_at T i ≡ type_from (type_at T i).tag (ty_at T (type_at T i).left) (ty_at T (type_at T i).right)
  unfolding ty_at type_at type_make
  type_step i h ok = entries_at type_make T i one no_type h ∙ go (type_at T i).tag (type_at T i).left (type_at T i).right ok
    where
      before : List Ty
      before = take i (entries type_make T)

      part : (j : ℕ) → j < i → get_or before j one ≡ ty_at T j
      part j l = get_or-take i (entries type_make T) j one l

      go : (t a b : ℕ) → parts_rule T i t a b ≡ true → type_from t (get_or before a one) (get_or before b one) ≡ type_from t (ty_at T a) (ty_at T b)
      go zero a b e = refl
      go (suc t) a b e =
          let l = parts_below T i (suc t) a b (λ z. omega arith) e in
          ap₂ (type_from (suc t)) (part a l.0) (part b l.1)

  -- record 0 is unit
  pub first_unit : ((k : ℕ) → k < length T → PartsKept k) → ty_at T 0 ≡ one
  unfolding type_from
  first_unit kept = elim (dec_lt 0 (length T)) [
    | yes h ↦ type_step 0 h (kept 0 h) ∙ go (type_at T 0).tag (type_at T 0).left (type_at T 0).right (kept 0 h)
    | no n ↦ type_past 0 (omega arith)
  ]
    where
      go : (t a b : ℕ) → parts_rule T 0 t a b ≡ true → type_from t (ty_at T a) (ty_at T b) ≡ one
      go zero a b e = refl
      go (suc t) a b e = let h = parts_below T 0 (suc t) a b (λ z. omega arith) e in absurd (omega arith)
