-- What holds of a table that passed the check: its arrays have the width of every type and the entry of every record. The entry is the mark
-- exactly where the type has no padding; else it is a record that stands for what is left of the type when products with a part of width 0
-- are passed over.
use mathlib.Core.Path.{◌≡◌, refl, ap, ap₂, sym, subst, ◌∙◌}
use mathlib.Core.Logic.{◌⊎◌, inl, inr}
use mathlib.Core.Bool.{Bool, true, false, not}
use mathlib.Core.List.{List, [], ◌∷◌}
use Prim.Native.Nat.{ℕ, zero, suc, ◌≤◌, ◌<◌}
use native.Mathlib.Decide.{dec_lt}
use native.Mathlib.Nat.{not-suc-le-zero}
use native.Mathlib.Omega.{arith}
use Rattle.std.specs.Prelude.{Ok, Err}
use lib.Dec.{leb, eqb}
use lib.ListN.{length, get_or}
use borrow.Author.Tests.{leb-true, eq-eqb, ne_eqb}
use Rattle.limits.specs.Limits.{type_count, type_width}
use Rattle.refusal.specs.declared.Refusal.{Refusal}
use Rattle.refusal.specs.declared.Refusal.TheVariants.{TypeRecord as BadTypeRecord}
use Rattle.report.specs.Types.{Ty, one, sum, prod, width}
use Rattle.scope.specs.Check.{Check, passed, refused, ◌>>=◌}
use Rattle.scope.specs.Numbers.{every, any_below}
use Rattle.scope.specs.Stages.{counted}
use Rattle.scope.specs.Types.{TypeRecord, type_records, type_from, ty_at, type_at, same_type, parts_rule, type_rule, check_types}
use Rattle.common.specs.Checks.{every_all, counted-passed, each-passed, each_holds}
use Rattle.common.specs.Types.{parts_below, PartsKept, type_past, type_step}
use Rattle.types.specs.Records.{unpadded, unpadded_mark, unpadded_from, pass_over, padded_next, next_from, next_at}
use Rattle.types.specs.Table.{check_table, type_answer, good_records, array_of, type_widths, type_next}
use Rattle.types.proofs.Check.{width_for, array_at, array_past}
use Rattle.types.proofs.Core.{core, Alike, core_alike, Matters, core_matters}
use Rattle.types.proofs.Laws.{next_step}
use Rattle.types.proofs.Records.{every_both, every_left, next_marked, next_padded}

-- every record keeps the rules, and there are not too many
pub record Sound (T : List TypeRecord) : Type 0 where
  pub few : length T ≤ type_count
  pub rules : (i : ℕ) → i < length T → type_rule T i ≡ true

pub checked_sound : (T : List TypeRecord) → length T ≤ type_count → check_types T ≡ passed tt → Sound T
unfolding check_types
checked_sound T h e =
    record { few = h; rules = each_holds (length T) (type_rule T) BadTypeRecord tt e }

-- a table that passed, with n records: the requirements' checks pass, it is sound, and its arrays hold all of its records
pub record Passed (bytes : List ℕ) (n : ℕ) : Type 0 where
  pub counts : counted (length (type_records bytes)) type_count ≡ passed tt
  pub checks : check_types (type_records bytes) ≡ passed tt
  pub count : n ≡ length (type_records bytes)
  pub some : 1 ≤ n
  pub sound : Sound (type_records bytes)
  pub all : good_records bytes ≡ length (type_records bytes)

pub passed_table : (bytes : List ℕ) (n : ℕ) → check_table bytes ≡ passed n → Passed bytes n
unfolding check_table ◌>>=◌ good_records check_types
passed_table bytes n e = go (counted (length (type_records bytes)) type_count) (check_types (type_records bytes)) refl refl e
  where
    go : (c d : Check (Unit {0})) → counted (length (type_records bytes)) type_count ≡ c → check_types (type_records bytes) ≡ d
        → (c >>= λ x. (d >>= λ y. passed (length (type_records bytes)))) ≡ passed n → Passed bytes n
    go (passed x) (passed y) p q e =
        let k = counted-passed (length (type_records bytes)) type_count p in
        let f = each-passed (length (type_records bytes)) (type_rule (type_records bytes)) BadTypeRecord tt q in
        let z : n ≡ length (type_records bytes) = cc in
        record {
          counts = p;
          checks = q;
          count = z;
          some = omega arith;
          sound = checked_sound (type_records bytes) k.1 q;
          all = rw (p, good_records) f;
        }
    go (passed x) (refused r) p q e = let z : ◌≡◌ {A = ℕ} 0 1 = cc in absurd (omega arith)
    go (refused r) d p q e = let z : ◌≡◌ {A = ℕ} 0 1 = cc in absurd (omega arith)

-- the same, from what a call answers
pub answered : (bytes : List ℕ) (n : ℕ) → type_answer (check_table bytes) ≡ Ok n → Passed bytes n
answered bytes n e = go (check_table bytes) refl e
  where
    go : (c : Check ℕ) → check_table bytes ≡ c → type_answer c ≡ Ok n → Passed bytes n
    go (passed m) p e = let z : m ≡ n = cc in passed_table bytes n (p ∙ ap passed z)
    go (refused r) p e = let z : ◌≡◌ {A = ℕ} 0 1 = cc in absurd (omega arith)

-- a table that did not: it is refused for its count, or else for a record
abbrev pub RefusedFor : (bytes : List ℕ) → Refusal → Type 0
RefusedFor bytes r =
    (counted (length (type_records bytes)) type_count ≡ refused r)
    ⊎ (counted (length (type_records bytes)) type_count ≡ passed tt) × (check_types (type_records bytes) ≡ refused r)

pub refused_table : (bytes : List ℕ) (r : Refusal) → type_answer (check_table bytes) ≡ Err r → RefusedFor bytes r
unfolding check_table ◌>>=◌
refused_table bytes r e = go (counted (length (type_records bytes)) type_count) (check_types (type_records bytes)) refl refl e
  where
    go : (c d : Check (Unit {0})) → counted (length (type_records bytes)) type_count ≡ c → check_types (type_records bytes) ≡ d
        → type_answer (c >>= λ x. (d >>= λ y. passed (length (type_records bytes)))) ≡ Err r → RefusedFor bytes r
    go (passed x) (passed y) p q e = let z : ◌≡◌ {A = ℕ} 0 1 = cc in absurd (omega arith)
    go (passed x) (refused s) p q e = let z : s ≡ r = cc in inr (p, q ∙ ap refused z)
    go (refused s) d p q e = let z : s ≡ r = cc in inl (p ∙ ap refused z)

-- the rules of a sound record, one by one
module _ (T : List TypeRecord) (sound : Sound T) (i : ℕ) (h : i < length T) where
  rules_of : PartsKept T i × (leb (width (ty_at T i)) type_width ≡ true)
  unfolding type_rule
  rules_of =
      let all = every_all (
      parts_rule T i (type_at T i).tag (type_at T i).left (type_at T i).right ∷ not (any_below i (same_type T i)) ∷ leb (width (ty_at T i)) type_width ∷ []
      ) (sound.rules i h) in
      (all.0, all.1.1.0)

  pub parts_of : PartsKept T i
  parts_of = rules_of.0

  pub width_fits : width (ty_at T i) ≤ type_width
  width_fits = leb-true (width (ty_at T i)) type_width rules_of.1

-- a type of width 0 has no padding
pub unpadded_nothing : (A : Ty) → width A ≡ 0 → unpadded A ≡ true
unfolding unpadded width
unpadded_nothing one e = refl
unpadded_nothing (sum A B) e = absurd (omega arith)
unpadded_nothing (prod A B) e =
    every_both (unpadded A) (unpadded B) (unpadded_nothing A (omega arith)) ∙ unpadded_nothing B (omega arith)

-- a record has no padding where its type has none, if the entries of its parts say so of theirs
unpadded_from_lem : (t x y : ℕ) (A B : Ty) → eqb x unpadded_mark ≡ unpadded A → eqb y unpadded_mark ≡ unpadded B
    → unpadded_from t (width A) (width B) x y ≡ unpadded (type_from t A B)
unfolding unpadded type_from
unpadded_from_lem zero x y A B e f = refl
unpadded_from_lem (suc zero) x y A B e f = ap₂ (λ (u v : Bool). every (u ∷ v ∷ eqb (width A) (width B) ∷ [])) e f
unpadded_from_lem (suc (suc t)) x y A B e f = ap₂ (λ (u v : Bool). every (u ∷ v ∷ [])) e f

module _ (T : List TypeRecord) where
  -- the entry of record i is the mark where its type has no padding; else it is no later record, which stands for what is left of the type
  abbrev EntryIs : ℕ → Bool → Type 0
  EntryIs i true = next_at T i ≡ unpadded_mark
  EntryIs i false = (next_at T i ≤ i) × (ty_at T (next_at T i) ≡ core (ty_at T i))

  abbrev NextIs : ℕ → Type 0
  NextIs i = EntryIs i (unpadded (ty_at T i))

  entry_tells : (i : ℕ) (u : Bool) → i < type_count → EntryIs i u → eqb (next_at T i) unpadded_mark ≡ u
  entry_tells i true h e = eq-eqb (next_at T i) unpadded_mark e
  entry_tells i false h e = ne_eqb (next_at T i) unpadded_mark (λ z. omega arith)

  next_self : (i : ℕ) (A : Ty) → ty_at T i ≡ A → core A ≡ A → next_at T i ≡ i → EntryIs i false
  next_self i A t c e = (omega arith, ap (ty_at T) e ∙ t ∙ sym c ∙ ap core (sym t))

  -- a product with padding, whose parts have the widths x and y
  next_over : (i a b x y : ℕ) → a < i → b < i → width (ty_at T a) ≡ x → width (ty_at T b) ≡ y → NextIs a → NextIs b
      → every (unpadded (ty_at T a) ∷ unpadded (ty_at T b) ∷ []) ≡ false
      → (pass_over x y (next_at T a) (next_at T b) i ≤ i)
      × (ty_at T (pass_over x y (next_at T a) (next_at T b) i) ≡ pass_over x y (core (ty_at T a)) (core (ty_at T b)) (ty_at T i))
  next_over i a b zero y l m v w p q f =
      let none = unpadded_nothing (ty_at T a) v in
      let r : EntryIs b false = subst (EntryIs b) (sym (every_both (unpadded (ty_at T a)) (unpadded (ty_at T b)) none) ∙ f) q in
      (omega arith, r.1)
  next_over i a b (suc x) zero l m v w p q f =
      let none = unpadded_nothing (ty_at T b) w in
      let r : EntryIs a false = subst (EntryIs a) (sym (every_left (unpadded (ty_at T a)) (unpadded (ty_at T b)) none) ∙ f) p in
      (omega arith, r.1)
  next_over i a b (suc x) (suc y) l m v w p q f = (omega arith, refl)

  next_product : (i a b : ℕ) → a < i → b < i → NextIs a → NextIs b → ty_at T i ≡ prod (ty_at T a) (ty_at T b)
      → every (unpadded (ty_at T a) ∷ unpadded (ty_at T b) ∷ []) ≡ false
      → next_at T i ≡ pass_over (width (ty_at T a)) (width (ty_at T b)) (next_at T a) (next_at T b) i → EntryIs i false
  unfolding core
  next_product i a b l m p q t f e =
      let x = next_over i a b (width (ty_at T a)) (width (ty_at T b)) l m refl refl p q f in (
        omega arith,
        ap (ty_at T) e ∙ x.1 ∙ ap (pass_over (width (ty_at T a)) (width (ty_at T b)) (core (ty_at T a)) (core (ty_at T b))) t ∙ ap core (sym t),
      )

  -- a record with padding, by its tag
  next_with : (i t a b : ℕ) → (t ≡ 0 → ⊥) → a < i → b < i → NextIs a → NextIs b → ty_at T i ≡ type_from t (ty_at T a) (ty_at T b)
      → unpadded (type_from t (ty_at T a) (ty_at T b)) ≡ false
      → next_at T i ≡ padded_next t (width (ty_at T a)) (width (ty_at T b)) (next_at T a) (next_at T b) i → EntryIs i false
  unfolding core type_from unpadded
  next_with i zero a b n l m p q t f e = absurd (n refl)
  next_with i (suc zero) a b n l m p q t f e = next_self i (sum (ty_at T a) (ty_at T b)) t refl e
  next_with i (suc (suc k)) a b n l m p q t f e = next_product i a b l m p q t f e

  next_by : (i t a b : ℕ) → i < type_count → parts_rule T i t a b ≡ true → ty_at T i ≡ type_from t (ty_at T a) (ty_at T b)
      → next_at T i ≡ next_from t (width (ty_at T a)) (width (ty_at T b)) (next_at T a) (next_at T b) i
      → ((j : ℕ) → j < i → NextIs j) → NextIs i
  unfolding type_from unpadded
  next_by i zero a b few ok t e earlier = subst (EntryIs i) (sym (ap unpadded t)) e
  next_by i (suc k) a b few ok t e earlier = subst (EntryIs i) (ap unpadded (sym t)) (go (unpadded (type_from (suc k) (ty_at T a) (ty_at T b))) refl)
    where
      l : (a < i) × (b < i)
      l = parts_below T i (suc k) a b (λ z. omega arith) ok

      same : unpadded_from (suc k) (width (ty_at T a)) (width (ty_at T b)) (next_at T a) (next_at T b) ≡ unpadded (type_from (suc k) (ty_at T a) (ty_at T b))
      same =
          let x = l.0 in
          let y = l.1 in
          unpadded_from_lem (suc k) (next_at T a) (next_at T b) (ty_at T a) (ty_at T b)
          (entry_tells a (unpadded (ty_at T a)) (omega arith) (earlier a x)) (entry_tells b (unpadded (ty_at T b)) (omega arith) (earlier b y))

      go : (u : Bool) → unpadded (type_from (suc k) (ty_at T a) (ty_at T b)) ≡ u → EntryIs i u
      go true f = e ∙ next_marked (suc k) (width (ty_at T a)) (width (ty_at T b)) (next_at T a) (next_at T b) i (sym (same ∙ f))
      go false f =
          next_with i (suc k) a b (λ z. omega arith) l.0 l.1 (earlier a l.0) (earlier b l.1) t f
          (e ∙ next_padded (suc k) (width (ty_at T a)) (width (ty_at T b)) (next_at T a) (next_at T b) i (sym (same ∙ f)))

module _ (T : List TypeRecord) (sound : Sound T) where
  next_below : (n i : ℕ) → i < n → i < length T → NextIs T i
  next_below zero i l h = absurd (not-suc-le-zero l)
  next_below (suc n) i l h =
      let ok = parts_of T sound i h in
      let few = sound.few in
      next_by T i (type_at T i).tag (type_at T i).left (type_at T i).right (omega arith) ok (type_step T i h ok) (next_step T i h ok)
      (λ j m. next_below n j (omega arith) (omega arith))

  -- the entry is the mark exactly where the type has no padding
  pub next_tells : (i : ℕ) → i < length T → eqb (next_at T i) unpadded_mark ≡ unpadded (ty_at T i)
  next_tells i h = let few = sound.few in entry_tells T i (unpadded (ty_at T i)) (omega arith) (next_below (suc i) i (omega arith) h)

  -- of a type with padding it is the next record that matters
  module _ (i : ℕ) (h : i < length T) (p : unpadded (ty_at T i) ≡ false) where
    next_is : EntryIs T i false
    next_is = subst (EntryIs T i) p (next_below (suc i) i (omega arith) h)

    pub next_falls : next_at T i ≤ i
    next_falls = next_is.0

    pub next_core : ty_at T (next_at T i) ≡ core (ty_at T i)
    next_core = next_is.1

    pub next_alike : Alike (ty_at T (next_at T i)) (ty_at T i)
    next_alike = rw next_core (core_alike (ty_at T i))

    pub next_matters : Matters (ty_at T (next_at T i))
    next_matters = rw next_core (core_matters (ty_at T i))

-- the arrays of a table that passed
module _ (bytes : List ℕ) (n : ℕ) (ok : Passed bytes n) where
  -- the width of every type, and 0 of every index past the table
  pub widths_are_lem : (i : ℕ) → get_or (type_widths bytes) i 0 ≡ width (ty_at (type_records bytes) i)
  unfolding type_widths width
  widths_are_lem i = elim (dec_lt i (length (type_records bytes))) [
    | yes l ↦ ap (λ (k : ℕ). get_or (array_of k (width_for (type_records bytes))) i 0) ok.all
        ∙ array_at (width_for (type_records bytes)) (length (type_records bytes)) i l
    | no m ↦ ap (λ (k : ℕ). get_or (array_of k (width_for (type_records bytes))) i 0) ok.all
        ∙ array_past (width_for (type_records bytes)) (length (type_records bytes)) i (omega arith)
        ∙ sym (ap width (type_past (type_records bytes) i (omega arith)))
  ]

  pub next_are_lem : (i : ℕ) → i < length (type_records bytes) → get_or (type_next bytes) i 0 ≡ next_at (type_records bytes) i
  unfolding type_next
  next_are_lem i l =
      ap (λ (k : ℕ). get_or (array_of k (next_at (type_records bytes))) i 0) ok.all
      ∙ array_at (next_at (type_records bytes)) (length (type_records bytes)) i l
