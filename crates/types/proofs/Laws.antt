-- Laws of the types and of the entries that a table's records stand for: each is made of those of its parts,
-- so that a pass upwards finds them.
use mathlib.Core.Path.{◌≡◌, refl, ap, ap₂, ◌∙◌}
use mathlib.Core.Bool.{true}
use mathlib.Core.List.{List}
use Prim.Native.Nat.{ℕ, zero, suc, ◌<◌}
use native.Mathlib.Omega.{arith}
use lib.ListN.{length, get_or, take}
use lib.Seq.{get_or-take, length-take-le}
use Rattle.report.specs.Table.{entries}
use Rattle.report.specs.Types.{Ty, width}
use Rattle.scope.specs.Types.{TypeRecord, type_from, no_type, ty_at, type_at, parts_rule}
use Rattle.common.specs.Tables.{length-entries, entries_at}
use Rattle.common.specs.Types.{parts_below, PartsKept, type_step}
use Rattle.types.specs.Records.{parts_width, next_from, next_make, next_at}

pub width_from : (t : ℕ) (A B : Ty) → width (type_from t A B) ≡ parts_width t (width A) (width B)
unfolding width type_from
width_from zero A B = refl
width_from (suc zero) A B = refl
width_from (suc (suc t)) A B = refl

module _ (T : List TypeRecord) where
  pub width_step : (i : ℕ) → i < length T → PartsKept T i
      → width (ty_at T i) ≡ parts_width (type_at T i).tag (width (ty_at T (type_at T i).left)) (width (ty_at T (type_at T i).right))
  width_step i h ok = ap width (type_step T i h ok) ∙ width_from (type_at T i).tag (ty_at T (type_at T i).left) (ty_at T (type_at T i).right)

  -- the entry of a record, of the entries of its parts
  pub next_step : (i : ℕ) → i < length T → PartsKept T i
      → next_at T i
      ≡ next_from (type_at T i).tag (width (ty_at T (type_at T i).left)) (width (ty_at T (type_at T i).right))
      (next_at T (type_at T i).left) (next_at T (type_at T i).right) i
  unfolding next_at type_at next_make
  next_step i h ok = entries_at (next_make T) T i 0 no_type h ∙ go (type_at T i).tag (type_at T i).left (type_at T i).right ok
    where
      before : List ℕ
      before = take i (entries (next_make T) T)

      long : length before ≡ i
      long = length-take-le i (entries (next_make T) T) (omega (arith, length-entries (next_make T) T))

      part : (j : ℕ) → j < i → get_or before j 0 ≡ next_at T j
      part j l = get_or-take i (entries (next_make T) T) j 0 l

      go : (t a b : ℕ) → parts_rule T i t a b ≡ true
          → next_from t (width (ty_at T a)) (width (ty_at T b)) (get_or before a 0) (get_or before b 0) (length before)
          ≡ next_from t (width (ty_at T a)) (width (ty_at T b)) (next_at T a) (next_at T b) i
      go zero a b e = refl
      go (suc t) a b e =
          let l = parts_below T i (suc t) a b (λ z. omega arith) e in
          ap₂ (λ (x y : ℕ). next_from (suc t) (width (ty_at T a)) (width (ty_at T b)) x y (length before)) (part a l.0) (part b l.1)
          ∙ ap (next_from (suc t) (width (ty_at T a)) (width (ty_at T b)) (next_at T a) (next_at T b)) long
