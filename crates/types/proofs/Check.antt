-- The check of a table, record by record: what one turn of its loop finds, and what each of its ends answers.
use mathlib.Core.Path.{◌≡◌, refl, ap, ap₂, sym, ◌∙◌}
use mathlib.Core.Bool.{Bool, true, false}
use mathlib.Core.List.{List}
use Prim.Native.Nat.{ℕ, zero, suc, ◌+◌, ◌≤◌, ◌<◌}
use native.Mathlib.Omega.{arith}
use Rattle.std.specs.Prelude.{Some, None, Result, Ok, Err}
use lib.Dec.{leb}
use lib.ListN.{length, get_or, set}
use borrow.Author.Tests.{eq-eqb, ne_eqb}
use Rattle.limits.specs.Limits.{type_count, type_width}
use Rattle.refusal.specs.declared.Refusal.{Refusal}
use Rattle.refusal.specs.declared.Refusal.TheVariants.{Natural, TypeRecord as BadTypeRecord}
use Rattle.report.specs.Types.{width}
use Rattle.scope.specs.Check.{Check, passed, refused, ◌>>=◌, require, first_failing, each}
use Rattle.scope.specs.Numbers.{zeros, every, any_below}
use Rattle.scope.specs.Stages.{counted}
use Rattle.scope.specs.Types.{TypeRecord, type_records, ty_at, type_at, same_type, parts_rule, type_rule, check_types}
use Rattle.common.specs.Filling.{fill_start, fill_at, fill_past, fill_more}
use Rattle.common.specs.Types.{parts_below, PartsKept}
use Rattle.types.specs.Records.{parts_width, verdict, record_judged, next_from, record_next, next_at}
use Rattle.types.specs.Table.{check_table, type_answer, without_count, counted_types, good_records, array_of, type_widths, type_next, type_table}
use Rattle.types.specs.declared.TypeTable.{TypeTable}
use Rattle.types.proofs.Laws.{width_step, next_step}
use Rattle.types.proofs.Records.{length_records}
use Rattle.common.specs.Checks.{counted_fine}
use Rattle.common.specs.Passes.{pass_start, first_failed, none_failed}

-- arrays of a number for each record
module _ (f : ℕ → ℕ) where
  pub array_none : array_of 0 f ≡ zeros type_count
  unfolding array_of
  array_none = sym (fill_start f 0 type_count)

  pub array_at : (n i : ℕ) → i < n → get_or (array_of n f) i 0 ≡ f i
  unfolding array_of
  array_at = fill_at f 0 type_count

  pub array_past : (n i : ℕ) → n ≤ i → get_or (array_of n f) i 0 ≡ 0
  unfolding array_of
  array_past = fill_past f 0 type_count

  pub array_more : (n v : ℕ) → n < type_count → v ≡ f n → set (array_of n f) n v ≡ array_of (n + 1) f
  unfolding array_of
  array_more = fill_more f 0 type_count

module _ (T : List TypeRecord) where
  -- the width of each type, and the next record of each record
  abbrev pub width_for : ℕ → ℕ
  width_for i = width (ty_at T i)

  -- numbers of the parts of record i, where those of the earlier records stand in an array
  width_found : (i t a b : ℕ) → parts_rule T i t a b ≡ true
      → parts_width t (get_or (array_of i width_for) a 0) (get_or (array_of i width_for) b 0) ≡ parts_width t (width_for a) (width_for b)
  width_found i zero a b e = refl
  width_found i (suc t) a b e =
      let l = parts_below T i (suc t) a b (λ z. omega arith) e in
      ap₂ (parts_width (suc t)) (array_at width_for i a l.0) (array_at width_for i b l.1)

  next_found : (i t a b : ℕ) → parts_rule T i t a b ≡ true
      → next_from t (get_or (array_of i width_for) a 0) (get_or (array_of i width_for) b 0) (get_or (array_of i (next_at T)) a 0) (get_or (array_of i (next_at T)) b 0) i
      ≡ next_from t (width_for a) (width_for b) (next_at T a) (next_at T b) i
  next_found i zero a b e = refl
  next_found i (suc t) a b e =
      let l = parts_below T i (suc t) a b (λ z. omega arith) e in
      ap₂ (λ (x y : ℕ). next_from (suc t) x y (get_or (array_of i (next_at T)) a 0) (get_or (array_of i (next_at T)) b 0) i)
      (array_at width_for i a l.0) (array_at width_for i b l.1)
      ∙ ap₂ (λ (x y : ℕ). next_from (suc t) (width_for a) (width_for b) x y i) (array_at (next_at T) i a l.0) (array_at (next_at T) i b l.1)

  module _ (i : ℕ) (h : i < length T) where
    found : ℕ
    found = parts_width (type_at T i).tag (get_or (array_of i width_for) (type_at T i).left 0) (get_or (array_of i width_for) (type_at T i).right 0)

    record_width : PartsKept T i → found ≡ width_for i
    unfolding found
    record_width ok = width_found i (type_at T i).tag (type_at T i).left (type_at T i).right ok ∙ sym (width_step T i h ok)

    -- a record that is given a width keeps the rules, and the width is its type's
    pub good_record : (x : ℕ) → Some x ≡ record_judged T (array_of i width_for) i → PartsKept T i × (type_rule T i ≡ true) × (x ≡ width_for i)
    unfolding found type_rule every
    good_record x e =
        go (parts_rule T i (type_at T i).tag (type_at T i).left (type_at T i).right) (leb found type_width)
        (any_below i (same_type T i)) refl refl refl e
      where
        go : (p f r : Bool) → parts_rule T i (type_at T i).tag (type_at T i).left (type_at T i).right ≡ p → leb found type_width ≡ f
            → any_below i (same_type T i) ≡ r
            → Some x ≡ verdict p f r found → PartsKept T i × (type_rule T i ≡ true) × (x ≡ width_for i)
        go true true false p f r e =
            let w = record_width p in
            let l : leb (width_for i) type_width ≡ true = ap (λ (v : ℕ). leb v type_width) (sym w) ∙ f in
            let q : x ≡ found = cc in
            (p, rw (p, r, l), q ∙ w)
        go true true true p f r e = let z : ◌≡◌ {A = ℕ} 0 1 = cc in absurd (omega arith)
        go true false r p f s e = let z : ◌≡◌ {A = ℕ} 0 1 = cc in absurd (omega arith)
        go false f r p g s e = let z : ◌≡◌ {A = ℕ} 0 1 = cc in absurd (omega arith)

    -- a record that is not, breaks one
    pub bad_record : None ≡ record_judged T (array_of i width_for) i → type_rule T i ≡ false
    unfolding found type_rule every
    bad_record e =
        go (parts_rule T i (type_at T i).tag (type_at T i).left (type_at T i).right) (leb found type_width)
        (any_below i (same_type T i)) refl refl refl e
      where
        go : (p f r : Bool) → parts_rule T i (type_at T i).tag (type_at T i).left (type_at T i).right ≡ p → leb found type_width ≡ f
            → any_below i (same_type T i) ≡ r
            → None ≡ verdict p f r found → type_rule T i ≡ false
        go true true false p f r e = let z : ◌≡◌ {A = ℕ} 0 1 = cc in absurd (omega arith)
        go true true true p f r e = rw (p, r)
        go true false true p f r e = rw (p, r)
        go true false false p f r e =
            let l : leb (width_for i) type_width ≡ false = ap (λ (v : ℕ). leb v type_width) (sym (record_width p)) ∙ f in
            rw (p, r, l)
        go false f r p g s e = rw p

    pub next_record : PartsKept T i → record_next (type_at T i) (array_of i width_for) (array_of i (next_at T)) i ≡ next_at T i
    next_record ok = next_found i (type_at T i).tag (type_at T i).left (type_at T i).right ok ∙ sym (next_step T i h ok)

-- the ends of the check
made : {a b : Result ℕ Refusal} {w x n m : List ℕ} → a ≡ b → w ≡ x → n ≡ m
    → ◌≡◌ {A = TypeTable} (record { answer = a; widths = w; next = n }) (record { answer = b; widths = x; next = m })
made e f g = λ k. record { answer = e k; widths = f k; next = g k }

module _ (bytes : List ℕ) where
  -- the table with this answer, whose arrays hold the first n records
  abbrev pub table_with : Result ℕ Refusal → (n : ℕ) → TypeTable
  table_with says n = record { answer = says; widths = array_of n (width_for (type_records bytes)); next = array_of n (next_at (type_records bytes)) }

  table_is : (says : Result ℕ Refusal) (n : ℕ) → type_answer (check_table bytes) ≡ says → good_records bytes ≡ n → table_with says n ≡ type_table bytes
  unfolding type_table type_widths type_next
  table_is says n e g =
      sym (made e (ap (λ (k : ℕ). array_of k (width_for (type_records bytes))) g) (ap (λ (k : ℕ). array_of k (next_at (type_records bytes))) g))

  pub table_uncounted : counted (length (type_records bytes)) type_count ≡ refused (Natural 0) → table_with (Err (Natural 0)) 0 ≡ type_table bytes
  unfolding check_table ◌>>=◌ good_records
  table_uncounted e = table_is (Err (Natural 0)) 0 (rw e) (rw (e, good_records))

  module _ (some : counted (length (type_records bytes)) type_count ≡ passed tt) where
    good_are : (i : ℕ) → first_failing (type_rule (type_records bytes)) (length (type_records bytes)) 0 ≡ i → good_records bytes ≡ i
    unfolding good_records
    good_are i e = rw (some, good_records) e

    pub table_bad : (i : ℕ) → i < length (type_records bytes) → first_failing (type_rule (type_records bytes)) (length (type_records bytes)) 0 ≡ i
        → table_with (Err (BadTypeRecord i)) i ≡ type_table bytes
    unfolding check_table ◌>>=◌ check_types each require
    table_bad i h e = table_is (Err (BadTypeRecord i)) i (rw (some, e, ne_eqb i (length (type_records bytes)) (λ z. omega arith))) (good_are i e)

    pub table_good : (n : ℕ) → n ≡ length (type_records bytes) → first_failing (type_rule (type_records bytes)) (length (type_records bytes)) 0 ≡ n
        → table_with (Ok n) n ≡ type_table bytes
    unfolding check_table ◌>>=◌ check_types each require
    table_good n l e =
        table_is (Ok n) n (rw (some, e, eq-eqb n (length (type_records bytes)) l) (ap Ok (sym l))) (good_are n e)

-- what a checked table says, without its count, is what the checks say
pub answer_says : (bytes : List ℕ) (table : TypeTable) → table ≡ type_table bytes → without_count table.answer ≡ counted_types bytes
unfolding type_table check_table counted_types ◌>>=◌
answer_says bytes table e =
    ap (λ (t : TypeTable). without_count t.answer) e ∙ go (counted (length (type_records bytes)) type_count) (check_types (type_records bytes))
  where
    go : (c d : Check (Unit {0})) → without_count (type_answer (c >>= λ some. (d >>= λ sound. passed (length (type_records bytes))))) ≡ (c >>= λ some. d)
    go (passed x) (passed tt) = refl
    go (passed x) (refused r) = refl
    go (refused r) d = refl

-- what the check of a table is proved by
pub ruleset check_ways = (length_records, counted_fine, pass_start, first_failed, none_failed, array_none, bad_record, table_bad, table_good)
