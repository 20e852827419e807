-- The bounds of node i of lent tables, from its record and the bounds of the nodes below it, as a pass upwards finds them.
use mathlib.Core.Path.{◌≡◌, sym, ap, ap₂, ◌∙◌}
use mathlib.Core.Bool.{true, false}
use mathlib.Core.List.{List}
use Prim.Native.Nat.{ℕ, ◌<◌, ◌≤◌}
use native.Mathlib.Omega.{arith}
use native.Mathlib.Decide.{dec_lt}
use lib.ListN.{length, get_or, take, get_or-eq_default}
use lib.Seq.{get_or-take, length-take-le}
use borrow.Author.Tests.{lt-ltb, le-ltb}
use Rattle.limits.specs.Limits.{node_count}
use Rattle.report.specs.Table.{entries}
use Rattle.scope.specs.Types.{TypeRecord}
use Rattle.scope.specs.Nodes.{kind_of, NodeRecord}
use Rattle.scope.specs.Arrows.{Arrow}
use Rattle.scope.specs.Bounds.{no_row}
use Rattle.scope.specs.Bounds as scope
use Rattle.scope.specs.Stages.{no_record}
use Rattle.common.specs.Tables.{length-entries, entries_at, entries_past}
use Rattle.analysis.specs.Held.{held, plain}
use Rattle.analysis.specs.Rows.{row_of, row_make, bound_at, below_or}
use Rattle.analysis.specs.declared.Bound.{Bound}
use Rattle.common.specs.Filling.{filled_to, fill_at, fill_past}
use Rattle.analysis.proofs.HeldRows.{held_row}

pub below_in : (child i : ℕ) → child < i → child ≡ below_or child i
unfolding below_or
below_in child i h = sym (ap (λ b. elim b [ true ↦ child | false ↦ i ]) (lt-ltb child i h))

pub below_out : (child i : ℕ) → i ≤ child → i ≡ below_or child i
unfolding below_or
below_out child i h = sym (ap (λ b. elim b [ true ↦ child | false ↦ i ]) (le-ltb child i h))

module _ (types : List TypeRecord) (widths : List ℕ) (records : List NodeRecord) (arrows : List Arrow) where
  -- the bounds of node i as the code holds them
  abbrev pub held_at : ℕ → Bound
  held_at i = held (bound_at types widths records arrows i)

  pub bound_past : (i : ℕ) → length records ≤ i → bound_at types widths records arrows i ≡ no_row
  unfolding bound_at
  bound_past i h = entries_past (row_make types widths records arrows) records i no_row h

  -- the bounds of a child below node i, and none of any other
  abbrev pub child_bound : (i child : ℕ) → scope.Bound
  child_bound i child = get_or (take i (entries (row_make types widths records arrows) records)) child no_row

  pub child_below : (i child : ℕ) → child < i → child_bound i child ≡ bound_at types widths records arrows child
  unfolding bound_at
  child_below i child h = get_or-take i (entries (row_make types widths records arrows) records) child no_row h

  child_not_below : (i child : ℕ) → i ≤ length records → i ≤ child → child_bound i child ≡ no_row
  child_not_below i child h l =
      get_or-eq_default (take i (entries (row_make types widths records arrows) records)) no_row
      (omega (
        arith,
        length-take-le i (entries (row_make types widths records arrows) records)
            (omega (arith, length-entries (row_make types widths records arrows) records)),
      ))

  -- the row of node i is made of its record and of the bounds of its children
  pub bound_made : (i : ℕ) → i < length records → (r : NodeRecord) → r ≡ get_or records i no_record
      → row_of types widths records arrows i (kind_of r.kind) r.first r.second (child_bound i r.first) (child_bound i r.second)
      ≡ bound_at types widths records arrows i
  unfolding bound_at row_make
  bound_made i h r e =
      let E : List scope.Bound = entries (row_make types widths records arrows) records in
      let l : length (take i E) ≡ i = length-take-le i E (omega (arith, length-entries (row_make types widths records arrows) records)) in
      ap (λ k. row_of types widths records arrows k (kind_of r.kind) r.first r.second (child_bound i r.first) (child_bound i r.second))
      (sym l)
      ∙ ap (λ q. row_make types widths records arrows (take i E) q) e
      ∙ sym (entries_at (row_make types widths records arrows) records i no_row no_record h)

  -- what a pass finds where it looks for a child
  pub child_found : (i child : ℕ) → i ≤ length records → get_or (filled_to held_at (held no_row) node_count i) (below_or child i) (held no_row)
      ≡ held (child_bound i child)
  child_found i child h = elim (dec_lt child i) [
    | yes l ↦ ap (λ k. get_or (filled_to held_at (held no_row) node_count i) k (held no_row)) (sym (below_in child i l))
        ∙ fill_at held_at (held no_row) node_count i child l ∙ ap held (sym (child_below i child l))
    | no l ↦ ap (λ k. get_or (filled_to held_at (held no_row) node_count i) k (held no_row)) (sym (below_out child i (omega arith)))
        ∙ fill_past held_at (held no_row) node_count i i (omega arith) ∙ ap held (sym (child_not_below i child h (omega arith)))
  ]

  -- the same of the array and the place that the code has
  pub child_read : (i child : ℕ) → i ≤ length records → (rows : List Bound) (at : ℕ) → rows ≡ filled_to held_at (held no_row) node_count i → at
      ≡ below_or child i
      → get_or rows at (record { cells = 0; frames = 0; cost = record { units = 0 } }) ≡ held (child_bound i child)
  unfolding no_row
  child_read i child h rows at p q = ap₂ (λ l k. get_or l k (held no_row)) p q ∙ child_found i child h

  -- so the row that is made of what was found is the node's
  pub row_made : (i : ℕ) → i < length records → (r : NodeRecord) → r ≡ get_or records i no_record → (left right own : Bound)
      → left ≡ held (child_bound i r.first) → right ≡ held (child_bound i r.second)
      → own ≡ held (row_of types widths records arrows i (kind_of r.kind) r.first r.second (plain left) (plain right)) → own ≡ held_at i
  row_made i h r e left right own p q s =
      s ∙ ap₂ (λ x y. held (row_of types widths records arrows i (kind_of r.kind) r.first r.second (plain x) (plain y))) p q
      ∙ held_row types widths records arrows i (kind_of r.kind) r.first r.second (child_bound i r.first) (child_bound i r.second)
      ∙ ap held (bound_made i h r e)
