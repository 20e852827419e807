-- The bounds of every node, read off lent tables: a row of the requirements' table for each kind, of the widths of types,
-- the arrows and the bounds of the children. A child that does not stand below its parent counts for nothing.
-- Widths are numbers of a table; that they are the widths of the types is what a check of the types gives.
use Rattle.std.specs.Prelude.{Bool, true, false, ℕ, ◌+◌, ltb, length}
use mathlib.Core.List.{List, []}
use Rattle.std.proofs.Math.ListN.{get_or}
use Rattle.report.specs.Table.{entries}
use Rattle.report.specs.Types.{width, word_ty}
use Rattle.scope.specs.Types.{TypeRecord}
use Rattle.scope.specs.Nodes.{Kind, k_comp, k_case, k_pair, k_disconnect, k_injl, k_injr, k_take, k_drop, k_iden, k_unit, k_fail, k_disconnect1, k_witness, k_hidden, k_word, k_unknown, kind_of, NodeRecord, nodes_of}
use Rattle.scope.specs.Walk.{hidden_at}
use Rattle.scope.specs.Arrows.{Arrow}
use Rattle.scope.specs.Bounds.{Bound, unit_row, copy_row, child_row, pair_row, case_row, comp_row, disconnect_row, witness_row, fail_row, no_row}
use Rattle.lookup.specs.Lookup.{source_width, target_width, kept_width}

-- a case, by which of its children are hidden: with one hidden it is an assertion
unfoldable pub case_bound : (left_hidden right_hidden : Bool) → (left right : Bound) → Bound
case_bound false false left right = case_row left right
case_bound false true left right = child_row left
case_bound true false left right = child_row right
case_bound true true left right = no_row

-- a child's place among the rows of the nodes below i, or i itself where it is none of them
unfoldable pub below_or : (child i : ℕ) → ℕ
below_or child i = elim (ltb child i) [ true ↦ child | false ↦ i ]

module _ (types : List TypeRecord) (widths : List ℕ) (records : List NodeRecord) (arrows : List Arrow) where
  -- node i of a kind with its first two numbers, of the bounds of its children
  unfoldable pub row_of : (i : ℕ) → Kind → (a b : ℕ) → (left right : Bound) → Bound
  unfolding case_bound hidden_at
  row_of i k_comp a b left right = comp_row (target_width widths arrows a) left right
  row_of i k_case a b left right = case_bound (hidden_at (nodes_of [] [] records) a) (hidden_at (nodes_of [] [] records) b) left right
  row_of i k_pair a b left right = pair_row left right
  row_of i k_disconnect a b left right =
      disconnect_row (width (word_ty 8) + source_width widths arrows i) (kept_width types widths arrows i + source_width widths arrows b)
      (kept_width types widths arrows i) left right
  row_of i k_injl a b left right = child_row left
  row_of i k_injr a b left right = child_row left
  row_of i k_take a b left right = child_row left
  row_of i k_drop a b left right = child_row left
  row_of i k_iden a b left right = copy_row (source_width widths arrows i)
  row_of i k_unit a b left right = unit_row
  row_of i k_fail a b left right = fail_row
  row_of i k_disconnect1 a b left right = no_row
  row_of i k_witness a b left right = witness_row (target_width widths arrows i)
  row_of i k_hidden a b left right = no_row
  row_of i k_word a b left right = copy_row (target_width widths arrows i)
  row_of i k_unknown a b left right = no_row

  -- the same of a record, of the bounds of the nodes before it
  unfoldable pub row_make : List Bound → NodeRecord → Bound
  unfolding row_of
  row_make before r = row_of (length before) (kind_of r.kind) r.first r.second (get_or before r.first no_row) (get_or before r.second no_row)

  -- the bounds of node i; past the end of the table none
  unfoldable pub bound_at : (i : ℕ) → Bound
  unfolding entries row_make
  bound_at i = get_or (entries row_make records) i no_row
