-- A row made of held bounds, held again, is the row of the bounds themselves, held: so a pass may hold every number at its limit as it goes.
use mathlib.Core.Path.{◌≡◌, refl}
use mathlib.Core.Bool.{Bool, true, false}
use mathlib.Core.List.{List, []}
use Prim.Native.Nat.{ℕ, ◌+◌}
use native.Mathlib.Omega.{arith}
use Rattle.report.specs.Types.{width, word_ty}
use Rattle.scope.specs.Types.{TypeRecord}
use Rattle.scope.specs.Nodes.{Kind, k_comp, k_case, k_pair, k_disconnect, k_injl, k_injr, k_take, k_drop, k_iden, k_unit, k_fail, k_disconnect1, k_witness, k_hidden, k_word, k_unknown, NodeRecord, nodes_of}
use Rattle.scope.specs.Walk.{hidden_at}
use Rattle.scope.specs.Arrows.{Arrow}
use Rattle.scope.specs.Bounds.{Bound, child_row, pair_row, case_row, comp_row, disconnect_row}
use Rattle.analysis.specs.Held.{held, plain}
use Rattle.lookup.specs.Lookup.{source_width, target_width, kept_width}
use Rattle.analysis.specs.Rows.{case_bound, row_of}
use Rattle.analysis.proofs.Sums.{bound_eq}

held_child : (x : Bound) → held (child_row (plain (held x))) ≡ held (child_row x)
unfolding child_row
held_child x = bound_eq (omega arith) (omega arith) (omega arith)

held_pair : (x y : Bound) → held (pair_row (plain (held x)) (plain (held y))) ≡ held (pair_row x y)
unfolding pair_row
held_pair x y = bound_eq (omega arith) (omega arith) (omega arith)

held_case : (x y : Bound) → held (case_row (plain (held x)) (plain (held y))) ≡ held (case_row x y)
unfolding case_row
held_case x y = bound_eq (omega arith) (omega arith) (omega arith)

held_comp : (m : ℕ) (x y : Bound) → held (comp_row m (plain (held x)) (plain (held y))) ≡ held (comp_row m x y)
unfolding comp_row
held_comp m x y = bound_eq (omega arith) (omega arith) (omega arith)

held_disconnect : (s t b : ℕ) (x y : Bound) → held (disconnect_row s t b (plain (held x)) (plain (held y))) ≡ held (disconnect_row s t b x y)
unfolding disconnect_row
held_disconnect s t b x y = bound_eq (omega arith) (omega arith) (omega arith)

held_branches : (left right : Bool) (x y : Bound) → held (case_bound left right (plain (held x)) (plain (held y))) ≡ held (case_bound left right x y)
unfolding case_bound
held_branches false false x y = held_case x y
held_branches false true x y = held_child x
held_branches true false x y = held_child y
held_branches true true x y = refl

pub held_row : (types : List TypeRecord) (widths : List ℕ) (records : List NodeRecord) (arrows : List Arrow) (i : ℕ) (kind : Kind) (a b : ℕ) (x y : Bound)
    → held (row_of types widths records arrows i kind a b (plain (held x)) (plain (held y))) ≡ held (row_of types widths records arrows i kind a b x y)
unfolding row_of
held_row types widths records arrows i k_comp a b x y = held_comp (target_width widths arrows a) x y
held_row types widths records arrows i k_case a b x y = held_branches (hidden_at (nodes_of [] [] records) a) (hidden_at (nodes_of [] [] records) b) x y
held_row types widths records arrows i k_pair a b x y = held_pair x y
held_row types widths records arrows i k_disconnect a b x y =
    held_disconnect (width (word_ty 8) + source_width widths arrows i) (kept_width types widths arrows i + source_width widths arrows b)
    (kept_width types widths arrows i) x y
held_row types widths records arrows i k_injl a b x y = held_child x
held_row types widths records arrows i k_injr a b x y = held_child x
held_row types widths records arrows i k_take a b x y = held_child x
held_row types widths records arrows i k_drop a b x y = held_child x
held_row types widths records arrows i k_iden a b x y = refl
held_row types widths records arrows i k_unit a b x y = refl
held_row types widths records arrows i k_fail a b x y = refl
held_row types widths records arrows i k_disconnect1 a b x y = refl
held_row types widths records arrows i k_witness a b x y = refl
held_row types widths records arrows i k_hidden a b x y = refl
held_row types widths records arrows i k_word a b x y = refl
held_row types widths records arrows i k_unknown a b x y = refl
