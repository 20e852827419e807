-- `arrow::none_one_child` meets its contract.
use mathlib.Core.List.{[], List}
use lib.ListN.{length}
use Rattle.scope.specs.Types.{TypeRecord}
use Rattle.scope.specs.Nodes.{node_records}
use Rattle.scope.specs.Arrows.{no_one_child, Arrow}
use Rattle.table.specs.Lent.{lent_nodes}
use Rattle.common.specs.Passes.{Passing}
use Rattle.arrow.proofs.none_one_child.Given as goal

abbrev pub invariant-loop-i : goal.invariant-loop-i
invariant-loop-i l = (ts : List TypeRecord) (as' : List Arrow) → Passing (no_one_child ts (lent_nodes [] l.table.nodes.now) as') (length (node_records l.table.nodes.now)) l.i
