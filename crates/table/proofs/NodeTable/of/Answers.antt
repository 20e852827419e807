-- `table::NodeTable::of` meets its contract.
use mathlib.Core.Path.{sym}
use lib.ListN.{length}
use Rattle.limits.specs.Limits.{node_count}
use Rattle.scope.specs.Nodes.{node_records}
use Rattle.common.specs.Checks.{counted-passed}
use Rattle.table.proofs.NodeTable.of.Goals as goal

pub invariant_of-result : goal.invariant_of-result
invariant_of-result c = record { few = (counted-passed (length (node_records c.args.nodes.now)) node_count (sym c.in_ok-check_count.ensures)).1 }
