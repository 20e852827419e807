-- `arrow::every_node` meets its contract: the nodes so far keep their rule, and the first that repeats an earlier one is still to come.
use mathlib.Core.Path.{◌≡◌}
use Prim.Native.Nat.{ℕ, ◌≤◌}
use lib.ListN.{length}
use Rattle.std.specs.Prelude.{Some}
use Rattle.scope.specs.Nodes.{node_records}
use Rattle.common.specs.Passes.{Passing}
use Rattle.arrow.specs.Stage.{lent_rule}
use Rattle.arrow.proofs.every_node.Given as goal

abbrev pub invariant-loop-i : goal.invariant-loop-i
invariant-loop-i l = Passing (lent_rule l.tables.types.now l.table.nodes.now l.tables.arrows.now l.tables.program.now l.tables.hashes.now) (length (node_records l.table.nodes.now)) l.i × ((j : ℕ) → l.again ≡ Some j → l.i ≤ j)
