-- The rows below i are those of the nodes, and the others are none.
use mathlib.Core.Path.{◌≡◌}
use Rattle.limits.specs.Limits.{node_count}
use Rattle.scope.specs.Types.{type_records}
use Rattle.scope.specs.Nodes.{node_records}
use Rattle.scope.specs.Arrows.{arrow_records}
use Rattle.scope.specs.Bounds.{no_row}
use Rattle.analysis.specs.Held.{held}
use Rattle.analysis.proofs.Tables.{held_at}
use Rattle.common.specs.Filling.{filled_to}
use Rattle.analysis.proofs.node_rows.Given as goal

abbrev pub invariant-loop-i : goal.invariant-loop-i
invariant-loop-i l =
    l.rows ≡ filled_to (held_at (type_records l.types) l.widths (node_records l.nodes) (arrow_records l.arrows)) (held no_row) node_count l.i
