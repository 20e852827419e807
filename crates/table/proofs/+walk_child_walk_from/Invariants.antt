-- The index falls: a child that is walked is below its parent.
-- `walk_from` at node i is measured by 2 * i + 1, `walk_child` at a child of node i by 2 * i.
use Prim.Native.Nat.{◌+◌, ◌*◌}
use Rattle.table.proofs.+walk_child_walk_from.Given as goal

abbrev pub decreases-walk_child : goal.decreases-walk_child
decreases-walk_child l = 2 * l.i

abbrev pub decreases-walk_from : goal.decreases-walk_from
decreases-walk_from l = 2 * l.i + 1
