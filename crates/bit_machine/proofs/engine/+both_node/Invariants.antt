-- The node's index falls: a child stands before its parent.
-- `node` at node i is measured by 2 * i + 1, `both` by 2 * i.
use Prim.Native.Nat.{◌+◌, ◌*◌}
use Rattle.bit_machine.proofs.engine.+both_node.Given as goal

abbrev pub decreases-both : goal.decreases-both
decreases-both l = 2 * l.i

abbrev pub decreases-node : goal.decreases-node
decreases-node l = 2 * l.i + 1
