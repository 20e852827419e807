-- `ready::last_node` meets its contract: the records are counted, and none is taken as one.
use native.Mathlib.Omega.{arith}
use Rattle.ready.proofs.last_node.Goals as goal

pub returns : goal.returns
returns c = omega (arith, c.saturating_sub.ensures, c.count.ensures)
