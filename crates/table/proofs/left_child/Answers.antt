-- `table::left_child` meets its contract: the first number of a kind with a child.
use Rattle.table.proofs.Groups.{left_first, left_none}
use native.Mathlib.Omega.{arith}
use mathlib.Core.Path.{sym}
use Rattle.table.proofs.left_child.Goals as goal

pub returns-then-child_count-lt1 : goal.returns-then-child_count-lt1
returns-then-child_count-lt1 c = sym (left_none c.args.r.kind _ _ _ (omega (arith, c.child_count.ensures)))

pub returns : goal.returns
returns c = sym (left_first c.args.r.kind _ _ _ (omega (arith, c.child_count.ensures)))
