-- `table::right_child` meets its contract: the second number of a kind with two children.
use Rattle.table.proofs.Groups.{right_second, right_none}
use native.Mathlib.Omega.{arith}
use mathlib.Core.Path.{sym}
use Rattle.table.proofs.right_child.Goals as goal

pub returns-then-child_count-lt2 : goal.returns-then-child_count-lt2
returns-then-child_count-lt2 c = sym (right_none c.args.r.kind _ _ _ (omega (arith, c.child_count.ensures)))

pub returns : goal.returns
returns c = sym (right_second c.args.r.kind _ _ _ (omega (arith, c.child_count.ensures)))
