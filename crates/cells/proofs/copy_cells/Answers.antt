-- A run of cells copied. The invariant: the copy of the cells that the whole bytes left is that of the cells left, in the list as it is now.
-- Those cells are the measure.
use Rattle.cells.proofs.Copies.{copy_done}
use mathlib.Core.Path.{sym, ◌∙◌}
use Rattle.cells.proofs.copy_cells.Goals as goal

pub returns : goal.returns
returns c =
    sym (c.copy_front-i.ensures.1 ∙ c.loop-i.invariant.0
    ∙ copy_done _ _ _ c.args.n c.loop-i.i c.loop-i-test.false)
