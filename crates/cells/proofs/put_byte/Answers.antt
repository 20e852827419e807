-- A byte stored is its eight bits put; past the end nothing is.
use mathlib.Core.Path.{sym}
use Rattle.cells.proofs.Bytes.{byte_set, past_byte}
use Rattle.cells.proofs.put_byte.Goals as goal

pub returns-then-i-cells : goal.returns-then-i-cells
returns-then-i-cells c =
    let a = c.args in
    byte_set a.cells.now a.i a.x c.if-i-cells.true

pub returns-else-i-cells : goal.returns-else-i-cells
returns-else-i-cells c =
    let a = c.args in
    sym (past_byte a.cells.now a.i a.x c.if-i-cells.false)
