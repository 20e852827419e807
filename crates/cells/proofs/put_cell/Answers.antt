-- A byte with one bit set, in its string, is the string of bits with that bit set; past the end nothing is.
use Rattle.cells.proofs.Bytes.{cell_set, past_set}
use Prim.Native.Nat.{◌%◌}
use mathlib.Core.Path.{sym}
use Rattle.cells.proofs.put_cell.Goals as goal

pub returns-then-i-cells : goal.returns-then-i-cells
returns-then-i-cells c =
    let a = c.args in
    cell_set a.cells.now a.p c.with_bit.result (a.b % 2) c.if-i-cells.true c.with_bit.ensures

pub returns-else-i-cells : goal.returns-else-i-cells
returns-else-i-cells c = sym (past_set c.args.cells.now c.args.p (c.args.b % 2) c.if-i-cells.false)
