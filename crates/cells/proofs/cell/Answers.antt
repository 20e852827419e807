-- A cell is the bit of its byte, and 0 past the end.
use Rattle.cells.proofs.Bytes.{past_read}
use Rattle.bititer.proofs.Bits.{bit_at_lem}
use mathlib.Core.Path.{sym}
use Rattle.cells.proofs.cell.Goals as goal

pub returns-then-i-cells : goal.returns-then-i-cells
returns-then-i-cells c = sym (bit_at_lem c.args.cells.now c.args.p c.if-i-cells.true)

pub returns-else-i-cells : goal.returns-else-i-cells
returns-else-i-cells c = sym (past_read c.args.cells.now c.args.p c.if-i-cells.false)
