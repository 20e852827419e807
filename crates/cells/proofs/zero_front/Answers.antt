-- Whole bytes cleared, and the cells before them. The invariant: clearing all n cells of the old list is clearing those left, in the list
-- as it is now.
use Rattle.cells.proofs.Parts.{zero_turn, zero_step}
use Rattle.cells.proofs.Runs.{whole_cleared}
use Rattle.report.specs.Bits.{bits_of}
use Prim.Native.Nat.{◌+◌, ◌*◌, ◌-◌, ◌/◌}
use mathlib.Core.Path.{◌≡◌, ◌∙◌}
use native.Mathlib.Omega.{arith}
use Rattle.cells.proofs.zero_front.Goals as goal

pub loop-i-preserved : goal.loop-i-preserved
loop-i-preserved c =
    let a = c.args in
    let l = c.loop-i in
    let m = bits_of l.cells in
    l.invariant ∙ zero_turn m _ a.at a.n l.i 1 (zero_step m _ (a.at + l.i) (a.n - l.i) 1 (omega arith) c.put_cell.ensures)

pub returns : goal.returns
returns c =
    let a = c.args in
    let l = c.loop-i in
    let m = bits_of l.cells in
    let lead = c.before_byte-lead.result in
    let k = (a.n - lead) / 8 in
    let all : l.i ≡ lead = omega arith in
    let q = whole_cleared m _ (a.at + lead) (a.n - lead) (omega arith) c.zero_bytes.ensures in
    (omega arith, (rw all at l.invariant) ∙ zero_turn m _ a.at a.n lead (8 * k) q)
