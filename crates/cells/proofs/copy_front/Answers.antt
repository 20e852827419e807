-- Whole bytes copied, and the cells before them. The invariant: the copy of all n cells of the old list is that of the cells left, in the list
-- as it is now.
use Rattle.cells.proofs.Parts.{one_put}
use Rattle.cells.proofs.Copies.{copy_turn, copy_step, one_apart}
use Rattle.cells.proofs.Runs.{whole_copied}
use Rattle.report.specs.Bits.{bits_of}
use Rattle.bititer.proofs.Bits.{bit_small}
use Prim.Native.Nat.{◌+◌, ◌*◌, ◌-◌, ◌/◌, ◌%◌}
use mathlib.Core.Path.{◌≡◌, ◌∙◌}
use native.Mathlib.Omega.{arith}
use Rattle.cells.proofs.copy_front.Goals as goal

pub loop-i-preserved : goal.loop-i-preserved
loop-i-preserved c =
    let a = c.args in
    let l = c.loop-i in
    let m = bits_of l.cells in
    let f = a.from + l.i in
    let t = a.to + l.i in
    let b = c.cell-x in
    let q = one_put m _ m f t b.result b.ensures (rw b.ensures (bit_small l.cells f)) c.put_cell.ensures in
    l.invariant ∙ copy_turn m _ a.from a.to a.n l.i 1 (copy_step m _ f t (a.n - l.i) 1 (omega arith) (one_apart f t) q)

pub returns : goal.returns
returns c =
    let a = c.args in
    let l = c.loop-i in
    let lead = c.before_byte-lead.result in
    let k = (a.n - lead) / 8 in
    let all : l.i ≡ lead = omega arith in
    let e : a.from % 8 ≡ a.to % 8 = c.if-from-to.false in
    let q = whole_copied (bits_of l.cells) _ (a.from + lead) (a.to + lead) (a.n - lead) (omega arith) (omega arith)
    c.copy_bytes.ensures in
    (omega arith, (rw all at l.invariant) ∙ copy_turn (bits_of l.cells) _ a.from a.to a.n lead (8 * k) q)
