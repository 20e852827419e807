-- Whole bytes of a source put into the cells, and the bits before them. The invariant: putting all n bits into the old list is putting those
-- left into the list as it is now.
use Rattle.cells.proofs.Parts.{one_put, put_turn, put_step}
use Rattle.cells.proofs.Runs.{whole_put}
use Rattle.report.specs.Bits.{bits_of}
use Rattle.bititer.proofs.Bits.{bit_small}
use Prim.Native.Nat.{◌+◌, ◌*◌, ◌-◌, ◌/◌, ◌%◌}
use mathlib.Core.Path.{◌≡◌, ◌∙◌}
use native.Mathlib.Omega.{arith}
use Rattle.cells.proofs.put_front.Goals as goal

pub loop-i-preserved : goal.loop-i-preserved
loop-i-preserved c =
    let a = c.args in
    let l = c.loop-i in
    let m = bits_of l.cells in
    let s = bits_of a.source.now in
    let p = a.p + l.i in
    let t = a.at + l.i in
    let b = c.cell-x in
    let q = one_put m _ s p t b.result b.ensures (rw b.ensures (bit_small a.source.now p)) c.put_cell.ensures in
    l.invariant ∙ put_turn m _ s a.p a.at a.n l.i 1 (put_step m _ s p t (a.n - l.i) 1 (omega arith) q)

pub returns : goal.returns
returns c =
    let a = c.args in
    let l = c.loop-i in
    let m = bits_of l.cells in
    let s = bits_of a.source.now in
    let lead = c.before_byte-lead.result in
    let k = (a.n - lead) / 8 in
    let all : l.i ≡ lead = omega arith in
    let e : a.p % 8 ≡ a.at % 8 = c.if-p-at.false in
    let q = whole_put m _ s (a.p + lead) (a.at + lead) (a.n - lead) (omega arith) (omega arith) c.put_bytes.ensures in
    (omega arith, (rw all at l.invariant) ∙ put_turn m _ s a.p a.at a.n lead (8 * k) q)
