-- A step of putting bits: what is put is the first bit, or the first eight; the others are left to put.
use Rattle.cells.proofs.Parts.{one_put, eight_put, put_step}
use Rattle.report.specs.Bits.{bits_of}
use Rattle.bititer.proofs.Bits.{bit_small}
use Prim.Native.Nat.{◌≤◌}
use borrow.Author.Rules.{rules}
use Rattle.cells.proofs.put_step.Goals as goal

pub returns-then-at-eq0 : goal.returns-then-at-eq0
returns-then-at-eq0 c =
    let a = c.args in
    let l = bits_of a.cells.now in
    let s = bits_of a.source.now in
    let h : 8 ≤ a.n = c.if-n-ge8.true in
    let q = eight_put l _ s a.p a.at c.eight_at-x.result
    c.eight_at-x.ensures (c.if-at-eq0.true)
    c.put_byte.ensures in
    (search rules, h, put_step l _ s a.p a.at a.n 8 h q)

pub returns : goal.returns
returns c =
    let a = c.args in
    let l = bits_of a.cells.now in
    let s = bits_of a.source.now in
    let b = c.cell-b in
    let q = one_put l _ s a.p a.at b.result b.ensures (rw b.ensures (bit_small a.source.now a.p))
    c.put_cell.ensures in
    (search rules, search rules, put_step l _ s a.p a.at a.n 1 (search rules) q)
