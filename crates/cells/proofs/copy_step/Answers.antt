-- A step of the copy: what is copied is the first cell, or the first eight where none of them is written before it is read; the others are left to copy.
use Rattle.cells.proofs.Parts.{one_put, eight_put}
use Rattle.cells.proofs.Copies.{copy_step, one_apart, far}
use Rattle.report.specs.Bits.{bits_of}
use Rattle.bititer.proofs.Bits.{bit_small}
use mathlib.Core.Path.{sym, ◌∙◌}
use mathlib.Core.Logic.{◌⊎◌, inl, inr}
use Prim.Native.Nat.{◌+◌, ◌≤◌}
use native.Mathlib.Omega.{arith}
use borrow.Author.Rules.{rules}
use Rattle.cells.proofs.copy_step.Goals as goal
use Rattle.cells.proofs.copy_step.Goals.{then-to-from, else-to-from}

pub returns-then-to-from-ge8 : goal.returns-then-to-from-ge8
returns-then-to-from-ge8 c =
    let a = c.args in
    let l = bits_of a.cells.now in
    let h : 8 ≤ a.n = c.if-n-ge8.true in
    let q = eight_put l _ l a.from a.to c.eight_at-x.result
    c.eight_at-x.ensures
    (c.if-to-eq0.true) c.put_byte.ensures in
    let apart : (a.to ≤ a.from) ⊎ (a.from + 8 ≤ a.to) = elim c.if-to-from.branch [
      | then-to-from w ↦ inl (omega arith)
      | else-to-from w ↦ inr (far a.from a.to w.if-to-from.false (sym w.value-is ∙ c.if-to-from-ge8.true))
    ] in
    (search rules, h, copy_step l _ a.from a.to a.n 8 h apart q)

pub returns : goal.returns
returns c =
    let a = c.args in
    let l = bits_of a.cells.now in
    let b = c.cell-b in
    let q = one_put l _ l a.from a.to b.result b.ensures (rw b.ensures (bit_small a.cells.now a.from))
    c.put_cell.ensures in
    (search rules, search rules, copy_step l _ a.from a.to a.n 1 (search rules) (one_apart a.from a.to) q)
