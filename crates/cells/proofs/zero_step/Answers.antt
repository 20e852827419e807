-- A step of clearing: what is cleared is the first cell, or the first eight; the others are left to clear.
use Rattle.cells.proofs.Parts.{eight_zeros, zero_step}
use Rattle.report.specs.Bits.{bits_of}
use Prim.Native.Nat.{◌≤◌}
use borrow.Author.Rules.{rules}
use Rattle.cells.proofs.zero_step.Goals as goal

pub returns-then-at-eq0 : goal.returns-then-at-eq0
returns-then-at-eq0 c =
    let a = c.args in
    let l = bits_of a.cells.now in
    let h : 8 ≤ a.n = c.if-n-ge8.true in (
      search rules,
      h,
      zero_step l _ a.at a.n 8 h
          (eight_zeros l _ a.at (c.if-at-eq0.true) c.put_byte.ensures),
    )
