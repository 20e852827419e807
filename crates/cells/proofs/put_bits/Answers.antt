-- Bits of a source put into the cells. The invariant: putting the bits that the whole bytes left is putting those left into the list as it is now.
-- Those bits are the measure.
use Rattle.cells.proofs.Parts.{put_done}
use Rattle.report.specs.Bits.{bits_of}
use Prim.Native.Nat.{◌+◌}
use mathlib.Core.Path.{sym, ◌∙◌}
use Rattle.cells.proofs.put_bits.Goals as goal

pub returns : goal.returns
returns c =
    let l = c.loop-put in
    let a = c.args in
    sym (c.put_front-put.ensures.1 ∙ l.invariant.0
    ∙ put_done (bits_of l.cells) (bits_of a.source.now) (a.p + l.put) (a.at + l.put) a.n l.put c.loop-put-test.false)
