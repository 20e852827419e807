-- Whole bytes of a source put into the cells. The invariant: putting all k bytes into the old list is putting those left into the list as
-- it is now, as bits.
use Rattle.common.specs.Cells.{bits_from}
use Rattle.report.specs.Bits.{bits_of}
use lib.Seq.{sets}
use Prim.Native.Nat.{◌+◌, ◌*◌, ◌-◌}
use mathlib.Core.Path.{◌≡◌}
use Rattle.cells.proofs.put_bytes.Given as goal

abbrev pub invariant-loop-j : goal.invariant-loop-j
invariant-loop-j l =
    sets (bits_of l.initial.cells) (8 * l.b) (bits_from (bits_of l.source) (8 * l.a) (8 * l.k))
    ≡ sets (bits_of l.cells) (8 * l.b + 8 * l.j) (bits_from (bits_of l.source) (8 * l.a + 8 * l.j) (8 * l.k - 8 * l.j))
