-- Bits of a source put into the cells. The invariant: putting the bits that the whole bytes left is putting those left into the list as it is now.
-- Those bits are the measure.
use Rattle.common.specs.Cells.{bits_from}
use lib.Seq.{sets}
use Rattle.report.specs.Bits.{bits_of}
use lib.ListN.{length}
use Prim.Native.Nat.{◌+◌, ◌-◌, ◌≤◌}
use mathlib.Core.Path.{◌≡◌}
use Rattle.cells.proofs.put_bits.Given as goal

abbrev pub invariant-loop-put : goal.invariant-loop-put
invariant-loop-put l =
    (sets (bits_of l.initial.cells) (l.at + l.initial.put) (bits_from (bits_of l.source) (l.p + l.initial.put) (l.n - l.initial.put))
    ≡ sets (bits_of l.cells) (l.at + l.put) (bits_from (bits_of l.source) (l.p + l.put) (l.n - l.put)))
    × (l.put ≤ l.n) × (length l.cells ≡ length l.initial.cells)

abbrev pub decreases-loop-put : goal.decreases-loop-put
decreases-loop-put l = l.n - l.put
