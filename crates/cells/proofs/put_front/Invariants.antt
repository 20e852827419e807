-- Whole bytes of a source put into the cells, and the bits before them. The invariant: putting all n bits into the old list is putting those
-- left into the list as it is now.
use Rattle.common.specs.Cells.{bits_from}
use lib.Seq.{sets}
use Rattle.report.specs.Bits.{bits_of}
use Prim.Native.Nat.{◌+◌, ◌-◌}
use mathlib.Core.Path.{◌≡◌}
use Rattle.cells.proofs.put_front.Given as goal

abbrev pub invariant-loop-i : goal.invariant-loop-i
invariant-loop-i l =
    (sets (bits_of l.initial.cells) l.at (bits_from (bits_of l.source) l.p l.n) ≡ sets (bits_of l.cells) (l.at + l.i) (bits_from (bits_of l.source) (l.p + l.i) (l.n - l.i)))
