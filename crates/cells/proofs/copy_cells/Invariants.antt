-- A run of cells copied. The invariant: the copy of the cells that the whole bytes left is that of the cells left, in the list as it is now.
-- Those cells are the measure.
use Rattle.common.specs.Cells.{copy_bits}
use Rattle.report.specs.Bits.{bits_of}
use lib.ListN.{length}
use Prim.Native.Nat.{◌+◌, ◌-◌, ◌≤◌}
use mathlib.Core.Path.{◌≡◌}
use Rattle.cells.proofs.copy_cells.Given as goal

abbrev pub invariant-loop-i : goal.invariant-loop-i
invariant-loop-i l = (copy_bits (bits_of l.initial.cells) (l.from + l.initial.i) (l.to + l.initial.i) (l.n - l.initial.i) ≡ copy_bits (bits_of l.cells) (l.from + l.i) (l.to + l.i) (l.n - l.i)) × (l.i ≤ l.n) × (length l.cells ≡ length l.initial.cells)

abbrev pub decreases-loop-i : goal.decreases-loop-i
decreases-loop-i l = l.n - l.i
