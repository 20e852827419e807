-- A run of cells cleared. The invariant: clearing the cells that the whole bytes left is clearing those left, in the list as it is now.
-- Those cells are the measure.
use Rattle.scope.specs.Numbers.{zeros}
use lib.Seq.{sets}
use Rattle.report.specs.Bits.{bits_of}
use lib.ListN.{length}
use Prim.Native.Nat.{◌+◌, ◌-◌, ◌≤◌}
use mathlib.Core.Path.{◌≡◌}
use Rattle.cells.proofs.zero_cells.Given as goal

abbrev pub invariant-loop-done : goal.invariant-loop-done
invariant-loop-done l = (sets (bits_of l.initial.cells) (l.at + l.initial.done) (zeros (l.n - l.initial.done)) ≡ sets (bits_of l.cells) (l.at + l.done) (zeros (l.n - l.done))) × (l.done ≤ l.n) × (length l.cells ≡ length l.initial.cells)

abbrev pub decreases-loop-done : goal.decreases-loop-done
decreases-loop-done l = l.n - l.done
