-- Whole bytes cleared, and the cells before them. The invariant: clearing all n cells of the old list is clearing those left, in the list
-- as it is now.
use Rattle.scope.specs.Numbers.{zeros}
use lib.Seq.{sets}
use Rattle.report.specs.Bits.{bits_of}
use Prim.Native.Nat.{◌+◌, ◌-◌}
use mathlib.Core.Path.{◌≡◌}
use Rattle.cells.proofs.zero_front.Given as goal

abbrev pub invariant-loop-i : goal.invariant-loop-i
invariant-loop-i l = (sets (bits_of l.initial.cells) l.at (zeros l.n) ≡ sets (bits_of l.cells) (l.at + l.i) (zeros (l.n - l.i)))
