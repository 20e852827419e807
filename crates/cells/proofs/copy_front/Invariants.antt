-- Whole bytes copied, and the cells before them. The invariant: the copy of all n cells of the old list is that of the cells left, in the list
-- as it is now.
use Rattle.common.specs.Cells.{copy_bits}
use Rattle.report.specs.Bits.{bits_of}
use Prim.Native.Nat.{◌+◌, ◌-◌}
use mathlib.Core.Path.{◌≡◌}
use Rattle.cells.proofs.copy_front.Given as goal

abbrev pub invariant-loop-i : goal.invariant-loop-i
invariant-loop-i l = (copy_bits (bits_of l.initial.cells) l.from l.to l.n ≡ copy_bits (bits_of l.cells) (l.from + l.i) (l.to + l.i) (l.n - l.i))
