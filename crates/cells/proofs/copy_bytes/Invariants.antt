-- Whole bytes copied. The invariant: the copy of all k bytes of the old list is that of the bytes left, in the list as it is now, as bits.
use Rattle.common.specs.Cells.{copy_bits}
use Rattle.report.specs.Bits.{bits_of}
use Prim.Native.Nat.{◌+◌, ◌*◌, ◌-◌}
use mathlib.Core.Path.{◌≡◌}
use Rattle.cells.proofs.copy_bytes.Given as goal

abbrev pub invariant-loop-i : goal.invariant-loop-i
invariant-loop-i l =
    copy_bits (bits_of l.initial.cells) (8 * l.a) (8 * l.b) (8 * l.k) ≡ copy_bits (bits_of l.cells) (8 * l.a + 8 * l.i) (8 * l.b + 8 * l.i) (8 * l.k - 8 * l.i)
