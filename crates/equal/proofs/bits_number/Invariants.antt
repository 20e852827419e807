-- `equal::bits_number` meets its contract: what the first bits and those that are left add up to stays the same.
use mathlib.Core.Path.{◌≡◌}
use Prim.Native.Nat.{◌+◌, ◌%◌, ◌^◌, ◌<◌}
use Rattle.report.specs.Bits.{bits_of, number_from}
use Rattle.common.specs.Cells.{bits_from}
use Rattle.equal.specs.Buckets.{buckets}
use Rattle.equal.proofs.bits_number.Given as goal

abbrev pub invariant-loop-left : goal.invariant-loop-left
invariant-loop-left l =
    (number_from l.start (bits_from (bits_of l.s) l.p l.n) % buckets ≡ number_from l.number (bits_from (bits_of l.s) l.at l.left) % buckets)
    × (l.at + l.left ≡ l.p + l.n) × (l.p + l.n < 2 ^ 40) × (l.number < 2 ^ 40)

abbrev pub decreases-loop-left : goal.decreases-loop-left
decreases-loop-left l = l.left
