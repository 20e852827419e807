-- `equal::bytes_number` meets its contract: what the first bytes and those that are left add up to stays the same.
use mathlib.Core.Path.{◌≡◌}
use Prim.Native.Nat.{◌%◌, ◌^◌, ◌<◌}
use lib.ListN.{drop}
use Rattle.report.specs.Bits.{number_from}
use Rattle.equal.specs.Buckets.{buckets}
use Rattle.equal.proofs.bytes_number.Given as goal

abbrev pub invariant-loop-x : goal.invariant-loop-x
invariant-loop-x l = (number_from l.start l.bytes % buckets ≡ number_from l.number (drop l.x-index l.bytes) % buckets) × (l.number < 2 ^ 40)
