-- `equal::first_repeat` meets its contract: no node so far repeats an earlier one, and both arrays lead through the buckets.
use mathlib.Core.Path.{◌≡◌}
use Prim.Native.Nat.{min}
use lib.ListN.{length}
use Rattle.limits.specs.Limits.{node_count}
use Rattle.scope.specs.Nodes.{node_records}
use Rattle.common.specs.Passes.{Passing}
use Rattle.equal.specs.Keys.{fresh}
use Rattle.equal.specs.Buckets.{buckets, Chained, Latest}
use Rattle.equal.proofs.first_repeat.Given as goal

abbrev pub invariant-loop-i : goal.invariant-loop-i
invariant-loop-i l =
    Passing (fresh l.nodes l.arrows l.program l.hashes) (min (length (node_records l.nodes)) node_count) l.i × Latest l.nodes l.arrows l.program l.hashes l.latest l.i
    × Chained l.nodes l.arrows l.program l.hashes l.before l.i × (length l.latest ≡ buckets) × (length l.before ≡ node_count)
