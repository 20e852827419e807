-- `hashes::none_clashes` meets its contract.
use mathlib.Core.Bool.{not}
use Prim.Native.Nat.{◌-◌}
use lib.ListN.{length}
use Rattle.hashes.specs.Hashes.{clash_at}
use Rattle.common.specs.Passes.{Passing}
use Rattle.hashes.proofs.none_clashes.Given as goal

abbrev pub invariant-loop-e : goal.invariant-loop-e
invariant-loop-e l = Passing (λ n. not (clash_at l.children l.given n)) (length l.children) l.e

abbrev pub decreases-loop-e : goal.decreases-loop-e
decreases-loop-e l = length l.children - l.e
