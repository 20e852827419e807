-- Where an outcome is a stop, its place and its state are of a kind.
-- That a run stops only at a node that it entered is shown in proofs/Stops.
use Prim.Native.Nat.{ℕ}
use Rattle.report.specs.Meaning.{Out, done, failed, pruned, stuck}
use Rattle.scope.specs.Machine.{State}

-- where an outcome is a stop, the place and the state there are such
pub data StopsIn {X : Type 0} (Q : ℕ → State → Type 0) : Out State X → Type 0 where
  goes_on : {x : X} → StopsIn Q (done x)
  at_fail : {p : ℕ} {s : State} → Q p s → StopsIn Q (failed p s)
  at_pruned : {p : ℕ} {s : State} → Q p s → StopsIn Q (pruned p s)
  no_rule : StopsIn Q stuck
