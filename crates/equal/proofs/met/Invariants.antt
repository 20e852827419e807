-- `equal::met` meets its contract: the search along the bucket.
use Rattle.equal.proofs.Chains.{Searched}
use Rattle.equal.proofs.met.Given as goal

abbrev pub invariant-loop-m : goal.invariant-loop-m
invariant-loop-m l = Searched l.nodes l.arrows l.program l.hashes l.i l.m

abbrev pub decreases-loop-m : goal.decreases-loop-m
decreases-loop-m l = l.m
