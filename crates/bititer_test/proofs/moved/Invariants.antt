-- The byte before, in the loop that moves a stream, is below 256.
use Prim.Native.Nat.{◌<◌}
use Rattle.bititer_test.proofs.moved.Given as goal

abbrev pub invariant-loop-i : goal.invariant-loop-i
invariant-loop-i l = l.before < 256
