-- The ones that begin a natural. The invariant: the natural from p on is what as many lengths as ones were passed lead to from the
-- natural that is left.
use mathlib.Core.Path.{◌≡◌}
use Prim.Native.Nat.{◌-◌}
use lib.ListN.{drop}
use Rattle.scope.specs.Numbers.{stream_of}
use Rattle.scope.specs.Naturals.{read_natural}
use Rattle.bititer.specs.Parts.{of_lengths}
use Rattle.bititer.proofs.ones.Given as goal

abbrev pub invariant-loop-at : goal.invariant-loop-at
invariant-loop-at l = read_natural (drop l.p (stream_of l.s)) ≡ of_lengths (l.at - l.p) (read_natural (drop l.at (stream_of l.s)))
