-- A natural with its bound. The invariant: the natural from p on is what the lengths that are left lead to from n.
use mathlib.Core.Path.{◌≡◌}
use Prim.Native.Nat.{◌-◌, ◌≤◌}
use lib.ListN.{length, drop}
use Rattle.scope.specs.Numbers.{stream_of}
use Rattle.scope.specs.Naturals.{natural, read_natural}
use Rattle.bititer.specs.Parts.{of_lengths}
use Rattle.bititer.proofs.natural_by_lengths.Given as goal

abbrev pub invariant-loop : goal.invariant-loop
invariant-loop l =
    (read_natural (drop l.p (stream_of l.s)) ≡ of_lengths (l.lengths - l.counter) (natural l.n (drop l.at (stream_of l.s))))
    × (l.p ≤ l.at) × (l.at ≤ length (stream_of l.s))
