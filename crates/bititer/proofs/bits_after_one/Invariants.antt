-- The bits of a length. The invariant: the number that all of them make is the one that those left make of n, and n has a bit for each
-- that was read and one more, so that it fits.
use mathlib.Core.Path.{◌≡◌}
use Prim.Native.Nat.{◌+◌, ◌-◌, ◌^◌, ◌<◌}
use lib.ListN.{drop}
use Rattle.scope.specs.Numbers.{stream_of}
use Rattle.scope.specs.Naturals.{more_bits}
use Rattle.bititer.proofs.bits_after_one.Given as goal

abbrev pub invariant-loop : goal.invariant-loop
invariant-loop l =
    (more_bits l.count 1 (drop l.p (stream_of l.s)) ≡ more_bits (l.count - l.counter) l.n (drop l.at (stream_of l.s)))
    × (l.at ≡ l.p + l.counter) × (l.n < 2 ^ (l.counter + 1))
