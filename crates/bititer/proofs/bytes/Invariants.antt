-- Whole bytes into a store. The invariant: the store is as it was, with the first j of the bytes pasted in from `at` on.
use mathlib.Core.Path.{◌≡◌}
use Prim.Native.Nat.{◌+◌, ◌*◌, ◌≤◌}
use lib.ListN.{length, drop}
use lib.Seq.{paste}
use Rattle.report.specs.Bits.{bytes_of}
use Rattle.scope.specs.Numbers.{stream_of}
use Rattle.bititer.proofs.bytes.Given as goal

abbrev pub invariant-loop-j : goal.invariant-loop-j
invariant-loop-j l =
    (l.store ≡ paste l.initial.store l.at (bytes_of l.n (drop l.p (stream_of l.s))) l.j) × (length l.store ≡ length l.initial.store)
    × (l.p + 8 * l.n ≤ length (stream_of l.s)) × (l.at + l.n ≤ length l.initial.store)
