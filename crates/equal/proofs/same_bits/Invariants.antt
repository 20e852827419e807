-- `equal::same_bits` meets its contract: whether the bits that are left are the same decides.
use mathlib.Core.Path.{◌≡◌}
use Prim.Native.Nat.{◌+◌, ◌-◌, ◌^◌, ◌≤◌, ◌<◌}
use Rattle.equal.proofs.Digits.{runs}
use Rattle.equal.proofs.same_bits.Given as goal

abbrev pub invariant-loop-k : goal.invariant-loop-k
invariant-loop-k l = (runs l.s l.p l.q l.n ≡ runs l.s (l.p + l.k) (l.q + l.k) (l.n - l.k)) × (l.k ≤ l.n) × (l.p + l.n < 2 ^ 40) × (l.q + l.n < 2 ^ 40)

abbrev pub decreases-loop-k : goal.decreases-loop-k
decreases-loop-k l = l.n - l.k
