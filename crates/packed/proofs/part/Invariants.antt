-- `packed::part` meets its contract. The loop's invariant: what is left to be passed over leads to the same bytes.
use Rattle.std.proofs.Common.{◌≡◌, ◌-◌}
use Rattle.packed.specs.Records.{after_parts}
use Rattle.packed.proofs.part.Given as goal

abbrev pub invariant-loop-j : goal.invariant-loop-j
invariant-loop-j l = after_parts l.«record» l.first (l.k - l.first) l.initial.rest ≡ after_parts l.«record» l.j (l.k - l.j) l.rest
