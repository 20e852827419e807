-- `packed::holds_numbers` meets its contract. The loop's invariant: the store holds the numbers exactly if it holds those left from this place on.
use Rattle.std.proofs.Common.{◌≡◌, drop}
use Rattle.packed.specs.Lists.{unpacked, holds_numbers}
use Rattle.packed.proofs.holds_numbers.Given as goal

abbrev pub invariant-loop-entry : goal.invariant-loop-entry
invariant-loop-entry l = holds_numbers l.store (unpacked l.list) l.rest ≡ holds_numbers (drop l.entry-index l.store) (unpacked l.left) l.rest
