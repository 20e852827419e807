-- `common::fill_from` meets its contract. The invariant: the store is as it was, with the entry from the index up to i.
use mathlib.Core.Path.{◌≡◌}
use lib.ListN.{length}
use Rattle.common.specs.Stores.{filled_to}
use Rattle.common.proofs.fill_from.Given as goal

abbrev pub invariant-loop-i : goal.invariant-loop-i
invariant-loop-i g l = (l.store ≡ filled_to l.entry l.initial.store l.from l.i) × (length l.store ≡ length l.initial.store)
