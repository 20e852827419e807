-- `hashes::rights_of` meets its contract.
use mathlib.Core.Path.{◌≡◌}
use mathlib.Core.List.{◌++◌}
use lib.ListN.{length, drop}
use Rattle.hashes.proofs.Rights.{found}
use Rattle.hashes.proofs.rights_of.Given as goal

abbrev pub invariant-loop-i : goal.invariant-loop-i
invariant-loop-i l = (l.count ≡ length (found l.table.nodes.now l.i)) × (l.children ≡ found l.table.nodes.now l.i ++ drop (length (found l.table.nodes.now l.i)) l.initial.children)
