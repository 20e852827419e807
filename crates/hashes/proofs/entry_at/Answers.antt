-- `hashes::entry_at` meets its contract.
use mathlib.Core.Path.{◌∙◌}
use Rattle.promise.specs.Parts.{part_of}
use Rattle.scope.specs.Hashes.{entry}
use Rattle.hashes.proofs.Branch.{entry_past}
use Rattle.hashes.proofs.entry_at.Goals as goal

pub returns-then-given-e : goal.returns-then-given-e
returns-then-given-e c =
    let a = c.args in
    c.part.ensures ∙ entry_past (part_of a.given) a.e c.if-given-e.true

pub returns : goal.returns
unfolding entry
returns c = c.hash_at.ensures
