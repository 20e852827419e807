-- `hashes::unlike` meets its contract: both entries are there, so each is whole.
use mathlib.Core.Path.{ap, ap₂, ◌∙◌}
use mathlib.Core.Bool.{not}
use native.Mathlib.Omega.{arith}
use Rattle.promise.specs.Parts.{part_of}
use Rattle.scope.specs.Numbers.{same}
use Rattle.hashes.proofs.Branch.{entry_holds}
use Rattle.hashes.proofs.Entries.{entry_there, same_child}
use Rattle.hashes.proofs.unlike.Goals as goal

pub returns-then-children-d : goal.returns-then-children-d
returns-then-children-d c =
    let a = c.args in
    ap not (c.same_bytes.ensures
    ∙ ap₂ same (entry_holds _ (part_of a.given) a.d c.entry_at.ensures ∙ entry_there a.given.now a.d (omega arith))
    (entry_holds _ (part_of a.given) a.e c.entry_at-then-children-d.ensures ∙ entry_there a.given.now a.e (omega arith)))
    ∙ same_child a.children.now a.given.now a.e a.d c.if-children-d.true
