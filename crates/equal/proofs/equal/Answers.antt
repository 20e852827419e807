-- `equal::equal` meets its contract.
use mathlib.Core.Path.{sym, ap₂, ◌∙◌}
use borrow.Author.Tests.{ne_eqb}
use Rattle.scope.specs.Nodes.{NodeRecord}
use Rattle.scope.specs.Equal.{same_key}
use Rattle.equal.specs.Keys.{record_key, key_at}
use Rattle.equal.proofs.KindKeys.{arrows_unlike, arrows_same}
use Rattle.equal.proofs.equal.Goals as goal

pub returns-then-arrow_number : goal.returns-then-arrow_number
unfolding key_at
returns-then-arrow_number c =
    let a = c.args in
    c.same_key.ensures
    ∙ ap₂ (λ (r s : NodeRecord). same_key (record_key a.program.now a.hashes.now r) (record_key a.program.now a.hashes.now s))
    c.record_in.ensures c.record_in-then-arrow_number.ensures
    ∙ arrows_same a.nodes.now a.arrows.now a.program.now a.hashes.now a.j a.i c.arrow_number.ensures.1 c.arrow_number-2.ensures.1
    (sym c.arrow_number.ensures.0 ∙ c.if-arrow_number.true ∙ c.arrow_number-2.ensures.0)

pub returns-else-arrow_number : goal.returns-else-arrow_number
returns-else-arrow_number c =
    let a = c.args in
    ne_eqb _ _ c.if-arrow_number.false
    ∙ arrows_unlike a.nodes.now a.arrows.now a.program.now a.hashes.now a.j a.i c.arrow_number.ensures.1 c.arrow_number-2.ensures.1
    (λ e. c.if-arrow_number.false (c.arrow_number.ensures.0 ∙ e ∙ sym c.arrow_number-2.ensures.0))
