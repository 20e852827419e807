-- `arrow::one_each` meets its contract.
use mathlib.Core.Path.{sym, ap, ◌∙◌}
use lib.ListN.{length}
use borrow.Author.Tests.{eq-eqb, ne_eqb}
use Rattle.refusal.specs.declared.Refusal.TheVariants.{Arrow as BadArrow}
use Rattle.scope.specs.Check.{require, refused}
use Rattle.scope.specs.Nodes.{node_records}
use Rattle.scope.specs.Arrows.{arrow_records}
use Rattle.arrow.proofs.KindNumbers.{length_arrows}
use Rattle.arrow.proofs.one_each.Goals as goal

pub returns-then-arrows-place : goal.returns-then-arrows-place
unfolding require
returns-then-arrows-place c =
    ap (λ n. refused (BadArrow n)) c.count-n.ensures
    ∙ sym (rw (ne_eqb (length (arrow_records c.args.arrows.now)) (length (node_records c.args.table.now.nodes.now))
    (λ e. c.if-arrows-place.true (sym (length_arrows c.args.arrows.now) ∙ e ∙ sym (c.place.ensures.0 ∙ c.count-n.ensures)))))

pub returns : goal.returns
unfolding require
returns c =
    sym (rw (eq-eqb (length (arrow_records c.args.arrows.now)) (length (node_records c.args.table.now.nodes.now))
    (length_arrows c.args.arrows.now ∙ c.if-arrows-place.false ∙ c.place.ensures.0 ∙ c.count-n.ensures)))
