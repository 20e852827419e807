-- `arrow::none_one_child` meets its contract.
use mathlib.Core.Path.{sym, ap, ◌∙◌}
use mathlib.Core.Bool.{not}
use native.Mathlib.Omega.{arith}
use borrow.Author.Tests.{eq-eqb, ne_eqb}
use Rattle.common.specs.Nodes.{length_records}
use Rattle.common.specs.Passes.{pass_start, pass_more, pass_fails, pass_ends}
use Rattle.table.specs.Answers.{record_of}
use Rattle.table.proofs.KindNumbers.{of_kind, not_of_kind}
use Rattle.arrow.proofs.KindNumbers.{one_child_is}
use Rattle.arrow.proofs.none_one_child.Goals as goal

pub loop-i-init : goal.loop-i-init
loop-i-init c = λ ts as'. pass_start _ _

pub returns-then-eq : goal.returns-then-eq
returns-then-eq c =
    λ ts as'. pass_fails _ _ _ c.loop-i.i (omega (arith, length_records c.args.table.now.nodes.now))
    (sym (one_child_is ts c.args.table.now.nodes.now as' c.loop-i.i (record_of c.record_at-r.result) c.record_at-r.ensures) ∙ ap not (eq-eqb _ _ (of_kind _ _ _ c.eq.ensures c.kind_of.ensures.number c.if-eq.true)))
    (c.loop-i.invariant ts as')

pub loop-i-preserved : goal.loop-i-preserved
loop-i-preserved c =
    λ ts as'. pass_more _ _ c.loop-i.i (omega (arith, length_records c.args.table.now.nodes.now))
    (sym (one_child_is ts c.args.table.now.nodes.now as' c.loop-i.i (record_of c.record_at-r.result) c.record_at-r.ensures) ∙ ap not (ne_eqb _ _ (not_of_kind _ _ _ c.eq.ensures c.kind_of.ensures.number c.if-eq.false)))
    (c.loop-i.invariant ts as')

pub returns : goal.returns
returns c = λ ts as'. pass_ends _ _ _ c.loop-i.i (omega (arith, length_records c.args.table.now.nodes.now)) (c.loop-i.invariant ts as')
