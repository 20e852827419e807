-- `arrow::every_node` meets its contract: the nodes so far keep their rule, and the first that repeats an earlier one is still to come.
use mathlib.Core.Path.{sym, ap, ◌∙◌}
use native.Mathlib.Omega.{arith}
use Rattle.refusal.specs.declared.Refusal.{Refusal}
use Rattle.scope.specs.Check.{refused}
use Rattle.common.specs.Nodes.{length_records}
use Rattle.common.specs.Passes.{pass_start, pass_more, pass_fails, pass_ends}
use Rattle.arrow.specs.Stage.{lent_refusal}
use Rattle.arrow.proofs.Judged.{same_index, still_ahead, fresh_before, repeats_there, repeat_refused, arrow_refused, node_kept}
use Rattle.arrow.proofs.every_node.Goals as goal

pub loop-i-init : goal.loop-i-init
loop-i-init c = (pass_start _ _, (λ j e. omega arith))

pub returns-then-eq : goal.returns-then-eq
returns-then-eq c =
    let a = c.args.tables.now in
    let n = c.args.table.now.nodes.now in
    let again = repeat_refused a.types.now n a.arrows.now a.program.now a.hashes.now c.loop-i.i
    (repeats_there a.types.now n a.arrows.now a.program.now a.hashes.now c.args.table.now.few _ c.first_repeat-again.ensures c.loop-i.i
    (same_index _ _ (sym c.if-eq.ensures))) in
    ap (λ (why : Refusal). refused why) again.1
    ∙ pass_fails _ _ (lent_refusal a.types.now n a.arrows.now a.program.now a.hashes.now) c.loop-i.i
    (omega (arith, length_records n)) again.0 c.loop-i.invariant.0

pub returns-then-not-arrow_fits : goal.returns-then-not-arrow_fits
returns-then-not-arrow_fits c =
    let a = c.args.tables.now in
    let n = c.args.table.now.nodes.now in
    let wrong = arrow_refused a.types.now n a.arrows.now a.program.now a.hashes.now c.loop-i.i
    (fresh_before a.types.now n a.arrows.now a.program.now a.hashes.now c.args.table.now.few _ c.first_repeat-again.ensures c.loop-i.i
    (omega (arith, length_records n)) (still_ahead _ _ (sym c.if-eq.ensures) c.loop-i.invariant.1))
    (sym c.if-not-arrow_fits.ensures) in
    ap (λ (why : Refusal). refused why) wrong.1
    ∙ pass_fails _ _ (lent_refusal a.types.now n a.arrows.now a.program.now a.hashes.now) c.loop-i.i
    (omega (arith, length_records n)) wrong.0 c.loop-i.invariant.0

pub loop-i-preserved : goal.loop-i-preserved
loop-i-preserved c =
    let a = c.args.tables.now in
    let n = c.args.table.now.nodes.now in
    let ahead = still_ahead _ _ (sym c.if-eq.ensures) c.loop-i.invariant.1 in
    let kept = node_kept a.types.now n a.arrows.now a.program.now a.hashes.now c.loop-i.i
    (fresh_before a.types.now n a.arrows.now a.program.now a.hashes.now c.args.table.now.few _ c.first_repeat-again.ensures c.loop-i.i
    (omega (arith, length_records n)) ahead)
    (sym c.if-not-arrow_fits.ensures) in
    (pass_more _ _ c.loop-i.i (omega (arith, length_records n)) kept c.loop-i.invariant.0, (λ j e. omega (arith, ahead j e)))

pub returns : goal.returns
returns c =
    pass_ends _ _ (lent_refusal c.args.tables.now.types.now c.args.table.now.nodes.now c.args.tables.now.arrows.now c.args.tables.now.program.now c.args.tables.now.hashes.now) c.loop-i.i
    (omega (arith, length_records c.args.table.now.nodes.now)) c.loop-i.invariant.0
