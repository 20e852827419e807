-- `analysis::bounds_stage` meets its contract: a refusal up to the arrows is the answer, and else what the pass judges is the program of the tables.
use mathlib.Core.Path.{refl, sym, ap, ◌∙◌}
use Rattle.types.specs.Table.{type_table}
use Rattle.types.specs.declared.TypeTable.{TypeTable}
use Rattle.common.specs.Checks.{then_refuses}
use Rattle.common.specs.Answers.{handed_on}
use Rattle.analysis.specs.Limits.{bounded_of, counted_bounds}
use Rattle.analysis.proofs.Stage.{stage_by, stage_last}
use Rattle.analysis.proofs.bounds_stage.Goals as goal

pub returns-in_err-table : goal.returns-in_err-table
returns-in_err-table c =
    let args = c.args.tables.now in
    ap bounded_of (handed_on {X = TypeTable} c.from_residual.result refl c.from_residual.ensures.1)
    ∙ sym (then_refuses _ _ _ (sym c.in_err-table.ensures.verdict))
    ∙ stage_by args.types.now args.nodes.now args.arrows.now args.program.now args.hashes.now

pub returns : goal.returns
unfolding type_table
returns c =
    let args = c.args.tables.now in
    c.bounds.ensures
    ∙ ap (λ (t : TypeTable). counted_bounds args.types.now t.widths args.nodes.now args.arrows.now) c.in_ok-table.ensures.made
    ∙ stage_last args.types.now args.nodes.now args.arrows.now args.program.now args.hashes.now (sym c.in_ok-table.ensures.verdict)
