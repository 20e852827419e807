-- `arrow::check_arrows` meets its contract.
use mathlib.Core.Path.{sym, ◌∙◌}
use Rattle.scope.specs.Types.{type_records}
use Rattle.scope.specs.Arrows.{arrow_records}
use Rattle.common.specs.Checks.{passes}
use Rattle.table.proofs.Stages.{refusal_stands}
use Rattle.arrow.specs.Stage.{counted_arrows}
use Rattle.arrow.proofs.Stages.{table_counted}
use Rattle.arrow.proofs.check_arrows.Goals as goal

pub returns-in_err-table : goal.returns-in_err-table
unfolding counted_arrows
returns-in_err-table c = refusal_stands c.from_residual.result c.in_err-table.ensures.verdict c.from_residual.ensures.1 _

pub returns-in_err-none_one_child : goal.returns-in_err-none_one_child
returns-in_err-none_one_child c =
    let a = c.args.tables.now in
    let handed = c.from_residual-in_err-none_one_child in
    refusal_stands handed.result (c.in_err-none_one_child.ensures (type_records a.types.now) (arrow_records a.arrows.now)) handed.ensures.1 _
    ∙ table_counted a.types.now a.arrows.now a.program.now a.hashes.now c.in_ok-table.table.nodes a.nodes
    c.in_ok-table.ensures.table (sym c.in_ok-table.ensures.verdict)

pub returns-in_err-one_each : goal.returns-in_err-one_each
returns-in_err-one_each c =
    let a = c.args.tables.now in
    let handed = c.from_residual-in_err-one_each in
    refusal_stands handed.result c.in_err-one_each.ensures handed.ensures.1 _
    ∙ passes (sym (c.in_ok-none_one_child.ensures (type_records a.types.now) (arrow_records a.arrows.now))) _
    ∙ table_counted a.types.now a.arrows.now a.program.now a.hashes.now c.in_ok-table.table.nodes a.nodes
    c.in_ok-table.ensures.table (sym c.in_ok-table.ensures.verdict)

pub returns : goal.returns
returns c =
    let a = c.args.tables.now in
    c.every_node.ensures
    ∙ passes (sym c.in_ok-one_each.ensures) _
    ∙ passes (sym (c.in_ok-none_one_child.ensures (type_records a.types.now) (arrow_records a.arrows.now))) _
    ∙ table_counted a.types.now a.arrows.now a.program.now a.hashes.now c.in_ok-table.table.nodes a.nodes
    c.in_ok-table.ensures.table (sym c.in_ok-table.ensures.verdict)
