-- `analysis::node_rows` meets its contract: a pass upwards finds the bounds of the nodes below, and past the end of the table there is nothing.
use mathlib.Core.Path.{◌≡◌, ap, ◌∙◌}
use Prim.Native.Nat.{◌<◌}
use native.Mathlib.Omega.{arith}
use lib.ListN.{length, set, replicate}
use Rattle.limits.specs.Limits.{node_count}
use Rattle.scope.specs.Types.{type_records}
use Rattle.scope.specs.Nodes.{node_records}
use Rattle.scope.specs.Arrows.{arrow_records}
use Rattle.scope.specs.Bounds.{fail_row, no_row}
use Rattle.table.specs.Answers.{record_of}
use Rattle.analysis.specs.Held.{held}
use Rattle.analysis.proofs.Tables.{held_at, bound_past, child_read, row_made}
use Rattle.common.specs.Filling.{fill_start, fill_more, fill_end}
use Rattle.analysis.proofs.node_rows.Goals as goal

pub loop-i-init : goal.loop-i-init
unfolding fail_row no_row
loop-i-init c =
    let args = c.args in
    ap (λ x. replicate node_count x) c.fail_row-none.ensures
    ∙ fill_start (held_at (type_records args.types.now) args.widths.now (node_records args.nodes.now) (arrow_records args.arrows.now))
    (held no_row) node_count

pub loop-i-preserved : goal.loop-i-preserved
loop-i-preserved c =
    let args = c.args in
    let types = type_records args.types.now in
    let nodes = node_records args.nodes.now in
    let arrows = arrow_records args.arrows.now in
    let turn = c.loop-i in
    let own = c.record_at-r in
    let low : turn.i < length nodes = omega arith in
    let made : c.row.result ≡ held_at types args.widths.now nodes arrows turn.i =
    row_made types args.widths.now nodes arrows turn.i low (record_of own.result) own.ensures _ _ _
    (child_read types args.widths.now nodes arrows turn.i own.result.first (omega arith) turn.rows c.below.result turn.invariant c.below.ensures.0)
    (child_read types args.widths.now nodes arrows turn.i own.result.second (omega arith) turn.rows c.below-in-loop-i.result turn.invariant
    c.below-in-loop-i.ensures.0)
    c.row.ensures in
    ap (λ l. set l turn.i c.row.result) turn.invariant
    ∙ fill_more (held_at types args.widths.now nodes arrows) (held no_row) node_count turn.i c.row.result (omega arith) made

pub returns : goal.returns
returns c =
    let args = c.args in
    let turn = c.loop-i in
    turn.invariant
    ∙ fill_end (held_at (type_records args.types.now) args.widths.now (node_records args.nodes.now) (arrow_records args.arrows.now))
    (held no_row) node_count turn.i (omega arith)
    (λ j g h. ap held
    (bound_past (type_records args.types.now) args.widths.now (node_records args.nodes.now) (arrow_records args.arrows.now) j (omega arith)))
