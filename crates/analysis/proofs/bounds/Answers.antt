-- `analysis::bounds` meets its contract: after the count, what is judged is the last node's row with its ends.
use mathlib.Core.Path.{◌≡◌, refl, sym, ap, ◌∙◌}
use Prim.Native.Nat.{◌-◌, ◌/◌}
use native.Mathlib.Omega.{arith}
use lib.ListN.{length}
use Rattle.limits.specs.Limits.{node_numbers, cell_count, frame_count}
use Rattle.scope.specs.Types.{type_records}
use Rattle.scope.specs.Nodes.{node_records}
use Rattle.scope.specs.Arrows.{arrow_records}
use Rattle.common.specs.Checks.{then_refuses, passes}
use Rattle.common.specs.Answers.{handed_on}
use Rattle.common.specs.Nodes.{length_records, fine_records}
use Rattle.analysis.specs.Held.{up_to}
use Rattle.lookup.specs.Lookup.{source_width, target_width}
use Rattle.analysis.specs.Limits.{bounded_of, limited, lent_totals, counted_bounds}
use Rattle.analysis.proofs.Whole.{row_read, totals_judged}
use Rattle.analysis.proofs.Tables.{held_at}
use Rattle.analysis.proofs.bounds.Goals as goal

pub returns-in_err-check_count : goal.returns-in_err-check_count
unfolding counted_bounds
returns-in_err-check_count c =
    ap bounded_of (handed_on c.from_residual.result c.in_err-check_count.was c.from_residual.ensures.1)
    ∙ sym (then_refuses _ _ _ (sym c.in_err-check_count.ensures))

pub overflow_sub-last : goal.overflow_sub-last
overflow_sub-last c = (fine_records c.args.nodes.now (sym c.in_ok-check_count.ensures)).0

pub overflow_cast-last : goal.overflow_cast-last
overflow_cast-last c = let some = fine_records c.args.nodes.now (sym c.in_ok-check_count.ensures) in record { fits = omega arith }

pub bounds-rows-last : goal.bounds-rows-last
bounds-rows-last c = let some = fine_records c.args.nodes.now (sym c.in_ok-check_count.ensures) in omega arith

pub returns : goal.returns
unfolding counted_bounds
returns c =
    let args = c.args in
    let types = type_records args.types.now in
    let nodes = node_records args.nodes.now in
    let arrows = arrow_records args.arrows.now in
    let counted = sym c.in_ok-check_count.ensures in
    let some = fine_records args.nodes.now counted in
    let at = length args.nodes.now / node_numbers - 1 in
    let last : at ≡ length nodes - 1 = omega (arith, length_records args.nodes.now) in
    c.judged.ensures
    ∙ totals_judged types args.widths.now nodes arrows _ c.source_width.result c.target_width.result _ _ _
    (row_read types args.widths.now nodes arrows c.node_rows-rows.result at (omega arith) c.node_rows-rows.ensures
    ∙ ap (held_at types args.widths.now nodes arrows) last)
    (c.source_width.ensures ∙ ap (source_width args.widths.now arrows) last)
    (c.target_width.ensures ∙ ap (target_width args.widths.now arrows) last)
    (c.up_to-cells.ensures ∙ ap (up_to cell_count) (omega (arith, c.wide.ensures.0, c.wide-2.ensures.0, c.wide-3.ensures.0)))
    (c.up_to-frames.ensures ∙ ap (up_to frame_count) (omega (arith, c.wide-4.ensures.0))) refl
    ∙ passes counted (λ x. limited (lent_totals types args.widths.now nodes arrows))
