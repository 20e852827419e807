-- `table::walk_from` and `table::walk_child` meet their contracts. The index falls: a child that is walked is below its parent.
-- `walk_from` at node i is measured by 2 * i + 1, `walk_child` at a child of node i by 2 * i.
use Rattle.table.proofs.Steps.{child_below, child_not_below, walk_done, left_stops, right_stops, both_pass}
use Rattle.table.specs.Answers.{walked_of}
use Rattle.common.specs.Answers.{handed_on}
use mathlib.Core.Path.{sym, ap, ◌∙◌, refl}
use Rattle.table.proofs.+walk_child_walk_from.Goals as goal

pub walk_child-returns-then-i-j : goal.walk_child-returns-then-i-j
walk_child-returns-then-i-j t c = sym (child_not_below _ _ _ _ c.if-i-j.true)

pub walk_child-returns : goal.walk_child-returns
walk_child-returns t c = c.walk_from.ensures ∙ sym (child_below _ _ _ _ c.if-i-j.false)

pub walk_from-returns-then-i-done : goal.walk_from-returns-then-i-done
walk_from-returns-then-i-done t c =
    walk_done c.args.hashes.now c.args.nodes.now
    c.args.i _ refl _ c.requires.0 c.if-i-done.true

pub walk_from-returns-in_err-some : goal.walk_from-returns-in_err-some
walk_from-returns-in_err-some t c =
    ap walked_of (handed_on c.from_residual.result c.in_err-some.was c.from_residual.ensures.1)
    ∙ left_stops _ _ _ _ c.record_at-r.ensures _ c.requires.0 c.if-i-done.false _ _ c.left_child.ensures (sym c.in_err-some.ensures)

pub walk_from-returns-in_err-all : goal.walk_from-returns-in_err-all
walk_from-returns-in_err-all t c =
    let handed = c.from_residual-in_err-all in
    ap walked_of (handed_on handed.result c.in_err-all.was handed.ensures.1)
    ∙ right_stops _ _ _ _ c.record_at-r.ensures _ c.requires.0 c.if-i-done.false _ _ _ _ c.left_child.ensures (sym c.in_ok-some.ensures)
    c.right_child.ensures (sym c.in_err-all.ensures)

pub walk_from-returns : goal.walk_from-returns
walk_from-returns t c =
    c.arrive.ensures
    ∙ both_pass _ _ _ _ c.record_at-r.ensures _ c.requires.0 c.if-i-done.false _ _ _ _ c.left_child.ensures (sym c.in_ok-some.ensures)
    c.right_child.ensures (sym c.in_ok-all.ensures)
