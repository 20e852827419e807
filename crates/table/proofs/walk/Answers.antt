-- `table::walk` meets its contract: the count, then the walk from the last node, which is not hidden.
use mathlib.Core.Path.{sym, ap, ◌∙◌}
use native.Mathlib.Omega.{arith}
use Rattle.scope.specs.Check.{require}
use Rattle.common.specs.Answers.{check_of, handed_on}
use Rattle.common.specs.Nodes.{length_records, fine_records}
use Rattle.table.specs.Stage.{counted_walk}
use Rattle.table.proofs.Stages.{refusal_stands, walk_stops, walk_ends}
use Rattle.table.proofs.walk.Goals as goal

pub returns-in_err-check_count : goal.returns-in_err-check_count
unfolding counted_walk
returns-in_err-check_count c = refusal_stands c.from_residual.result c.in_err-check_count.ensures c.from_residual.ensures.1 _

pub overflow_sub-last : goal.overflow_sub-last
overflow_sub-last c = (fine_records c.args.nodes.now (sym c.in_ok-check_count.ensures)).0

pub overflow_cast-last : goal.overflow_cast-last
overflow_cast-last c = let some = fine_records c.args.nodes.now (sym c.in_ok-check_count.ensures) in record { fits = omega arith }

pub walk_from-requires : goal.walk_from-requires
walk_from-requires c =
    let some = fine_records c.args.nodes.now (sym c.in_ok-check_count.ensures) in
    let n = length_records c.args.nodes.now in
    (omega arith, omega arith)

pub returns-in_err-walk_from : goal.returns-in_err-walk_from
returns-in_err-walk_from c =
    let handed = c.from_residual-in_err-walk_from in
    ap check_of (handed_on handed.result c.in_err-walk_from.was handed.ensures.1)
    ∙ walk_stops _ _ (sym c.in_ok-check_count.ensures) _ (sym c.in_err-walk_from.ensures)

pub returns-then-hidden_at : goal.returns-then-hidden_at
unfolding require
returns-then-hidden_at c =
    let p = walk_ends _ _ (sym c.in_ok-check_count.ensures) _ _ (sym c.in_ok-walk_from.ensures) c.hidden_at.ensures in rw c.if-hidden_at.true at p

pub returns : goal.returns
unfolding require
returns c =
    let p = walk_ends _ _ (sym c.in_ok-check_count.ensures) _ _ (sym c.in_ok-walk_from.ensures) c.hidden_at.ensures in rw c.if-hidden_at.false at p
