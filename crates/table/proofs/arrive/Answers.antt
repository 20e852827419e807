-- `table::arrive` meets its contract: the order is judged first, then what the node asks.
use mathlib.Core.Path.{sym, ap, ap₂, ◌∙◌}
use Rattle.common.specs.Answers.{handed_on, in_turn}
use Rattle.table.specs.Answers.{walked_of}
use Rattle.table.proofs.Steps.{turn_refused, turn_passed}
use Rattle.table.proofs.arrive.Goals as goal

pub returns-in_err-first_refusal : goal.returns-in_err-first_refusal
returns-in_err-first_refusal c =
    ap walked_of (handed_on c.from_residual.result c.in_err-first_refusal.was c.from_residual.ensures.1)
    ∙ turn_refused _ _ _ _ _ (sym (c.in_err-first_refusal.ensures ∙ ap₂ in_turn c.in_order.ensures c.allowed.ensures))

pub returns : goal.returns
returns c = turn_passed _ _ _ _ (sym (c.in_ok-first_refusal.ensures ∙ ap₂ in_turn c.in_order.ensures c.allowed.ensures))
