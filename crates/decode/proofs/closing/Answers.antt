-- `decode::closing` meets its contract: the test holds, or it does not.
use mathlib.Core.Bool.{Bool}
use mathlib.Core.Path.{sym, ap, ◌∙◌}
use Rattle.refusal.specs.declared.Refusal.TheVariants.{Closing}
use Rattle.scope.specs.Check.{require}
use Rattle.decode.proofs.closing.Goals as goal

pub returns-then-closes : goal.returns-then-closes
unfolding require
returns-then-closes c = ap (λ (t : Bool). require t (Closing c.args.done.nodes)) (sym c.if-closes.true ∙ c.closes.ensures)

pub returns-else-closes : goal.returns-else-closes
unfolding require
returns-else-closes c = ap (λ (t : Bool). require t (Closing c.args.done.nodes)) (sym c.if-closes.false ∙ c.closes.ensures)
