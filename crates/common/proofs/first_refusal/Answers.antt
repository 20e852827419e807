-- `common::first_refusal` meets its contract: the first check's refusal, or the second check.
use mathlib.Core.Path.{refl}
use Rattle.common.specs.Answers.{handed_on}
use Rattle.scope.specs.Check.{◌>>=◌}
use Rattle.common.proofs.first_refusal.Goals as goal

pub returns-in_err-first : goal.returns-in_err-first
unfolding ◌>>=◌
returns-in_err-first c = rw (c.in_err-first.was, handed_on c.from_residual.result c.in_err-first.was c.from_residual.ensures.1) refl

pub returns : goal.returns
unfolding ◌>>=◌
returns c = rw c.in_ok-first.was refl
