-- `bititer::natural_refusal` meets its contract, case by case.
use mathlib.Core.Path.{sym, ap}
use Rattle.scope.specs.Reading.{refusal_at}
use Rattle.bititer.specs.declared.NaturalFault.{NaturalFault}
use Rattle.bititer.specs.Answers.{natural_fault}
use Rattle.bititer.proofs.natural_refusal.Goals as goal

pub returns-in-Ended : goal.returns-in-Ended
unfolding refusal_at
returns-in-Ended c = sym (ap (λ (w : NaturalFault). refusal_at c.args.i (natural_fault w)) c.in-Ended.is)

pub returns-in-TooLong : goal.returns-in-TooLong
unfolding refusal_at
returns-in-TooLong c = sym (ap (λ (w : NaturalFault). refusal_at c.args.i (natural_fault w)) c.in-TooLong.is)

pub returns-in-OverBound : goal.returns-in-OverBound
unfolding refusal_at
returns-in-OverBound c = sym (ap (λ (w : NaturalFault). refusal_at c.args.i (natural_fault w)) c.in-OverBound.is)
