-- `decode::bytes_refusal` meets its contract, case by case.
use mathlib.Core.Path.{sym, ap}
use Rattle.scope.specs.Reading.{refusal_at}
use Rattle.bititer.specs.declared.BytesFault.{BytesFault}
use Rattle.bititer.specs.Answers.{bytes_fault}
use Rattle.decode.proofs.bytes_refusal.Goals as goal

pub returns-in-Ended : goal.returns-in-Ended
unfolding refusal_at
returns-in-Ended c = sym (ap (λ (w : BytesFault). refusal_at c.args.i (bytes_fault w)) c.in-Ended.is)

pub returns-in-NoRoom : goal.returns-in-NoRoom
unfolding refusal_at
returns-in-NoRoom c = sym (ap (λ (w : BytesFault). refusal_at c.args.i (bytes_fault w)) c.in-NoRoom.is)
