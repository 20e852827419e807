use Rattle.layout.specs.Rules.{pushed}
use Rattle.layout.proofs.Mach.{length-records_of}
use Rattle.bit_machine.proofs.Frames.{stored}
use native.Mathlib.Omega.{arith}
use Rattle.bit_machine.proofs.rules.new_write_frame.Goals as goal

pub overflow_add-result : goal.overflow_add-result
overflow_add-result c = omega (arith, length-records_of c.args.frames.now)

pub returns : goal.returns
unfolding pushed
returns c = λ b. rw (stored _ _ _ c.put_record.ensures c.new.ensures)
