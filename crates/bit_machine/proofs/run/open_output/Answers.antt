use Rattle.bit_machine.proofs.Whole.{no_output, some_output}
use native.Mathlib.Omega.{arith}
use mathlib.Core.Path.{◌∙◌}
use Rattle.bit_machine.proofs.run.open_output.Goals as goal

pub returns-then-n-eq0 : goal.returns-then-n-eq0
returns-then-n-eq0 c = λ b. no_output _ _ c.if-n-eq0.true

pub new_write_frame-requires : goal.new_write_frame-requires
new_write_frame-requires c = c.requires (omega arith)

pub returns : goal.returns
returns c = λ b. c.new_write_frame.ensures b ∙ some_output _ _ c.if-n-eq0.false
