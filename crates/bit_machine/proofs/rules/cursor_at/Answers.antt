use mathlib.Core.Path.{ap}
use Rattle.bit_machine.proofs.rules.cursor_at.Goals as goal

pub returns : goal.returns
returns c = ap (λ f. f.cursor) c.record_at-f.ensures
