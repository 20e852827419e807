-- `cells::read_eight` meets its contract: a byte is the number of its bits.
use mathlib.Core.Path.{sym, ap, ◌∙◌}
use native.Mathlib.Omega.{arith}
use Rattle.report.specs.Bits.{number_from}
use Rattle.common.specs.Bits.{bits_of_byte}
use Rattle.cells.proofs.read_eight.Goals as goal

pub returns : goal.returns
returns c = sym (bits_of_byte c.eight_at.result (omega arith)) ∙ ap (number_from 0) c.eight_at.ensures
