-- `common::number_at` meets its contract.
use mathlib.Core.Path.{sym}
use Rattle.common.specs.Numbers.{number_past}
use Rattle.common.proofs.number_at.Goals as goal

pub returns-then-bytes-at : goal.returns-then-bytes-at
returns-then-bytes-at c = sym (number_past c.args.bytes.now _ c.if-bytes-at.true)
