-- `common::half_at` meets its contract.
use mathlib.Core.Path.{sym}
use Rattle.common.specs.Numbers.{half_past}
use Rattle.common.proofs.half_at.Goals as goal

pub returns-then-bytes-at : goal.returns-then-bytes-at
returns-then-bytes-at c = sym (half_past c.args.bytes.now _ c.if-bytes-at.true)
