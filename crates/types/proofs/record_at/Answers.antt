-- `types::record_at` meets its contract: past the last whole record there is none.
use mathlib.Core.Path.{ap, sym}
use native.Mathlib.Omega.{arith}
use Rattle.types.specs.Table.{record_of}
use Rattle.types.proofs.Records.{record_past}
use Rattle.types.proofs.record_at.Goals as goal

pub returns-then-types-i : goal.returns-then-types-i
returns-then-types-i c = ap record_of (sym (record_past c.args.types.now c.args.i (omega arith)))
