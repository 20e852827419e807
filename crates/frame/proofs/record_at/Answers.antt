-- `frame::record_at` meets its contract.
use mathlib.Core.Path.{◌∙◌}
use Rattle.frame.proofs.Records.{record_in, record_past}
use Rattle.frame.proofs.record_at.Goals as goal

pub returns-then-frames-k : goal.returns-then-frames-k
returns-then-frames-k c = c.none.ensures ∙ record_past _ _ c.if-frames-k.true

pub returns : goal.returns
returns c = record_in _ _ c.if-frames-k.false
