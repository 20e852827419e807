-- `frame::put_record` meets its contract.
use mathlib.Core.Path.{◌∙◌}
use Prim.Native.Nat.{◌*◌}
use Rattle.limits.specs.Limits.{frame_numbers}
use Rattle.frame.specs.Cursor.{frame_of}
use Rattle.frame.proofs.Records.{numbers_set, put_in, put_past}
use Rattle.frame.proofs.put_record.Goals as goal

pub returns-then-frames-k : goal.returns-then-frames-k
returns-then-frames-k c = put_past _ _ (frame_of c.args.f) c.if-frames-k.true

pub returns : goal.returns
returns c =
    let args = c.args in
    numbers_set args.frames.now (frame_numbers * args.k) (frame_of args.f) ∙ put_in _ args.k (frame_of args.f) c.if-frames-k.false
