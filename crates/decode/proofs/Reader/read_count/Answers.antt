-- `decode::Reader::read_count` meets its contract: the natural is refused, or the store has no room, or it is the count.
use mathlib.Core.Path.{sym, ap, ◌∙◌}
use native.Mathlib.Omega.{arith}
use Rattle.limits.specs.Limits.{node_count}
use Rattle.scope.specs.Reading.{natural_up_to}
use Rattle.scope.specs.Numbers.{stream_of}
use Rattle.common.specs.Answers.{handed_on}
use Rattle.decode.specs.Answers.{number_of}
use Rattle.decode.proofs.Tables.{count_stops, count_short, count_read}
use Rattle.decode.proofs.Heads.{was_read}
use Rattle.decode.proofs.Reader.read_count.Goals as goal

pub returns-in_err-n : goal.returns-in_err-n
returns-in_err-n c =
    ap number_of (handed_on c.from_residual.result c.in_err-n.was c.from_residual.ensures.1)
    ∙ count_stops (stream_of c.args.self.now.program.now) c.args.room _ (sym c.in_err-n.ensures)

pub returns-then-room-place : goal.returns-then-room-place
returns-then-room-place c =
    let bits = stream_of c.args.self.now.program.now in
    let e = was_read 0 (natural_up_to bits node_count 0) c.in_ok-n.ensures in
    count_short bits c.args.room _ _ e (omega (arith, c.if-room-place.true, c.place.ensures.0))

pub returns : goal.returns
returns c =
    let bits = stream_of c.args.self.now.program.now in
    let e = was_read 0 (natural_up_to bits node_count 0) c.in_ok-n.ensures in
    count_read bits c.args.room _ _ e (omega (arith, c.if-room-place.false, c.place.ensures.0))
