-- `decode::Reader::child` meets its contract: a distance is at most the index, so the difference is the child.
use mathlib.Core.Path.{ap, sym, ◌∙◌}
use Rattle.scope.specs.Reading.{natural_up_to}
use Rattle.scope.specs.Numbers.{stream_of}
use Rattle.common.specs.Answers.{handed_on}
use Rattle.bititer.proofs.Naturals.{up_to_got}
use Rattle.decode.specs.Answers.{number_of}
use Rattle.decode.proofs.Heads.{was_read, child_stops, child_read}
use Rattle.decode.proofs.Reader.child.Goals as goal

pub returns-in_err-distance : goal.returns-in_err-distance
returns-in_err-distance c =
    ap number_of (handed_on c.from_residual.result c.in_err-distance.was c.from_residual.ensures.1)
    ∙ child_stops (stream_of c.args.self.now.program.now) c.args.i c.args.at _ (sym c.in_err-distance.ensures)

pub overflow_sub-result : goal.overflow_sub-result
overflow_sub-result c =
    let bits = stream_of c.args.self.now.program.now in
    let i = c.args.i in
    let at = c.args.at in
    (up_to_got bits i at _ _ (was_read i (natural_up_to bits i at) c.in_ok-distance.ensures)).1

pub returns : goal.returns
returns c =
    let bits = stream_of c.args.self.now.program.now in
    let i = c.args.i in
    let at = c.args.at in
    child_read bits i at _ _ (was_read i (natural_up_to bits i at) c.in_ok-distance.ensures)
