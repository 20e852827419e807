-- `exports::drevaloci_walk` meets its contract, by what the call that it wraps promises.
use Rattle.exports.proofs.Told.{check_told}
use Rattle.exports.proofs.drevaloci_walk.Goals as goal

pub returns : goal.returns
returns c =
    check_told c.walk_stage.result _ c.walk_stage.ensures
    c.answer_of-walked.result c.answer_of-walked.ensures _ _ c.answer_code.ensures c.answer_told.ensures
