-- `exports::drevaloci_arrows` meets its contract, by what the call that it wraps promises.
use Rattle.exports.proofs.Told.{check_told}
use Rattle.exports.proofs.drevaloci_arrows.Goals as goal

pub returns : goal.returns
returns c =
    check_told c.arrow_stage.result _ c.arrow_stage.ensures
    c.answer_of-said.result c.answer_of-said.ensures _ _ c.answer_code.ensures c.answer_told.ensures
