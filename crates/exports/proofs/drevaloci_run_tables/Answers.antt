-- `exports::drevaloci_run_tables` meets its contract, by what the call that it wraps promises.
use Rattle.exports.proofs.Told.{stage_told}
use Rattle.exports.proofs.drevaloci_run_tables.Goals as goal

pub returns : goal.returns
returns c =
    stage_told _ c.run_stage-said.result _ _ _
    c.run_stage-said.ensures _ _ c.answer_code.ensures
    c.answer_told.ensures
