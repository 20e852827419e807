-- `exports::drevaloci_run` meets its contract, by what the call that it wraps promises.
use Rattle.exports.proofs.Told.{job_told}
use Rattle.exports.proofs.drevaloci_run.Goals as goal

pub returns : goal.returns
returns c =
    let run_call = c.run-said in
    job_told _ run_call.result _ _ _ _ _ run_call.ensures _ _ c.answer_code.ensures c.answer_told.ensures
