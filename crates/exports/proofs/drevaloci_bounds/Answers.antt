-- `exports::drevaloci_bounds` meets its contract, by what the call that it wraps promises.
use Rattle.exports.proofs.Told.{bounds_told, unbounded_told}
use Rattle.exports.proofs.drevaloci_bounds.Goals as goal

pub returns-in-Ok : goal.returns-in-Ok
returns-in-Ok c = bounds_told c.bounds_stage.result _ c.bounds_stage.ensures c.in-Ok.totals c.in-Ok.is

pub returns-in-Err : goal.returns-in-Err
returns-in-Err c = unbounded_told c.bounds_stage.result _ c.bounds_stage.ensures _ c.in-Err.is _ _ c.number.ensures c.place.ensures
