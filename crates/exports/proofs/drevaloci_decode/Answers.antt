-- `exports::drevaloci_decode` meets its contract, by what the call that it wraps promises.
use Rattle.exports.proofs.Told.{table_told, refusal_told}
use Rattle.exports.proofs.drevaloci_decode.Goals as goal

pub returns-in-Ok : goal.returns-in-Ok
returns-in-Ok c = table_told c.decode.result _ _ _ _ _ c.decode.ensures c.in-Ok.sizes c.in-Ok.is

pub returns-in-Err : goal.returns-in-Err
returns-in-Err c = refusal_told c.decode.result _ _ _ _ _ c.decode.ensures _ c.in-Err.is _ _ c.number.ensures c.place.ensures
