-- `exports::drevaloci_natural` meets its contract, by what the call that it wraps promises.
use Rattle.exports.proofs.Told.{natural_told, fault_told}
use native.Mathlib.Omega.{arith}
use Rattle.bititer.specs.Answers.{got_natural}
use Rattle.bititer.proofs.Naturals.{natural_inside}
use mathlib.Core.Path.{sym, ap, ◌∙◌}
use Rattle.exports.proofs.drevaloci_natural.Goals as goal

pub overflow_add-next : goal.overflow_add-next
overflow_add-next c =
    let a = c.args in
    let read = sym (ap (got_natural a.at) c.in-Ok.is) ∙ c.natural.ensures in
    omega (arith, natural_inside a.bytes.now a.bound a.at _ _ (sym read))

pub returns-in-Ok : goal.returns-in-Ok
returns-in-Ok c = natural_told c.natural.result _ _ c.natural.ensures _ _ c.in-Ok.is

pub returns-in-Err : goal.returns-in-Err
returns-in-Err c = fault_told c.natural.result _ _ c.natural.ensures _ c.in-Err.is _ c.fault_code.ensures
