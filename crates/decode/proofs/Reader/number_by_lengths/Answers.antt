-- `decode::Reader::number_by_lengths` meets its contract, case by case.
use native.Mathlib.Omega.{arith}
use mathlib.Core.Path.{sym, ap, ◌∙◌}
use Rattle.refusal.specs.declared.Refusal.{Refusal}
use Rattle.scope.specs.Check.{refused}
use Rattle.bititer.proofs.Naturals.{natural_inside}
use Rattle.decode.specs.Heads.{at_node}
use Rattle.decode.proofs.Reader.number_by_lengths.Goals as goal

pub overflow_add-result : goal.overflow_add-result
overflow_add-result c =
    let a = c.args in
    omega (arith, natural_inside a.self.now.program.now a.most a.at _ _ (sym c.in-Ok.ensures))

pub returns-in-Ok : goal.returns-in-Ok
unfolding at_node
returns-in-Ok c = ap (at_node c.args.i) c.in-Ok.ensures

pub returns-in-Err : goal.returns-in-Err
unfolding at_node
returns-in-Err c = ap (λ (r : Refusal). refused r) c.natural_refusal.ensures ∙ ap (at_node c.args.i) c.in-Err.ensures
