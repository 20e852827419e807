-- `common::fill_from` meets its contract.
use mathlib.Core.List.{List}
use mathlib.Core.Path.{refl, ap, ◌∙◌}
use native.Mathlib.Omega.{arith}
use lib.ListN.{set, length-set}
use Rattle.common.specs.Stores.{fill_none, fill_more, fill_all}
use Rattle.common.proofs.fill_from.Goals as goal

pub loop-i-init : goal.loop-i-init
loop-i-init g c = (fill_none c.args.entry c.args.store.now c.args.from, refl)

pub loop-i-preserved : goal.loop-i-preserved
loop-i-preserved g c =
    let l = c.loop-i in
    let s = c.args.store.now in (
      ap (λ (x : List g.row.T.Denot). set x l.i c.args.entry) l.invariant.0 ∙ fill_more c.args.entry s c.args.from l.i (omega arith) (omega arith),
      simp length-set l.invariant.1,
    )

pub returns : goal.returns
returns g c =
    let l = c.loop-i in
    let s = c.args.store.now in
    l.invariant.0 ∙ fill_all c.args.entry s c.args.from l.i (omega arith) (omega arith)
