-- `hashes::none_clashes` meets its contract.
use mathlib.Core.Path.{sym, ap, ◌∙◌}
use mathlib.Core.Bool.{not}
use native.Mathlib.Omega.{arith}
use Rattle.refusal.specs.declared.Refusal.TheVariants.{Hash}
use Rattle.common.specs.Passes.{pass_start, pass_more, pass_fails, pass_ends}
use Rattle.hashes.proofs.none_clashes.Goals as goal

pub loop-e-init : goal.loop-e-init
loop-e-init c = pass_start _ _

pub returns-then-clashes : goal.returns-then-clashes
returns-then-clashes c =
    pass_fails _ _ Hash c.loop-e.e (omega arith) (ap not (sym c.clashes.ensures ∙ c.if-clashes.true)) c.loop-e.invariant

pub loop-e-preserved : goal.loop-e-preserved
loop-e-preserved c = pass_more _ _ c.loop-e.e (omega arith) (ap not (sym c.clashes.ensures ∙ c.if-clashes.false)) c.loop-e.invariant

pub returns : goal.returns
returns c = pass_ends _ _ Hash c.loop-e.e (omega arith) c.loop-e.invariant
