-- `common::same_bytes` meets its contract: what the comparison tells is what the test of two lists does.
use mathlib.Core.Path.{sym, ◌∙◌}
use lib.Pointwise.{bytes_decides}
use Rattle.common.specs.Checks.{same_told}
use Rattle.common.proofs.same_bytes.Goals as goal

pub returns : goal.returns
returns c =
    let told = bytes_decides c.args.a.now c.args.b.now in
    same_told c.eq.result _ _ (λ e. told.0 (sym c.eq.ensures ∙ e)) (λ e. c.eq.ensures ∙ told.1 e)
