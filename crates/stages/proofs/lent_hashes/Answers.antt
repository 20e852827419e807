-- `stages::lent_hashes` meets its contract: tables that are refused up to their arrows, or else the supplied hashes.
use mathlib.Core.Path.{◌∙◌}
use Rattle.stages.proofs.Lent.{verdict_stands, hashes_stop, hashes_last}
use Rattle.stages.proofs.lent_hashes.Goals as goal

pub returns-in_err-lent_arrows : goal.returns-in_err-lent_arrows
returns-in_err-lent_arrows c = verdict_stands c.from_residual.result (hashes_stop _ _ _ _ _ _ c.in_err-lent_arrows.ensures) c.from_residual.ensures.1

pub returns : goal.returns
returns c = c.check_hashes.ensures ∙ hashes_last _ _ _ _ _ _ c.in_ok-lent_arrows.ensures
