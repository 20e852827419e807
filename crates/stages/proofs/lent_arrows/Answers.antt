-- `stages::lent_arrows` meets its contract: tables that are refused, or else their arrows.
use mathlib.Core.Path.{◌∙◌}
use Rattle.stages.proofs.Lent.{verdict_stands, arrows_stop, arrows_last}
use Rattle.stages.proofs.lent_arrows.Goals as goal

pub returns-in_err-lent_tables : goal.returns-in_err-lent_tables
returns-in_err-lent_tables c = verdict_stands c.from_residual.result (arrows_stop _ _ _ _ _ c.in_err-lent_tables.ensures) c.from_residual.ensures.1

pub returns : goal.returns
returns c = c.check_arrows.ensures ∙ arrows_last _ _ _ _ _ c.in_ok-lent_tables.ensures
