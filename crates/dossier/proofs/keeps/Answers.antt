-- `dossier::keeps` meets its contract.
use Rattle.dossier.specs.Ends as Ends
use mathlib.Core.Path.{sym, ap, ◌∙◌}
use Rattle.dossier.proofs.keeps.Goals as goal

pub returns-in-Err : goal.returns-in-Err
returns-in-Err c = c.keeps_table.ensures ∙ ap Ends.keeps (sym c.in-Err.is)
