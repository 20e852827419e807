-- `table::walk_stage` meets its contract: 4 and 26, then the program's length, then the walk.
use mathlib.Core.Path.{sym, ◌∙◌}
use Rattle.table.proofs.Stages.{refusal_stands, stage_by, stage_too_long, stage_walks}
use Rattle.table.proofs.walk_stage.Goals as goal

pub returns-in_err-check_records : goal.returns-in_err-check_records
returns-in_err-check_records c =
    refusal_stands c.from_residual.result c.in_err-check_records.ensures c.from_residual.ensures.1 _ ∙ sym (stage_by _ _ _)

pub returns-then-program-gt-DOSSIER_BYTES : goal.returns-then-program-gt-DOSSIER_BYTES
returns-then-program-gt-DOSSIER_BYTES c = stage_too_long _ _ _ (sym c.in_ok-check_records.ensures) c.if-program-gt-DOSSIER_BYTES.true

pub returns : goal.returns
returns c = c.walk.ensures ∙ stage_walks _ _ _ (sym c.in_ok-check_records.ensures) c.if-program-gt-DOSSIER_BYTES.false
