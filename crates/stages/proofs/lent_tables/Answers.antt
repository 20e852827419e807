-- `stages::lent_tables` meets its contract: each check in its turn, and the first refusal is the answer.
use mathlib.Core.Path.{◌∙◌}
use native.Mathlib.Omega.{arith}
use Rattle.stages.proofs.Lent.{verdict_stands, nodes_stop, types_stop, records_stop, too_long_lem, rules_stop, walk_last}
use Rattle.stages.proofs.lent_tables.Goals as goal

pub returns-in_err-check_count : goal.returns-in_err-check_count
returns-in_err-check_count c =
    verdict_stands c.from_residual.result (nodes_stop _ _ _ _ c.in_err-check_count.ensures) c.from_residual.ensures.1

pub returns-in_err-type_count : goal.returns-in_err-type_count
returns-in_err-type_count c =
    let handed = c.from_residual-in_err-type_count in
    verdict_stands handed.result (types_stop _ _ _ _ c.in_ok-check_count.ensures c.in_err-type_count.ensures) handed.ensures.1

pub returns-in_err-check_records : goal.returns-in_err-check_records
returns-in_err-check_records c =
    let handed = c.from_residual-in_err-check_records in
    verdict_stands handed.result (records_stop _ _ _ _ c.in_ok-check_count.ensures c.in_ok-type_count.ensures c.in_err-check_records.ensures) handed.ensures.1

pub returns-then-tables-gt-DOSSIER_BYTES : goal.returns-then-tables-gt-DOSSIER_BYTES
returns-then-tables-gt-DOSSIER_BYTES c =
    too_long_lem _ _ _ _ c.in_ok-check_count.ensures c.in_ok-type_count.ensures c.in_ok-check_records.ensures c.if-tables-gt-DOSSIER_BYTES.true

pub returns-in_err-table : goal.returns-in_err-table
returns-in_err-table c =
    let handed = c.from_residual-in_err-table in
    verdict_stands handed.result
    (rules_stop _ _ _ _ c.in_ok-check_count.ensures c.in_ok-type_count.ensures c.in_ok-check_records.ensures (omega arith) _ c.requires
    c.in_err-table.was)
    handed.ensures.1

pub returns : goal.returns
returns c =
    c.walk.ensures
    ∙ walk_last _ _ _ _ c.in_ok-check_count.ensures c.in_ok-type_count.ensures c.in_ok-check_records.ensures (omega arith) _ c.requires c.in_ok-table.was
