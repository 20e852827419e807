-- `dossier::check_front` meets its contract.
use mathlib.Core.Path.{sym, ap, ◌∙◌}
use Rattle.common.specs.Answers.{check_of, handed_on}
use Rattle.types.specs.Table.{counted_types}
use Rattle.dossier.proofs.Front.{front_refused, front_types}
use Rattle.header.specs.Sections.{section_holds}
use Rattle.dossier.proofs.check_front.Goals as goal

pub returns-in_err-check_header : goal.returns-in_err-check_header
returns-in_err-check_header c =
    ap check_of (handed_on c.from_residual.result c.in_err-check_header.was c.from_residual.ensures.1 ∙ sym c.in_err-check_header.was)
    ∙ front_refused _ c.check_header.result c.check_header.ensures _ c.in_err-check_header.was

pub returns : goal.returns
returns c =
    front_types _ c.check_header.result c.check_header.ensures c.in_ok-check_header.was c.types_hold.result
    (c.types_hold.ensures ∙ ap counted_types (section_holds _ _ _ c.of.ensures))
