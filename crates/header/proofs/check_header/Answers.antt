-- `header::check_header` meets its contract: too short, too long, and the first wrong number.
use mathlib.Core.Path.{sym}
use native.Mathlib.Omega.{arith}
use Rattle.header.proofs.Rules.{too_short, too_long_lem, judged_wrong, judged_right}
use Rattle.header.proofs.check_header.Goals as goal
use Rattle.header.proofs.check_header.Goals.{then-dossier-lt-HEADER_BYTES-via-then-dossier-lt-HEADER_BYTES, then-dossier-lt-HEADER_BYTES-via-else-dossier-lt-HEADER_BYTES+then-dossier-gt-DOSSIER_BYTES}

pub returns-then-dossier-lt-HEADER_BYTES : goal.returns-then-dossier-lt-HEADER_BYTES
returns-then-dossier-lt-HEADER_BYTES c =
    elim c.then-dossier-lt-HEADER_BYTES.branch [
      | then-dossier-lt-HEADER_BYTES-via-then-dossier-lt-HEADER_BYTES w ↦ sym (too_short _ w.if-dossier-lt-HEADER_BYTES.true)
      | then-dossier-lt-HEADER_BYTES-via-else-dossier-lt-HEADER_BYTES+then-dossier-gt-DOSSIER_BYTES w ↦ sym (too_long_lem _ w.if-dossier-gt-DOSSIER_BYTES.true)
    ]

pub returns-in-Some : goal.returns-in-Some
returns-in-Some c = sym (judged_wrong _ c.if-dossier-lt-HEADER_BYTES.false c.if-dossier-gt-DOSSIER_BYTES.false _ c.in-Some.ensures.0 (omega (arith, c.in-Some.ensures)))

pub returns-in-None : goal.returns-in-None
returns-in-None c = sym (judged_right _ c.if-dossier-lt-HEADER_BYTES.false c.if-dossier-gt-DOSSIER_BYTES.false c.in-None.ensures)
