-- `bit_machine::rules::back` meets its contract.
use native.Mathlib.Omega.{arith}
use mathlib.Core.Path.{sym, ap, ◌∙◌}
use Rattle.scope.specs.Machine.{backward}
use Rattle.layout.proofs.Rules.{backed_zero, backed_some}
use Rattle.bit_machine.proofs.Frames.{stored}
use Rattle.bit_machine.proofs.rules.back.Goals as goal

pub returns-then-n-eq0 : goal.returns-then-n-eq0
returns-then-n-eq0 c = λ b. sym (backed_zero _ _ c.if-n-eq0.true)

pub overflow_sub-k : goal.overflow_sub-k
overflow_sub-k c =
    let h = c.requires (omega arith) in
    omega (arith, c.records.ensures)

pub returns : goal.returns
returns c =
    let moved = c.backed.ensures ∙ ap (backward _) c.record_at-f.ensures in
    let records = c.records.ensures in
    λ b. rw (
      stored _ _ _ c.put_record.ensures moved,
      records,
      backed_some _ _ c.if-n-eq0.false,
    )
