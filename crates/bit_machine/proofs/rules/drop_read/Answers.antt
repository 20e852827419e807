-- `bit_machine::rules::drop_read` meets its contract.
use Rattle.layout.specs.Rules.{dropped}
use Rattle.bit_machine.proofs.Frames.{stored}
use Rattle.bit_machine.proofs.rules.drop_read.Goals as goal

pub returns : goal.returns
unfolding dropped
returns c =
    let freed = stored _ _ _ c.put_record.ensures c.none.ensures in
    λ b. rw (
      freed,
      ← c.records.ensures,
      ← c.record_at-f.ensures,
    )
