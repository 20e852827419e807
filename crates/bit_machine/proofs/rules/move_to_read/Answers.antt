-- `bit_machine::rules::move_to_read` meets its contract.
use native.Mathlib.Omega.{arith}
use Rattle.layout.specs.Rules.{moved}
use Rattle.layout.proofs.Mach.{length-records_of}
use Rattle.bit_machine.proofs.Frames.{stored}
use Rattle.bit_machine.proofs.rules.move_to_read.Goals as goal

pub overflow_add-reads : goal.overflow_add-reads
overflow_add-reads c = omega (arith, length-records_of c.args.frames.now)

pub returns : goal.returns
unfolding moved
returns c =
    let freed = stored _ _ _ c.put_record.ensures
    c.none.ensures in
    let put = stored _ _ _ c.put_record-2.ensures c.at_start.ensures in
    λ b. rw (
      put,
      freed,
      ← c.record_at-f.ensures,
      c.records.ensures,
    )
