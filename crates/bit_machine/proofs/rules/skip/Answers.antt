-- `bit_machine::rules::skip` meets its contract.
use native.Mathlib.Omega.{arith}
use mathlib.Core.Path.{sym, ap}
use Rattle.layout.proofs.Rules.{skipped_zero, skipped_some}
use Rattle.bit_machine.proofs.rules.skip.Goals as goal

pub returns-then-n-eq0 : goal.returns-then-n-eq0
returns-then-n-eq0 c = λ b. sym (skipped_zero _ _ c.if-n-eq0.true)

pub overflow_sub-k : goal.overflow_sub-k
overflow_sub-k c =
    let h = c.requires (omega arith) in
    omega arith

pub advance-requires : goal.advance-requires
advance-requires c =
    let h = c.requires (omega arith) in
    let cursor = ap (λ f. f.cursor) c.record_at-f.ensures in
    record {
      f_value = c.record_at-f.ensures;
      n_bound = omega arith;
    }

pub returns : goal.returns
returns c = λ b. rw (c.advance.ensures, skipped_some _ _ c.if-n-eq0.false)
