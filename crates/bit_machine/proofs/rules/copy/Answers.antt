-- `bit_machine::rules::copy` meets its contract.
use native.Mathlib.Omega.{arith}
use mathlib.Core.Path.{sym, ap}
use Rattle.layout.proofs.Safe.{fed_bits}
use Rattle.layout.proofs.Rules.{copied_zero, copied_some}
use Rattle.bit_machine.proofs.rules.copy.Goals as goal

pub returns-then-n-eq0 : goal.returns-then-n-eq0
returns-then-n-eq0 c = sym (copied_zero _ _ c.if-n-eq0.true)

pub overflow_sub-k : goal.overflow_sub-k
overflow_sub-k c =
    let h = (c.requires.copy_ok (omega arith)).to in
    omega arith

pub overflow_sub-records : goal.overflow_sub-records
overflow_sub-records c =
    let h = (c.requires.copy_ok (omega arith)).from in
    omega (arith, c.records.ensures)

pub advance-requires : goal.advance-requires
advance-requires c =
    let h = (c.requires.copy_ok (omega arith)).to in
    let cursor = ap (λ f. f.cursor) c.record_at-to.ensures in
    record {
      f_value = c.record_at-to.ensures;
      n_bound = omega (arith, fed_bits c.requires.fed);
    }

pub returns : goal.returns
returns c =
    let copied = c.copy_cells.ensures in
    let to = ap (λ f. f.cursor) c.record_at-to.ensures in
    let from = c.cursor_at-from.ensures in
    let records = c.records.ensures in
    let some = c.if-n-eq0.false in
    rw (c.advance.ensures, copied, to, from, records, copied_some _ _ some)
