-- `bit_machine::rules::write_bits` meets its contract.
use native.Mathlib.Omega.{arith}
use mathlib.Core.Path.{sym, ap, ◌∙◌}
use Rattle.report.specs.Bits.{bits_of}
use Rattle.layout.proofs.Safe.{fed_bits}
use Rattle.bit_machine.proofs.Bits.{none_written, some_written, put_within}
use Rattle.bit_machine.proofs.rules.write_bits.Goals as goal

pub returns-then-n-eq0 : goal.returns-then-n-eq0
returns-then-n-eq0 c = sym (none_written (bits_of c.args.source.now) c.args.p c.args.n c.if-n-eq0.true)

pub overflow_sub-k : goal.overflow_sub-k
overflow_sub-k c =
    let h = c.requires.write_ok (omega arith) in
    omega arith

pub advance-requires : goal.advance-requires
advance-requires c =
    let h = c.requires.write_ok (omega arith) in
    let cursor = ap (λ f. f.cursor) c.record_at-f.ensures in
    record {
      f_value = c.record_at-f.ensures;
      n_bound = omega (arith, fed_bits c.requires.fed);
    }

pub returns : goal.returns
returns c =
    let fits = c.requires.n_in_bounds in
    let put = c.put_bits.ensures ∙ put_within _ _ _ _ _ fits in
    let cursor = ap (λ f. f.cursor) c.record_at-f.ensures in
    rw (c.advance.ensures, put, cursor)
    (sym (some_written _ _ _ _ fits c.if-n-eq0.false))
