use native.Mathlib.Omega.{arith}
use mathlib.Core.Path.{sym, ◌∙◌}
use mathlib.Core.List.{[]}
use Rattle.common.specs.Bits.{length_bits}
use Rattle.layout.proofs.Safe.{write_over, fed_bits}
use Rattle.scope.specs.Numbers.{stream_of}
use Rattle.bit_machine.proofs.Needs.{within_fed}
use Rattle.bit_machine.proofs.Written.{value_none, value_written}
use Rattle.ready.proofs.Checked.{shapes_shown}
use Rattle.bit_machine.proofs.values.write_value.Goals as goal

pub returns-then-n-eq0 : goal.returns-then-n-eq0
returns-then-n-eq0 c =
    value_none (shapes_shown c.args.shapes.now) c.args.k (stream_of c.args.source.now) c.args.p c.requires.reads
    c.entry_or-n.result c.entry_or-n.ensures c.if-n-eq0.true _

pub write_cursor-cursor-requires : goal.write_cursor-cursor-requires
write_cursor-cursor-requires c =
    let h = c.requires.write_ok
    (omega (arith, c.entry_or-n.ensures, c.if-n-eq0.false)) in
    (h.some, h.held)

pub skip-requires : goal.skip-requires
skip-requires c =
    λ pos.
    let e = c.entry_or-n.ensures in
    rw e (write_over [] (fed_bits (within_fed c.requires.within)) (c.requires.write_ok (rw e at pos)))

pub returns : goal.returns
returns c =
    let place-call = c.place in
    let width-call = c.entry_or-n in
    let if1-there = c.if-n-eq0 in
    let write-cursor-call = c.write_cursor-cursor in
    let pad-call = c.pad in
    let e = width-call.ensures in
    c.skip.ensures _
    ∙ value_written (shapes_shown c.args.shapes.now) c.args.k (stream_of c.args.source.now) c.args.p c.requires.reads
    width-call.result width-call.ensures _ _ _ _ _ if1-there.false
    (rw e (c.requires.write_ok (omega (arith, if1-there.false))))
    (let z = c.requires.within.cells in omega (arith, length_bits c.args.cells.now))
    write-cursor-call.result write-cursor-call.ensures pad-call.result _
    (rw (sym place-call.ensures.0) pad-call.ensures)
