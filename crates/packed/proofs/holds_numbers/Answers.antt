-- `packed::holds_numbers` meets its contract. The loop's invariant: the store holds the numbers exactly if it holds those left from this place on.
use Rattle.std.proofs.Common.{sym, ◌∙◌}
use Rattle.packed.specs.Lists.{unpacked}
use Rattle.packed.proofs.Lists.{unlike, like, ended, after_of, none_of}
use Rattle.packed.proofs.holds_numbers.Goals as goal

pub returns-then-entry-first_number : goal.returns-then-entry-first_number
returns-then-entry-first_number c =
    let a = c.args in
    let l = c.loop-entry in
    sym (l.invariant ∙ unlike a.store.now (unpacked l.left.now) a.rest l.entry-index _ c.loop-entry-test.true
    c.first_number.ensures c.if-entry-first_number.true)

pub loop-entry-preserved : goal.loop-entry-preserved
loop-entry-preserved c =
    let a = c.args in
    let l = c.loop-entry in
    let more = like a.store.now (unpacked l.left.now) a.rest l.entry-index _ c.loop-entry-test.true
    c.first_number.ensures c.if-entry-first_number.false in
    cc (l.invariant, more, after_of l.left.now, c.after_number-left.ensures)

pub returns : goal.returns
returns c =
    let a = c.args in
    let l = c.loop-entry in
    cc (l.invariant, none_of l.left.now, c.is_empty.ensures, ended a.store.now (unpacked l.left.now) a.rest l.entry-index c.loop-entry-test.false)
