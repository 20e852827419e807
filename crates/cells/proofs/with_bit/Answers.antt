-- A byte with one bit set. That nothing wraps, and that the bits are right, is what was computed for all bytes.
use Rattle.cells.proofs.Bytes.{bit_set}
use borrow.Author.Rules.{rules}
use Rattle.cells.proofs.with_bit.Goals as goal

pub overflow_add-result : goal.overflow_add-result
overflow_add-result c =
    let a = c.args in
    let h = bit_set a.x a.k a.b (search rules) c.requires.0 c.requires.1 in
    record { fits = h.fits }

pub returns : goal.returns
returns c =
    let a = c.args in
    let h = bit_set a.x a.k a.b (search rules) c.requires.0 c.requires.1 in
    h.bits
