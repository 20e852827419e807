-- Eight cells from a place on: the byte that begins there, or else two neighbours shifted together, whose sum fits a byte.
use Rattle.cells.proofs.Bytes.{byte_whole, across_fits, byte_across}
use native.Mathlib.Omega.{arith}
use Prim.Native.Nat.{◌%◌}
use Rattle.cells.proofs.eight_at.Goals as goal

pub returns-then-k-eq0 : goal.returns-then-k-eq0
returns-then-k-eq0 c =
    let a = c.args in
    byte_whole a.cells.now a.p c.entry_or-first.result (λ j. (c.type_inv.cells j).fits)
    c.entry_or-first.ensures c.if-k-eq0.true

pub overflow_add-result : goal.overflow_add-result
overflow_add-result c =
    let a = c.args in
    record { fits = across_fits c.entry_or-first.result c.entry_or.result (a.p % 8) (omega arith) (omega arith) (omega arith) }

pub returns : goal.returns
returns c =
    let a = c.args in
    byte_across a.cells.now a.p c.entry_or-first.result c.entry_or.result
    (λ j. (c.type_inv.cells j).fits) c.entry_or-first.ensures c.entry_or.ensures
