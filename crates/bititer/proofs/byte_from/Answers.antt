-- A byte that begins at a bit: whole at bit 0, and else two shifted neighbours, whose sum fits a byte.
use mathlib.Core.Path.{sym}
use Prim.Native.Nat.{◌+◌, ◌<◌}
use native.Mathlib.Omega.{arith}
use lib.ListN.{length, get_or}
use Rattle.bititer.proofs.Bits.{byte_at}
use Rattle.bititer.proofs.Octets.{byte_whole, byte_split}
use Rattle.bititer.proofs.byte_from.Goals as goal

pub returns-then-k-eq0 : goal.returns-then-k-eq0
returns-then-k-eq0 c =
    let a = c.args in
    sym (byte_whole a.s.now a.i a.k c.if-k-eq0.true (omega arith) (omega (arith, c.type_inv.s a.i)))

pub overflow_add-result-2 : goal.overflow_add-result-2
overflow_add-result-2 c =
    let a = c.args in
    let x = byte_at a.k (get_or a.s.now a.i 0) c.requires.0 (omega (arith, c.type_inv.s a.i)) in
    let y = byte_at a.k (get_or a.s.now (a.i + 1) 0) c.requires.0 (omega (arith, c.type_inv.s (a.i + 1))) in
    omega (arith, x.low_fits, y.high_small)

pub returns : goal.returns
returns c =
    let a = c.args in
    let h : a.i + 1 < length a.s.now = omega arith in
    sym (byte_split a.s.now a.i a.k c.requires.0 h
    (omega (arith, c.type_inv.s a.i)) (omega (arith, c.type_inv.s (a.i + 1))))
