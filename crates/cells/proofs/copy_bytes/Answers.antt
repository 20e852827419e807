-- Whole bytes copied. The invariant: the copy of all k bytes of the old list is that of the bytes left, in the list as it is now, as bits.
use Rattle.cells.proofs.Copies.{copy_done}
use Rattle.cells.proofs.Runs.{byte_bits_lem, bytes_apart, copy_byte}
use Rattle.common.specs.Cells.{bits_from}
use Rattle.report.specs.Bits.{bits_of}
use Prim.Native.Nat.{ℕ, ◌+◌, ◌*◌}
use mathlib.Core.Path.{◌≡◌, ap, sym, ◌∙◌}
use native.Mathlib.Omega.{arith}
use Rattle.cells.proofs.copy_bytes.Goals as goal

pub loop-i-preserved : goal.loop-i-preserved
loop-i-preserved c =
    let a = c.args in
    let l = c.loop-i in
    let e : 8 * (a.a + l.i) ≡ 8 * a.a + 8 * l.i = omega arith in
    l.invariant
    ∙ copy_byte l.cells a.b a.k l.i _ (omega arith) (omega arith) (8 * a.a) (bytes_apart a.a a.b)
    (byte_bits_lem l.cells (a.a + l.i) ∙ ap (λ (q : ℕ). bits_from (bits_of l.cells) q 8) e)

pub returns : goal.returns
returns c =
    let a = c.args in
    let l = c.loop-i in
    sym (l.invariant ∙ copy_done _ _ _ (8 * a.k) (8 * l.i) (omega arith))
