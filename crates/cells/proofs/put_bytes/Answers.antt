-- Whole bytes of a source put into the cells. The invariant: putting all k bytes into the old list is putting those left into the list as
-- it is now, as bits.
use Rattle.cells.proofs.Parts.{put_done}
use Rattle.cells.proofs.Runs.{byte_bits_lem, put_byte}
use Rattle.common.specs.Cells.{bits_from}
use Rattle.report.specs.Bits.{bits_of}
use Prim.Native.Nat.{ℕ, ◌+◌, ◌*◌}
use mathlib.Core.Path.{◌≡◌, ap, sym, ◌∙◌}
use native.Mathlib.Omega.{arith}
use Rattle.cells.proofs.put_bytes.Goals as goal

pub loop-j-preserved : goal.loop-j-preserved
loop-j-preserved c =
    let a = c.args in
    let l = c.loop-j in
    let s = a.source.now in
    let e : 8 * (a.a + l.j) ≡ 8 * a.a + 8 * l.j = omega arith in
    l.invariant
    ∙ put_byte l.cells a.b a.k l.j _ (omega arith) (omega arith) (bits_of s) (8 * a.a)
    (byte_bits_lem s (a.a + l.j) ∙ ap (λ (q : ℕ). bits_from (bits_of s) q 8) e)

pub returns : goal.returns
returns c =
    let a = c.args in
    let l = c.loop-j in
    let s = bits_of a.source.now in
    sym (l.invariant ∙ put_done (bits_of l.cells) s (8 * a.a + 8 * l.j) (8 * a.b + 8 * l.j) (8 * a.k) (8 * l.j) (omega arith))
