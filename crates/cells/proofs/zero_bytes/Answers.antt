-- Whole bytes cleared: the bits of zero bytes are zeros.
use mathlib.Core.Path.{◌≡◌, ap, ◌∙◌}
use Prim.Native.Nat.{ℕ, ◌+◌, ◌*◌, ◌-◌}
use native.Mathlib.Omega.{arith}
use lib.ListN.{length, take, drop, length-drop, length-replicate}
use lib.Seq.{sets, length-take-le}
use Rattle.report.specs.Bits.{bits_of}
use Rattle.scope.specs.Numbers.{zeros}
use Rattle.cells.proofs.Bytes.{zero_bits}
use Rattle.cells.proofs.Runs.{bytes_put}
use Rattle.cells.proofs.zero_bytes.Goals as goal

pub returns : goal.returns
returns c =
    let a = c.args in
    let s = a.cells.now in
    let j : a.b + a.k - a.b ≡ a.k = omega arith in
    let n : length (take (a.b + a.k - a.b) (drop a.b s)) ≡ a.k = length-take-le (a.b + a.k - a.b) (drop a.b s) (omega (arith, length-drop a.b s)) ∙ j in
    let e = c.fill.ensures.after (λ y q. q) ∙ ap zeros n in
    rw (j, e) (bytes_put s (zeros a.k) a.b a.k (length-replicate {A = ℕ} a.k 0) c.requires ∙ ap (sets (bits_of s) (8 * a.b)) (zero_bits a.k))
