-- The bits of a length, each of which doubles the number so far and joins it.
use mathlib.Core.Path.{◌≡◌, ap, subst, sym, ◌∙◌}
use Prim.Native.Nat.{ℕ, ◌+◌, ◌*◌, ◌-◌}
use native.Mathlib.Omega.{arith}
use lib.ListN.{drop}
use Rattle.scope.specs.Naturals.{more_bits}
use Rattle.scope.specs.Numbers.{stream_of}
use Rattle.bititer.specs.Parts.{BitsMean}
use Rattle.bititer.proofs.Streams.{bit_below, bit_got, bit_ended}
use Rattle.bititer.proofs.Naturals.{bits_done_lem, bits_cut, bits_turn, bits_fit}
use Rattle.bititer.proofs.bits_after_one.Goals as goal

pub returns-in_err-b : goal.returns-in_err-b
returns-in_err-b c =
    let a = c.args in
    let s = stream_of a.s.now in
    let l = c.loop in
    let e = bit_ended s l.at (sym c.in_err-b.ensures) in
    subst (BitsMean s a.p a.count) (sym c.from_residual.ensures)
    (l.invariant.0 ∙ bits_cut (a.count - l.counter) l.n _ (omega arith) e)

pub overflow_add-n : goal.overflow_add-n
overflow_add-n c =
    let l = c.loop in
    let small = bit_below c.args.s.now l.at c.in_ok-b.b c.in_ok-b.next (sym c.in_ok-b.ensures) in
    omega (arith, c.from.ensures, bits_fit l.counter l.n c.in_ok-b.b (omega arith) l.invariant.2 small)

pub loop-preserved : goal.loop-preserved
loop-preserved c =
    let a = c.args in
    let s = stream_of a.s.now in
    let l = c.loop in
    let b = c.in_ok-b.b in
    let h = bit_got s l.at b c.in_ok-b.next (sym c.in_ok-b.ensures) in
    let f = bits_fit l.counter l.n b (omega arith) l.invariant.2 (bit_below a.s.now l.at b c.in_ok-b.next (sym c.in_ok-b.ensures)) in
    let left : a.count - l.counter - 1 ≡ a.count - (l.counter + 1) = omega arith in
    let turn = bits_turn (a.count - l.counter) l.n b _ _ (omega arith) h.2 in
    rw c.from.ensures (l.invariant.0 ∙ turn ∙ ap (λ (k : ℕ). more_bits k (l.n * 2 + b) (drop c.in_ok-b.next s)) left, omega arith, f.0)

pub returns : goal.returns
returns c =
    let l = c.loop in
    (l.invariant.0 ∙ bits_done_lem (c.args.count - l.counter) l.n _ (omega arith), omega arith)
