-- The ones that begin a natural: a zero ends them, and where the stream ends before one there is no natural.
use mathlib.Core.Path.{◌≡◌, ap, subst, sym, ◌∙◌}
use mathlib.Core.List.{[]}
use Prim.Native.Nat.{ℕ, ◌+◌, ◌-◌}
use native.Mathlib.Omega.{arith}
use lib.ListN.{drop, drop_of_length-le}
use Rattle.scope.specs.Numbers.{stream_of}
use Rattle.scope.specs.Naturals.{read_natural}
use Rattle.bititer.specs.Parts.{OnesMean, of_lengths}
use Rattle.bititer.proofs.Streams.{length_stream, bit_got, bit_ended}
use Rattle.bititer.proofs.Naturals.{natural_none, natural_zero, natural_one, lengths_none, lengths_more, lengths_ended}
use Rattle.bititer.proofs.ones.Goals as goal

pub loop-at-init : goal.loop-at-init
loop-at-init c =
    let none : c.args.p - c.args.p ≡ 0 = omega arith in
    sym (ap (λ (k : ℕ). of_lengths k (read_natural (drop c.args.p (stream_of c.args.s.now)))) none ∙ lengths_none _)

pub returns-in_err-b : goal.returns-in_err-b
returns-in_err-b c =
    let s = stream_of c.args.s.now in
    let l = c.loop-at in
    let e = bit_ended s l.at (sym c.in_err-b.ensures) in
    subst (OnesMean s c.args.p) (sym c.from_residual.ensures)
    (l.invariant ∙ ap (of_lengths (l.at - c.args.p)) (natural_none (drop l.at s) e) ∙ lengths_ended (l.at - c.args.p))

pub returns-then-b-eq0 : goal.returns-then-b-eq0
returns-then-b-eq0 c =
    let s = stream_of c.args.s.now in
    let l = c.loop-at in
    let h = bit_got s l.at c.in_ok-b.b c.in_ok-b.next (sym c.in_ok-b.ensures) in
    (l.invariant ∙ ap (of_lengths (l.at - c.args.p)) (natural_zero _ _ c.in_ok-b.b h.2 c.if-b-eq0.true), omega arith, omega arith)

pub overflow_cast-result : goal.overflow_cast-result
overflow_cast-result c =
    let l = c.loop-at in
    omega (arith, length_stream c.args.s.now)

pub loop-at-preserved : goal.loop-at-preserved
loop-at-preserved c =
    let s = stream_of c.args.s.now in
    let l = c.loop-at in
    let h = bit_got s l.at c.in_ok-b.b c.in_ok-b.next (sym c.in_ok-b.ensures) in
    let count : l.at + 1 - c.args.p ≡ l.at - c.args.p + 1 = omega arith in
    l.invariant ∙ ap (of_lengths (l.at - c.args.p)) (natural_one _ _ c.in_ok-b.b h.2 c.if-b-eq0.false)
    ∙ sym (lengths_more (l.at - c.args.p) _)
    ∙ ap (λ (k : ℕ). of_lengths k (read_natural (drop c.in_ok-b.next s))) (sym count)
    ∙ ap (λ (k : ℕ). of_lengths (l.at + 1 - c.args.p) (read_natural (drop k s))) h.1

pub returns : goal.returns
returns c =
    let s = stream_of c.args.s.now in
    let l = c.loop-at in
    let over : drop l.at s ≡ [] = drop_of_length-le s {i = l.at} (omega (arith, c.stream_length-at-end.ensures)) in
    l.invariant ∙ ap (of_lengths (l.at - c.args.p)) (natural_none (drop l.at s) over) ∙ lengths_ended (l.at - c.args.p)
