-- A natural with its bound, length by length.
use mathlib.Core.Path.{◌≡◌, sym, ap, subst, ◌∙◌}
use Prim.Native.Nat.{ℕ, ◌+◌, ◌-◌}
use native.Mathlib.Omega.{arith}
use lib.ListN.{drop, length-drop}
use Rattle.scope.specs.Numbers.{stream_of}
use Rattle.scope.specs.Naturals.{natural}
use Rattle.bititer.specs.Answers.{got_natural, at_most}
use Rattle.bititer.specs.Parts.{OnesMean, BitsMean, of_lengths}
use Rattle.bititer.specs.declared.NaturalFault.{NaturalFault}
use Rattle.bititer.proofs.Missing.{was_there, was_missing}
use Rattle.bititer.proofs.Naturals.{lengths_turn, lengths_cut, lengths_stop, lengths_done, bits_got, up_to_ended, up_to_long, up_to_natural}
use Rattle.bititer.proofs.natural_by_lengths.Goals as goal

pub returns-in_err-lengths : goal.returns-in_err-lengths
returns-in_err-lengths c =
    let a = c.args in
    let s = stream_of a.s.now in
    let m = was_missing c.ones.result NaturalFault.Ended c.from_residual.result c.in_err-lengths.ensures.value c.from_residual.ensures.1 in
    ap (got_natural a.p) m.1 ∙ sym (up_to_ended s a.bound a.p (subst (OnesMean s a.p) m.0 c.ones.ensures))

pub returns-then-n-gt-NATURAL_LENGTH : goal.returns-then-n-gt-NATURAL_LENGTH
returns-then-n-gt-NATURAL_LENGTH c =
    let a = c.args in
    let s = stream_of a.s.now in
    let l = c.loop in
    sym (up_to_long s a.bound a.p (l.invariant.0 ∙ lengths_stop (c.in_ok-lengths.lengths - l.counter) l.n _ (omega arith) c.if-n-gt-NATURAL_LENGTH.true))

pub returns-in_err-longer : goal.returns-in_err-longer
returns-in_err-longer c =
    let a = c.args in
    let s = stream_of a.s.now in
    let l = c.loop in
    let handed = c.from_residual-in_err-longer in
    let m = was_missing c.bits_after_one.result NaturalFault.Ended handed.result c.in_err-longer.ensures.value handed.ensures.1 in
    let cut = subst (BitsMean s l.at l.n) m.0 c.bits_after_one.ensures in
    let left = c.in_ok-lengths.lengths - l.counter in
    ap (got_natural a.p) m.1
    ∙ sym (up_to_ended s a.bound a.p (l.invariant.0 ∙ lengths_cut left l.n _ (omega arith) c.if-n-gt-NATURAL_LENGTH.false cut))

pub loop-preserved : goal.loop-preserved
loop-preserved c =
    let a = c.args in
    let s = stream_of a.s.now in
    let l = c.loop in
    let k = c.in_ok-longer in
    let lengths = c.in_ok-lengths.lengths in
    let m = subst (BitsMean s l.at l.n) (was_there c.bits_after_one.result NaturalFault.Ended k.ensures.value) c.bits_after_one.ensures in
    let g = bits_got l.n 1 k.longer (drop l.at s) (drop k.next s) m.0 in
    let left : lengths - l.counter - 1 ≡ lengths - (l.counter + 1) = omega arith in (
      l.invariant.0 ∙ lengths_turn (lengths - l.counter) l.n _ _ (omega arith) c.if-n-gt-NATURAL_LENGTH.false m.0
          ∙ ap (λ (j : ℕ). of_lengths j (natural k.longer (drop k.next s))) left,
      omega arith,
      omega (arith, length-drop l.at s),
    )

pub returns : goal.returns
returns c =
    let a = c.args in
    let s = stream_of a.s.now in
    let l = c.loop in
    let left = c.in_ok-lengths.lengths - l.counter in
    let e = l.invariant.0 ∙ lengths_done left _ (let z : left ≡ 0 = omega arith in z) in
    c.within.ensures a.p
    ∙ ap (at_most a.bound l.n) (let q : a.p + (l.at - a.p) ≡ l.at = omega arith in q)
    ∙ sym (up_to_natural s a.bound a.p l.n l.at e l.invariant.1 l.invariant.2)
