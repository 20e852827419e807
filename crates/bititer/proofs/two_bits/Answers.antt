-- Two bits are one and then another, and either may be past the end.
use mathlib.Core.Path.{ap, sym, ◌∙◌}
use native.Mathlib.Omega.{arith}
use Rattle.scope.specs.Numbers.{stream_of}
use Rattle.bititer.specs.Answers.{got_code}
use Rattle.bititer.proofs.Streams.{bit_below, two_got, two_ended, two_cut}
use Rattle.bititer.proofs.two_bits.Goals as goal

pub returns-in_err-high : goal.returns-in_err-high
returns-in_err-high c = ap got_code c.from_residual.ensures ∙ sym (two_ended (stream_of c.args.s.now) c.args.p (sym c.in_err-high.ensures))

pub returns-in_err-low : goal.returns-in_err-low
returns-in_err-low c =
    let s = stream_of c.args.s.now in
    let high = c.in_ok-high in
    ap got_code c.from_residual-in_err-low.ensures ∙ sym (two_cut s c.args.p high.high high.middle (sym high.ensures) (sym c.in_err-low.ensures))

pub overflow_mul-result : goal.overflow_mul-result
overflow_mul-result c = omega (arith, bit_below c.args.s.now c.args.p c.in_ok-high.high c.in_ok-high.middle (sym c.in_ok-high.ensures))

pub overflow_add-result : goal.overflow_add-result
overflow_add-result c =
    let s = c.args.s.now in
    let high = c.in_ok-high in
    let low = c.in_ok-low in
    let x = bit_below s c.args.p high.high high.middle (sym high.ensures) in
    let y = bit_below s high.middle low.low low.next (sym low.ensures) in
    omega arith

pub returns : goal.returns
returns c =
    let s = stream_of c.args.s.now in
    let high = c.in_ok-high in
    let low = c.in_ok-low in
    sym (two_got s c.args.p high.high high.middle low.low low.next (sym high.ensures) (sym low.ensures))
