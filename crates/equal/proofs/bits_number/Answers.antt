-- `equal::bits_number` meets its contract: what the first bits and those that are left add up to stays the same.
use mathlib.Core.Path.{refl, sym, ◌∙◌}
use native.Mathlib.Omega.{arith}
use Rattle.equal.proofs.Digits.{number_by_eight, number_by_one, number_ends}
use Rattle.equal.proofs.bits_number.Goals as goal

pub loop-left-init : goal.loop-left-init
loop-left-init c = (refl, refl, c.requires.0, c.requires.1)

pub loop-left-preserved-then-left-ge8 : goal.loop-left-preserved-then-left-ge8
loop-left-preserved-then-left-ge8 c =
    let l = c.loop-left in (
      l.invariant.0
          ∙ number_by_eight c.args.s.now l.at l.left l.number
          c.from-x.result c.if-left-ge8.true (c.from-x.ensures ∙ c.read_eight.ensures),
      omega (arith, l.invariant.1, c.if-left-ge8.true),
      l.invariant.2,
      omega arith,
    )

pub loop-left-preserved : goal.loop-left-preserved
loop-left-preserved c =
    let l = c.loop-left in (
      l.invariant.0
          ∙ number_by_one c.args.s.now l.at l.left l.number
          c.from-x.result c.loop-left-test.true
          (c.from-x.ensures ∙ c.read_eight.ensures) (omega arith),
      omega (arith, l.invariant.1, c.loop-left-test.true),
      l.invariant.2,
      omega arith,
    )

pub returns : goal.returns
returns c =
    let l = c.loop-left in
    sym (l.invariant.0 ∙ number_ends c.args.s.now l.at l.left l.number (omega (arith, c.loop-left-test.false)))
