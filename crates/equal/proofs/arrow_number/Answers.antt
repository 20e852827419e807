-- `equal::arrow_number` meets its contract.
use mathlib.Core.Path.{◌∙◌}
use native.Mathlib.Omega.{arith}
use Rattle.equal.proofs.KindKeys.{arrow_in, arrow_past}
use Rattle.equal.proofs.arrow_number.Goals as goal

pub returns-then-i-arrows : goal.returns-then-i-arrows
returns-then-i-arrows c =
    let own = arrow_in c.args.arrows.now
    c.args.i c.index.result c.index-then-i-arrows.result
    c.if-i-arrows.true
    (c.index.ensures.0 ∙ c.half_at.ensures) (c.index-then-i-arrows.ensures.0 ∙ c.half_at-then-i-arrows.ensures) in
    (own.0, omega (arith, own.1, c.index-then-i-arrows.ensures.1), omega (arith, c.index.ensures.1, c.index-then-i-arrows.ensures.1))

pub returns : goal.returns
returns c =
    let none = arrow_past c.args.arrows.now c.args.i c.if-i-arrows.false in
    (none.0, omega (arith, none.1), omega arith)
