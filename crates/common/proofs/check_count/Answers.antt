-- `common::check_count` meets its contract.
use mathlib.Core.Path.{sym}
use Rattle.common.specs.Checks.{counted_none, counted_over, counted_fine}
use Rattle.common.proofs.check_count.Goals as goal
use Rattle.common.proofs.check_count.Goals.{then-count-lt1-via-then-count-lt1, then-count-lt1-via-else-count-lt1+then-most-count}

pub returns-then-count-lt1 : goal.returns-then-count-lt1
returns-then-count-lt1 c =
    elim c.then-count-lt1.branch [
      | then-count-lt1-via-then-count-lt1 w ↦ sym (counted_none _ _ w.if-count-lt1.true)
      | then-count-lt1-via-else-count-lt1+then-most-count w ↦ sym (counted_over _ _ w.if-most-count.true)
    ]

pub returns : goal.returns
returns c = sym (counted_fine _ _ c.if-count-lt1.false c.if-most-count.false)
