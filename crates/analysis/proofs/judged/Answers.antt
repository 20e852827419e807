-- `analysis::judged` meets its contract.
use mathlib.Core.Path.{sym}
use native.Mathlib.Omega.{arith}
use borrow.Author.Tests.{le-leb, lt-leb}
use Rattle.limits.specs.Limits.{cell_count, frame_count, cost_limit}
use Rattle.scope.specs.Check.{require, ◌>>=◌}
use Rattle.scope.specs.Bounds.{check_limits}
use Rattle.analysis.specs.Limits.{limited}
use Rattle.analysis.proofs.judged.Goals as goal

pub returns-then-cells-gt-CELL_COUNT : goal.returns-then-cells-gt-CELL_COUNT
unfolding limited check_limits require ◌>>=◌
returns-then-cells-gt-CELL_COUNT c = sym (rw (lt-leb c.args.cells cell_count (omega arith)))

pub returns-then-frames-gt-FRAME_COUNT : goal.returns-then-frames-gt-FRAME_COUNT
unfolding limited check_limits require ◌>>=◌
returns-then-frames-gt-FRAME_COUNT c =
    sym (rw (
      le-leb c.args.cells cell_count (omega arith),
      lt-leb c.args.frames frame_count (omega arith),
    ))

pub returns-then-cost-gt-LIMIT : goal.returns-then-cost-gt-LIMIT
unfolding limited check_limits require ◌>>=◌
returns-then-cost-gt-LIMIT c =
    let args = c.args in
    sym (rw (
      le-leb args.cells cell_count (omega arith),
      le-leb args.frames frame_count (omega arith),
      lt-leb args.cost cost_limit (omega arith),
    ))

pub returns : goal.returns
unfolding limited check_limits require ◌>>=◌
returns c =
    let args = c.args in
    sym (rw (
      le-leb args.cells cell_count (omega arith),
      le-leb args.frames frame_count (omega arith),
      le-leb args.cost cost_limit (omega arith),
    ))
