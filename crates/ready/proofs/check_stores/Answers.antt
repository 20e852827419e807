-- `ready::check_stores` meets its contract: the three tests in their order.
use native.Mathlib.Omega.{arith}
use Rattle.ready.proofs.Verdicts.{cells_short, frames_short, answer_short, stores_long}
use Rattle.ready.proofs.check_stores.Goals as goal

pub returns-then-cells-bytes_for : goal.returns-then-cells-bytes_for
returns-then-cells-bytes_for c =
    cells_short c.args.cell_bound c.args.frame_bound c.args.width
    c.args.cells c.args.frames c.args.answer (omega arith)

pub returns-then-frames-place : goal.returns-then-frames-place
returns-then-frames-place c =
    frames_short c.args.cell_bound c.args.frame_bound c.args.width c.args.cells c.args.frames
    c.args.answer (omega arith) (omega arith)

pub returns-then-answer-bytes_for : goal.returns-then-answer-bytes_for
returns-then-answer-bytes_for c =
    answer_short c.args.cell_bound c.args.frame_bound c.args.width c.args.cells c.args.frames
    c.args.answer (omega arith) (omega arith) (omega arith)

pub returns : goal.returns
returns c =
    stores_long c.args.cell_bound c.args.frame_bound c.args.width c.args.cells c.args.frames
    c.args.answer (omega arith) (omega arith) (omega arith)
