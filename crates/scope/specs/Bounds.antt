-- The bounds of a run: extra cells, extra frames and cost of each node by the requirements' table, and the limits on the whole program (14).
-- Each row of the table is one definition, of the bounds of the children.
use Rattle.std.specs.Prelude.{ℕ, ◌+◌, ◌*◌, max, leb}
use Rattle.limits.specs.Limits.{cell_count, frame_count, cost_limit, node_cost}
use Rattle.refusal.specs.declared.Refusal.TheVariants.{OverLimit}
use Rattle.report.specs.Types.{width, word_ty}
use Rattle.report.specs.Terms.{Term, iden, comp, unit, injl, injr, case, pair, take, drop, assertl, assertr, fail, witness, word, disconnect, bad}
use Rattle.scope.specs.Check.{Check, ◌>>=◌, require}
use Rattle.scope.specs.Program.{Program, whole, whole_source, whole_target}

-- what a run needs beyond its input and its output, and what it costs
pub record Bound : Type 0 where
  pub cells : ℕ
  pub frames : ℕ
  pub cost : ℕ

unfoldable pub unit_row : Bound
unit_row = record { cells = 0; frames = 0; cost = node_cost }

-- iden and word of width w
unfoldable pub copy_row : (w : ℕ) → Bound
copy_row w = record { cells = 0; frames = 0; cost = node_cost + w }

-- injl, injr, take, drop, assertions
unfoldable pub child_row : Bound → Bound
child_row child = record { cells = child.cells; frames = child.frames; cost = node_cost + child.cost }

unfoldable pub pair_row : Bound → Bound → Bound
pair_row left right =
    record {
      cells = max left.cells right.cells;
      frames = max left.frames right.frames;
      cost = node_cost + (left.cost + right.cost);
    }

unfoldable pub case_row : Bound → Bound → Bound
case_row left right =
    record {
      cells = max left.cells right.cells;
      frames = max left.frames right.frames;
      cost = node_cost + max left.cost right.cost;
    }

-- comp with a middle of width m
unfoldable pub comp_row : (m : ℕ) → Bound → Bound → Bound
comp_row m left right =
    record {
      cells = m + max left.cells right.cells;
      frames = 1 + max left.frames right.frames;
      cost = node_cost + m + (left.cost + right.cost);
    }

-- disconnect with left source s, left target t and B of width b
unfoldable pub disconnect_row : (s t b : ℕ) → Bound → Bound → Bound
disconnect_row s t b left right =
    record {
      cells = s + t + max left.cells right.cells;
      frames = 2 + max left.frames right.frames;
      cost = node_cost + (2 * s + t + b) + (left.cost + right.cost);
    }

-- witness of width w, which goes straight into the write frame
unfoldable pub witness_row : (w : ℕ) → Bound
witness_row w = record { cells = 0; frames = 0; cost = node_cost + w }

unfoldable pub fail_row : Bound
fail_row = record { cells = 0; frames = 0; cost = 0 }

-- a node that stands for no term has no row; nothing runs it
unfoldable pub no_row : Bound
no_row = record { cells = 0; frames = 0; cost = 0 }

-- the bounds of a term
unfoldable pub bounds : Term → Bound
unfolding width word_ty unit_row copy_row child_row pair_row case_row comp_row disconnect_row witness_row fail_row no_row
bounds (iden A) = copy_row (width A)
bounds (comp B s t) = comp_row (width B) (bounds s) (bounds t)
bounds unit = unit_row
bounds (injl B C t) = child_row (bounds t)
bounds (injr B C t) = child_row (bounds t)
bounds (case A B s t) = case_row (bounds s) (bounds t)
bounds (pair B s t) = pair_row (bounds s) (bounds t)
bounds (take t) = child_row (bounds t)
bounds (drop A t) = child_row (bounds t)
bounds (assertl p A B t) = child_row (bounds t)
bounds (assertr p A B t) = child_row (bounds t)
bounds (fail p) = fail_row
bounds (witness A v) = witness_row (width A)
bounds (word A v) = copy_row (width A)
bounds (disconnect A B C h s t) = disconnect_row (width (word_ty 8) + width A) (width B + width C) (width B) (bounds s) (bounds t)
bounds bad = no_row

-- the whole program: source, target and extra cells; extra frames and two; the cost
unfoldable pub whole_cells : Program → ℕ
unfolding width whole_source whole_target whole bounds
whole_cells P = width (whole_source P) + width (whole_target P) + (bounds (whole P)).cells

unfoldable pub whole_frames : Program → ℕ
unfolding whole bounds
whole_frames P = (bounds (whole P)).frames + 2

unfoldable pub whole_cost : Program → ℕ
unfolding whole bounds
whole_cost P = (bounds (whole P)).cost

-- cells, frames, cost over their limit: the first of these
unfoldable pub check_limits : (cells frames cost : ℕ) → Check (Unit {0})
unfolding ◌>>=◌ require
check_limits cells frames cost = do
  first ← require (leb cells cell_count) (OverLimit 0)
  second ← require (leb frames frame_count) (OverLimit 1)
  require (leb cost cost_limit) (OverLimit 2)

-- the limits on the whole program
unfoldable pub check_bounds : Program → Check (Unit {0})
unfolding check_limits whole_cells whole_frames whole_cost
check_bounds P = check_limits (whole_cells P) (whole_frames P) (whole_cost P)
