-- The whole program's bounds as lent tables give them, and what the limits say of them: the numbers, or 14 at the first over its limit.
use Rattle.std.specs.Prelude.{Result, Ok, Err, List, [], ℕ, ◌+◌, ◌-◌, length}
use Rattle.limits.specs.Limits.{node_count}
use Rattle.refusal.specs.declared.Refusal.{Refusal}
use Rattle.scope.specs.Check.{Check, passed, refused, ◌>>=◌}
use Rattle.scope.specs.Types.{TypeRecord, type_records}
use Rattle.scope.specs.Nodes.{NodeRecord, node_records}
use Rattle.scope.specs.Arrows.{Arrow, arrow_records}
use Rattle.scope.specs.Program.{Program}
use Rattle.scope.specs.Bounds.{Bound, check_limits, whole_cells, whole_frames, whole_cost}
use Rattle.scope.specs.Run.{program_of}
use Rattle.scope.specs.Stages.{counted, tables_lent, bounds_stage}
use Rattle.lookup.specs.Lookup.{source_width, target_width}
use Rattle.analysis.specs.Rows.{bound_at}
use Rattle.analysis.specs.declared.Totals.{Totals}

-- what the code's answer stands for: the numbers of the whole program, or why there are none
abbrev pub bounded_of : Result Totals Refusal → Check Bound
bounded_of (Ok b) = passed (record { cells = b.cells; frames = b.frames; cost = b.cost })
bounded_of (Err why) = refused why

-- numbers within the limits, or the first that is over its limit
unfoldable pub limited : Bound → Check Bound
unfolding ◌>>=◌ check_limits
limited b = do
  within ← check_limits b.cells b.frames b.cost
  passed b

-- the whole program is the last node: source, target and extra cells; extra frames and two; the cost
unfoldable pub lent_totals : (types : List TypeRecord) → (widths : List ℕ) → (records : List NodeRecord) → (arrows : List Arrow) → Bound
unfolding bound_at
lent_totals types widths records arrows =
    let last = length records - 1 in
    let b = bound_at types widths records arrows last in
    record { cells = source_width widths arrows last + target_width widths arrows last + b.cells; frames = b.frames + 2; cost = b.cost }

-- 4 of the nodes, then 14
unfoldable pub counted_bounds : (types widths nodes arrows : List ℕ) → Check Bound
unfolding ◌>>=◌ counted limited lent_totals
counted_bounds types widths nodes arrows = do
  some ← counted (length (node_records nodes)) node_count
  limited (lent_totals (type_records types) widths (node_records nodes) (arrow_records arrows))

-- the same numbers of a program
unfoldable pub program_totals : Program → Bound
unfolding whole_cells whole_frames whole_cost
program_totals P = record { cells = whole_cells P; frames = whole_frames P; cost = whole_cost P }

-- up to 12, then 14, and the numbers
unfoldable pub stage_bounds : (types nodes arrows program hashes : List ℕ) → Check Bound
unfolding ◌>>=◌ bounds_stage program_of tables_lent program_totals
stage_bounds types nodes arrows program hashes = do
  within ← bounds_stage types nodes arrows program hashes
  passed (program_totals (program_of (tables_lent types nodes arrows program hashes [] [] 0 [] 0) []))
