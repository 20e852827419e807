-- Lent tables that passed up to the arrows: the bounds that the pass reads off them are the requirements', of every node's term and of the whole program,
-- whatever the witness values, the input and the supplied hashes are. So 14 is the requirements' check of the limits.
use mathlib.Core.Path.{◌≡◌, refl, sym, ap, ◌∙◌}
use mathlib.Core.List.{List, []}
use Prim.Native.Nat.{ℕ}
use lib.ListN.{length, get_or}
use Rattle.limits.specs.Limits.{type_count, node_count}
use Rattle.refusal.specs.declared.Refusal.{Refusal}
use Rattle.report.specs.Types.{width, left_of}
use Rattle.report.specs.Values.{Val}
use Rattle.scope.specs.Check.{Check, passed, refused, ◌>>=◌}
use Rattle.scope.specs.Numbers.{stream_of}
use Rattle.scope.specs.Types.{type_records, ty_at, left_at, check_types}
use Rattle.scope.specs.Nodes.{node_records}
use Rattle.scope.specs.Arrows.{arrow_records}
use Rattle.scope.specs.Program.{Program, term_at}
use Rattle.scope.specs.Bounds.{Bound, bounds, whole_cells, whole_frames, whole_cost, check_bounds}
use Rattle.scope.specs.Run.{program_of}
use Rattle.scope.specs.Stages.{counted, tables_lent, arrow_stage, bounds_stage}
use Rattle.common.specs.Checks.{clash, then_passes, then_then, passes}
use Rattle.types.specs.Table.{check_table, type_widths}
use Rattle.types.proofs.Sound.{Passed, passed_table, widths_are_lem}
use Rattle.types.proofs.Parts.{left_type}
use Rattle.stages.proofs.Passed.{LentPassed, lent_passed, lent_below, stage_passed}
use Rattle.analysis.specs.Rows.{bound_at}
use Rattle.analysis.specs.Limits.{bounded_of, limited, lent_totals, counted_bounds, program_totals, stage_bounds}
use Rattle.std.specs.Prelude.{Ok, Err}
use Rattle.analysis.specs.declared.Totals.{Totals}
use Rattle.analysis.proofs.Programs.{bounds_are, limits_judge}

-- a program's numbers, where they are within the limits
abbrev pub judged_bounds : Program → Check Bound
judged_bounds P = check_bounds P >>= λ within. passed (program_totals P)

-- an answer that gives numbers gives the program's, which are within the limits; any other is the refusal of the limits
module _ (P : Program) where
  judged_passed : (c : Check (Unit {0})) (b d : Bound) → passed b ≡ (c >>= λ within. passed d) → (c ≡ passed tt) × (b ≡ d)
  unfolding ◌>>=◌
  judged_passed (passed x) b d e = (refl, cc)
  judged_passed (refused r) b d e = clash (cc)

  judged_refused : (c : Check (Unit {0})) (why : Refusal) (d : Bound) → refused why ≡ (c >>= λ within. passed d) → c ≡ refused why
  unfolding ◌>>=◌
  judged_refused (passed x) why d e = clash (cc)
  judged_refused (refused r) why d e = ap (λ (w : Refusal). refused w) (cc)

  pub bounded_says : (b : Totals) → bounded_of (Ok b) ≡ judged_bounds P
      → (check_bounds P ≡ passed tt) × (b.cells ≡ whole_cells P) × (b.frames ≡ whole_frames P) × (b.cost ≡ whole_cost P)
  unfolding program_totals
  bounded_says b e =
      let p = judged_passed (check_bounds P) _ (program_totals P) e in
      (p.0, ap (λ (b : Bound). b.cells) p.1, ap (λ (b : Bound). b.frames) p.1, ap (λ (b : Bound). b.cost) p.1)

  pub refused_says : (why : Refusal) → bounded_of (Err why) ≡ judged_bounds P → check_bounds P ≡ refused why
  refused_says why e = judged_refused (check_bounds P) why (program_totals P) e

module _ (types nodes arrows program hashes : List ℕ) where
  -- the type table passed, so its widths are those of its types and its parts stand for theirs
  passed_types : LentPassed types nodes program hashes → Passed types (length (type_records types))
  unfolding check_table
  passed_types p =
      passed_table types (length (type_records types))
      (then_passes (counted (length (type_records types)) type_count)
      (λ some. check_types (type_records types) >>= λ sound. passed (length (type_records types))) tt p.types_counted
      ∙ then_passes (check_types (type_records types)) (λ sound. passed (length (type_records types))) tt p.types_kept)

  pub passed_widths : LentPassed types nodes program hashes → (j : ℕ) → get_or (type_widths types) j 0 ≡ width (ty_at (type_records types) j)
  passed_widths p = widths_are_lem types (length (type_records types)) (passed_types p)

  passed_parts : LentPassed types nodes program hashes → (j : ℕ) → left_of (ty_at (type_records types) j)
      ≡ ty_at (type_records types) (left_at (type_records types) j)
  passed_parts p = left_type (type_records types) (passed_types p).sound

  module _ (e : arrow_stage types nodes arrows program hashes ≡ passed tt)
      (given witness : List ℕ) (witness_bits : ℕ) (input : List ℕ) (input_bits : ℕ) (values : List Val) where
    -- the program of the tables
    abbrev pub lent_program : Program
    lent_program = program_of (tables_lent types nodes arrows program hashes given witness witness_bits input input_bits) values

    -- the tables passed
    tables : LentPassed types nodes program hashes
    tables = lent_passed types nodes program hashes (stage_passed types nodes program hashes arrows e).0

    -- THE BOUNDS OF EVERY NODE ARE THOSE OF ITS TERM
    pub node_bounds : (i : ℕ) → bound_at (type_records types) (type_widths types) (node_records nodes) (arrow_records arrows) i
        ≡ bounds (term_at lent_program i)
    unfolding program_of tables_lent
    node_bounds =
        bounds_are (type_records types) (node_records nodes) (arrow_records arrows) (stream_of program) hashes values lent_program.hash
        (type_widths types) (passed_widths tables) (passed_parts tables) (lent_below types nodes program hashes tables)

    -- THE WHOLE PROGRAM'S BOUNDS ARE JUDGED AS THE REQUIREMENTS ASK
    pub whole_judged : counted_bounds types (type_widths types) nodes arrows ≡ judged_bounds lent_program
    unfolding counted_bounds program_of tables_lent
    whole_judged =
        then_passes (counted (length (node_records nodes)) node_count)
        (λ some. limited (lent_totals (type_records types) (type_widths types) (node_records nodes) (arrow_records arrows))) tt tables.nodes_counted
        ∙ limits_judge (type_records types) (node_records nodes) (arrow_records arrows) (stream_of program) hashes values lent_program.hash
        (type_widths types) (passed_widths tables) (passed_parts tables) (lent_below types nodes program hashes tables)

  -- the stage in its two parts
  pub stage_by : (arrow_stage types nodes arrows program hashes >>= λ arrowed. judged_bounds
      (program_of (tables_lent types nodes arrows program hashes [] [] 0 [] 0) []))
      ≡ stage_bounds types nodes arrows program hashes
  unfolding stage_bounds bounds_stage
  stage_by =
      sym (then_then (arrow_stage types nodes arrows program hashes)
      (λ arrowed. check_bounds (program_of (tables_lent types nodes arrows program hashes [] [] 0 [] 0) []))
      (λ within. passed (program_totals (program_of (tables_lent types nodes arrows program hashes [] [] 0 [] 0) []))))

  -- what follows the arrows, where they passed
  pub stage_last : arrow_stage types nodes arrows program hashes ≡ passed tt → counted_bounds types (type_widths types) nodes arrows
      ≡ stage_bounds types nodes arrows program hashes
  stage_last e = whole_judged e [] [] 0 [] 0 []
      ∙ passes e (λ arrowed. judged_bounds (program_of (tables_lent types nodes arrows program hashes [] [] 0 [] 0) [])) ∙ stage_by
