-- The main theorems, one after the other, each with a comment; the proofs stand in this crate, in `layout` (the machine on lent stores) and
-- in `exactness` (what the checks accept). The order: meaning, the machine at any point of a run, the room that it needs, nodes of a table,
-- whole runs, the nodes that a run enters, the job, the store machine, and the checks. A statement `P ↔ Q` is read "P exactly if Q".
-- Notions that the statements name, beside the definitions of `report` and `scope`, stand in specs/: Good (Safety), El and den (Denotation), Apart (Cells),
-- At (Instructions), Ends and end_at (Correct), Ran (WholeRuns), Sound (Sound), Entered (Entered), Stacked and cursor_of (Entry), NodeEnds
-- (NodeEnds), StopsIn (Stops), told and output (Answers), CellsLeft and output_bytes (Left), HeaderFits to StoresFit (Supply), RulesKept,
-- Acceptable and FromRun (Acceptance), BitCells and BitsAfter (BinaryCells); those of `layout` and `exactness` stand in the modules that
-- the names begin with, or that they are taken from.
use Rattle.std.specs.Prelude.{◌≡◌, ◌↔◌, true, false, List, ◌++◌, ℕ, ◌+◌, ◌*◌, ◌/◌, ◌^◌, ◌≤◌, ◌<◌, ltb, length, get_or, take, drop}
use Rattle.std.proofs.Common.{sym, ap, ◌∙◌, subst}
use Rattle.limits.specs.Limits.{node_cost, type_width}
use Rattle.report.specs.Bits.{Bit, bits_of}
use Rattle.report.specs.Table.{entries}
use Rattle.report.specs.Types.{Ty, width, word_ty}
use Rattle.report.specs.Values.{Val, HasTy, Cells, value_at, compact, padded, value, read_value}
use Rattle.report.specs.Naturals.{code_natural}
use Rattle.report.specs.Nodes.{Node}
use Rattle.report.specs.Canonical.{children, is_done, up_from, Canonical}
use Rattle.report.specs.Terms.{Term}
use Rattle.report.specs.Typing.{Typed}
use Rattle.report.specs.Meaning.{Means, done, stuck, eval, visits}
use Rattle.scope.specs.Check.{passed}
use Rattle.scope.specs.Numbers.{tabulate, stream_of}
use Rattle.scope.specs.Types.{TypeRecord, type_from, ty_at, check_types, left_at, right_at, is_word}
use Rattle.scope.specs.Naturals.{natural, read_natural}
use Rattle.scope.specs.Nodes.{node_at, nodes_of}
use Rattle.scope.specs.Reading.{NodeTable}
use Rattle.scope.specs.Walk.{hidden_at, walk_from, check_walk}
use Rattle.scope.specs.Closing.{decode}
use Rattle.scope.specs.Arrows.{Arrow, arrow_rule, equal_nodes, check_arrows}
use Rattle.scope.specs.Program.{Program, source_ty, target_ty, term_of, term_at, whole, whole_source, whole_target}
use Rattle.scope.specs.Bounds.{bounds, whole_cells, whole_frames, whole_cost, check_bounds}
use Rattle.scope.specs.Header.{check_header}
use Rattle.scope.specs.Hashes.{check_hashes}
use Rattle.scope.specs.Witness.{check_witness}
use Rattle.scope.specs.Input.{check_input}
use Rattle.scope.specs.Stores.{check_stores}
use Rattle.scope.specs.Run.{Ready, check_dossier, tables_of, check_ready, run, cells_of, cleared}
use Rattle.scope.specs.Stages.{tables_lent, hash_stage, run_stage}
use Rattle.scope.specs.Machine.{Frame, State, Step, state, exec, machine, answer}
use Rattle.common.specs.Tables.{length-entries, entries_at}
use Rattle.common.specs.Bits.{AllBelow, AreBits}
use Rattle.exactness.specs.Naturals.{natural_bound}
use Rattle.exactness.proofs.Naturals.{reads_code, read_is_code}
use Rattle.exactness.specs.Values.{reads_compact, read_is_compact, Hold, value_held, length-padded, compact_fits, width_word, word_unpadded}
use Rattle.exactness.specs.Types.{TypesPass, types_pass, pass_types, tag_at, type_step, type_fits, same_index}
use Rattle.exactness.proofs.TypeTests.{word_type, type_word}
use Rattle.exactness.specs.NodeTyping.{NodeTyped, from_ty, to_ty, InRange, ArrowsTyped}
use Rattle.exactness.specs.Equal.{EqualNodes, NoneEqual, test_equal, equal_test}
use Rattle.exactness.proofs.Arrows.{arrow_range, arrow_typed, typed_arrow, rules_typed, typed_rules, arrows_typed, typed_arrows}
use Rattle.exactness.specs.Arrows.{RulesHold}
use Rattle.exactness.specs.Walk.{Counted, done_below, walk_count, walk_step}
use Rattle.exactness.proofs.Walk.{walk_counted, count_step}
use Rattle.exactness.specs.Hidden.{HiddenPlaces}
use Rattle.exactness.proofs.Canonical.{walk_canonical, canonical_walk}
use Rattle.exactness.specs.Nodes as Nodes
use Rattle.exactness.specs.Programs.{IsProgram}
use Rattle.exactness.proofs.Decoding.{decoded_is_program, program_is_decoded, decoded_nodes, one_table}
use Rattle.layout.specs.Mach.{Mach, no_frame, empty}
use Rattle.layout.specs.Rules.{all_free}
use Rattle.layout.specs.Exec.{run_term, run_whole}
use Rattle.layout.specs.Safe.{Safe, WholeOk}
use Rattle.layout.specs.Layout.{layout}
use Rattle.layout.specs.Follow as Follow
use Rattle.layout.specs.Match as Match
use Rattle.layout.proofs.Join.{join}
use Rattle.layout.specs.Heights.{Keeps, Leaves, LeftBy}
use Rattle.layout.proofs.Heights.{run_keeps, whole_leaves, all_free-empty}
use Rattle.layout.proofs.Whole.{whole_join, done_frees}
use Rattle.layout.specs.Stores.{cells_lent, cells_left}
use Rattle.theory.specs.Safety.{Good}
use Rattle.theory.proofs.Safety.{safe}
use Rattle.theory.specs.Denotation.{El, plain, plainly, den}
use Rattle.theory.proofs.Denotation.{eval-den}
use Rattle.theory.proofs.Visits.{visits_bound}
use Rattle.theory.specs.Cells.{Apart}
use Rattle.theory.specs.Instructions.{At}
use Rattle.theory.specs.Correct.{Ends, end_at}
use Rattle.theory.proofs.Correct.{exec_within, ends_as}
use Rattle.theory.specs.WholeRuns.{Ran}
use Rattle.theory.proofs.NodeTerms.{term_step, bounds_alike}
use Rattle.theory.specs.Sound.{Sound}
use Rattle.theory.proofs.Sound.{term_typed}
use Rattle.theory.specs.Programs.{run_of, answer_of}
use Rattle.theory.proofs.Programs as Programs
use Rattle.theory.specs.Entered.{Entered}
use Rattle.theory.specs.Entry.{cursor_of, Stacked}
use Rattle.theory.proofs.Entry.{read_below, write_below, read_apart}
use Rattle.theory.proofs.AtNodes.{entered_at}
use Rattle.theory.specs.NodeEnds.{NodeEnds}
use Rattle.theory.proofs.NodeEnds.{node_means}
use Rattle.theory.specs.Stops.{StopsIn}
use Rattle.theory.proofs.Stops.{run_stops}
use Rattle.theory.proofs.EnteredBits.{entered_bits}
use Rattle.theory.specs.Answers.{told, output}
use Rattle.theory.specs.Left.{CellsLeft, output_bytes}
use Rattle.theory.proofs.Job as Job
use Rattle.theory.proofs.OldStores.{old_stores, old_output}
use Rattle.theory.specs.Supply.{HeaderFits, HashesFit, LimitsFit, WitnessFits, InputFits, StoresFit}
use Rattle.theory.proofs.Supply.{header_fits, fits_header, hashes_fit, fit_hashes, limits_fit, fit_limits, witness_fits, fits_witness, input_fits, fits_input, stores_fit, fit_stores}
use Rattle.theory.specs.Acceptance.{program_with, RulesKept, Acceptable, FromRun}
use Rattle.theory.proofs.Acceptance.{kept_says, kept_output, kept_runs, run_kept}
use Rattle.theory.proofs.LentTables.{stage_says}
use Rattle.theory.specs.BinaryCells.{BitCells, BitsAfter}
use Rattle.theory.proofs.BinaryCells.{exec_bits}

-- MEANING. A typed term on a value of its source gives a value of its target, fails or is pruned; it is never stuck.
pub type_safety : {t : Term} {A B : Ty} → Typed t A B → (v : Val) → HasTy v A → Good B (eval t v)
type_safety = safe

-- The meaning is the report's typed denotation with the types rubbed out.
pub meaning_is_denotation : {t : Term} {A B : Ty} (h : Typed t A B) (x : El A) → eval t (plain A x) ≡ plainly B (den h x)
meaning_is_denotation = eval-den

-- Every term, on every value, makes at most cost / 100 + 1 visits.
pub visits_within_cost : (t : Term) (v : Val) → visits t v ≤ (bounds t).cost / node_cost + 1
visits_within_cost = visits_bound

-- MACHINE = MEANING at any point of a run. The read frame holds width A cells at rd and the write frame has room for width B at wr, both below nx and apart.
-- The run ends as the meaning of the value at rd does: the value at wr, the write cursor on by width B, all else as it was; or it stops at that place.
-- THE FIT: cells and frames of just the bounds suffice, and only the write range and the cells of the bounds from nx on are changed, also where it stops.
pub machine_is_meaning : {t : Term} {A B : Ty} → Typed t A B → (size most : ℕ) (rs ws : List Frame) (rd wr nx : ℕ) (c : Cells)
    → At rs rd (width A) → At ws wr (width B) → rd + width A ≤ nx → wr + width B ≤ nx → Apart rd (width A) wr (width B)
    → nx + (bounds t).cells ≤ size → length rs + length ws + (bounds t).frames ≤ most
    → Ends B wr nx (bounds t).cells rs ws c (eval t (value_at A c rd)) (exec size most t (state c rs ws nx))
machine_is_meaning = exec_within

-- So it ends with the meaning's value at wr, or stops where and as the meaning does.
pub machine_ends_as_meaning : {B : Ty} {wr nx x : ℕ} {rs ws : List Frame} {c : Cells} {o : Means} {e : Step} → Ends B wr nx x rs ws c o e → end_at B wr e ≡ o
machine_ends_as_meaning = ends_as

-- Cells that are bits stay bits, for every term, typed or not, and wherever it stops.
pub cells_stay_bits : (size most : ℕ) (t : Term) (s : State) → BitCells s.cells → BitsAfter (exec size most t s)
cells_stay_bits = exec_bits

-- NODES. A node's term is made of its children's terms.
pub term_of_node : (P : Program) (i : ℕ) → AllBelow i (children (node_at P.nodes i)) → term_at P i ≡ term_of P i (node_at P.nodes i) (term_at P)
term_of_node = term_step

-- In a sound program every node that is not hidden has a term of its arrow's type.
pub node_typed : (P : Program) → Sound P → (i : ℕ) → i < length P.nodes → hidden_at P.nodes i ≡ false → Typed (term_at P i) (source_ty P i) (target_ty P i)
node_typed = term_typed

-- The bounds of a node's term do not depend on witness values and hashes.
pub bounds_of_tables : (P Q : Program) → P.types ≡ Q.types → P.nodes ≡ Q.nodes → P.arrows ≡ Q.arrows → (i : ℕ) → bounds (term_at P i) ≡ bounds (term_at Q i)
bounds_of_tables = bounds_alike

-- At any point of a run every such node does what its term means, within the bounds of its term.
pub node_is_meaning : (P : Program) → Sound P → (i : ℕ) → i < length P.nodes → hidden_at P.nodes i ≡ false
    → (size most : ℕ) (rs ws : List Frame) (rd wr nx : ℕ) (c : Cells)
    → At rs rd (width (source_ty P i)) → At ws wr (width (target_ty P i)) → rd + width (source_ty P i) ≤ nx → wr + width (target_ty P i) ≤ nx
    → Apart rd (width (source_ty P i)) wr (width (target_ty P i))
    → nx + (bounds (term_at P i)).cells ≤ size → length rs + length ws + (bounds (term_at P i)).frames ≤ most
    → Ends (target_ty P i) wr nx (bounds (term_at P i)).cells rs ws c (eval (term_at P i) (value_at (source_ty P i) c rd))
    (exec size most (term_at P i) (state c rs ws nx))
node_is_meaning = Programs.node_ends

-- WHOLE RUNS of a sound program on a value of its source, on cells with any old bits, in just the cells and frames that its bounds give.
module _ (P : Program) (ok : Sound P) (v : Val) (hv : HasTy v (whole_source P)) where
  -- the run
  abbrev runs : Cells → Step
  runs c = machine (whole_cells P) (whole_frames P) (whole P) (whole_source P) (whole_target P) v c

  -- It answers the program's meaning: the output's value, or the place of the fail node (18) or the pruned branch (19) where it stops.
  pub answer_is_meaning : (c : Cells) → answer (whole_source P) (whole_target P) (runs c) ≡ eval (whole P) v
  unfolding answer_of run_of
  answer_is_meaning c = Programs.run_means P ok v hv c

  -- It is never stuck.
  pub never_stuck : (c : Cells) → runs c ≡ stuck → ⊥
  unfolding run_of
  never_stuck c = Programs.never_stuck P ok v hv c

  -- Old cells change no output, no refusal and no place.
  pub old_cells_change_nothing : (c d : Cells) → answer (whole_source P) (whole_target P) (runs c) ≡ answer (whole_source P) (whole_target P) (runs d)
  unfolding answer_of run_of
  old_cells_change_nothing c d = Programs.old_cells P ok v hv c d

  -- It ends as the meaning does, and every cell at or past the bound keeps its old bit.
  pub cells_past_the_bound_kept : (c : Cells) → Ran (whole_target P) (width (whole_source P)) (whole_cells P) c (eval (whole P) v) (runs c)
  unfolding run_of
  cells_past_the_bound_kept c = Programs.run_ends P ok v hv c

  -- The meaning is a value of the target, or stops at a fail node or a pruned branch.
  pub value_of_target : Good (whole_target P) (eval (whole P) v)
  value_of_target = Programs.value_of_target P ok v hv

  -- Visits are at most cost / 100 + 1.
  pub visits_of_run : visits (whole P) v ≤ whole_cost P / node_cost + 1
  visits_of_run = Programs.few_visits P ok v hv

-- ENTERED NODES. A run of a sound program on a value of its source, over cells with any old bits, enters node i in state s.
module _ (P : Program) (ok : Sound P) (v : Val) (hv : HasTy v (whole_source P)) (c : Cells) (i : ℕ) (s : State) (h : Entered P v c i s) where
  -- It is a node of the table that is not hidden, so its term has its arrow's type.
  pub entered_shown : (i < length P.nodes) × (hidden_at P.nodes i ≡ false)
  entered_shown = ((entered_at P ok v hv c h).in_table, (entered_at P ok v hv c h).shown)

  -- The state meets what `machine_is_meaning` asks for that arrow, in the cells and frames of the whole program: a value to read and room
  -- to write at the cursors, below the first free cell and apart, and as many cells and frames beyond as the bounds of its term.
  pub entered_meets : At s.reads (cursor_of s.reads) (width (source_ty P i)) × At s.writes (cursor_of s.writes) (width (target_ty P i))
      × (cursor_of s.reads + width (source_ty P i) ≤ s.next) × (cursor_of s.writes + width (target_ty P i) ≤ s.next)
      × Apart (cursor_of s.reads) (width (source_ty P i)) (cursor_of s.writes) (width (target_ty P i))
      × (s.next + (bounds (term_at P i)).cells ≤ whole_cells P) × (length s.reads + length s.writes + (bounds (term_at P i)).frames ≤ whole_frames P)
  entered_meets =
      let e = (entered_at P ok v hv c h).entry in
      (e.read, e.write, read_below e, write_below e, read_apart e, e.cells, e.frames)

  -- The cells are bits there, where the old cells are, so bytes can hold them.
  pub entered_cells : BitCells c → BitCells s.cells
  entered_cells k = entered_bits P v c k h

  -- All frames lie below the first free cell, and no two share a cell.
  pub entered_frames : Stacked s.reads s.writes s.next
  entered_frames = (entered_at P ok v hv c h).entry.stacked

  -- So the node does what its term means of the value that it reads: the value stands in the target's cells, the write cursor is on by the
  -- target's width, the read cursor is back, and every other frame's cells and record are as they were; or it stops where the meaning does.
  pub entered_does : NodeEnds (target_ty P i) s (eval (term_at P i) (value_at (source_ty P i) s.cells (cursor_of s.reads)))
      (exec (whole_cells P) (whole_frames P) (term_at P i) s)
  entered_does = node_means P ok (entered_at P ok v hv c h)

-- A run that stops has entered the node at which it stops, and its last state is the one in which it entered that node.
pub stops_where_entered : (P : Program) → Sound P → (v : Val) → HasTy v (whole_source P) → (c : Cells)
    → StopsIn (Entered P v c) (machine (whole_cells P) (whole_frames P) (whole P) (whole_source P) (whole_target P) v c)
unfolding run_of
stops_where_entered P ok v hv c = run_stops P ok v hv c

-- THE JOB. A dossier that passes the checks 1 to 13 with stores of these sizes, and whose values and stores pass 14 to 17, holds a sound
-- program and a value of its source.
module _ (d nodes hashes cells frames answer : List ℕ) (t : NodeTable) (R : Ready)
    (e : check_dossier d nodes hashes ≡ passed t) (p : check_ready (tables_of d t) cells frames answer ≡ passed R) where
  -- The program and its input.
  pub dossier_sound : Sound R.program × HasTy R.input (whole_source R.program)
  dossier_sound = (Job.job_sound d nodes hashes t e cells frames answer R p, Job.job_input d nodes hashes t e cells frames answer R p)

  -- What the job says is what the program means of the input: how many bits, or 18 or 19 at the place where the meaning stops.
  pub job_says_meaning : (run d nodes hashes cells frames answer).says ≡ told (eval (whole R.program) R.input)
  job_says_meaning = Job.job_says d nodes hashes t e cells frames answer R p

  -- The answer store begins with the value's compact bits; where the run stops it is as it was.
  pub job_leaves_value : (run d nodes hashes cells frames answer).answer ≡ output (eval (whole R.program) R.input) answer
  job_leaves_value = Job.job_output d nodes hashes t e cells frames answer R p

  -- The frame records within the bound are zero, those beyond it as they were.
  pub job_clears_frames : (run d nodes hashes cells frames answer).frames ≡ cleared (whole_frames R.program) frames
  job_clears_frames = Job.job_frames d nodes hashes t e cells frames answer R p

  -- The cells are those of the machine's last state, and from the bound on as they were.
  pub job_leaves_cells : CellsLeft (machine (whole_cells R.program) (whole_frames R.program) (whole R.program)
      (whole_source R.program) (whole_target R.program) R.input (cells_of cells))
      (whole_cells R.program) cells (run d nodes hashes cells frames answer).cells
  unfolding run_of
  job_leaves_cells = Job.job_cells d nodes hashes t e cells frames answer R p

-- Of any dossier: it keeps the rules, that is, it holds the report's code of a table in canonical order, types and hashes by their rules,
-- arrows that are the report's typing, is within the limits, with the bits of values of the right types and stores that fit, exactly if its
-- answer comes from a run: an output, 18 or 19.
pub kept_exactly : (d nodes hashes cells frames answer : List ℕ) → FromRun (run d nodes hashes cells frames answer).says
    ↔ Acceptable d nodes hashes cells frames answer
kept_exactly d nodes hashes cells frames answer =
    (run_kept d nodes hashes cells frames answer, λ k. kept_runs d nodes hashes cells frames answer k.0 k.1 k.2 k.3)

-- And then it is answered by what that program means of that input.
pub kept_means : (d nodes hashes cells frames answer : List ℕ) (ns : List Node) (values : List Val) (v : Val)
    → RulesKept d nodes hashes cells frames answer ns values v
    → ((run d nodes hashes cells frames answer).says ≡ told (eval (whole (program_with d ns values)) v))
    × ((run d nodes hashes cells frames answer).answer ≡ output (eval (whole (program_with d ns values)) v) answer)
kept_means d nodes hashes cells frames answer ns values v h =
    (kept_says d nodes hashes cells frames answer ns values v h, kept_output d nodes hashes cells frames answer ns values v h)

-- Old contents of the five stores change no output, no refusal and no place, of any dossier: nothing that is said.
pub old_stores_change_nothing : (d nodes nodes' hashes hashes' cells cells' frames frames' answer answer' : List ℕ)
    → length nodes ≡ length nodes' → length hashes ≡ length hashes' → length cells ≡ length cells' → length frames ≡ length frames'
    → length answer ≡ length answer'
    → (run d nodes hashes cells frames answer).says ≡ (run d nodes' hashes' cells' frames' answer').says
old_stores_change_nothing = old_stores

-- And no bit of an output: the bytes that hold it are the same.
pub old_stores_change_no_bit : (d nodes nodes' hashes hashes' cells cells' frames frames' answer answer' : List ℕ)
    → length nodes ≡ length nodes' → length hashes ≡ length hashes' → length cells ≡ length cells' → length frames ≡ length frames'
    → length answer ≡ length answer'
    → output_bytes (run d nodes hashes cells frames answer).says (run d nodes hashes cells frames answer).answer
    ≡ output_bytes (run d nodes' hashes' cells' frames' answer').says (run d nodes' hashes' cells' frames' answer').answer
old_stores_change_no_bit = old_output

-- THE RUN OVER LENT TABLES that pass their checks says what the program of the tables means.
pub stage_says_meaning : (types nodes arrows program hashes given witness : List ℕ) (witness_bits : ℕ) (input : List ℕ) (input_bits : ℕ)
    → hash_stage types nodes arrows program hashes given ≡ passed tt → (cells frames answer : List ℕ) (R : Ready)
    → check_ready (tables_lent types nodes arrows program hashes given witness witness_bits input input_bits) cells frames answer ≡ passed R
    → (run_stage types nodes arrows program hashes given witness witness_bits input input_bits cells frames answer).says
    ≡ told (eval (whole R.program) R.input)
stage_says_meaning = stage_says

-- THE STORE MACHINE is the machine as the code holds it: `lent_cells` is the number of cells lent, `size` and `most` are the bounds on cells and frames
-- that the machine of the requirements keeps to, and `layout` puts its states into the stores.
-- The layout of a state that fits the bounds has just the cells and the records that are lent.
pub layout_size : (lent_cells size most : ℕ) (s : State) → Follow.Fits size most s
    → (length (layout lent_cells most s).bits ≡ lent_cells) × (length (layout lent_cells most s).records ≡ most)
layout_size lent_cells size most s h = (Follow.layout_cells lent_cells most s, Follow.layout-records lent_cells size most s h)

-- A term, at any state that fits the bounds and at which the machine of the requirements is not stuck.
module _ (lent_cells size most : ℕ) (le : size ≤ lent_cells) (t : Term) (s : State) (fits : Follow.Fits size most s) (goes : exec size most t s ≡ stuck → ⊥) where
  -- The store machine's run never leaves its stores and never lacks a frame.
  pub term_safe : Safe t (layout lent_cells most s)
  term_safe = (join lent_cells size most le t s fits (Follow.not_stuck (exec size most t s) goes)).safe

  -- It ends as the machine of the requirements does, done or stopped at the same place, with the layout of the same state.
  pub term_same : run_term t (layout lent_cells most s) ≡ Match.laid_out lent_cells most (exec size most t s)
  term_same = (join lent_cells size most le t s fits (Follow.not_stuck (exec size most t s) goes)).match.same

  -- That state fits the bounds again, and every cell from the bound on is as it was.
  pub term_ends : Match.Ends size most s.cells (exec size most t s)
  term_ends = (join lent_cells size most le t s fits (Follow.not_stuck (exec size most t s) goes)).match.ends

-- A whole run from no frame, over the first b bytes of the lent cells, of whatever contents.
module _ (cells : List ℕ) (b size most : ℕ) (held : b ≤ length cells) (le : size ≤ 8 * b) (t : Term) (A B : Ty) (v : Val)
    (goes : machine size most t A B v (cells_of cells) ≡ stuck → ⊥) where
  -- The store machine is safe.
  pub whole_safe : WholeOk t A B v (empty (bits_of (take b cells)) most)
  whole_safe =
      subst (λ l. WholeOk t A B v (empty l most)) (cells_lent cells b held)
      (whole_join (8 * b) size most le t A B v (cells_of cells) (Follow.not_stuck (machine size most t A B v (cells_of cells)) goes)).safe

  -- It ends as the machine of the requirements does, with the layout of the same state.
  pub whole_same : run_whole t A B v (empty (bits_of (take b cells)) most) ≡ Match.laid_out (8 * b) most (machine size most t A B v (cells_of cells))
  whole_same =
      subst (λ l. run_whole t A B v (empty l most) ≡ Match.laid_out (8 * b) most (machine size most t A B v (cells_of cells))) (cells_lent cells b held)
      (whole_join (8 * b) size most le t A B v (cells_of cells) (Follow.not_stuck (machine size most t A B v (cells_of cells)) goes)).match.same

  -- That state fits the bounds, and every cell from the bound on is as it was lent.
  pub whole_ends : Match.Ends size most (cells_of cells) (machine size most t A B v (cells_of cells))
  whole_ends = (whole_join (8 * b) size most le t A B v (cells_of cells) (Follow.not_stuck (machine size most t A B v (cells_of cells)) goes)).match.ends

  -- After a run that is done only the first record and the last one may hold a frame.
  pub whole_frees : (m : Mach) → run_whole t A B v (empty (bits_of (take b cells)) most) ≡ done m → (k : ℕ) → 0 < k → k + 1 < most
      → get_or m.records k no_frame ≡ no_frame
  whole_frees m e =
      done_frees (8 * b) size most le t A B v (cells_of cells) (Follow.not_stuck (machine size most t A B v (cells_of cells)) goes) m
      (ap (λ l. run_whole t A B v (empty l most)) (cells_lent cells b held) ∙ e)

-- Every run, safe or not, keeps the numbers of cells and records; one that is done also the numbers of write frames and of read frames.
pub term_keeps : (t : Term) (m : Mach) → Keeps m (run_term t m)
term_keeps = run_keeps

-- A whole run leaves as many cells and records as it was lent, whatever its end, and where it is done at most one write frame and one read frame.
pub whole_keeps : (t : Term) (A B : Ty) (v : Val) (bits : List ℕ) (most : ℕ) → Leaves bits most (run_whole t A B v (empty bits most))
whole_keeps = whole_leaves

-- The last step of a run then leaves every record free.
pub whole_clears : (bits : List ℕ) (most : ℕ) (m : Mach) → LeftBy bits most m → all_free m ≡ empty m.bits most
whole_clears = all_free-empty

-- The bytes of a part that hold the cells of the last state, with the bytes behind the part as they were lent, hold all cells of that state.
pub bytes_left : (cells : List ℕ) (b : ℕ) → b ≤ length cells → (part : List ℕ) (c : Cells) (size : ℕ) → size ≤ 8 * b → bits_of part ≡ tabulate (8 * b) c
    → Follow.KeptFrom size (cells_of cells) c → bits_of (part ++ drop b cells) ≡ tabulate (8 * length cells) c
bytes_left = cells_left

-- EXACTNESS: what the checks accept is just what the report says.
-- Tables. A table has an entry for each record.
pub table_length : {R X : Type 0} (make : List X → R → X) (rs : List R) → length (entries make rs) ≡ length rs
table_length make rs = length-entries make rs

-- Entry i is made of record i and of the entries before it.
pub table_entry : {R X : Type 0} (make : List X → R → X) (rs : List R) (i : ℕ) (x : X) (r : R) → i < length rs
    → get_or (entries make rs) i x ≡ make (take i (entries make rs)) (get_or rs i r)
table_entry make rs i x r l = entries_at make rs i x r l

-- Naturals. From bits a natural n is read exactly if they begin with the report's code of n, and n is at least 1 and below the bound.
pub natural_exact : (l : List Bit) (n : ℕ) (r : List Bit) → AreBits l
    → (read_natural l ≡ natural n r) ↔ ((l ≡ code_natural n ++ r) × (1 ≤ n) × (n < natural_bound))
natural_exact l n r b = (
  (λ e. (let c = read_is_code l n r b e in (c.0, c.1, c.2))),
  (λ c. ap read_natural c.0 ∙ reads_code n r c.1 c.2),
)

-- Values. From bits a value v is read along the type A exactly if v is a value of A and they begin with the compact bits of v.
pub value_exact : (A : Ty) (bs : List Bit) (v : Val) (rest : List Bit) → AreBits bs
    → (read_value A bs ≡ value v rest) ↔ (HasTy v A × (bs ≡ compact v ++ rest))
value_exact A bs v rest b = (
  (λ e. (let r = read_is_compact A bs v rest b e in (r.0, r.1))),
  (λ r. ap (read_value A) r.1 ∙ reads_compact r.0 rest),
)

-- Cells that hold the padded cells of a value hold that value, whatever the other cells are.
pub cells_exact : {v : Val} {A : Ty} → HasTy v A → (c : Cells) (at : ℕ) → Hold c at (padded A v) → value_at A c at ≡ v
cells_exact h c at k = value_held h c at k

-- Padded cells fill the width of the type; compact bits never pass it.
pub sizes : {v : Val} {A : Ty} → HasTy v A → (length (padded A v) ≡ width A) × (length (compact v) ≤ width A)
sizes h = (length-padded h, compact_fits h)

-- Words. A word of depth k takes 2 ^ k cells.
pub word_width : (k : ℕ) → width (word_ty k) ≡ 2 ^ k
word_width k = width_word k

-- Its two spellings are one.
pub word_spelling : (k : ℕ) {v : Val} → HasTy v (word_ty k) → padded (word_ty k) v ≡ compact v
word_spelling k h = word_unpadded k h

-- Types. The check of a table passes exactly if every record keeps the rules.
pub types_exact : (types : List TypeRecord) → (check_types types ≡ passed tt) ↔ TypesPass types
types_exact types = (types_pass types, pass_types types)

-- A table that passes.
module _ (types : List TypeRecord) (check : check_types types ≡ passed tt) where
  -- A record stands for the type that its tag makes of its parts' types.
  pub type_made : (i : ℕ) → i < length types → ty_at types i ≡ type_from (tag_at types i) (ty_at types (left_at types i)) (ty_at types (right_at types i))
  type_made i l = type_step types (types_pass types check) i l

  -- No type is wider than the limit.
  pub type_width_lem : (i : ℕ) → i < length types → width (ty_at types i) ≤ type_width
  type_width_lem i l = type_fits types (types_pass types check) i l

  -- Two records stand for one type exactly if they are one record.
  pub type_index : (i j : ℕ) → i < length types → j < length types → (ty_at types i ≡ ty_at types j) ↔ (i ≡ j)
  type_index i j l m = (same_index types (types_pass types check) i j l m, (λ e. ap (ty_at types) e))

  -- The test of a word type holds of that very type.
  pub word_exact : (k j : ℕ) → j < length types → (is_word types k j ≡ true) ↔ (ty_at types j ≡ word_ty k)
  word_exact k j l = (word_type types (types_pass types check) k j, type_word types (types_pass types check) k j l)

  -- Arrows. A node whose rule holds is in range and typed by the report at its arrow, whatever the nodes and arrows before it.
  pub arrow_sound : (nodes : List Node) (arrows : List Arrow) (i : ℕ) → arrow_rule types nodes arrows i ≡ true
      → InRange types arrows i
      × NodeTyped nodes (from_ty types arrows) (to_ty types arrows) (node_at nodes i) (from_ty types arrows i) (to_ty types arrows i)
  arrow_sound nodes arrows i e = (arrow_range types (types_pass types check) nodes arrows i e, arrow_typed types (types_pass types check) nodes arrows i e)

  -- The rule of node i holds exactly if its arrow is in range and the report types the node at it,
  -- where its children stand before it and the arrows before it are in range.
  pub arrow_exact : (nodes : List Node) (arrows : List Arrow) (i : ℕ) → AllBelow i (children (node_at nodes i))
      → ((j : ℕ) → j < i → InRange types arrows j)
      → (arrow_rule types nodes arrows i ≡ true)
      ↔ (InRange types arrows i
      × NodeTyped nodes (from_ty types arrows) (to_ty types arrows) (node_at nodes i) (from_ty types arrows i) (to_ty types arrows i))
  arrow_exact nodes arrows i b r = (
    arrow_sound nodes arrows i,
    (λ t. typed_arrow types (types_pass types check) nodes arrows i b r t.0 t.1),
  )

  -- There is one arrow for each node and every arrow's rule holds exactly if each is in range and the report types each node at its arrow.
  pub rules_exact : (nodes : List Node) (arrows : List Arrow) → Nodes.NodesFit 0 nodes → RulesHold types nodes arrows ↔ ArrowsTyped types nodes arrows
  rules_exact nodes arrows f = (
    rules_typed types (types_pass types check) nodes arrows,
    typed_rules types (types_pass types check) nodes arrows (λ i l. (Nodes.fit_at nodes i f l).below),
  )

  -- The whole check passes exactly if so they are, and no two nodes are equal.
  pub arrows_exact : (nodes : List Node) (arrows : List Arrow) → Nodes.NodesFit 0 nodes
      → (check_arrows types nodes arrows ≡ passed tt) ↔ (ArrowsTyped types nodes arrows × NoneEqual nodes arrows)
  arrows_exact nodes arrows f = (
    arrows_typed types (types_pass types check) nodes arrows (λ i l. (Nodes.fit_at nodes i f l).below),
    (λ h. typed_arrows types (types_pass types check) nodes arrows (λ i l. (Nodes.fit_at nodes i f l).below) h.0 h.1),
  )

-- Equal nodes. The test of two nodes holds exactly if they are the same node of the report, of no exempt kind, at the same arrow.
pub equal_exact : (nodes : List Node) (arrows : List Arrow) (j i : ℕ) → (equal_nodes nodes arrows j i ≡ true) ↔ EqualNodes nodes arrows j i
equal_exact nodes arrows j i = (test_equal nodes arrows j i, equal_test nodes arrows j i)

-- The walk. With the nodes below k done it refuses or has done all nodes below a count that is no smaller.
pub walk_count_lem : (nodes : List Node) (i k : ℕ) → Counted k (walk_from nodes i (up_from 0 k))
walk_count_lem nodes i k = walk_counted nodes i k

-- So the count is all that it has to keep.
pub count_done : (i k : ℕ) → is_done i (up_from 0 k) ≡ ltb i k
count_done i k = done_below i k

-- By the count: nothing where i is done; else the children's walks, then i has to be the next and allowed.
pub walk_step_lem : (nodes : List Node) (i k : ℕ) → i < length nodes → AllBelow i (children (node_at nodes i)) → walk_count nodes i k ≡ walk_step nodes i k
walk_step_lem nodes i k l b = count_step nodes i k l b

-- The walk passes exactly if the table is canonical and its hidden nodes stand where they may.
pub walk_exact : (nodes : List Node) → 1 ≤ length nodes → (check_walk nodes ≡ passed tt) ↔ (Canonical nodes × HiddenPlaces nodes)
walk_exact nodes some = (walk_canonical nodes some, (λ h. canonical_walk nodes h.0 h.1))

-- Decoding. It passes exactly if the program is the report's code of a table of nodes, as `IsProgram` says, and what it leaves is the layout of that table.
pub decode_exact : (program : List ℕ) (records bytes : ℕ) (t : NodeTable)
    → (decode program records bytes ≡ passed t) ↔ ((ns : List Node) × IsProgram program records bytes ns × (t ≡ Nodes.layout ns))
decode_exact program records bytes t = (
  decoded_is_program program records bytes t,
  (λ h. program_is_decoded program records bytes h.0 h.1 ∙ ap (λ (u : NodeTable). passed u) (sym h.2)),
)

-- The records and the bytes that are left stand for just the nodes of that table.
pub decode_nodes : (program : List ℕ) (records bytes : ℕ) (ns : List Node) → IsProgram program records bytes ns
    → nodes_of (stream_of program) (Nodes.layout ns).hashes (Nodes.layout ns).records ≡ ns
decode_nodes program records bytes ns h = decoded_nodes program records bytes ns h

-- So a program is the code of one table at most.
pub decode_one : (program : List ℕ) (records bytes : ℕ) (ns ms : List Node) → IsProgram program records bytes ns
    → IsProgram program records bytes ms → ns ≡ ms
decode_one program records bytes ns ms h k = one_table program records bytes ns ms h k

-- What is supplied beside the tables. The header passes exactly if its numbers keep their rules.
pub header_exact : (d : List ℕ) → (check_header d ≡ passed tt) ↔ HeaderFits d
header_exact d = (header_fits d, fits_header d)

-- The hashes pass exactly if they are as many as disconnects with two children, and one child gets one hash.
pub hashes_exact : (nodes : List Node) (given : List ℕ) → (check_hashes nodes given ≡ passed tt) ↔ HashesFit nodes given
hashes_exact nodes given = (hashes_fit nodes given, fit_hashes nodes given)

-- A program passes the check of its bounds exactly if it is within the limits.
pub limits_exact : (P : Program) → (check_bounds P ≡ passed tt) ↔ LimitsFit P
limits_exact P = (limits_fit P, fit_limits P)

-- The witness bits pass exactly if they are the compact bits of values of the witness nodes' targets, in node order, and then fewer than eight zeros.
pub witness_exact : (types : List TypeRecord) (nodes : List Node) (arrows : List Arrow) (bytes : List ℕ) (count : ℕ) (values : List Val)
    → (check_witness types nodes arrows bytes count ≡ passed values) ↔ WitnessFits types nodes arrows bytes count values
witness_exact types nodes arrows bytes count values = (witness_fits types arrows nodes bytes count values, fits_witness types arrows nodes bytes count values)

-- The input bits pass exactly if they are the compact bits of a value of the type, and then fewer than eight zeros.
pub input_exact : (A : Ty) (bytes : List ℕ) (count : ℕ) (v : Val) → (check_input A bytes count ≡ passed v) ↔ InputFits A bytes count v
input_exact A bytes count v = (input_fits A bytes count v, fits_input A bytes count v)

-- The stores pass exactly if each has room for its bound.
pub stores_exact : (P : Program) (cells frames answer : List ℕ) → (check_stores P cells frames answer ≡ passed tt) ↔ StoresFit P cells frames answer
stores_exact P cells frames answer = (stores_fit P cells frames answer, fit_stores P cells frames answer)
