-- The three demands, as theorems about the call `dossier::run`: what the call promises is one equation with the definition `run`,
-- and each theorem here takes that promise, of any dossier and any stores lent (`d` to `answer`) and of what the call answered and left (`r` to `answer'`).
--   1. Any bytes and any stores end in an output or a numbered refusal with a place, and what each end leaves in every store is fixed beforehand.
--   2. Decoding, results and bounds are those of the report and of the table of the requirements; just the dossiers that keep the rules are run.
--   3. The run is never stuck, the engine's own function is the meaning at every node that the run enters, and old bits change nothing.
use mathlib.Core.Path.{◌≡◌, sym, ap, ◌∙◌, subst}
use mathlib.Core.List.{List, []}
use mathlib.Core.Logic.{◌↔◌}
use Prim.Native.Nat.{ℕ, ◌+◌, ◌*◌, ◌/◌, ◌≤◌}
use lib.ListN.{length}
use borrow.Fn.Kinds.{Dens, ended_of}
use contract.Lifetimes.{Lfts}
use denote.Ref.{Bor}
use denote.MutBor.{MutBor}
use denote.Triple.Clauses.{AtExit}
use Rattle.promise.specs.Outcomes.{◌&◌}
use Rattle.limits.specs.Limits.{node_numbers, node_cost}
use Rattle.refusal.specs.declared.Refusal.{Refusal}
use Rattle.refusal.specs.Answers.{Answer}
use Rattle.std.specs.Prelude.{Err as Refused}
use Rattle.report.specs.Values.{Val, HasTy, value_at}
use Rattle.report.specs.Nodes.{Node}
use Rattle.report.specs.Meaning.{stuck, eval, visits}
use Rattle.scope.specs.Check.{passed, refused}
use Rattle.scope.specs.Numbers.{zeros, filled, bytes_for}
use Rattle.scope.specs.Header.{count, section, s_types, s_program, s_arrows, s_witness, s_input, s_hashes}
use Rattle.scope.specs.Nodes.{node_numbers_of}
use Rattle.scope.specs.Reading.{NodeTable}
use Rattle.scope.specs.Closing.{decode}
use Rattle.scope.specs.Program.{source_ty, target_ty, term_at, whole, whole_source, whole_target}
use Rattle.scope.specs.Bounds.{whole_cells, whole_frames, whole_cost}
use Rattle.scope.specs.Machine.{State, Step, machine}
use Rattle.scope.specs.Stages.{tables_lent}
use Rattle.scope.specs.Run.{Tables, Ready, check_ready, tables_of, check_dossier, left_with, run_tables, cells_of, cleared, Ended, ended_with, run}
use Rattle.exactness.specs.Nodes as Nodes
use Rattle.exactness.specs.Programs.{IsProgram}
use Rattle.exactness.proofs.Decoding.{decoded_is_program}
use Rattle.layout.specs.Layout.{layout}
use Rattle.layout.specs.Match.{laid_out}
use Rattle.theory.specs.Answers.{told, output}
use Rattle.theory.specs.Sound.{Sound}
use Rattle.theory.specs.Left.{CellsLeft, output_bytes}
use Rattle.theory.specs.Acceptance.{program_with, RulesKept, Acceptable, FromRun}
use Rattle.theory.specs.Entered.{Entered}
use Rattle.theory.specs.Entry.{cursor_of}
use Rattle.theory.specs.NodeEnds.{NodeEnds}
use Rattle.theory.proofs.Theorems as Theorems
use Rattle.bit_machine.proofs.Visits as Visits
use Rattle.dossier.proofs.Job.{dossier_parts, own_stage, own_tables}
use Rattle.dossier.proofs.run.Kinds as kinds
use Rattle.dossier.proofs.run.Reads as reads

-- a dossier as it is lent to be read, and a store as it is lent to be written, with these numbers in it: where it lies plays no part in the
-- promise, nor what its loan is called, nor how long it is lent
abbrev slice : List ℕ → Bor (List ℕ)
slice numbers = record { ref_ptr = (0, 0); now = numbers }

abbrev store : List ℕ → MutBor (List ℕ)
store numbers = record { ref_ptr = (0, 0); ghost_name = 0; now = numbers }

abbrev lasting : Lfts 6
lasting = ([], ([], ([], ([], ([], ([], tt))))))

-- the promise of the call, its own `Post`, of what was lent and of what was answered and left
abbrev pub Promise : (d nodes hashes cells frames answer : List ℕ) → (r : Answer) → (nodes' hashes' cells' frames' answer' : List ℕ) → Type 0
Promise d nodes hashes cells frames answer r nodes' hashes' cells' frames' answer' =
    reads.Post lasting (slice d & store nodes & store hashes & store cells & store frames & store answer & tt) r
    (slice d & store nodes' & store hashes' & store cells' & store frames' & store answer' & tt)

-- every call that keeps its promise gives it, wherever its arguments lie
pub promised : (κs : Lfts 6) (a : Dens κs kinds.ps) (r : Answer) (x : AtExit (ended_of 6 kinds.ps kinds.r) κs) → reads.Post κs a r x
    → Promise a.0.now a.1.0.now a.1.1.0.now a.1.1.1.0.now a.1.1.1.1.0.now a.1.1.1.1.1.0.now
    r x.1.0.now x.1.1.0.now x.1.1.1.0.now x.1.1.1.1.0.now x.1.1.1.1.1.0.now
promised κs a r x p = p

module _ (d nodes hashes cells frames answer : List ℕ) (r : Answer) (nodes' hashes' cells' frames' answer' : List ℕ)
    (promise : Promise d nodes hashes cells frames answer r nodes' hashes' cells' frames' answer') where
  -- DEMAND 1. The end has no second: another answer, or other stores left, break the promise.
  pub one_end : (q : Answer) (nodes'' hashes'' cells'' frames'' answer'' : List ℕ)
      → Promise d nodes hashes cells frames answer q nodes'' hashes'' cells'' frames'' answer''
      → ended_with r nodes' hashes' cells' frames' answer' ≡ ended_with q nodes'' hashes'' cells'' frames'' answer''
  one_end q nodes'' hashes'' cells'' frames'' answer'' other = promise ∙ sym other

  -- DEMAND 2, of the whole call. The answer comes from a run, an output or 18 or 19, exactly if the dossier keeps the rules: its program
  -- section is the report's code of a table in canonical order, its types and hashes keep theirs, its arrows are the report's typing, it is
  -- within the limits, and values and stores fit.
  pub run_exactly : FromRun r ↔ Acceptable d nodes hashes cells frames answer
  unfolding ended_with
  run_exactly =
      let says : r ≡ (run d nodes hashes cells frames answer).says = ap (λ (e : Ended). e.says) promise in
      let k = Theorems.kept_exactly d nodes hashes cells frames answer in
      (λ h. k.0 (subst FromRun says h), λ h. subst FromRun (sym says) (k.1 h))

  -- Such a dossier is answered by what its program means of its input, with that value's bits in the answer store.
  pub accepted : (ns : List Node) (values : List Val) (v : Val) → RulesKept d nodes hashes cells frames answer ns values v
      → (r ≡ told (eval (whole (program_with d ns values)) v)) × (answer' ≡ output (eval (whole (program_with d ns values)) v) answer)
  unfolding ended_with
  accepted ns values v h =
      let k = Theorems.kept_means d nodes hashes cells frames answer ns values v h in
      (ap (λ (e : Ended). e.says) promise ∙ k.0, ap (λ (e : Ended). e.answer) promise ∙ k.1)

  -- A dossier against a check of 1 to 13 (or 17 at 3 or 4) is refused for it; node and hash stores are zero, the others as they were.
  pub refused_early : (why : Refusal) → check_dossier d nodes hashes ≡ refused why
      → ended_with r nodes' hashes' cells' frames' answer' ≡ ended_with (Refused why) (zeros (length nodes)) (zeros (length hashes)) cells frames answer
  unfolding run
  refused_early why e = promise ∙ rw (e, run)

  -- A dossier that passes them.
  module _ (t : NodeTable) (passes : check_dossier d nodes hashes ≡ passed t) where
    -- The node and hash stores hold the decoded table, the rest of them zero, however the run ends.
    pub table_kept : (nodes' ≡ filled (node_numbers_of t.records) nodes) × (hashes' ≡ filled t.hashes hashes)
    unfolding run ended_with
    table_kept = (ap (λ (e : Ended). e.nodes) promise ∙ rw (passes, run), ap (λ (e : Ended). e.hashes) promise ∙ rw (passes, run))

    -- Against a check of 14 to 17 it is refused for it, and the other stores are as they were.
    pub refused_late : (why : Refusal) → check_ready (tables_of d t) cells frames answer ≡ refused why
        → (r ≡ Refused why) × (cells' ≡ cells) × (frames' ≡ frames) × (answer' ≡ answer)
    unfolding run ended_with run_tables left_with
    refused_late why e = (
      ap (λ (e : Ended). e.says) promise ∙ rw (passes, run) (rw (e, run_tables)),
      ap (λ (e : Ended). e.cells) promise ∙ rw (passes, run) (rw (e, run_tables)),
      ap (λ (e : Ended). e.frames) promise ∙ rw (passes, run) (rw (e, run_tables)),
      ap (λ (e : Ended). e.answer) promise ∙ rw (passes, run) (rw (e, run_tables)),
    )

    -- DEMAND 2. Its program section is the report's code of a table in canonical order, and what was decoded is that table.
    pub program_is_code : (ns : List Node) × IsProgram (section d s_program) (length nodes / node_numbers) (length hashes) ns × (t ≡ Nodes.layout ns)
    unfolding check_dossier
    program_is_code = decoded_is_program (section d s_program) (length nodes / node_numbers) (length hashes) t decodes
      where
        decodes : decode (section d s_program) (length nodes / node_numbers) (length hashes) ≡ passed t
        decodes = (dossier_parts d nodes hashes t passes).decodes

    -- And with values and stores that pass 14 to 17, it runs.
    module _ (R : Ready) (ready : check_ready (tables_of d t) cells frames answer ≡ passed R) where
      -- The answer is what the program means of its input: so many bits, or 18 or 19 at the place where the meaning stops.
      pub answer_is_meaning : r ≡ told (eval (whole R.program) R.input)
      unfolding ended_with
      answer_is_meaning = ap (λ (e : Ended). e.says) promise ∙ Theorems.job_says_meaning d nodes hashes cells frames answer t R passes ready

      -- The answer store begins with the compact bits of that value, later bytes kept; where the run stops it is as it was.
      pub output_is_meaning : answer' ≡ output (eval (whole R.program) R.input) answer
      unfolding ended_with
      output_is_meaning = ap (λ (e : Ended). e.answer) promise ∙ Theorems.job_leaves_value d nodes hashes cells frames answer t R passes ready

      -- The frame records within the bound are zero, those beyond it as they were.
      pub frames_left : frames' ≡ cleared (whole_frames R.program) frames
      unfolding ended_with
      frames_left = ap (λ (e : Ended). e.frames) promise ∙ Theorems.job_clears_frames d nodes hashes cells frames answer t R passes ready

      -- The cells are those that the machine's rules left, and from the bound on as they were.
      pub cells_left : CellsLeft (machine (whole_cells R.program) (whole_frames R.program) (whole R.program)
          (whole_source R.program) (whole_target R.program) R.input (cells_of cells))
          (whole_cells R.program) cells cells'
      unfolding ended_with
      cells_left =
          subst (CellsLeft _ (whole_cells R.program) cells) (sym (ap (λ (e : Ended). e.cells) promise))
          (Theorems.job_leaves_cells d nodes hashes cells frames answer t R passes ready)

      -- The program's tables keep every rule that the checks ask for (`Sound`; by `node-typed` each shown node's term then has its arrow's
      -- type), and its input is a value of its source.
      pub program_sound : Sound R.program × HasTy R.input (whole_source R.program)
      program_sound = Theorems.dossier_sound d nodes hashes cells frames answer t R passes ready

      -- the dossier's tables, as they are lent
      lent_ready : check_ready (tables_lent (section d s_types) (node_numbers_of t.records) (section d s_arrows) (section d s_program)
          t.hashes (section d s_hashes) (section d s_witness) (count d s_witness)
          (section d s_input) (count d s_input)) cells frames answer ≡ passed R
      lent_ready = ap (λ (T : Tables). check_ready T cells frames answer) (sym (own_tables d nodes hashes t passes)) ∙ ready

      -- DEMAND 3. With stores of just the computed size the run is never stuck, whatever the cells held.
      pub never_stuck : machine (whole_cells R.program) (whole_frames R.program) (whole R.program) (whole_source R.program)
          (whole_target R.program) R.input (cells_of cells)
          ≡ stuck → ⊥
      never_stuck = Theorems.never_stuck R.program program_sound.0 R.input program_sound.1 (cells_of cells)

      -- AT EVERY NODE THAT THE RUN ENTERS: the engine's own function, lent the decoded table, the sections, node i and the layout of the
      -- state s in which the run enters it.
      module _ (i : ℕ) (s : State) (entered : Entered R.program R.input (cells_of cells) i s) (κs : Lfts 4) (a : Visits.Args κs)
          (lends : Visits.LendsRun κs a (section d s_types) (node_numbers_of t.records) (section d s_arrows) (section d s_program) t.hashes
          (section d s_hashes) (section d s_witness) (count d s_witness))
          (node : Visits.node_in κs a ≡ i) (holds : Visits.machine_in κs a ≡ layout (8 * bytes_for (whole_cells R.program)) (whole_frames R.program) s) where
        -- What it asks for holds there.
        pub node_asks : Visits.Pre κs a
        node_asks =
            Visits.visit_asks (section d s_types) (node_numbers_of t.records) (section d s_arrows) (section d s_program) t.hashes
            (section d s_hashes) (section d s_witness) (count d s_witness)
            (section d s_input) (count d s_input) (own_stage d nodes hashes t passes) cells frames answer R lent_ready i s entered κs a lends node holds

        -- By its own promise it ends in the layout of a state in which the target's cells hold what the node means of the value that it
        -- reads, the write cursor is on by the target's width, the read cursor is back, and every other frame's cells and record are as
        -- they were; or it stops where the meaning stops.
        pub node_means : (q : Visits.Result κs) (x : Visits.Exit κs) → Visits.Post κs a q x
            → (e : Step) × (Visits.outcome κs q x ≡ laid_out (8 * bytes_for (whole_cells R.program)) (whole_frames R.program) e)
            × NodeEnds (target_ty R.program i) s (eval (term_at R.program i) (value_at (source_ty R.program i) s.cells (cursor_of s.reads))) e
        node_means =
            Visits.visit_ends (section d s_types) (node_numbers_of t.records) (section d s_arrows) (section d s_program) t.hashes
            (section d s_hashes) (section d s_witness) (count d s_witness)
            (section d s_input) (count d s_input) (own_stage d nodes hashes t passes) cells frames answer R lent_ready i s entered κs a lends node holds

      -- It visits at most cost / 100 + 1 nodes.
      pub few_visits : visits (whole R.program) R.input ≤ whole_cost R.program / node_cost + 1
      few_visits = Theorems.visits_of_run R.program program_sound.0 R.input program_sound.1

-- Old contents of the five stores change no output, no refusal and no place: two calls on one dossier with stores of the same sizes answer
-- the same, and the bytes that hold an output are the same.
pub old_stores : (d nodes hashes cells frames answer : List ℕ) (r : Answer) (nodes' hashes' cells' frames' answer' : List ℕ)
    → Promise d nodes hashes cells frames answer r nodes' hashes' cells' frames' answer'
    → (nodes_b hashes_b cells_b frames_b answer_b : List ℕ) (q : Answer) (nodes'' hashes'' cells'' frames'' answer'' : List ℕ)
    → Promise d nodes_b hashes_b cells_b frames_b answer_b q nodes'' hashes'' cells'' frames'' answer''
    → length nodes ≡ length nodes_b → length hashes ≡ length hashes_b → length cells ≡ length cells_b → length frames ≡ length frames_b
    → length answer ≡ length answer_b
    → (r ≡ q) × (output_bytes r answer' ≡ output_bytes q answer'')
unfolding ended_with
old_stores d nodes hashes cells frames answer r nodes' hashes' cells' frames' answer' promise nodes_b hashes_b cells_b frames_b answer_b q nodes''
    hashes'' cells'' frames'' answer'' other n h c f a =
    let held : Ended → List ℕ = λ e. output_bytes e.says e.answer in (
      ap (λ (e : Ended). e.says) promise
          ∙ Theorems.old_stores_change_nothing d nodes nodes_b hashes hashes_b cells cells_b frames frames_b answer answer_b n h c f a
          ∙ sym (ap (λ (e : Ended). e.says) other),
      ap held promise
          ∙ Theorems.old_stores_change_no_bit d nodes nodes_b hashes hashes_b cells cells_b frames frames_b answer answer_b n h c f a
          ∙ sym (ap held other),
    )
