-- Which dossiers are run: each that keeps the rules (RulesKept), and no other. The first answers what its program means of its input,
-- and any other a refusal of a check, which is none of a run's.
use Rattle.std.specs.Prelude.{◌≡◌, refl, ℕ, ◌/◌, ◌≤◌, length}
use Rattle.std.proofs.Math.Path.{sym, ap, subst}
use Rattle.std.proofs.Common.{◌∙◌, arith}
use mathlib.Core.List.{List, []}
use Rattle.limits.specs.Limits.{node_numbers, frame_numbers, cell_count, frame_count, cost_limit}
use Rattle.refusal.specs.declared.Refusal.{Refusal}
use Rattle.std.specs.Prelude.{Err as Refused}
use Rattle.report.specs.Types.{Ty, width}
use Rattle.report.specs.Values.{Val}
use Rattle.report.specs.Nodes.{Node}
use Rattle.report.specs.Meaning.{Means, eval}
use Rattle.scope.specs.Check.{Check, passed, refused, ◌>>=◌}
use Rattle.scope.specs.Numbers.{bytes_for}
use Rattle.scope.specs.Header.{check_header, section, count, s_types, s_program, s_arrows, s_witness, s_input, s_hashes}
use Rattle.scope.specs.Types.{TypeRecord, type_records, check_types}
use Rattle.scope.specs.Reading.{NodeTable}
use Rattle.scope.specs.Closing.{decode}
use Rattle.scope.specs.Arrows.{Arrow, arrow_records, check_arrows}
use Rattle.scope.specs.Hashes.{check_hashes}
use Rattle.scope.specs.Program.{Program, whole, whole_source}
use Rattle.scope.specs.Bounds.{check_bounds}
use Rattle.scope.specs.Witness.{check_witness}
use Rattle.scope.specs.Input.{check_input}
use Rattle.scope.specs.Stores.{check_stores}
use Rattle.scope.specs.Run.{Tables, Ready, program_of, check_tables, check_ready, tables_of, check_dossier, Ended, run}
use Rattle.common.specs.Checks.{both_passed, then_passes}
use Rattle.exactness.specs.Types.{TypesPass, types_pass, pass_types}
use Rattle.exactness.specs.Nodes.{layout, fit_at}
use Rattle.exactness.specs.NodeTyping.{ArrowsTyped}
use Rattle.exactness.specs.Equal.{NoneEqual}
use Rattle.exactness.proofs.Arrows.{arrows_typed, typed_arrows}
use Rattle.exactness.specs.Programs.{IsProgram}
use Rattle.exactness.proofs.Decoding.{decoded_is_program, program_is_decoded, decoded_nodes}
use Rattle.theory.specs.Safety.{Good, good_value, good_fail, good_prune}
use Rattle.theory.proofs.Programs.{value_of_target}
use Rattle.theory.specs.Answers.{told, output}
use Rattle.theory.proofs.Job.{job_sound, job_input, job_says, job_output, job_refused, job_unready}
use Rattle.theory.proofs.Refusals.{Refuses, OfDecoding, OfTables, OfReady, dossier_refuses, ready_refuses}
use Rattle.theory.proofs.NodeTerms.{cells_alike, frames_alike, cost_alike, source_alike, target_alike}
use Rattle.theory.specs.Supply.{HeaderFits, LimitsFit, StoresFit, HashesFit, InputFits}
use Rattle.theory.proofs.Supply.{header_fits, fits_header, limits_fit, fit_limits, stores_fit, fit_stores, hashes_fit, fit_hashes, input_fits, fits_input, witness_fits, fits_witness}
use Rattle.theory.specs.Acceptance.{tables_with, program_with, RulesKept, RunRefusal, FromRun}
use Rattle.theory.specs.Acceptance as Rules

-- bounds, source and target do not hang on the values
module _ (d : List ℕ) (ns : List Node) (values values' : List Val) where
  -- the program with the one list of values
  abbrev P : Program
  P = program_with d ns values

  -- and with the other
  abbrev Q : Program
  Q = program_with d ns values'

  -- so are the limits
  limits_alike : LimitsFit P → LimitsFit Q
  limits_alike h = record {
    cells = subst (λ (n : ℕ). n ≤ cell_count) (cells_alike P Q refl refl refl) h.cells;
    frames = subst (λ (n : ℕ). n ≤ frame_count) (frames_alike P Q refl refl refl) h.frames;
    cost = subst (λ (n : ℕ). n ≤ cost_limit) (cost_alike P Q refl refl refl) h.cost;
  }

  -- the room in the stores
  stores_alike : {cells frames answer : List ℕ} → StoresFit P cells frames answer → StoresFit Q cells frames answer
  stores_alike {cells} {frames} {answer} h = record {
    cell_bytes = subst (λ (n : ℕ). bytes_for n ≤ length cells) (cells_alike P Q refl refl refl) h.cell_bytes;
    frame_records = subst (λ (n : ℕ). n ≤ length frames / frame_numbers) (frames_alike P Q refl refl refl) h.frame_records;
    answer_bytes = subst (λ (A : Ty). bytes_for (width A) ≤ length answer) (target_alike P Q refl refl refl) h.answer_bytes;
  }

  -- and what is an input
  input_alike : {bytes : List ℕ} {n : ℕ} {v : Val} → InputFits (whole_source P) bytes n v → InputFits (whole_source Q) bytes n v
  input_alike {bytes} {n} {v} h = subst (λ (A : Ty). InputFits A bytes n v) (source_alike P Q refl refl refl) h

-- the tables of a dossier whose program is the code of a table
tables_are : (d : List ℕ) (records bytes : ℕ) (ns : List Node) → IsProgram (section d s_program) records bytes ns → tables_of d (layout ns) ≡ tables_with d ns
unfolding tables_of
tables_are d records bytes ns h = rw (decoded_nodes (section d s_program) records bytes ns h)

module _ (d nodes hashes cells frames answer : List ℕ) where
  -- the steps of the checks, of the tables T
  abbrev T : List Node → Tables
  T ns = tables_with d ns

  module _ (ns : List Node) (values : List Val) (v : Val) (h : RulesKept d nodes hashes cells frames answer ns values v) where
    -- SUCH A DOSSIER PASSES 1 TO 13
    pub kept_passes : check_dossier d nodes hashes ≡ passed (layout ns)
    unfolding check_dossier check_tables
    kept_passes =
        let types : List TypeRecord = type_records (section d s_types) in
        let arrows : List Arrow = arrow_records (section d s_arrows) in
        let read : Check NodeTable = decode (section d s_program) (length nodes / node_numbers) (length hashes) in
        let after : NodeTable → Check NodeTable = λ t. check_tables (tables_of d t) >>= λ tables. passed t in
        let fit = h.program.formed.fit in
        let tables : check_tables (T ns) ≡ passed tt =
        then_passes (check_arrows types ns arrows) (λ fine. check_hashes ns (section d s_hashes)) tt
        (typed_arrows types h.types ns arrows (λ i l. (fit_at ns i fit l).below) h.arrows h.apart)
        ∙ fit_hashes ns (section d s_hashes) h.supplied in
        then_passes (check_header d) (λ header. check_types types >>= λ fine. read >>= after) tt (fits_header d h.header)
        ∙ then_passes (check_types types) (λ fine. read >>= after) tt (pass_types types h.types)
        ∙ then_passes read after (layout ns) (program_is_decoded (section d s_program) (length nodes / node_numbers) (length hashes) ns h.program)
        ∙ then_passes (check_tables (tables_of d (layout ns))) (λ tables. passed (layout ns)) tt
        (ap check_tables (tables_are d (length nodes / node_numbers) (length hashes) ns h.program) ∙ tables)

    -- AND 14 TO 17, with its program and its input
    pub kept_ready : check_ready (tables_of d (layout ns)) cells frames answer ≡ passed (record { program = program_with d ns values; input = v })
    unfolding check_ready program_of
    kept_ready =
        let types : List TypeRecord = type_records (section d s_types) in
        let arrows : List Arrow = arrow_records (section d s_arrows) in
        let Q : Program = program_with d ns [] in
        let made : List Val → Val → Ready = λ values v. record { program = program_with d ns values; input = v } in
        let last : List Val → Val → Check Ready = λ values v. check_stores Q cells frames answer >>= λ stored. passed (made values v) in
        let third : List Val → Check Ready = λ values. check_input (whole_source Q) (section d s_input) (count d s_input) >>= λ v. last values v in
        let second : Check Ready = check_witness types ns arrows (section d s_witness) (count d s_witness) >>= third in
        ap (λ (T : Tables). check_ready T cells frames answer) (tables_are d (length nodes / node_numbers) (length hashes) ns h.program)
        ∙ then_passes (check_bounds Q) (λ bounded. second) tt (fit_limits Q (limits_alike d ns values [] h.limits))
        ∙ then_passes (check_witness types ns arrows (section d s_witness) (count d s_witness)) third values
        (fits_witness types arrows ns (section d s_witness) (count d s_witness) values h.witness)
        ∙ then_passes (check_input (whole_source Q) (section d s_input) (count d s_input)) (λ v. last values v) v
        (fits_input (whole_source Q) (section d s_input) (count d s_input) v (input_alike d ns values [] h.input))
        ∙ then_passes (check_stores Q cells frames answer) (λ stored. passed (made values v)) tt
        (fit_stores Q cells frames answer (stores_alike d ns values [] h.stores))

  -- ONLY SUCH A DOSSIER DOES
  module _ (t : NodeTable) (R : Ready) (e : check_dossier d nodes hashes ≡ passed t) (f : check_ready (tables_of d t) cells frames answer ≡ passed R) where
    -- the type records
    abbrev types : List TypeRecord
    types = type_records (section d s_types)

    -- the arrows
    abbrev arrows : List Arrow
    arrows = arrow_records (section d s_arrows)

    -- what 1 to 13 have told: the header, the types, the code of a table, its arrows and hashes
    abbrev Checked : List Node → Type 0
    Checked ns = HeaderFits d × TypesPass types × IsProgram (section d s_program) (length nodes / node_numbers) (length hashes) ns × (t ≡ layout ns)
        × (ArrowsTyped types ns arrows × NoneEqual ns arrows) × HashesFit ns (section d s_hashes)

    -- from the passed checks
    checked : (ns : List Node) × Checked ns
    unfolding check_dossier check_tables
    checked =
        let read : Check NodeTable = decode (section d s_program) (length nodes / node_numbers) (length hashes) in
        let after : NodeTable → Check NodeTable = λ t. check_tables (tables_of d t) >>= λ tables. passed t in
        let a = both_passed (check_header d) (λ header. check_types types >>= λ fine. read >>= after) t e in
        let b = both_passed (check_types types) (λ fine. read >>= after) t a.2 in
        let c = both_passed read after t b.2 in
        let g = both_passed (check_tables (tables_of d c.0)) (λ tables. passed c.0) t c.2 in
        let same : c.0 ≡ t = (let z = g.2 in cc) in
        let p = decoded_is_program (section d s_program) (length nodes / node_numbers) (length hashes) t (c.1 ∙ ap (λ (u : NodeTable). passed u) same) in
        let ns : List Node = p.0 in
        let own : tables_of d c.0 ≡ T ns = ap (tables_of d) (same ∙ p.2) ∙ tables_are d (length nodes / node_numbers) (length hashes) ns p.1 in
        let k = both_passed (check_arrows types ns arrows) (λ fine. check_hashes ns (section d s_hashes)) tt (ap check_tables (sym own) ∙ g.1) in
        let rules : TypesPass types = types_pass types b.1 in
        let fit = p.1.formed.fit in (
          ns,
          (
            header_fits d a.1,
            rules,
            p.1,
            p.2,
            arrows_typed types rules ns arrows (λ i l. (fit_at ns i fit l).below) k.1,
            hashes_fit ns (section d s_hashes) k.2,
          ),
        )

    -- and 14 to 17 the values, the input and the stores
    pub passes_kept : (ns : List Node) × (values : List Val) × RulesKept d nodes hashes cells frames answer ns values R.input
        × (t ≡ layout ns) × (R.program ≡ program_with d ns values)
    unfolding check_ready program_of
    passes_kept =
        let ns : List Node = checked.0 in
        let told = checked.1 in
        let Q : Program = program_with d ns [] in
        let made : List Val → Val → Ready = λ values v. record { program = program_with d ns values; input = v } in
        let last : List Val → Val → Check Ready = λ values v. check_stores Q cells frames answer >>= λ stored. passed (made values v) in
        let third : List Val → Check Ready = λ values. check_input (whole_source Q) (section d s_input) (count d s_input) >>= λ v. last values v in
        let second : Check Ready = check_witness types ns arrows (section d s_witness) (count d s_witness) >>= third in
        let own : tables_of d t ≡ T ns = ap (tables_of d) told.3 ∙ tables_are d (length nodes / node_numbers) (length hashes) ns told.2 in
        let a = both_passed (check_bounds Q) (λ bounded. second) R (ap (λ (T : Tables). check_ready T cells frames answer) (sym own) ∙ f) in
        let b = both_passed (check_witness types ns arrows (section d s_witness) (count d s_witness)) third R a.2 in
        let c = both_passed (check_input (whole_source Q) (section d s_input) (count d s_input)) (λ v. last b.0 v) R b.2 in
        let g = both_passed (check_stores Q cells frames answer) (λ stored. passed (made b.0 c.0)) R c.2 in
        let is : made b.0 c.0 ≡ R = (let z = g.2 in cc) in
        let input : c.0 ≡ R.input = ap (λ (R : Ready). R.input) is in (
          ns,
          b.0,
          record {
            header = told.0;
            types = told.1;
            program = told.2;
            arrows = told.4.0;
            apart = told.4.1;
            supplied = told.5;
            limits = limits_alike d ns [] b.0 (limits_fit Q a.1);
            witness = witness_fits types arrows ns (section d s_witness) (count d s_witness) b.0 b.1;
            input = subst (InputFits _ _ _) input (input_alike d ns [] b.0 (input_fits (whole_source Q) (section d s_input) (count d s_input) c.0 c.1));
            stores = stores_alike d ns [] b.0 (stores_fit Q cells frames answer g.1);
          },
          told.3,
          sym (ap (λ (R : Ready). R.program) is),
        )

-- the refusals of the checks are none of them
abbrev OfCheck : Refusal → Type 0
OfCheck r = RunRefusal r → ⊥

decoding_checks : OfDecoding OfCheck
decoding_checks = record {
  header = λ at h. omega arith;
  ended = λ at h. omega arith;
  natural = λ at h. omega arith;
  overlong = λ at h. omega arith;
  jet = λ at h. omega arith;
  order = λ at h. omega arith;
  elsewhere = λ at h. omega arith;
  both = λ at h. omega arith;
  repeated = λ at h. omega arith;
  closing = λ at h. omega arith;
  nodes_short = λ h. omega arith;
  hashes_short_lem = λ h. omega arith;
}

tables_check : OfTables OfCheck
tables_check = record { equal = λ at h. omega arith; one-child = λ at h. omega arith; arrow = λ at h. omega arith; hash = λ at h. omega arith }

ready_checks : OfReady OfCheck
ready_checks = record {
  over = λ at h. omega arith;
  witness = λ at h. omega arith;
  input = λ h. omega arith;
  cells_short = λ h. omega arith;
  frames_short = λ h. omega arith;
  answer_short = λ h. omega arith;
}

-- a meaning that is not stuck is told so
good_told : {B : Ty} {o : Means} → Good B o → FromRun (told o)
unfolding told
good_told (good_value h) = tt
good_told good_fail = record { least = omega arith; most = omega arith }
good_told good_prune = record { least = omega arith; most = omega arith }

module _ (d nodes hashes cells frames answer : List ℕ) where
  -- the whole job
  abbrev job : Ended
  job = run d nodes hashes cells frames answer

  module _ (ns : List Node) (values : List Val) (v : Val) (h : RulesKept d nodes hashes cells frames answer ns values v) where
    -- A DOSSIER THAT KEEPS THE RULES IS ANSWERED BY WHAT ITS PROGRAM MEANS OF ITS INPUT
    pub kept_says : job.says ≡ told (eval (whole (program_with d ns values)) v)
    kept_says =
        job_says d nodes hashes (layout ns) (kept_passes d nodes hashes cells frames answer ns values v h) cells frames answer
        (record { program = program_with d ns values; input = v }) (kept_ready d nodes hashes cells frames answer ns values v h)

    -- its value's bits stand in the answer store
    pub kept_output : job.answer ≡ output (eval (whole (program_with d ns values)) v) answer
    kept_output =
        job_output d nodes hashes (layout ns) (kept_passes d nodes hashes cells frames answer ns values v h) cells frames answer
        (record { program = program_with d ns values; input = v }) (kept_ready d nodes hashes cells frames answer ns values v h)

    -- and that is no refusal of a check
    pub kept_runs : FromRun job.says
    kept_runs =
        let R : Ready = record { program = program_with d ns values; input = v } in
        let e = kept_passes d nodes hashes cells frames answer ns values v h in
        let p = kept_ready d nodes hashes cells frames answer ns values v h in
        subst FromRun (sym kept_says)
        (good_told (value_of_target R.program (job_sound d nodes hashes (layout ns) e cells frames answer R p) v
        (job_input d nodes hashes (layout ns) e cells frames answer R p)))

  -- a dossier that holds a table, values and an input by the rules
  abbrev Acceptable : Type 0
  Acceptable = Rules.Acceptable d nodes hashes cells frames answer

  -- what a check refuses is no answer of a run
  not_run : {X : Type 0} (c : Check X) (why : Refusal) → Refuses OfCheck c → c ≡ refused why → job.says ≡ Refused why → FromRun job.says → ⊥
  not_run c why h e q f = h why e (subst FromRun q f)

  -- AND ONLY SUCH A DOSSIER IS ANSWERED BY A RUN
  pub run_kept : FromRun job.says → Acceptable
  run_kept f = go (check_dossier d nodes hashes) refl
    where
      tables : (t : NodeTable) → check_dossier d nodes hashes ≡ passed t → (x : Check Ready) → check_ready (tables_of d t) cells frames answer ≡ x → Acceptable
      tables t e (passed R) p = let k = passes_kept d nodes hashes cells frames answer t R e p in (k.0, k.1, R.input, k.2)
      tables t e (refused r) p =
          absurd (not_run (check_ready (tables_of d t) cells frames answer) r (ready_refuses OfCheck ready_checks
          (tables_of d t) cells frames answer) p (job_unready d nodes hashes cells frames answer t r e p) f)

      go : (x : Check NodeTable) → check_dossier d nodes hashes ≡ x → Acceptable
      go (passed t) e = tables t e (check_ready (tables_of d t) cells frames answer) refl
      go (refused r) e =
          absurd
          (not_run (check_dossier d nodes hashes) r (dossier_refuses OfCheck decoding_checks (λ at h. omega arith) tables_check d nodes hashes) e
          (job_refused d nodes hashes cells frames answer r e) f)
