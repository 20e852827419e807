-- From the answer of a run's checks to the run: with a refusal the stage is refused, and with bounds the tables and the stores are fit for the run.
use mathlib.Core.Path.{◌≡◌, sym, ap, ◌∙◌, subst}
use mathlib.Core.List.{List}
use Prim.Native.Nat.{ℕ}
use native.Mathlib.Omega.{arith}
use lib.ListN.{length}
use Rattle.refusal.specs.declared.Refusal.{Refusal}
use Rattle.std.specs.Prelude.{Result, Ok, Err}
use Rattle.report.specs.Values.{Val}
use Rattle.report.specs.Meaning.{stuck}
use Rattle.scope.specs.Nodes.{node_records}
use Rattle.scope.specs.Program.{Program, value_from, whole, whole_source, whole_target}
use Rattle.scope.specs.Bounds.{whole_cells, whole_frames}
use Rattle.scope.specs.Machine.{machine}
use Rattle.scope.specs.Run.{Ready, Left, cells_of, left_with, ran}
use Rattle.scope.specs.Stages.{tables_lent, run_stage}
use Rattle.common.specs.Nodes.{length_records}
use Rattle.ready.specs.Lent.{program_at, Shown}
use Rattle.ready.specs.declared.Prepared.{Prepared}
use Rattle.ready.proofs.Shown as Shows
use Rattle.ready.proofs.Told.{found, IsReady, told_ready, stage_runs, told_refused}
use Rattle.bit_machine.specs.Whole.{ready_of, RunOk}
use Rattle.bit_machine.proofs.Ends.{nodes_many}

module _ (types nodes arrows program hashes given witness : List ℕ) (witness_bits : ℕ) (input : List ℕ)
    (input_bits : ℕ) (cells frames answer : List ℕ) (r : Result Prepared Refusal)
    (is : r ≡ found types nodes arrows program hashes given witness witness_bits input input_bits cells frames answer) where
  abbrev Staged : Left → Type 0
  Staged left = left ≡ run_stage types nodes arrows program hashes given witness witness_bits input input_bits cells frames answer

  -- no run
  pub not_begun : (why : Refusal) → r ≡ Err why → Staged (left_with (Err why) cells frames answer)
  not_begun why e = sym (told_refused types nodes arrows program hashes given witness witness_bits input input_bits cells frames answer r is why e)

  -- a run
  module _ (p : Prepared) (e : r ≡ Ok p) where
    told : IsReady types nodes arrows program hashes given witness witness_bits input input_bits cells frames answer p
    told = told_ready types nodes arrows program hashes given witness witness_bits input input_bits cells frames answer r is p e

    abbrev R : Ready
    R = told.ready

    -- the program, with the positions that the checks found
    abbrev P : Program
    P = program_at types nodes arrows program hashes given witness p.positions

    pub begun_shown : Shown types p.widths p.next nodes arrows program hashes given witness p.positions
    unfolding tables_lent
    begun_shown =
        rw (told.widths_are, told.next_are, told.positions_are)
        (Shows.shown types nodes arrows program hashes given witness witness_bits input input_bits told.tables_pass cells frames answer R told.ready_pass)

    same_program : P ≡ R.program
    unfolding tables_lent
    same_program =
        ap (λ (ps : List ℕ). program_at types nodes arrows program hashes given witness ps) told.positions_are
        ∙ Shows.program_is_lem types nodes arrows program hashes given witness witness_bits input input_bits
        told.tables_pass cells frames answer R told.ready_pass

    -- the input that was made ready is the value at the front of the input bits
    same_input : (ready_of R.program input).input ≡ R.input
    unfolding whole_source value_from
    same_input =
        let h = Shows.input_held types nodes arrows program hashes given witness witness_bits input input_bits
        told.tables_pass cells frames answer R told.ready_pass in
        rw (h.1, value_from)

    same_ready : ready_of P input ≡ R
    same_ready = ap (λ (P : Program). ready_of P input) same_program ∙ λ i. record { program = R.program; input = same_input i }

    -- the stage is this run
    pub begun_ran : (left : Left) → left ≡ ran (ready_of P input) cells frames answer → Staged left
    begun_ran left q =
        q ∙ ap (λ (R : Ready). ran R cells frames answer) same_ready
        ∙ sym (stage_runs types nodes arrows program hashes given witness witness_bits input input_bits cells frames answer r is p told)

    fit : RunOk R.program input p.cells p.frames cells frames answer
    fit =
        let n = Shows.nodes_counted types nodes arrows program hashes given witness witness_bits input input_bits told.tables_pass in
        let l : length R.program.nodes ≡ length (node_records nodes) =
        ap (λ (P : Program). length P.nodes) (sym same_program)
        ∙ nodes_many types nodes arrows program hashes given witness p.positions
        ∙ sym (length_records nodes) in
        let h = Shows.input_held types nodes arrows program hashes given witness witness_bits input input_bits
        told.tables_pass cells frames answer R told.ready_pass in
        let room = Shows.room types nodes arrows program hashes given witness witness_bits input input_bits
        told.tables_pass cells frames answer R told.ready_pass in
        let w = Shows.within_limits types nodes arrows program hashes given witness witness_bits input input_bits
        told.tables_pass cells frames answer R told.ready_pass in
        record {
          some = omega arith;
          few = omega arith;
          reads = (R.input, h.0, h.1);
          size_is = told.cells_are;
          most_is = told.frames_are;
          size_fits = rw told.cells_are w.0;
          most_fits = rw told.frames_are w.1;
          cells_fit = rw told.cells_are room.0;
          frames_fit = rw told.frames_are room.1;
          answer_fits = room.2;
          goes = subst
              (λ (v : Val). machine (whole_cells R.program) (whole_frames R.program) (whole R.program) (whole_source R.program)
              (whole_target R.program) v (cells_of cells) ≡ stuck → ⊥)
              (sym same_input)
              (Shows.not_stuck types nodes arrows program hashes given witness witness_bits input input_bits
              told.tables_pass cells frames answer R told.ready_pass);
        }

    -- what the run rests on
    pub begun_ok : RunOk P input p.cells p.frames cells frames answer
    begun_ok = subst (λ (P : Program). RunOk P input p.cells p.frames cells frames answer) (sym same_program) fit
