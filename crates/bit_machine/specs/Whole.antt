-- A whole run of the last node from no frame: what it needs of tables, input, bounds and stores, and how it ends.
use Rattle.std.specs.Prelude.{◌≡◌, Result, Ok, Err, List, ℕ, ◌/◌, ◌≤◌, ◌<◌, length}
use Rattle.limits.specs.Limits.{node_count, cell_count, frame_count, frame_numbers}
use Rattle.refusal.specs.declared.Refusal.{Refusal}
use Rattle.refusal.specs.declared.Refusal.TheVariants.{FailReached, PrunedReached}
use Rattle.report.specs.Types.{width}
use Rattle.report.specs.Values.{Val}
use Rattle.report.specs.Meaning.{Out, done, failed, pruned, stuck}
use Rattle.scope.specs.Numbers.{stream_of, bytes_for}
use Rattle.scope.specs.Program.{Program, value_from, source_ty, target_ty, term_at, last, whole, whole_source, whole_target}
use Rattle.scope.specs.Bounds.{whole_cells, whole_frames}
use Rattle.scope.specs.Machine.{machine}
use Rattle.scope.specs.Run.{Ready, cells_of}
use Rattle.layout.specs.Mach.{Mach}
use Rattle.layout.specs.Exec.{Outcome, run_whole}
use Rattle.layout.specs.Safe.{WholeOk}
use Rattle.ready.specs.Lent.{Reads}
use Rattle.bit_machine.specs.declared.Reason.{Reason}
use Rattle.bit_machine.specs.declared.Reason.TheVariants.{Failed, Pruned}
use Rattle.bit_machine.specs.declared.Heights.{Heights}
use Rattle.bit_machine.specs.declared.Stopped.{Stopped}

-- an end of which only the cells are told
abbrev pub End : Type 0
End = Out (List ℕ) (List ℕ)

unfoldable pub cells_after : Outcome → End
cells_after (done m) = done m.bits
cells_after (failed place m) = failed place m.bits
cells_after (pruned place m) = pruned place m.bits
cells_after stuck = stuck

-- an answer with the cells
abbrev pub stopped_end : Reason → (bits : List ℕ) → End
stopped_end (Failed place) bits = failed place bits
stopped_end (Pruned place) bits = pruned place bits

abbrev pub end_of : Result Heights Stopped → (bits : List ℕ) → End
end_of (Ok h) bits = done bits
end_of (Err stop) bits = stopped_end stop.why bits

-- why a run stopped, as a refusal
abbrev pub refusal_of : Reason → Refusal
refusal_of (Failed place) = FailReached place
refusal_of (Pruned place) = PrunedReached place

-- the value of node i's source at the front of the input bits
abbrev pub input_of : Program → (i : ℕ) → (input : List ℕ) → Val
input_of P i input = value_from (source_ty P i) (stream_of input)

-- how node i ends on the input, on a machine with no frame
abbrev pub node_end : Program → (i : ℕ) → (input : List ℕ) → Mach → End
node_end P i input m = cells_after (run_whole (term_at P i) (source_ty P i) (target_ty P i) (input_of P i input) m)

-- an input stands there, and the run is safe
pub record NodeOk (P : Program) (i : ℕ) (input : List ℕ) (m : Mach) : Type 0 where
  pub reads : Reads (source_ty P i) (stream_of input)
  pub safe : WholeOk (term_at P i) (source_ty P i) (target_ty P i) (input_of P i input) m

-- the program with its input
abbrev pub ready_of : Program → (input : List ℕ) → Ready
ready_of P input = record { program = P; input = input_of P (last P) input }

-- what is shown before the run: an input, the bounds and their room in the stores, and that the machine of the requirements is not stuck within them
pub record RunOk (P : Program) (input : List ℕ) (size most : ℕ) (cells frames answer : List ℕ) : Type 0 where
  pub some : 0 < length P.nodes
  pub few : length P.nodes ≤ node_count
  pub reads : Reads (whole_source P) (stream_of input)
  pub size_is : size ≡ whole_cells P
  pub most_is : most ≡ whole_frames P
  pub size_fits : size ≤ cell_count
  pub most_fits : most ≤ frame_count
  pub cells_fit : bytes_for size ≤ length cells
  pub frames_fit : most ≤ length frames / frame_numbers
  pub answer_fits : bytes_for (width (whole_target P)) ≤ length answer
  pub goes : machine (whole_cells P) (whole_frames P) (whole P) (whole_source P) (whole_target P) (ready_of P input).input (cells_of cells) ≡ stuck → ⊥
