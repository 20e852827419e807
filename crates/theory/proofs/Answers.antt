-- What a run of a sound program says and leaves, told by the meaning: the value's compact bits, or 18 or 19 at the place where the meaning stops.
-- So the old contents of cells, frames and answer change no output, no refusal and no place.
use Rattle.std.specs.Prelude.{◌≡◌, List, ℕ}
use Rattle.std.proofs.Math.Path.{refl}
use Rattle.report.specs.Types.{width}
use Rattle.report.specs.Values.{Val, HasTy}
use Rattle.report.specs.Meaning.{Means, eval}
use Rattle.scope.specs.Machine.{Step}
use Rattle.scope.specs.Program.{Program, whole, whole_source, whole_target}
use Rattle.scope.specs.Bounds.{whole_cells, whole_frames}
use Rattle.scope.specs.Run.{Left, cells_of, cleared, ends, ran}
use Rattle.theory.specs.WholeRuns.{Ran, ran_value, ran_fail, ran_prune}
use Rattle.theory.specs.Sound.{Sound}
use Rattle.theory.specs.Programs.{run_of}
use Rattle.theory.proofs.Programs.{run_ends}
use Rattle.theory.specs.Answers.{told, output}

module _ (P : Program) (ok : Sound P) (v : Val) (hv : HasTy v (whole_source P)) (cells frames answer : List ℕ) where
  -- the run with its input and its stores
  abbrev left : Left
  left = ran (record { program = P; input = v }) cells frames answer

  -- what an end of the run says
  said : {o : Means} {s : Step} → Ran (whole_target P) (width (whole_source P)) (whole_cells P) (cells_of cells) o s → (ends P s cells frames answer).says ≡ told o
  unfolding ends told
  said (ran_value k) = refl
  said (ran_fail k) = refl
  said (ran_prune k) = refl

  -- what it leaves in the answer store
  put_out : {o : Means} {s : Step} → Ran (whole_target P) (width (whole_source P)) (whole_cells P) (cells_of cells) o s
      → (ends P s cells frames answer).answer ≡ output o answer
  unfolding ends output
  put_out (ran_value k) = refl
  put_out (ran_fail k) = refl
  put_out (ran_prune k) = refl

  -- what it leaves in the frame store
  swept : {o : Means} {s : Step} → Ran (whole_target P) (width (whole_source P)) (whole_cells P) (cells_of cells) o s
      → (ends P s cells frames answer).frames ≡ cleared (whole_frames P) frames
  unfolding ends
  swept (ran_value k) = refl
  swept (ran_fail k) = refl
  swept (ran_prune k) = refl

  -- THE ANSWER TELLS THE MEANING: its value's count of bits, or 18 or 19 where and as it stops
  pub run_says : left.says ≡ told (eval (whole P) v)
  unfolding ran run_of
  run_says = said (run_ends P ok v hv (cells_of cells))

  -- the answer store holds the value's compact bits
  pub run_output : left.answer ≡ output (eval (whole P) v) answer
  unfolding ran run_of
  run_output = put_out (run_ends P ok v hv (cells_of cells))

  -- frame records within the bound are zero
  pub run_frames : left.frames ≡ cleared (whole_frames P) frames
  unfolding ran run_of
  run_frames = swept (run_ends P ok v hv (cells_of cells))
