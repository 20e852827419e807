-- The run of a whole program on an input, with cells and frames of just the computed size, and what it answers.
-- That the answer is the meaning is shown in proofs/Programs.
use Rattle.report.specs.Values.{Val, Cells}
use Rattle.report.specs.Meaning.{Means}
use Rattle.scope.specs.Machine.{Step, machine, answer}
use Rattle.scope.specs.Program.{Program, whole, whole_source, whole_target}
use Rattle.scope.specs.Bounds.{whole_cells, whole_frames}

-- the program's run on an input and old cells, in the cells and frames of its bounds
unfoldable pub run_of : Program → Val → Cells → Step
unfolding machine whole_cells whole_frames whole whole_source whole_target
run_of P v c = machine (whole_cells P) (whole_frames P) (whole P) (whole_source P) (whole_target P) v c

-- what the run answers
unfoldable pub answer_of : Program → Val → Cells → Means
unfolding answer run_of
answer_of P v c = answer (whole_source P) (whole_target P) (run_of P v c)
