-- Which ends keep the decoded table, as `keeps_table` has it: what refuses the tables leaves none, what is said once they stand keeps it.
use mathlib.Core.Path.{◌≡◌, refl}
use mathlib.Core.List.{List}
use mathlib.Core.Bool.{true, false}
use Prim.Native.Nat.{ℕ}
use Rattle.refusal.specs.declared.Refusal.{Refusal}
use Rattle.refusal.specs.Answers.{Answer}
use Rattle.std.specs.Prelude.{Ok as Value, Err as Refused}
use Rattle.refusal.specs.Numbers.{keeps_table}
use Rattle.report.specs.Meaning.{done, failed, pruned, stuck}
use Rattle.scope.specs.Check.{Check, passed, refused}
use Rattle.scope.specs.Program.{Program, whole, whole_source, whole_target}
use Rattle.scope.specs.Bounds.{whole_cells, whole_frames}
use Rattle.scope.specs.Machine.{Step, machine}
use Rattle.scope.specs.Run.{Tables, Ready, check_tables, check_ready, Left, left_with, cells_of, ends, ran, run_tables}
use Rattle.theory.proofs.Refusals as Refusals
use Rattle.theory.proofs.Refusals.{Refuses, OfTables, OfReady, ready_refuses}

-- while the tables are checked, and after
abbrev pub Early : Refusal → Type 0
Early r = keeps_table r ≡ false

abbrev pub Late : Refusal → Type 0
Late r = keeps_table r ≡ true

tables_early : OfTables Early
tables_early = record { equal = λ at. refl; one-child = λ at. refl; arrow = λ at. refl; hash = λ at. refl }

ready_late : OfReady Late
ready_late = record { over = λ at. refl; witness = λ at. refl; input = refl; cells_short = refl; frames_short = refl; answer_short = refl }

-- 9 of equal nodes, 11, 12 and 13
pub tables_refuse : (T : Tables) (r : Refusal) → check_tables T ≡ refused r → Early r
tables_refuse = Refusals.tables_refuse Early tables_early

-- an answer that is no refusal, or one that keeps the table
abbrev pub LateAnswer : Answer → Type 0
LateAnswer (Value n) = Unit {0}
LateAnswer (Refused r) = Late r

-- 18 and 19, or an output
ends_late : (P : Program) (s : Step) (cells frames answer : List ℕ) → LateAnswer (ends P s cells frames answer).says
unfolding ends left_with
ends_late P (done s) cells frames answer = tt
ends_late P (failed place s) cells frames answer = refl
ends_late P (pruned place s) cells frames answer = refl
ends_late P stuck cells frames answer = refl

-- what is said once the tables stand
pub tables_late : (T : Tables) (cells frames answer : List ℕ) → LateAnswer (run_tables T cells frames answer).says
unfolding run_tables ran left_with
tables_late T cells frames answer = go (check_ready T cells frames answer) (ready_refuses Late ready_late T cells frames answer)
  where
    left : Check Ready → Left
    left c = elim c [ passed R ↦ ran R cells frames answer | refused r ↦ left_with (Refused r) cells frames answer ]

    go : (c : Check Ready) → Refuses Late c → LateAnswer (left c).says
    go (passed R) h =
        let P = R.program in
        ends_late P (machine (whole_cells P) (whole_frames P) (whole P) (whole_source P) (whole_target P) R.input (cells_of cells)) cells frames answer
    go (refused r) h = h r refl
