-- The checks before decoding, and which ends keep the decoded table: an output, and the refusals that say so.
use Rattle.std.specs.Prelude.{Bool, true, false, List, ℕ, length}
use Rattle.refusal.specs.Answers.{Answer}
use Rattle.std.specs.Prelude.{Ok as Value, Err as Refused}
use Rattle.refusal.specs.Numbers.{keeps_table}
use Rattle.scope.specs.Check.{Check, ◌>>=◌}
use Rattle.scope.specs.Numbers.{zeros}
use Rattle.scope.specs.Header.{count, check_header, section, s_types, s_program, s_arrows, s_witness, s_input, s_hashes}
use Rattle.scope.specs.Run.{Left}
use Rattle.scope.specs.Stages.{run_stage}
use Rattle.scope.specs.Types.{type_records, check_types}

-- 1 and 2
unfoldable pub front : (dossier : List ℕ) → Check (Unit {0})
unfolding ◌>>=◌ check_header check_types type_records section
front d = do
  header ← check_header d
  check_types (type_records (section d s_types))

-- whether the decoded table stays in its stores
abbrev pub keeps : Answer → Bool
keeps (Value n) = true
keeps (Refused r) = keeps_table r

-- what a decoded store is left with
unfoldable pub settled : Answer → (store : List ℕ) → List ℕ
settled said store = elim (keeps said) [ true ↦ store | false ↦ zeros (length store) ]

-- the run stage on a decoded table and the sections of its dossier
unfoldable pub sections_run : (dossier nodes hashes cells frames answer : List ℕ) → Left
unfolding section count run_stage
sections_run d nodes hashes cells frames answer =
    run_stage (section d s_types) nodes (section d s_arrows) (section d s_program) hashes (section d s_hashes) (section d s_witness)
    (count d s_witness) (section d s_input) (count d s_input)
    cells frames answer
