-- How a whole run ends for a given meaning: with the output's value at its place, or stopped; cells from the bound on are as they were.
-- That every run of a typed term within its bounds ends so is shown in proofs/WholeRuns.
use Rattle.std.specs.Prelude.{◌≡◌, ℕ, ◌≤◌}
use Rattle.report.specs.Types.{Ty}
use Rattle.report.specs.Values.{Cells, value_at}
use Rattle.report.specs.Meaning.{done, failed, pruned, Means}
use Rattle.scope.specs.Machine.{State, Step}

-- How a whole run to B ends, with its output at a place and old cells c: as the meaning does, and every cell at or past `total` keeps its old bit.
-- It never ends stuck.
pub data Ran (B : Ty) (at total : ℕ) (c : Cells) : Means → Step → Type 0 where
  ran_value : {s : State} → ((j : ℕ) → total ≤ j → s.cells j ≡ c j) → Ran B at total c (done (value_at B s.cells at)) (done s)
  ran_fail : {p : ℕ} {s : State} → ((j : ℕ) → total ≤ j → s.cells j ≡ c j) → Ran B at total c (failed p tt) (failed p s)
  ran_prune : {p : ℕ} {s : State} → ((j : ℕ) → total ≤ j → s.cells j ≡ c j) → Ran B at total c (pruned p tt) (pruned p s)
