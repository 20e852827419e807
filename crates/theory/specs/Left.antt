-- What a run leaves in the lent stores beside its answer: the cells of the machine's last state, and every cell from the bound on as it
-- was; and the bytes of the answer store that hold an output. Their laws stand in proofs/Left.
use Rattle.std.specs.Prelude.{◌≡◌, List, [], ℕ, ◌*◌, ◌≤◌, ◌<◌, length, take}
use Rattle.refusal.specs.Answers.{Answer}
use Rattle.std.specs.Prelude.{Ok as Value, Err as Refused}
use Rattle.report.specs.Meaning.{done, failed, pruned}
use Rattle.scope.specs.Numbers.{bytes_for}
use Rattle.scope.specs.Machine.{State, Step}
use Rattle.scope.specs.Run.{cells_of, packed}

-- s is the state in which a run ended, done or stopped
pub data LastState : Step → State → Type 0 where
  ended_in : {s : State} → LastState (done s) s
  failed_in : {p : ℕ} {s : State} → LastState (failed p s) s
  pruned_in : {p : ℕ} {s : State} → LastState (pruned p s) s

-- the cells that a run o leaves in a store, of which the first `total` are the bound's
pub record CellsLeft (o : Step) (total : ℕ) (before after : List ℕ) : Type 0 where
  pub last : State
  pub ended : LastState o last
  -- the bytes are those of the last state's cells
  pub bytes : after ≡ packed (length before) last.cells
  -- so each cell is that of the last state, and from the bound on the old one
  pub held : (j : ℕ) → j < 8 * length before → cells_of after j ≡ last.cells j
  pub beyond : (j : ℕ) → total ≤ j → j < 8 * length before → cells_of after j ≡ cells_of before j

-- the bytes that hold an output, of what is said and the answer store; a refusal has none
unfoldable pub output_bytes : Answer → (answer : List ℕ) → List ℕ
output_bytes (Value n) answer = take (bytes_for n) answer
output_bytes (Refused why) answer = []
