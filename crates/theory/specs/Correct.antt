-- Where and how the machine ends for a given meaning, which cells it may change, and what is read at its end.
-- That a run of a typed term ends so is shown in proofs/Correct.
use Rattle.std.specs.Prelude.{◌≡◌, List, ℕ}
use Rattle.report.specs.Types.{Ty, width}
use Rattle.report.specs.Values.{Val, Cells, value_at}
use Rattle.report.specs.Meaning.{done, failed, pruned, stuck, Means}
use Rattle.scope.specs.Machine.{Frame, State, Step, state}
use Rattle.theory.specs.Cells.{Kept}
use Rattle.theory.specs.Instructions.{advance}

-- How a run of a term to B ends, at any point of a larger run: frames rs and ws, write cursor wr, nx the first free cell, of which it may use x, cells c.
-- It never ends stuck.
pub data Ends (B : Ty) (wr nx x : ℕ) (rs ws : List Frame) (c : Cells) : Means → Step → Type 0 where
  of_value : {v : Val} {d : Cells} → value_at B d wr ≡ v → Kept wr (width B) nx x c d
      → Ends B wr nx x rs ws c (done v) (done (state d rs (advance (width B) ws) nx))
  of_fails : {p : ℕ} {s : State} → Kept wr (width B) nx x c s.cells → Ends B wr nx x rs ws c (failed p tt) (failed p s)
  of_prunes : {p : ℕ} {s : State} → Kept wr (width B) nx x c s.cells → Ends B wr nx x rs ws c (pruned p tt) (pruned p s)

-- the value that a run to B leaves at a place, or how and where it stopped
unfoldable pub end_at : (B : Ty) → (wr : ℕ) → Step → Means
unfolding value_at
end_at B wr (done s) = done (value_at B s.cells wr)
end_at B wr (failed p s) = failed p tt
end_at B wr (pruned p s) = pruned p tt
end_at B wr stuck = stuck
