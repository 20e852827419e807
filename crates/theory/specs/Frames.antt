-- What the machine with frames has to do beside `on_cells`: the cells and frames that a term needs, and how its frames are left.
-- That every typed term does it is shown in proofs/Frames.
use Rattle.std.specs.Prelude.{◌≡◌, List, ℕ, ◌+◌, ◌≤◌, length}
use Rattle.report.specs.Values.{Cells}
use Rattle.report.specs.Terms.{Term}
use Rattle.report.specs.Meaning.{Out, done, failed, pruned, stuck, ◌>>=◌}
use Rattle.scope.specs.Machine.{Frame, State, state, exec}
use Rattle.scope.specs.Bounds.{bounds}
use Rattle.theory.specs.Cursors.{on_cells}
use Rattle.theory.specs.Instructions.{At, advance}

-- of a run that stopped, the cells alone
unfoldable pub bare : {X : Type 0} → Out State X → Out Cells X
bare (done x) = done x
bare (failed p s) = failed p s.cells
bare (pruned p s) = pruned p s.cells
bare stuck = stuck

-- there are as many cells from nx on, and as many frames above these, as the bounds of a term say
abbrev pub EnoughCells : (size nx : ℕ) → Term → Type 0
EnoughCells size nx t = nx + (bounds t).cells ≤ size

-- frames
abbrev pub EnoughFrames : (most : ℕ) → (rs ws : List Frame) → Term → Type 0
EnoughFrames most rs ws t = length rs + length ws + (bounds t).frames ≤ most

-- The machine with n cells to read and m to write does what `on_cells` does, and its frames are left as they were, the write cursor m further on.
abbrev pub Does : Term → ℕ → ℕ → Type 0
Does t n m = (size most : ℕ) (rs ws : List Frame) (rd wr nx : ℕ) (c : Cells) → At rs rd n → At ws wr m
    → EnoughCells size nx t → EnoughFrames most rs ws t
    → bare (exec size most t (state c rs ws nx)) ≡ (on_cells t rd wr nx c >>= λ c. done (state c rs (advance m ws) nx))
