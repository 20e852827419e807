-- Cells that are bits, and outcomes whose cells are bits.
-- That the machine keeps cells bits is shown in proofs/BinaryCells.
use Prim.Native.Nat.{ℕ, ◌≤◌}
use Rattle.report.specs.Values.{Cells}
use Rattle.report.specs.Meaning.{done, failed, pruned, stuck}
use Rattle.scope.specs.Machine.{State, Step}

-- every cell is 0 or 1
abbrev pub BitCells : Cells → Type 0
BitCells c = (j : ℕ) → c j ≤ 1

-- a step's cells are bits, wherever it ends
pub data BitsAfter : Step → Type 0 where
  bits_done : {s : State} → BitCells s.cells → BitsAfter (done s)
  bits_failed : {p : ℕ} {s : State} → BitCells s.cells → BitsAfter (failed p s)
  bits_pruned : {p : ℕ} {s : State} → BitCells s.cells → BitsAfter (pruned p s)
  bits_stuck : BitsAfter stuck

-- a step of a run: from cells that are bits to cells that are bits
abbrev pub KeepsBits : (State → Step) → Type 0
KeepsBits f = (s : State) → BitCells s.cells → BitsAfter (f s)
