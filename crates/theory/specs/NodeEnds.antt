-- How the run of a node ends that was entered in a state of its arrow: with the meaning's value in the target's cells and all frames back,
-- or stopped where the meaning stops. The cells of every other frame that stands are as they were, also where the run stops.
use Rattle.std.specs.Prelude.{◌≡◌, ℕ}
use Rattle.report.specs.Types.{Ty, width}
use Rattle.report.specs.Values.{Val, value_at}
use Rattle.report.specs.Meaning.{done, failed, pruned, Means}
use Rattle.scope.specs.Machine.{State, Step}
use Rattle.theory.specs.Instructions.{advance}
use Rattle.theory.specs.Entry.{CellsKept, cursor_of, below}

-- the cells of every frame that stands in s, but for the active write frame, are the same in t
pub record OthersKept (s t : State) : Type 0 where
  pub reads : CellsKept s.cells t.cells s.reads
  pub writes : CellsKept s.cells t.cells (below s.writes)

-- a node to B that was entered in s has written v, and left t
pub record Wrote (B : Ty) (s : State) (v : Val) (t : State) : Type 0 where
  -- the target's cells hold the value; the write cursor is on by the target's width, the read cursor is back
  pub value : value_at B t.cells (cursor_of s.writes) ≡ v
  pub writes : t.writes ≡ advance (width B) s.writes
  pub reads : t.reads ≡ s.reads
  pub next : t.next ≡ s.next
  -- every other frame's cells are as they were
  pub others : OthersKept s t

-- it ends as the meaning does, and is never stuck
pub data NodeEnds (B : Ty) (s : State) : Means → Step → Type 0 where
  of_writes : {v : Val} {t : State} → Wrote B s v t → NodeEnds B s (done v) (done t)
  of_stops_failed : {p : ℕ} {t : State} → OthersKept s t → NodeEnds B s (failed p tt) (failed p t)
  of_stops_pruned : {p : ℕ} {t : State} → OthersKept s t → NodeEnds B s (pruned p tt) (pruned p t)
