-- What a node of an arrow A to B finds when it is entered: a value to read, room to write one, frames that lie below the first free cell
-- and share no cell, and as many cells and frames beyond them as its bounds say. Its laws stand in proofs/Entry.
use Rattle.std.specs.Prelude.{◌≡◌, List, [], ◌∷◌, ◌++◌, ℕ, ◌+◌, ◌≤◌, length}
use Rattle.report.specs.Types.{Ty, width}
use Rattle.report.specs.Values.{Cells}
use Rattle.scope.specs.Machine.{Frame, State}
use Rattle.scope.specs.Bounds.{Bound}
use Rattle.layout.specs.Follow.{Inside}
use Rattle.theory.specs.Cells.{In, Apart}
use Rattle.theory.specs.Instructions.{At}

-- the cursor of the active frame; where there is no frame nothing is read or written, and it is 0
unfoldable pub cursor_of : List Frame → ℕ
cursor_of [] = 0
cursor_of (f ∷ fs) = f.cursor

-- the frames below the active one
unfoldable pub below : List Frame → List Frame
below [] = []
below (f ∷ fs) = fs

-- the n cells from a place on are no cells of the frames
abbrev pub ClearOf : (at n : ℕ) → List Frame → Type 0
ClearOf at n [] = Unit {0}
ClearOf at n (f ∷ fs) = Apart at n f.start f.len × ClearOf at n fs

-- no two of the frames share a cell
abbrev pub Separate : List Frame → Type 0
Separate [] = Unit {0}
Separate (f ∷ fs) = ClearOf f.start f.len fs × Separate fs

-- the cells of the frames are the same in both
abbrev pub CellsKept : (c d : Cells) → List Frame → Type 0
CellsKept c d [] = Unit {0}
CellsKept c d (f ∷ fs) = ((j : ℕ) → In f.start f.len j → d j ≡ c j) × CellsKept c d fs

-- read frames and write frames, all below the cell nx, that share no cell
pub record Stacked (rs ws : List Frame) (nx : ℕ) : Type 0 where
  pub reads : Inside nx rs
  pub writes : Inside nx ws
  pub apart : Separate (ws ++ rs)

-- a node from A to B with these bounds, entered in state s on a machine with `size` cells and room for `most` frames
pub record Entry (size most : ℕ) (A B : Ty) (x : Bound) (s : State) : Type 0 where
  -- a value to read, and room to write one
  pub read : At s.reads (cursor_of s.reads) (width A)
  pub write : At s.writes (cursor_of s.writes) (width B)
  -- where the frames stand
  pub stacked : Stacked s.reads s.writes s.next
  -- room for what is to come
  pub cells : s.next + x.cells ≤ size
  pub frames : length s.reads + length s.writes + x.frames ≤ most
