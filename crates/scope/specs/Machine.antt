-- The Bit Machine: cells, two stacks of frames, its rules, and how each term is run.
-- A run ends with its last state, or stops at a fail node (18) or a pruned branch (19) with the state at the stop.
-- It would be stuck where no rule applies: past a frame, past the cells or the frames that the bounds give. That it never is, is a theorem.
use Rattle.std.specs.Prelude.{◌≡◌, refl, Bool, true, false, List, [], ◌∷◌, ◌++◌, ℕ, zero, suc, ◌+◌, ◌-◌, leb, ltb, eqb, length, get_or}
use Rattle.limits.specs.Limits.{frame_numbers}
use Rattle.report.specs.Bits.{Bit}
use Rattle.report.specs.Types.{Ty, width, pad_l, pad_r, word_ty}
use Rattle.report.specs.Values.{Val, Cells, padded, value_at}
use Rattle.report.specs.Terms.{Term, iden, comp, unit, injl, injr, case, pair, take, drop, assertl, assertr, fail, witness, word, disconnect, bad}
use Rattle.report.specs.Meaning.{Out, done, failed, pruned, stuck, ◌>>=◌, Means}

-- a frame: its cursor, its first cell and its length; cursor and start are absolute places
pub record Frame : Type 0 where
  pub cursor : ℕ
  pub start : ℕ
  pub len : ℕ

abbrev pub frame : (cursor start len : ℕ) → Frame
frame c s l = record { cursor = c; start = s; len = l }

-- a frame of so many cells from a place on, its cursor at its start
abbrev pub frame_from : (start len : ℕ) → Frame
frame_from s l = frame s s l

-- a frame with its cursor elsewhere
abbrev pub cursor_at : ℕ → Frame → Frame
cursor_at c f = frame c f.start f.len

-- the numbers of a frame's record, and the frame whose record begins at a place of a store
abbrev pub frame_numbers_of : Frame → List ℕ
frame_numbers_of f = f.cursor ∷ f.start ∷ f.len ∷ []

abbrev pub frame_at : List ℕ → (at : ℕ) → Frame
frame_at numbers at = frame (get_or numbers at 0) (get_or numbers (at + 1) 0) (get_or numbers (at + 2) 0)

-- a record has as many numbers as the limits say, and what was written is read
pub frame_size : (f : Frame) → length (frame_numbers_of f) ≡ frame_numbers
frame_size f = refl

pub frame_back : (f : Frame) (numbers : List ℕ) → frame_at (frame_numbers_of f ++ numbers) 0 ≡ f
frame_back f numbers = refl

-- the active frame of a stack is the head of its list; `next` is the first cell above all frames
pub record State : Type 0 where
  pub cells : Cells
  pub reads : List Frame
  pub writes : List Frame
  pub next : ℕ

unfoldable pub state : Cells → List Frame → List Frame → ℕ → State
state c rs ws nx = record { cells = c; reads = rs; writes = ws; next = nx }

abbrev pub Step : Type 0
Step = Out State State

-- the cells with a bit at a place
unfoldable pub set_cell : Cells → ℕ → Bit → Cells
set_cell c at b = λ j. elim (eqb j at) [ true ↦ b | false ↦ c j ]

-- the cells with bits from a place on
unfoldable pub put_bits : Cells → ℕ → List Bit → Cells
unfolding set_cell
put_bits c at [] = c
put_bits c at (b ∷ bs) = put_bits (set_cell c at b) (suc at) bs

-- n cells copied one after the other
unfoldable pub copy_cells : Cells → (from to n : ℕ) → Cells
unfolding set_cell
copy_cells c from to zero = c
copy_cells c from to (suc n) = copy_cells (set_cell c to (c from)) (suc from) (suc to) n

-- goes on where the test holds
unfoldable pub need : {X : Type 0} → Bool → Out State X → Out State X
need true o = o
need false o = stuck

-- the frame with its cursor so many cells on, so many cells back, at its start
unfoldable pub forward : ℕ → Frame → Frame
forward n f = cursor_at (f.cursor + n) f

unfoldable pub backward : ℕ → Frame → Frame
backward n f = cursor_at (f.cursor - n) f

unfoldable pub reset : Frame → Frame
reset f = cursor_at f.start f

-- n cells from the cursor on lie in the frame
unfoldable pub in_frame : ℕ → Frame → Bool
in_frame n f = leb (f.cursor + n) (f.start + f.len)

-- a write frame of n cells above all frames; its cells keep their old bits
unfoldable pub new_frame : (size most : ℕ) → ℕ → State → Step
unfolding need state
new_frame size most n s =
    need (leb (s.next + n) size)
    (need (ltb (length s.reads + length s.writes) most)
    (done (state s.cells s.reads (frame_from s.next n ∷ s.writes) (s.next + n))))

-- the active write frame becomes the active read frame, its cursor at its start
unfoldable pub move_frame : State → Step
unfolding state reset
move_frame s = elim s.writes [
  | [] ↦ stuck
  | f ∷ ws ↦ done (state s.cells (reset f ∷ s.reads) ws s.next)
]

-- the active read frame, which is the uppermost, goes
unfoldable pub drop_frame : State → Step
unfolding state need
drop_frame s = elim s.reads [
  | [] ↦ stuck
  | f ∷ rs ↦ need (eqb s.next (f.start + f.len)) (done (state s.cells rs s.writes f.start))
]

-- bits into the active write frame; where there are none no frame is looked at, here and below
unfoldable pub write_bits : List Bit → State → Step
unfolding state need put_bits forward in_frame
write_bits [] s = done s
write_bits (b ∷ bs) s = elim s.writes [
  | [] ↦ stuck
  | f ∷ ws ↦ need (in_frame (length (b ∷ bs)) f)
      (done (state (put_bits s.cells f.cursor (b ∷ bs)) s.reads (forward (length (b ∷ bs)) f ∷ ws) s.next))
]

-- the write cursor n on; the cells passed over keep their old bits
unfoldable pub skip : ℕ → State → Step
unfolding state need forward in_frame
skip zero s = done s
skip (suc n) s = elim s.writes [
  | [] ↦ stuck
  | f ∷ ws ↦ need (in_frame (suc n) f) (done (state s.cells s.reads (forward (suc n) f ∷ ws) s.next))
]

-- n cells from the read cursor on to the write cursor, padding too; the write cursor goes on
unfoldable pub copy : ℕ → State → Step
unfolding state need copy_cells forward in_frame
copy zero s = done s
copy (suc n) s = elim s.reads [
  | [] ↦ stuck
  | f ∷ rs ↦ elim s.writes [
    | [] ↦ stuck
    | g ∷ ws ↦ need (in_frame (suc n) f)
        (need (in_frame (suc n) g)
        (done (state (copy_cells s.cells f.cursor g.cursor (suc n)) s.reads (forward (suc n) g ∷ ws) s.next)))
  ]
]

-- the read cursor n on, and n back
unfoldable pub fwd : ℕ → State → Step
unfolding state need forward in_frame
fwd zero s = done s
fwd (suc n) s = elim s.reads [
  | [] ↦ stuck
  | f ∷ rs ↦ need (in_frame (suc n) f) (done (state s.cells (forward (suc n) f ∷ rs) s.writes s.next))
]

unfoldable pub back : ℕ → State → Step
unfolding state need backward
back zero s = done s
back (suc n) s = elim s.reads [
  | [] ↦ stuck
  | f ∷ rs ↦ need (leb (f.start + suc n) f.cursor) (done (state s.cells (backward (suc n) f ∷ rs) s.writes s.next))
]

-- the bit at the read cursor
unfoldable pub peek : State → Out State Bit
unfolding need in_frame
peek s = elim s.reads [
  | [] ↦ stuck
  | f ∷ rs ↦ need (in_frame 1 f) (done (s.cells f.cursor))
]

-- an input of width above 0 gets a read frame at cell 0, its padding written as 0; an output of width above 0 a write frame after it
unfoldable pub input : (size most : ℕ) → (n : ℕ) → List Bit → State → Step
unfolding ◌>>=◌ new_frame write_bits move_frame
input size most zero bits s = done s
input size most (suc n) bits s = do
  s ← new_frame size most (suc n) s
  s ← write_bits bits s
  move_frame s

unfoldable pub output : (size most : ℕ) → (n : ℕ) → State → Step
unfolding new_frame
output size most zero s = done s
output size most (suc n) s = new_frame size most (suc n) s

-- a term on a machine with `size` cells and room for `most` frames
unfoldable pub exec : (size most : ℕ) → Term → State → Step
unfolding ◌>>=◌ new_frame move_frame drop_frame write_bits skip copy fwd back peek padded pad_l pad_r width word_ty
exec size most (iden A) s = copy (width A) s
exec size most (comp B f g) s = do
  s ← new_frame size most (width B) s
  s ← exec size most f s
  s ← move_frame s
  s ← exec size most g s
  drop_frame s
exec size most unit s = done s
exec size most (injl B C t) s = do
  s ← write_bits (0 ∷ []) s
  s ← skip (pad_l B C) s
  exec size most t s
exec size most (injr B C t) s = do
  s ← write_bits (1 ∷ []) s
  s ← skip (pad_r B C) s
  exec size most t s
exec size most (pair B f g) s = do
  s ← exec size most f s
  exec size most g s
exec size most (take t) s = exec size most t s
exec size most (drop A t) s = do
  s ← fwd (width A) s
  s ← exec size most t s
  back (width A) s
exec size most (case A B f g) s = do
  bit ← peek s
  elim bit [
    | zero ↦ (do
      s ← fwd (1 + pad_l A B) s
      s ← exec size most f s
      back (1 + pad_l A B) s)
    | suc b ↦ (do
      s ← fwd (1 + pad_r A B) s
      s ← exec size most g s
      back (1 + pad_r A B) s)
  ]
exec size most (assertl p A B f) s = do
  bit ← peek s
  elim bit [
    | zero ↦ (do
      s ← fwd (1 + pad_l A B) s
      s ← exec size most f s
      back (1 + pad_l A B) s)
    | suc b ↦ pruned p s
  ]
exec size most (assertr p A B g) s = do
  bit ← peek s
  elim bit [
    | zero ↦ pruned p s
    | suc b ↦ (do
      s ← fwd (1 + pad_r A B) s
      s ← exec size most g s
      back (1 + pad_r A B) s)
  ]
exec size most (fail p) s = failed p s
exec size most (witness A v) s = write_bits (padded A v) s
exec size most (word A v) s = write_bits (padded A v) s
exec size most (disconnect A B C h f g) s = do
  s ← new_frame size most (width (word_ty 8) + width A) s
  s ← write_bits (padded (word_ty 8) h) s
  s ← copy (width A) s
  s ← move_frame s
  s ← new_frame size most (width B + width C) s
  s ← exec size most f s
  s ← move_frame s
  s ← copy (width B) s
  s ← fwd (width B) s
  s ← exec size most g s
  s ← drop_frame s
  drop_frame s
exec size most bad s = stuck

-- a whole run of a term from A to B on an input value, on cells with any old bits
unfoldable pub machine : (size most : ℕ) → Term → (A B : Ty) → Val → Cells → Step
unfolding ◌>>=◌ input output exec state padded width
machine size most t A B v c = do
  s ← input size most (width A) (padded A v) (state c [] [] 0)
  s ← output size most (width B) s
  exec size most t s

-- the value that a run from A to B leaves in its output frame, or how and where it stopped
unfoldable pub answer : (A B : Ty) → Step → Means
unfolding value_at width
answer A B (done s) = done (value_at B s.cells (width A))
answer A B (failed p s) = failed p tt
answer A B (pruned p s) = pruned p tt
answer A B stuck = stuck
