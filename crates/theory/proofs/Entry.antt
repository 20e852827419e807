-- Frames that lie below the first free cell and share no cell stay so as frames come, move and go, and as their cursors go on.
-- From a state that a node finds when it is entered the machine is the meaning; and a run that is done has brought its frames back.
use Rattle.std.specs.Prelude.{◌≡◌, refl, List, [], ◌∷◌, ◌++◌, ℕ, ◌+◌, ◌≤◌}
use Rattle.std.proofs.Common.{sym, ap, ◌∙◌, arith}
use Rattle.report.specs.Types.{Ty, width}
use Rattle.report.specs.Values.{Cells, value_at}
use Rattle.report.specs.Terms.{Term}
use Rattle.report.specs.Typing.{Typed}
use Rattle.report.specs.Meaning.{done, Means, eval}
use Rattle.scope.specs.Machine.{Frame, frame_from, State, Step, state, forward, reset, exec}
use Rattle.scope.specs.Bounds.{Bound, bounds}
use Rattle.common.specs.Checks.{clash}
use Rattle.layout.specs.Follow.{Inside, Fits}
use Rattle.theory.specs.Cells.{Apart}
use Rattle.theory.specs.Instructions.{At, advance}
use Rattle.theory.specs.Correct.{Ends, of_value, of_fails, of_prunes}
use Rattle.theory.proofs.Correct.{exec_within}
use Rattle.theory.specs.Entry.{cursor_of, ClearOf, Separate, Stacked, Entry}

-- frames below a cell are clear of the cells from there on
clear_above : (nx n : ℕ) (fs : List Frame) → Inside nx fs → ClearOf nx n fs
clear_above nx n [] h = tt
clear_above nx n (f ∷ fs) h = (λ j p q. omega (arith, h.0), clear_above nx n fs h.1)

-- clear of two lists is clear of both together
clear_both : (at n : ℕ) (fs gs : List Frame) → ClearOf at n fs → ClearOf at n gs → ClearOf at n (fs ++ gs)
clear_both at n [] gs h k = k
clear_both at n (f ∷ fs) gs h k = (h.0, clear_both at n fs gs h.1 k)

-- and of the first of them
pub clear_left : (at n : ℕ) (fs gs : List Frame) → ClearOf at n (fs ++ gs) → ClearOf at n fs
clear_left at n [] gs h = tt
clear_left at n (f ∷ fs) gs h = (h.0, clear_left at n fs gs h.1)

-- and of the second
pub clear_right : (at n : ℕ) (fs gs : List Frame) → ClearOf at n (fs ++ gs) → ClearOf at n gs
clear_right at n [] gs h = h
clear_right at n (f ∷ fs) gs h = clear_right at n fs gs h.1

-- more cells below
inside_more : (m n : ℕ) (fs : List Frame) → m ≤ n → Inside m fs → Inside n fs
inside_more m n [] l h = tt
inside_more m n (f ∷ fs) l h = (omega (arith, h.0), inside_more m n fs l h.1)

-- a cursor that moves leaves a frame where it stands
inside_advance : (nx n : ℕ) (fs : List Frame) → Inside nx fs → Inside nx (advance n fs)
unfolding advance forward
inside_advance nx n [] h = tt
inside_advance nx n (f ∷ fs) h = h

-- and clear of what it was clear of
clear_advance : (at m n : ℕ) (fs : List Frame) → ClearOf at m fs → ClearOf at m (advance n fs)
unfolding advance forward
clear_advance at m n [] h = tt
clear_advance at m n (f ∷ fs) h = h

-- frames that share no cell share none when a write cursor moves
separate_writes : (n : ℕ) (ws rs : List Frame) → Separate (ws ++ rs) → Separate (advance n ws ++ rs)
unfolding advance forward
separate_writes n [] rs h = h
separate_writes n (f ∷ ws) rs h = h

-- or a read cursor
separate_reads : (n : ℕ) (ws rs : List Frame) → Separate (ws ++ rs) → Separate (ws ++ advance n rs)
unfolding advance forward
separate_reads n [] [] h = tt
separate_reads n [] (f ∷ rs) h = h
separate_reads n (f ∷ ws) rs h = (
  clear_both f.start f.len ws (advance n rs) (clear_left f.start f.len ws rs h.0)
      (clear_advance f.start f.len n rs (clear_right f.start f.len ws rs h.0)),
  separate_reads n ws rs h.1,
)

-- a frame moved from one stack to the other
separate_move : (f : Frame) (ws rs : List Frame) → ClearOf f.start f.len (ws ++ rs) → Separate (ws ++ rs) → Separate (ws ++ f ∷ rs)
separate_move f [] rs h k = (h, k)
separate_move f (g ∷ ws) rs h k = (
  clear_both g.start g.len ws (f ∷ rs) (clear_left g.start g.len ws rs k.0) (λ j p q. h.0 j q p, clear_right g.start g.len ws rs k.0),
  separate_move f ws rs h.1 k.1,
)

-- no frame at all
pub no_frames : (nx : ℕ) → Stacked [] [] nx
no_frames nx = record { reads = tt; writes = tt; apart = tt }

-- a new frame of n cells above all others
pub stacked_push : (n : ℕ) {rs ws : List Frame} {nx : ℕ} → Stacked rs ws nx → Stacked rs (frame_from nx n ∷ ws) (nx + n)
stacked_push n {rs} {ws} {nx} h = record {
  reads = inside_more nx (nx + n) rs (omega arith) h.reads;
  writes = (omega arith, inside_more nx (nx + n) ws (omega arith) h.writes);
  apart = (clear_both nx n ws rs (clear_above nx n ws h.writes) (clear_above nx n rs h.reads), h.apart);
}

-- the active write frame moved to the read frames
pub stacked_move : (f : Frame) {rs ws : List Frame} {nx : ℕ} → Stacked rs (f ∷ ws) nx → Stacked (reset f ∷ rs) ws nx
unfolding reset
stacked_move f {rs} {ws} h = record {
  reads = (h.writes.0, h.reads);
  writes = h.writes.1;
  apart = separate_move (reset f) ws rs h.apart.0 h.apart.1;
}

-- the write cursor on
pub stacked_writes : (n : ℕ) {rs ws : List Frame} {nx : ℕ} → Stacked rs ws nx → Stacked rs (advance n ws) nx
stacked_writes n {rs} {ws} {nx} h = record { reads = h.reads; writes = inside_advance nx n ws h.writes; apart = separate_writes n ws rs h.apart }

-- the read cursor on
pub stacked_reads : (n : ℕ) {rs ws : List Frame} {nx : ℕ} → Stacked rs ws nx → Stacked (advance n rs) ws nx
stacked_reads n {rs} {ws} {nx} h = record { reads = inside_advance nx n rs h.reads; writes = h.writes; apart = separate_reads n ws rs h.apart }

-- room at any place is room at the cursor
pub at_cursor : (fs : List Frame) (at n : ℕ) → At fs at n → At fs (cursor_of fs) n
unfolding At cursor_of
at_cursor [] at n h = h
at_cursor (f ∷ fs) at n h = (refl, omega (arith, h.0, h.1), omega (arith, h.0, h.2))

-- what can be read or written at the cursor of a stack lies below the first free cell
at_below : (fs : List Frame) (n nx : ℕ) → At fs (cursor_of fs) n → Inside nx fs → cursor_of fs + n ≤ nx
unfolding At cursor_of
at_below [] n nx h k = omega arith
at_below (f ∷ fs) n nx h k = omega (arith, h.2, k.0)

-- and is clear of what can be written at the cursor of the other stack
at_apart : (rs ws : List Frame) (n m : ℕ) → At rs (cursor_of rs) n → At ws (cursor_of ws) m → Separate (ws ++ rs) → Apart (cursor_of rs) n (cursor_of ws) m
unfolding At cursor_of
at_apart [] ws n m h k s j p q = omega arith
at_apart (f ∷ rs) [] n m h k s j p q = omega arith
at_apart (f ∷ rs) (g ∷ ws) n m h k s j p q =
    (clear_right g.start g.len ws (f ∷ rs) s.0).0 j (omega (arith, k.1, k.2)) (omega (arith, h.1, h.2))

module _ {size most : ℕ} {A B : Ty} {x : Bound} {s : State} (h : Entry size most A B x s) where
  -- the value to read and the room to write in lie below the first free cell, and apart
  pub read_below : cursor_of s.reads + width A ≤ s.next
  read_below = at_below s.reads (width A) s.next h.read h.stacked.reads

  -- the room to write in
  pub write_below : cursor_of s.writes + width B ≤ s.next
  write_below = at_below s.writes (width B) s.next h.write h.stacked.writes

  -- they are apart
  pub read_apart : Apart (cursor_of s.reads) (width A) (cursor_of s.writes) (width B)
  read_apart = at_apart s.reads s.writes (width A) (width B) h.read h.write h.stacked.apart

  -- the state is within the bounds of the machine
  pub entry_fits : Fits size most s
  entry_fits = record {
    room = omega (arith, h.frames);
    cells = omega (arith, h.cells);
    reads = inside_more s.next size s.reads (omega (arith, h.cells)) h.stacked.reads;
    writes = inside_more s.next size s.writes (omega (arith, h.cells)) h.stacked.writes;
  }

-- THE MACHINE IS THE MEANING at every such state
pub entry_ends : {t : Term} {A B : Ty} {size most : ℕ} {s : State} → Typed t A B → Entry size most A B (bounds t) s
    → Ends B (cursor_of s.writes) s.next (bounds t).cells s.reads s.writes s.cells
    (eval t (value_at A s.cells (cursor_of s.reads))) (exec size most t s)
unfolding state
entry_ends {size = size} {most = most} {s = s} typed h =
    exec_within typed size most s.reads s.writes (cursor_of s.reads) (cursor_of s.writes) s.next s.cells
    h.read h.write (read_below h) (write_below h) (read_apart h) h.cells h.frames

-- a run that is done has brought its frames back, its write cursor on
ends_done : {B : Ty} {wr nx n : ℕ} {rs ws : List Frame} {c : Cells} {o : Means} {e : Step} (t : State) → Ends B wr nx n rs ws c o e → e ≡ done t
    → state t.cells rs (advance (width B) ws) nx ≡ t
unfolding state
ends_done {B} {nx = nx} {rs = rs} {ws = ws} t (of_value {d = d} q k) e =
    let same : state d rs (advance (width B) ws) nx ≡ t = cc in
    ap (λ (s : State). state s.cells rs (advance (width B) ws) nx) (sym same) ∙ same
ends_done t (of_fails k) e = clash (cc)
ends_done t (of_prunes k) e = clash (cc)

-- so has the run of a term that was entered
pub ran : {f : Term} {A B : Ty} {size most : ℕ} {s t : State} → Typed f A B → Entry size most A B (bounds f) s → exec size most f s ≡ done t
    → state t.cells s.reads (advance (width B) s.writes) s.next ≡ t
ran {t = t} typed h e = ends_done t (entry_ends typed h) e
