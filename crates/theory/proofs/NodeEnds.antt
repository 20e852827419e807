-- The run of a node that was entered in a state of its arrow ends as its term's meaning does, and is never stuck: what the machine changes
-- are the cells that the node writes and those from the first free one on, so the cells of every other frame that stands are as they were.
use Rattle.std.specs.Prelude.{◌≡◌, refl, List, [], ◌∷◌, ◌++◌, ℕ, ◌+◌, ◌≤◌}
use Rattle.std.proofs.Common.{arith}
use Rattle.report.specs.Types.{Ty, width}
use Rattle.report.specs.Values.{Cells, value_at}
use Rattle.report.specs.Meaning.{stuck, Means, eval}
use Rattle.scope.specs.Machine.{Frame, State, Step, state, exec}
use Rattle.scope.specs.Bounds.{Bound, whole_cells, whole_frames}
use Rattle.scope.specs.Program.{Program, source_ty, target_ty, term_at}
use Rattle.common.specs.Checks.{clash}
use Rattle.layout.specs.Follow.{Inside}
use Rattle.theory.specs.Cells.{Kept}
use Rattle.theory.specs.Instructions.{At, advance}
use Rattle.theory.specs.Correct.{Ends, of_value, of_fails, of_prunes}
use Rattle.theory.specs.Sound.{Sound}
use Rattle.theory.proofs.Sound.{term_typed}
use Rattle.theory.specs.Entry.{Entry, ClearOf, Separate, CellsKept, cursor_of, below}
use Rattle.theory.proofs.Entry.{clear_left, clear_right, entry_ends}
use Rattle.theory.proofs.AtNodes.{AtNode}
use Rattle.theory.specs.NodeEnds.{OthersKept, NodeEnds, of_writes, of_stops_failed, of_stops_pruned}

-- frames that are clear of a range are clear of each part of it
clear_part : (a n b m : ℕ) (fs : List Frame) → a ≤ b → b + m ≤ a + n → ClearOf a n fs → ClearOf b m fs
clear_part a n b m [] l r h = tt
clear_part a n b m (f ∷ fs) l r h = (λ j p q. h.0 j (omega arith) q, clear_part a n b m fs l r h.1)

-- what can be written at the cursor of the active write frame is no cell of the other frames
clear_others : (ws rs : List Frame) (n : ℕ) → At ws (cursor_of ws) n → Separate (ws ++ rs) → ClearOf (cursor_of ws) n (below ws ++ rs)
unfolding At cursor_of below
clear_others [] rs n h k = clear_none n rs h
  where
    clear_none : (n : ℕ) (fs : List Frame) → n ≤ 0 → ClearOf 0 n fs
    clear_none n [] l = tt
    clear_none n (f ∷ fs) l = (λ j p q. omega arith, clear_none n fs l)
clear_others (f ∷ ws) rs n h k = clear_part f.start f.len f.cursor n (ws ++ rs) h.1 h.2 k.0

-- frames below the first free cell that are clear of what was written keep their cells
frames_kept : (at n nx x : ℕ) (c d : Cells) (fs : List Frame) → Kept at n nx x c d → Inside nx fs → ClearOf at n fs → CellsKept c d fs
frames_kept at n nx x c d [] k h z = tt
frames_kept at n nx x c d (f ∷ fs) k h z = (λ j i. k j (λ p. z.0 j p i) (λ q. omega (arith, h.0)), frames_kept at n nx x c d fs k h.1 z.1)

-- the frames below the active one lie as low
below_inside : (nx : ℕ) (fs : List Frame) → Inside nx fs → Inside nx (below fs)
unfolding below
below_inside nx [] h = tt
below_inside nx (f ∷ fs) h = h.1

module _ {size most : ℕ} {A B : Ty} {y : Bound} {s : State} (h : Entry size most A B y s) where
  -- so the other frames of an entered state keep theirs
  others_kept : (x : ℕ) (t : State) → Kept (cursor_of s.writes) (width B) s.next x s.cells t.cells → OthersKept s t
  others_kept x t k =
      let wr : ℕ = cursor_of s.writes in
      let clear = clear_others s.writes s.reads (width B) h.write h.stacked.apart in
      record {
        reads =
            frames_kept wr (width B) s.next x s.cells t.cells s.reads k h.stacked.reads
            (clear_right wr (width B) (below s.writes) s.reads clear);
        writes = frames_kept wr (width B) s.next x s.cells t.cells (below s.writes) k (below_inside s.next s.writes h.stacked.writes)
            (clear_left wr (width B) (below s.writes) s.reads clear);
      }

  -- from how the machine ends
  node_ends : {x : ℕ} {o : Means} {e : Step} → Ends B (cursor_of s.writes) s.next x s.reads s.writes s.cells o e → NodeEnds B s o e
  unfolding state
  node_ends {x} (of_value {d = d} q k) = of_writes (record {
    value = q;
    writes = refl;
    reads = refl;
    next = refl;
    others = others_kept x (state d s.reads (advance (width B) s.writes) s.next) k;
  })
  node_ends {x} (of_fails {s = t} k) = of_stops_failed (others_kept x t k)
  node_ends {x} (of_prunes {s = t} k) = of_stops_pruned (others_kept x t k)

-- A NODE THAT IS ENTERED DOES WHAT ITS TERM MEANS of the value that it reads
pub node_means : (P : Program) → Sound P → {i : ℕ} {s : State} → AtNode P i s
    → NodeEnds (target_ty P i) s (eval (term_at P i) (value_at (source_ty P i) s.cells (cursor_of s.reads)))
    (exec (whole_cells P) (whole_frames P) (term_at P i) s)
node_means P ok {i} h = node_ends h.entry (entry_ends (term_typed P ok i h.in_table h.shown) h.entry)

-- so it is not stuck
pub node_goes : {B : Ty} {s : State} {o : Means} {e : Step} → NodeEnds B s o e → e ≡ stuck → ⊥
node_goes (of_writes w) e = clash (cc)
node_goes (of_stops_failed k) e = clash (cc)
node_goes (of_stops_pruned k) e = clash (cc)
