-- The ways into a child, over types and bounds: from a state in which a term is entered, what the machine does before a child leads to a state
-- in which the child is entered, with the child's own value to read, room to write, cells and frames.
use Rattle.std.specs.Prelude.{◌≡◌, refl}
use Rattle.std.proofs.Math.Path.{sym, ap}
use Rattle.std.proofs.Common.{◌∙◌, subst}
use mathlib.Core.List.{List, [], ◌∷◌}
use Prim.Native.Nat.{ℕ, ◌+◌, ◌≤◌}
use native.Mathlib.Omega.{arith}
use Rattle.report.specs.Bits.{Bit}
use Rattle.report.specs.Types.{Ty, prod, width, word_ty}
use Rattle.report.specs.Values.{Val, HasTy, Cells, padded}
use Rattle.report.specs.Terms.{Term}
use Rattle.report.specs.Typing.{Typed}
use Rattle.report.specs.Meaning.{done, ◌>>=◌}
use Rattle.scope.specs.Machine.{Frame, frame_from, State, Step, state, forward, reset, put_bits, copy_cells, new_frame, move_frame, write_bits, skip, copy, fwd, exec}
use Rattle.scope.specs.Bounds.{Bound, bounds}
use Rattle.theory.specs.Instructions.{At, advance}
use Rattle.theory.proofs.Instructions.{at_less, at_advance, advance-advance, length-advance, new_frame_does, write_bits_does, skip_does, copy_does, fwd_does, value_does}
use Rattle.theory.specs.Entry.{Entry, cursor_of}
use Rattle.theory.proofs.Entry.{at_cursor, stacked_push, stacked_move, stacked_writes, stacked_reads, ran}

-- a child with bounds x, beside m cells and k frames, keeps within the bounds z
pub record Beside (m k : ℕ) (x z : Bound) : Type 0 where
  pub cells : m + x.cells ≤ z.cells
  pub frames : k + x.frames ≤ z.frames

module _ (size most : ℕ) where
  -- at these bounds of the machine: a term from A to B with bounds x is entered
  abbrev Enters : (A B : Ty) → Bound → State → Type 0
  Enters A B x s = Entry size most A B x s

  -- a state reached by a step that is known to lead elsewhere is that state
  reached : {A B : Ty} {x : Bound} {o : Step} {s t : State} → o ≡ done s → o ≡ done t → Enters A B x s → Enters A B x t
  reached {A} {B} {x} {s = s} {t = t} p q h =
      let e : s ≡ t = cc in
      subst (Enters A B x) e h

  -- a child that reads and writes no more than its parent, in the parent's state: take, and the left child of a pair
  pub same_way : {A A' B B' : Ty} {x z : Bound} {s : State} → Beside 0 0 x z → width A' ≤ width A → width B' ≤ width B → Enters A B z s → Enters A' B' x s
  same_way {A} {A'} {B} {B'} {s = s} k a b h = record {
    read = at_less s.reads (cursor_of s.reads) (width A) (width A') a h.read;
    write = at_less s.writes (cursor_of s.writes) (width B) (width B') b h.write;
    stacked = h.stacked;
    cells = omega (arith, h.cells, k.cells);
    frames = omega (arith, h.frames, k.frames);
  }

  -- the write cursor n cells on, whatever was written
  write_on_lem : (n : ℕ) {A B B' : Ty} {x : Bound} {s : State} → n + width B' ≤ width B → (d : Cells) → Enters A B x s
      → Enters A B' x (state d s.reads (advance n s.writes) s.next)
  unfolding state
  write_on_lem n {B = B} {B' = B'} {s = s} b d h =
      let wr : ℕ = cursor_of s.writes in
      record {
        read = h.read;
        write =
            at_cursor (advance n s.writes) (wr + n) (width B')
            (at_advance s.writes wr n (width B') (at_less s.writes wr (width B) (n + width B') b h.write));
        stacked = stacked_writes n h.stacked;
        cells = h.cells;
        frames = omega (arith, h.frames, length-advance n s.writes);
      }

  -- the read cursor n cells on
  read_on : (n : ℕ) {A A' B : Ty} {x : Bound} {s : State} → n + width A' ≤ width A → Enters A B x s
      → Enters A' B x (state s.cells (advance n s.reads) s.writes s.next)
  unfolding state
  read_on n {A = A} {A' = A'} {s = s} a h =
      let rd : ℕ = cursor_of s.reads in
      record {
        read =
            at_cursor (advance n s.reads) (rd + n) (width A')
            (at_advance s.reads rd n (width A') (at_less s.reads rd (width A) (n + width A') a h.read));
        write = h.write;
        stacked = stacked_reads n h.stacked;
        cells = h.cells;
        frames = omega (arith, h.frames, length-advance n s.reads);
      }

  -- behind n cells of what is read: drop, and the branches of a case
  pub behind_way : (n : ℕ) {A A' B : Ty} {x z : Bound} {s t : State} → Beside 0 0 x z → n + width A' ≤ width A → Enters A B z s
      → fwd n s ≡ done t → Enters A' B x t
  unfolding state
  behind_way n {A} {s = s} k a h e =
      reached
      (fwd_does s.cells s.reads s.writes s.next n (cursor_of s.reads)
      (at_less s.reads (cursor_of s.reads) (width A) n (omega arith) h.read))
      e (read_on n a (same_way k (omega arith) (omega arith) h))

  -- an injection: the tag b and n cells of padding, and behind them the part
  pub tag_way : (b : Bit) (n : ℕ) {A B B' : Ty} {x z : Bound} {s s₁ t : State} → Beside 0 0 x z → 1 + n + width B' ≤ width B → Enters A B z s
      → write_bits (b ∷ []) s ≡ done s₁ → skip n s₁ ≡ done t → Enters A B' x t
  unfolding state
  tag_way b n {B = B} {s = s} {s₁ = s₁} k room h e g =
      let wr : ℕ = cursor_of s.writes in
      let c₁ : Cells = put_bits s.cells wr (b ∷ []) in
      let one : At s.writes wr 1 = at_less s.writes wr (width B) 1 (omega arith) h.write in
      let wrote : write_bits (b ∷ []) s ≡ done (state c₁ s.reads (advance 1 s.writes) s.next) =
      write_bits_does s.cells s.reads s.writes s.next (b ∷ []) wr one in
      let is : state c₁ s.reads (advance 1 s.writes) s.next ≡ s₁ = cc in
      let rest : At (advance 1 s.writes) (wr + 1) n = at_advance s.writes wr 1 n (at_less s.writes wr (width B) (1 + n) (omega arith) h.write) in
      reached
      (skip_does c₁ s.reads (advance 1 s.writes) s.next n (wr + 1) rest
      ∙ ap (λ (ws : List Frame). done (state c₁ s.reads ws s.next)) (advance-advance 1 n s.writes))
      (ap (skip n) is ∙ g)
      (write_on_lem (1 + n) room c₁ (same_way k (omega arith) (omega arith) h))

  -- the right child of a pair, behind what the left one wrote
  pub pair_way : {f : Term} {A B B' C : Ty} {y z : Bound} {s t : State} → Typed f A B → Beside 0 0 (bounds f) z → Beside 0 0 y z
      → width B + width C ≤ width B' → Enters A B' z s
      → exec size most f s ≡ done t → Enters A C y t
  pair_way {B = B} {t = t} typed k l room h e =
      subst (Enters _ _ _) (ran typed (same_way k (omega arith) (omega arith) h) e)
      (write_on_lem (width B) room t.cells (same_way l (omega arith) (omega arith) h))

  -- comp: a new frame is what the left child writes
  pub comp_left_lem : {A B C : Ty} {x z : Bound} {s t : State} → Beside (width B) 1 x z → Enters A C z s → new_frame size most (width B) s ≡ done t → Enters A B x t
  unfolding state At cursor_of
  comp_left_lem {B = B} {s = s} k h e =
      reached (new_frame_does size most s.cells s.reads s.writes s.next (width B) (omega (arith, h.cells, k.cells))
      (omega (arith, h.frames, k.frames))) e (record {
        read = h.read;
        write = (refl, omega arith, omega arith);
        stacked = stacked_push (width B) h.stacked;
        cells = omega (arith, h.cells, k.cells);
        frames = omega (arith, h.frames, k.frames);
      })

  -- a term that was entered with a new frame to write: once it is done, that frame can be moved, and is read from its start
  moved : {f : Term} {A B : Ty} {s s₂ : State} (nx : ℕ) (rs ws : List Frame) → Typed f A B → Enters A B (bounds f) s
      → s ≡ state s.cells rs (frame_from nx (width B) ∷ ws) (nx + width B) → exec size most f s ≡ done s₂
      → move_frame s₂ ≡ done (state s₂.cells (frame_from nx (width B) ∷ rs) ws (nx + width B))
  unfolding state move_frame advance forward reset
  moved {B = B} {s₂ = s₂} nx rs ws typed h is e =
      ap move_frame (sym (ran typed h e)) ∙ ap (λ (s : State). move_frame (state s₂.cells s.reads (advance (width B) s.writes) s.next)) is

  -- and the right child reads it
  pub comp_right_lem : {f : Term} {A B C : Ty} {y z : Bound} {s s₁ s₂ t : State} → Typed f A B → Beside (width B) 1 (bounds f) z
      → Beside (width B) 1 y z → Enters A C z s
      → new_frame size most (width B) s ≡ done s₁ → exec size most f s₁ ≡ done s₂ → move_frame s₂ ≡ done t → Enters B C y t
  unfolding state At cursor_of reset
  comp_right_lem {B = B} {s = s} {s₁ = s₁} typed k l h e₁ e₂ e₃ =
      let pushed : new_frame size most (width B) s ≡ done (state s.cells s.reads (frame_from s.next (width B) ∷ s.writes) (s.next + width B)) =
      new_frame_does size most s.cells s.reads s.writes s.next (width B) (omega (arith, h.cells, k.cells)) (omega (arith, h.frames, k.frames)) in
      let is : state s.cells s.reads (frame_from s.next (width B) ∷ s.writes) (s.next + width B) ≡ s₁ = cc in
      let is₁ : s₁ ≡ state s₁.cells s.reads (frame_from s.next (width B) ∷ s.writes) (s.next + width B) =
      sym is ∙ ap (λ (u : State). state u.cells s.reads (frame_from s.next (width B) ∷ s.writes) (s.next + width B)) is in
      reached (moved s.next s.reads s.writes typed (comp_left_lem k h e₁) is₁ e₂) e₃ (record {
        read = (refl, omega arith, omega arith);
        write = h.write;
        stacked = stacked_move (frame_from s.next (width B)) (stacked_push (width B) h.stacked);
        cells = omega (arith, h.cells, l.cells);
        frames = omega (arith, h.frames, l.frames);
      })

  -- a disconnect with the hash h, from A: a read frame with the hash and the source, and a write frame for what the left child makes
  abbrev pub hand : (h : Val) → (A : Ty) → (n : ℕ) → State → Step
  hand h A n s =
      new_frame size most (width (word_ty 8) + width A) s >>= λ s. write_bits (padded (word_ty 8) h) s >>= λ s. copy (width A) s
      >>= λ s. move_frame s >>= λ s. new_frame size most n s

  module _ (v : Val) (hv : HasTy v (word_ty 8)) (A B C E : Ty) (z : Bound) (s : State) (h : Enters A E z s) where
    -- the two frames
    abbrev source : Frame
    source = frame_from s.next (width (word_ty 8) + width A)

    -- where the second one starts
    abbrev middle : ℕ
    middle = s.next + (width (word_ty 8) + width A)

    -- the second one
    abbrev made : Frame
    made = frame_from middle (width (prod B C))

    -- what stands in the cells then
    abbrev filled : Cells
    filled = copy_cells (put_bits s.cells s.next (padded (word_ty 8) v)) (cursor_of s.reads) (s.next + width (word_ty 8)) (width A)

    -- the state then
    abbrev handed_to : State
    handed_to = state filled (source ∷ s.reads) (made ∷ s.writes) (middle + width (prod B C))

    -- and the steps lead there
    hand_does : width (word_ty 8) + width A + width (prod B C) ≤ z.cells → 2 ≤ z.frames → hand v A (width (prod B C)) s ≡ done handed_to
    unfolding ◌>>=◌ At advance forward move_frame reset state
    hand_does c f = rw (
      new_frame_does size most s.cells s.reads s.writes s.next (width (word_ty 8) + width A) (omega (arith, h.cells)) (omega (arith, h.frames)),
      value_does (word_ty 8) v hv s.reads (source ∷ s.writes) s.next middle s.cells (refl, omega arith, omega arith),
      copy_does (put_bits s.cells s.next (padded (word_ty 8) v)) s.reads (forward (width (word_ty 8)) source ∷ s.writes) middle (width A)
          (cursor_of s.reads) (s.next + width (word_ty 8)) h.read (refl, omega arith, omega arith),
      new_frame_does size most filled (source ∷ s.reads) s.writes middle (width (prod B C)) (omega (arith, h.cells)) (omega (arith, h.frames)),
    )

    -- the left child
    pub disconnect_left_lem : {x : Bound} {t : State} → Beside (width (word_ty 8) + width A + width (prod B C)) 2 x z → hand v A (width (prod B C)) s ≡ done t
        → Enters (prod (word_ty 8) A) (prod B C) x t
    unfolding state At cursor_of width reset
    disconnect_left_lem k e = reached (hand_does (omega (arith, k.cells)) (omega (arith, k.frames))) e (record {
      read = (refl, omega arith, omega arith);
      write = (refl, omega arith, omega arith);
      stacked = stacked_push (width (prod B C)) (stacked_move source (stacked_push (width (word_ty 8) + width A) h.stacked));
      cells = omega (arith, h.cells, k.cells);
      frames = omega (arith, h.frames, k.frames);
    })

    -- the right child reads the second part of what the left one made, and writes behind the first part
    pub disconnect_right_lem : {f : Term} {D : Ty} {y : Bound} {s₁ s₂ s₃ s₄ t : State} → Typed f (prod (word_ty 8) A) (prod B C)
        → Beside (width (word_ty 8) + width A + width (prod B C)) 2 (bounds f) z
        → Beside (width (word_ty 8) + width A + width (prod B C)) 2 y z → width B + width D ≤ width E
        → hand v A (width (prod B C)) s ≡ done s₁ → exec size most f s₁ ≡ done s₂ → move_frame s₂ ≡ done s₃ → copy (width B) s₃ ≡ done s₄
        → fwd (width B) s₄ ≡ done t
        → Enters C D y t
    unfolding state At cursor_of width reset
    disconnect_right_lem {y = y} {s₁ = s₁} {s₂ = s₂} {s₃ = s₃} {s₄ = s₄} typed k l room e₁ e₂ e₃ e₄ e₅ =
        let given : hand v A (width (prod B C)) s ≡ done handed_to = hand_does (omega (arith, k.cells)) (omega (arith, k.frames)) in
        let is : handed_to ≡ s₁ = cc in
        let is₁ : s₁ ≡ state s₁.cells (source ∷ s.reads) (made ∷ s.writes) (middle + width (prod B C)) =
        sym is ∙ ap (λ (u : State). state u.cells (source ∷ s.reads) (made ∷ s.writes) (middle + width (prod B C))) is in
        let u : State = state s₂.cells (made ∷ source ∷ s.reads) s.writes (middle + width (prod B C)) in
        let moves : move_frame s₂ ≡ done u = moved middle (source ∷ s.reads) s.writes typed (disconnect_left_lem k e₁) is₁ e₂ in
        let is₃ : u ≡ s₃ = cc in
        let entered : Enters (prod B C) E y u = record {
          read = (refl, omega arith, omega arith);
          write = h.write;
          stacked = stacked_move made (stacked_push (width (prod B C)) (stacked_move source (stacked_push (width (word_ty 8) + width A) h.stacked)));
          cells = omega (arith, h.cells, l.cells);
          frames = omega (arith, h.frames, l.frames);
        } in
        let copied = copy_does u.cells u.reads u.writes u.next (width B) middle (cursor_of s.writes) (refl, omega arith, omega arith)
        (at_less s.writes (cursor_of s.writes) (width E) (width B) (omega arith) h.write) in
        let d : Cells = copy_cells u.cells middle (cursor_of s.writes) (width B) in
        let is₄ : state d u.reads (advance (width B) s.writes) u.next ≡ s₄ = (let e = ap (copy (width B)) is₃ ∙ e₄ in cc) in
        reached (fwd_does d u.reads (advance (width B) s.writes) u.next (width B) middle (refl, omega arith, omega arith))
        (ap (fwd (width B)) is₄ ∙ e₅)
        (read_on (width B) {A = prod B C} (omega arith) (write_on_lem (width B) room d entered))
