-- Cells stay bits: where all cells are 0 or 1 before a run, they are 0 or 1 after it, and also where it stops.
-- So cells can be packed into bytes and read back at any point of a run.
use Rattle.std.specs.Prelude.{Bool, true, false, leb, ltb, eqb, replicate}
use mathlib.Core.List.{List, [], ◌∷◌}
use Prim.Native.Nat.{ℕ, zero, suc, ◌+◌, ◌≤◌}
use Rattle.std.proofs.Common.{arith}
use Rattle.std.proofs.Math.ListN.{length}
use Rattle.report.specs.Bits.{Bit}
use Rattle.report.specs.Types.{Ty, width, pad_l, pad_r, left_of, right_of, word_ty}
use Rattle.report.specs.Values.{Val, ⟨⟩, inl, inr, ◌&◌, Cells, padded}
use Rattle.report.specs.Terms.{Term, iden, comp, unit, injl, injr, case, pair, take, drop, assertl, assertr, fail, witness, word, disconnect, bad}
use Rattle.report.specs.Meaning.{Out, done, pruned, stuck, ◌>>=◌}
use Rattle.scope.specs.Machine.{Frame, frame_from, State, Step, state, need, reset, set_cell, put_bits, copy_cells, forward, backward, in_frame, new_frame, move_frame, drop_frame, write_bits, skip, copy, fwd, back, peek, exec, input, output, machine}
use Rattle.common.specs.Bits.{AreBits, below_append}
use Rattle.theory.specs.BinaryCells.{BitCells, BitsAfter, bits_done, bits_failed, bits_pruned, bits_stuck, KeepsBits}

-- zeros and padded bits are bits
zeros_bits : (n : ℕ) → AreBits (replicate n 0)
zeros_bits zero = tt
zeros_bits (suc n) = (omega arith, zeros_bits n)

pub padded_bits : (A : Ty) (v : Val) → AreBits (padded A v)
unfolding padded
padded_bits A ⟨⟩ = tt
padded_bits A (inl v) = (
  omega arith,
  below_append 2 (replicate (pad_l (left_of A) (right_of A)) 0) (padded (left_of A) v) (zeros_bits (pad_l (left_of A) (right_of A)))
      (padded_bits (left_of A) v),
)
padded_bits A (inr v) = (
  omega arith,
  below_append 2 (replicate (pad_r (left_of A) (right_of A)) 0) (padded (right_of A) v) (zeros_bits (pad_r (left_of A) (right_of A)))
      (padded_bits (right_of A) v),
)
padded_bits A (v & w) = below_append 2 (padded (left_of A) v) (padded (right_of A) w) (padded_bits (left_of A) v) (padded_bits (right_of A) w)

-- a bit written, bits written, cells copied: the cells stay bits
set_bit : (c : Cells) (at : ℕ) (b : Bit) → BitCells c → b ≤ 1 → BitCells (set_cell c at b)
unfolding set_cell
set_bit c at b h l j = go (eqb j at)
  where
    go : (x : Bool) → (elim x [ true ↦ b | false ↦ c j ]) ≤ 1
    go true = l
    go false = h j

put_bits_lem : (bs : List Bit) (c : Cells) (at : ℕ) → BitCells c → AreBits bs → BitCells (put_bits c at bs)
unfolding put_bits
put_bits_lem [] c at h k = h
put_bits_lem (b ∷ bs) c at h k = put_bits_lem bs (set_cell c at b) (suc at) (set_bit c at b h (omega (arith, k.0))) k.1

copy_bits_lem : (n : ℕ) (c : Cells) (from to : ℕ) → BitCells c → BitCells (copy_cells c from to n)
unfolding copy_cells
copy_bits_lem zero c from to h = h
copy_bits_lem (suc n) c from to h = copy_bits_lem n (set_cell c to (c from)) (suc from) (suc to) (set_bit c to (c from) h (h from))

-- one step after the other
pub after_bind : (o : Step) (f : State → Step) → BitsAfter o → ((s : State) → BitCells s.cells → BitsAfter (f s)) → BitsAfter (o >>= f)
unfolding ◌>>=◌
after_bind o f (bits_done {s} h) k = k s h
after_bind o f (bits_failed h) k = bits_failed h
after_bind o f (bits_pruned h) k = bits_pruned h
after_bind o f bits_stuck k = bits_stuck

-- a step that asks for a test
after_need : (b : Bool) (o : Step) → BitsAfter o → BitsAfter (need b o)
unfolding need
after_need true o h = h
after_need false o h = bits_stuck

-- a step that asks for a frame
after_frames : (fs : List Frame) (f : Frame → List Frame → Step) → ((g : Frame) (gs : List Frame) → BitsAfter (f g gs))
    → BitsAfter (elim fs [ [] ↦ stuck | g ∷ gs ↦ f g gs ])
after_frames [] f h = bits_stuck
after_frames (g ∷ gs) f h = h g gs

-- the rules of the machine
module _ (s : State) (h : BitCells s.cells) where
  -- frames that come and go change no cell
  pub after_new_frame : (size most n : ℕ) → BitsAfter (new_frame size most n s)
  unfolding new_frame state
  after_new_frame size most n =
      after_need (leb (s.next + n) size) _ (after_need (ltb (length s.reads + length s.writes) most)
      (done (state s.cells s.reads (frame_from s.next n ∷ s.writes) (s.next + n))) (bits_done h))

  pub after_move_frame : BitsAfter (move_frame s)
  unfolding move_frame state
  after_move_frame = after_frames s.writes (λ f ws. done (state s.cells (reset f ∷ s.reads) ws s.next)) (λ f ws. bits_done h)

  after_drop_frame : BitsAfter (drop_frame s)
  unfolding drop_frame state
  after_drop_frame = after_frames s.reads (λ f rs. need (eqb s.next (f.start + f.len)) (done (state s.cells rs s.writes f.start)))
      (λ f rs. after_need (eqb s.next (f.start + f.len)) (done (state s.cells rs s.writes f.start)) (bits_done h))

  -- what is written are bits
  pub after_write_bits : (bs : List Bit) → AreBits bs → BitsAfter (write_bits bs s)
  unfolding write_bits state
  after_write_bits [] k = bits_done h
  after_write_bits (b ∷ bs) k = after_frames s.writes (λ f ws. need (in_frame (length (b ∷ bs)) f) (done (written f ws)))
      (λ f ws. after_need (in_frame (length (b ∷ bs)) f) (done (written f ws)) (bits_done (put_bits_lem (b ∷ bs) s.cells f.cursor h k)))
    where
      written : Frame → List Frame → State
      written f ws = state (put_bits s.cells f.cursor (b ∷ bs)) s.reads (forward (length (b ∷ bs)) f ∷ ws) s.next

  -- cursors that move change no cell
  pub after_skip : (n : ℕ) → BitsAfter (skip n s)
  unfolding skip state
  after_skip zero = bits_done h
  after_skip (suc n) = after_frames s.writes (λ f ws. need (in_frame (suc n) f) (done (state s.cells s.reads (forward (suc n) f ∷ ws) s.next)))
      (λ f ws. after_need (in_frame (suc n) f) (done (state s.cells s.reads (forward (suc n) f ∷ ws) s.next)) (bits_done h))

  -- what is copied are bits
  pub after_copy : (n : ℕ) → BitsAfter (copy n s)
  unfolding copy state
  after_copy zero = bits_done h
  after_copy (suc n) = after_frames s.reads (λ f rs. elim s.writes [ [] ↦ stuck | g ∷ ws ↦ into f g ws ])
      (λ f rs. after_frames s.writes (into f) (λ g ws. after_need (in_frame (suc n) f) (need (in_frame (suc n) g) (done (copied f g ws)))
      (after_need (in_frame (suc n) g) (done (copied f g ws)) (bits_done (copy_bits_lem (suc n) s.cells f.cursor g.cursor h)))))
    where
      copied : Frame → Frame → List Frame → State
      copied f g ws = state (copy_cells s.cells f.cursor g.cursor (suc n)) s.reads (forward (suc n) g ∷ ws) s.next

      into : Frame → Frame → List Frame → Step
      into f g ws = need (in_frame (suc n) f) (need (in_frame (suc n) g) (done (copied f g ws)))

  -- the read cursor on
  pub after_fwd : (n : ℕ) → BitsAfter (fwd n s)
  unfolding fwd state
  after_fwd zero = bits_done h
  after_fwd (suc n) = after_frames s.reads (λ f rs. need (in_frame (suc n) f) (done (state s.cells (forward (suc n) f ∷ rs) s.writes s.next)))
      (λ f rs. after_need (in_frame (suc n) f) (done (state s.cells (forward (suc n) f ∷ rs) s.writes s.next)) (bits_done h))

  -- and back
  after_back : (n : ℕ) → BitsAfter (back n s)
  unfolding back state
  after_back zero = bits_done h
  after_back (suc n) =
      after_frames s.reads
      (λ f rs. need (leb (f.start + suc n) f.cursor) (done (state s.cells (backward (suc n) f ∷ rs) s.writes s.next)))
      (λ f rs. after_need (leb (f.start + suc n) f.cursor) (done (state s.cells (backward (suc n) f ∷ rs) s.writes s.next)) (bits_done h))

-- the bit at the cursor of the active read frame
abbrev look : Cells → List Frame → Out State Bit
look c rs = elim rs [ [] ↦ stuck | g ∷ rs ↦ need (in_frame 1 g) (done (c g.cursor)) ]

-- a look at the read cursor changes no cell
after_peek : (s : State) (f : Bit → Step) → ((b : Bit) → BitsAfter (f b)) → BitsAfter (peek s >>= f)
unfolding peek need ◌>>=◌
after_peek s f k = go s.reads
  where
    seen : (x : Bool) (b : Bit) → BitsAfter (need x (done b) >>= f)
    seen true b = k b
    seen false b = bits_stuck

    go : (rs : List Frame) → BitsAfter (look s.cells rs >>= f)
    go [] = bits_stuck
    go (g ∷ rs) = seen (in_frame 1 g) (s.cells g.cursor)

-- a part read n cells further on
on_bits : (n : ℕ) (f : State → Step) → KeepsBits f → KeepsBits (λ s. fwd n s >>= λ s. f s >>= λ s. back n s)
on_bits n f k s h =
    after_bind (fwd n s) (λ s. f s >>= λ s. back n s) (after_fwd s h n) (λ s h.
    after_bind (f s) (λ s. back n s) (k s h) (λ s h. after_back s h n))

-- an injection: the tag, padding, and the part
inj_bits : (b n : ℕ) (f : State → Step) → b ≤ 1 → KeepsBits f → KeepsBits (λ s. write_bits (b ∷ []) s >>= λ s. skip n s >>= λ s. f s)
inj_bits b n f l k s h =
    after_bind (write_bits (b ∷ []) s) (λ s. skip n s >>= λ s. f s) (after_write_bits s h (b ∷ []) (omega arith, tt)) (λ s h.
    after_bind (skip n s) f (after_skip s h n) k)

-- a case, or an assertion, of two parts
case_bits : (f g : State → Step) → KeepsBits f → KeepsBits g → KeepsBits (λ s. peek s >>= λ bit. elim bit [ zero ↦ f s | suc b ↦ g s ])
case_bits f g k l s h = after_peek s (λ bit. elim bit [ zero ↦ f s | suc b ↦ g s ]) go
  where
    go : (b : Bit) → BitsAfter (elim b [ zero ↦ f s | suc b ↦ g s ])
    go zero = k s h
    go (suc b) = l s h

module _ (size most : ℕ) where
  -- comp: a frame, the left part, the right part
  comp_bits : (n : ℕ) (f g : State → Step) → KeepsBits f → KeepsBits g
      → KeepsBits (λ s. new_frame size most n s >>= λ s. f s >>= λ s. move_frame s >>= λ s. g s >>= λ s. drop_frame s)
  comp_bits n f g k l s h =
      after_bind (new_frame size most n s) (λ s. f s >>= λ s. move_frame s >>= λ s. g s >>= λ s. drop_frame s) (after_new_frame s h size most n) (λ s h.
      after_bind (f s) (λ s. move_frame s >>= λ s. g s >>= λ s. drop_frame s) (k s h) (λ s h.
      after_bind (move_frame s) (λ s. g s >>= λ s. drop_frame s) (after_move_frame s h) (λ s h.
      after_bind (g s) (λ s. drop_frame s) (l s h) (λ s h. after_drop_frame s h))))

  -- disconnect: a frame for the hash and the input, a frame for the left result, and the right part
  disconnect_bits : (m n a b : ℕ) (bs : List Bit) (f g : State → Step) → AreBits bs → KeepsBits f → KeepsBits g
      → KeepsBits (λ s. new_frame size most m s >>= λ s. write_bits bs s >>= λ s. copy a s >>= λ s. move_frame s
      >>= λ s. new_frame size most n s >>= λ s. f s >>= λ s.
      move_frame s >>= λ s. copy b s >>= λ s. fwd b s >>= λ s. g s >>= λ s. drop_frame s >>= λ s. drop_frame s)
  disconnect_bits m n a b bs f g w k l s h =
      after_bind (new_frame size most m s) _ (after_new_frame s h size most m) (λ s h.
      after_bind (write_bits bs s) _ (after_write_bits s h bs w) (λ s h.
      after_bind (copy a s) _ (after_copy s h a) (λ s h.
      after_bind (move_frame s) _ (after_move_frame s h) (λ s h.
      after_bind (new_frame size most n s) _ (after_new_frame s h size most n) (λ s h.
      after_bind (f s) _ (k s h) (λ s h.
      after_bind (move_frame s) _ (after_move_frame s h) (λ s h.
      after_bind (copy b s) _ (after_copy s h b) (λ s h.
      after_bind (fwd b s) _ (after_fwd s h b) (λ s h.
      after_bind (g s) _ (l s h) (λ s h.
      after_bind (drop_frame s) _ (after_drop_frame s h) (λ s h. after_drop_frame s h)))))))))))

  -- A RUN OF A TERM KEEPS CELLS BITS, typed or not
  pub exec_bits : (t : Term) → KeepsBits (exec size most t)
  unfolding exec
  exec_bits (iden A) s h = after_copy s h (width A)
  exec_bits (comp B f g) s h = comp_bits (width B) (exec size most f) (exec size most g) (exec_bits f) (exec_bits g) s h
  exec_bits unit s h = bits_done h
  exec_bits (injl B C t) s h = inj_bits 0 (pad_l B C) (exec size most t) (omega arith) (exec_bits t) s h
  exec_bits (injr B C t) s h = inj_bits 1 (pad_r B C) (exec size most t) (omega arith) (exec_bits t) s h
  exec_bits (pair B f g) s h = after_bind (exec size most f s) (exec size most g) (exec_bits f s h) (exec_bits g)
  exec_bits (take t) s h = exec_bits t s h
  exec_bits (drop A t) s h = on_bits (width A) (exec size most t) (exec_bits t) s h
  exec_bits (case A B f g) s h =
      case_bits _ _ (on_bits (1 + pad_l A B) (exec size most f) (exec_bits f)) (on_bits (1 + pad_r A B) (exec size most g) (exec_bits g)) s h
  exec_bits (assertl p A B f) s h = case_bits _ (λ s. pruned p s) (on_bits (1 + pad_l A B) (exec size most f) (exec_bits f)) (λ s h. bits_pruned h) s h
  exec_bits (assertr p A B g) s h = case_bits (λ s. pruned p s) _ (λ s h. bits_pruned h) (on_bits (1 + pad_r A B) (exec size most g) (exec_bits g)) s h
  exec_bits (fail p) s h = bits_failed h
  exec_bits (witness A v) s h = after_write_bits s h (padded A v) (padded_bits A v)
  exec_bits (word A v) s h = after_write_bits s h (padded A v) (padded_bits A v)
  exec_bits (disconnect A B C x f g) s h =
      disconnect_bits (width (word_ty 8) + width A) (width B + width C) (width A) (width B) (padded (word_ty 8) x) (exec size most f) (exec size most g)
      (padded_bits (word_ty 8) x) (exec_bits f) (exec_bits g) s h
  exec_bits bad s h = bits_stuck

  -- the frame of the input
  pub input_bits_lem : (n : ℕ) (bs : List Bit) → AreBits bs → KeepsBits (input size most n bs)
  unfolding input
  input_bits_lem zero bs w s h = bits_done h
  input_bits_lem (suc n) bs w s h =
      after_bind (new_frame size most (suc n) s) (λ s. write_bits bs s >>= λ s. move_frame s) (after_new_frame s h size most (suc n)) (λ s h.
      after_bind (write_bits bs s) (λ s. move_frame s) (after_write_bits s h bs w) (λ s h. after_move_frame s h))

  -- the frame of the output
  pub output_bits : (n : ℕ) → KeepsBits (output size most n)
  unfolding output
  output_bits zero s h = bits_done h
  output_bits (suc n) s h = after_new_frame s h size most (suc n)

  -- AND SO DOES A WHOLE RUN
  pub machine_bits : (t : Term) (A B : Ty) (v : Val) (c : Cells) → BitCells c → BitsAfter (machine size most t A B v c)
  unfolding machine
  machine_bits t A B v c h =
      after_bind (input size most (width A) (padded A v) (state c [] [] 0)) (λ s. output size most (width B) s >>= λ s. exec size most t s)
      (input_bits_lem (width A) (padded A v) (padded_bits A v) (state c [] [] 0) h) (λ s h.
      after_bind (output size most (width B) s) (λ s. exec size most t s) (output_bits (width B) s h) (exec_bits t))
