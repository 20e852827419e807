-- The cells are bits at every node that a run enters, where the old cells are bits: so bytes can hold them at each of its visits.
-- By induction along the ways into a child: what the machine does before a child keeps cells bits (BinaryCells).
use Rattle.std.specs.Prelude.{◌≡◌, ℕ, ◌+◌, ◌≤◌}
use Rattle.std.proofs.Common.{subst, arith}
use mathlib.Core.List.{[], ◌∷◌}
use Rattle.report.specs.Types.{width, left_of, word_ty}
use Rattle.report.specs.Values.{Val, Cells, padded}
use Rattle.report.specs.Meaning.{done}
use Rattle.scope.specs.Program.{Program, source_ty, target_ty, term_at, whole_source, whole_target}
use Rattle.scope.specs.Bounds.{whole_cells, whole_frames}
use Rattle.scope.specs.Machine.{State, Step, state, move_frame, write_bits, skip, copy, fwd}
use Rattle.common.specs.Checks.{clash}
use Rattle.theory.specs.BinaryCells.{BitCells, BitsAfter, bits_done, bits_failed, bits_pruned, bits_stuck}
use Rattle.theory.proofs.BinaryCells.{padded_bits, after_bind, after_new_frame, after_move_frame, after_write_bits, after_skip, after_copy, after_fwd, exec_bits, input_bits_lem, output_bits}
use Rattle.theory.specs.Entered.{push, run_node, handed, Entered, last_node, comp_left, comp_right, pair_left, pair_right, in_injl, in_injr, case_left, case_right, in_take, in_drop, disconnect_left, disconnect_right}

-- the cells after a step that is done
bits_done_lem : {o : Step} {t : State} → BitsAfter o → o ≡ done t → BitCells t.cells
bits_done_lem {t = t} (bits_done {s} h) e = subst (λ (u : State). BitCells u.cells) (let z : s ≡ t = cc in z) h
bits_done_lem (bits_failed h) e = clash (cc)
bits_done_lem (bits_pruned h) e = clash (cc)
bits_done_lem bits_stuck e = clash (cc)

module _ (P : Program) where
  -- what is done before the left child of a disconnect keeps cells bits
  handed_bits : (i b : ℕ) (s : State) → BitCells s.cells → BitsAfter (handed P i b s)
  unfolding handed
  handed_bits i b s h =
      after_bind (push P (width (word_ty 8) + width (source_ty P i)) s) _ (after_new_frame s h (whole_cells P) (whole_frames P) _) λ s h.
      after_bind (write_bits (padded (word_ty 8) (P.hash b)) s) _
      (after_write_bits s h (padded (word_ty 8) (P.hash b)) (padded_bits (word_ty 8) (P.hash b))) λ s h.
      after_bind (copy (width (source_ty P i)) s) _ (after_copy s h (width (source_ty P i))) λ s h.
      after_bind (move_frame s) _ (after_move_frame s h) λ s h.
      after_new_frame s h (whole_cells P) (whole_frames P) (width (left_of (target_ty P i)) + width (source_ty P b))

  -- a new frame, and the run of a node
  push_bits : (n : ℕ) (s : State) {t : State} → BitCells s.cells → push P n s ≡ done t → BitCells t.cells
  push_bits n s h e = bits_done_lem (after_new_frame s h (whole_cells P) (whole_frames P) n) e

  -- the run of a node
  run_bits : (i : ℕ) (s : State) {t : State} → BitCells s.cells → run_node P i s ≡ done t → BitCells t.cells
  run_bits i s h e = bits_done_lem (exec_bits (whole_cells P) (whole_frames P) (term_at P i) s h) e

  -- a frame moved
  move_bits : (s : State) {t : State} → BitCells s.cells → move_frame s ≡ done t → BitCells t.cells
  move_bits s h e = bits_done_lem (after_move_frame s h) e

  -- the read cursor on
  fwd_bits : (n : ℕ) (s : State) {t : State} → BitCells s.cells → fwd n s ≡ done t → BitCells t.cells
  fwd_bits n s h e = bits_done_lem (after_fwd s h n) e

  -- a tag and padding
  tag_bits : (b n : ℕ) (s : State) {s₁ t : State} → b ≤ 1 → BitCells s.cells → write_bits (b ∷ []) s ≡ done s₁ → skip n s₁ ≡ done t → BitCells t.cells
  tag_bits b n s {s₁} l h e f = bits_done_lem (after_skip s₁ (bits_done_lem (after_write_bits s h (b ∷ []) (omega arith, tt)) e) n) f

  -- THE CELLS ARE BITS WHEREVER A NODE IS ENTERED
  pub entered_bits : (v : Val) (c : Cells) → BitCells c → {i : ℕ} {s : State} → Entered P v c i s → BitCells s.cells
  unfolding state
  entered_bits v c k (last_node {s = s} e f) =
      bits_done_lem (output_bits (whole_cells P) (whole_frames P) (width (whole_target P)) s
      (bits_done_lem (input_bits_lem (whole_cells P) (whole_frames P) (width (whole_source P)) (padded (whole_source P) v)
      (padded_bits (whole_source P) v) (state c [] [] 0) k) e)) f
  entered_bits v c k (comp_left {s = s} h e f) = push_bits _ s (entered_bits v c k h) f
  entered_bits v c k (comp_right {a = a} {s = s} {s₁ = s₁} {s₂ = s₂} h e f g m) = move_bits s₂ (run_bits a s₁ (push_bits _ s (entered_bits v c k h) f) g) m
  entered_bits v c k (pair_left h e) = entered_bits v c k h
  entered_bits v c k (pair_right {a = a} {s = s} h e f) = run_bits a s (entered_bits v c k h) f
  entered_bits v c k (in_injl {s = s} h e f g) = tag_bits 0 _ s (omega arith) (entered_bits v c k h) f g
  entered_bits v c k (in_injr {s = s} h e f g) = tag_bits 1 _ s (omega arith) (entered_bits v c k h) f g
  entered_bits v c k (case_left {s = s} h e q p f) = fwd_bits _ s (entered_bits v c k h) f
  entered_bits v c k (case_right {s = s} h e q p f) = fwd_bits _ s (entered_bits v c k h) f
  entered_bits v c k (in_take h e) = entered_bits v c k h
  entered_bits v c k (in_drop {s = s} h e f) = fwd_bits _ s (entered_bits v c k h) f
  entered_bits v c k (disconnect_left {i = i} {b = b} {s = s} h e f) = bits_done_lem (handed_bits i b s (entered_bits v c k h)) f
  entered_bits v c k (disconnect_right {i = i} {a = a} {b = b} {s = s} {s₁ = s₁} {s₂ = s₂} {s₃ = s₃} {s₄ = s₄} h e f g m n q) =
      let made : BitCells s₁.cells = bits_done_lem (handed_bits i b s (entered_bits v c k h)) f in
      fwd_bits _ s₄ (bits_done_lem (after_copy s₃ (move_bits s₂ (run_bits a s₁ made g) m) _) n) q
