-- The nodes that a run enters, and the state of the machine at each: the last node, once input and output have their frames;
-- and from a node that is entered each child that its run comes to, after what the machine does before that child.
-- One rule for each way into a child. A case goes where the bit at its read cursor says; no run enters a branch that was pruned.
use Rattle.std.specs.Prelude.{◌≡◌, false, [], ◌∷◌, ℕ, suc, ◌+◌}
use Rattle.report.specs.Types.{width, pad_l, pad_r, left_of, right_of, word_ty}
use Rattle.report.specs.Values.{Val, Cells, padded}
use Rattle.report.specs.Nodes.{comp, case, pair, disconnect, injl, injr, take, drop}
use Rattle.report.specs.Meaning.{done, ◌>>=◌}
use Rattle.scope.specs.Nodes.{node_at}
use Rattle.scope.specs.Walk.{hidden_at}
use Rattle.scope.specs.Program.{Program, source_ty, target_ty, term_at, last, whole_source, whole_target}
use Rattle.scope.specs.Bounds.{whole_cells, whole_frames}
use Rattle.scope.specs.Machine.{State, Step, state, new_frame, move_frame, write_bits, skip, copy, fwd, peek, input, output, exec}

module _ (P : Program) where
  -- a new frame of n cells, within the program's bounds
  abbrev pub push : (n : ℕ) → State → Step
  push n s = new_frame (whole_cells P) (whole_frames P) n s

  -- the run of node i within them
  abbrev pub run_node : (i : ℕ) → State → Step
  run_node i s = exec (whole_cells P) (whole_frames P) (term_at P i) s

  -- before the left child of disconnect i with the right child b: a read frame with b's hash and the source, and a write frame for B × C
  unfoldable pub handed : (i b : ℕ) → State → Step
  unfolding ◌>>=◌ new_frame write_bits copy move_frame padded
  handed i b s = do
    s ← push (width (word_ty 8) + width (source_ty P i)) s
    s ← write_bits (padded (word_ty 8) (P.hash b)) s
    s ← copy (width (source_ty P i)) s
    s ← move_frame s
    push (width (left_of (target_ty P i)) + width (source_ty P b)) s

  module _ (v : Val) (c : Cells) where
    -- the run on the input v, over old cells c, enters node i in state s
    pub data Entered : (i : ℕ) → (s : State) → Type 0 where
      last_node : {s t : State} → input (whole_cells P) (whole_frames P) (width (whole_source P)) (padded (whole_source P) v) (state c [] [] 0) ≡ done s
          → output (whole_cells P) (whole_frames P) (width (whole_target P)) s ≡ done t → Entered (last P) t
      comp_left : {i a b : ℕ} {s t : State} → Entered i s → node_at P.nodes i ≡ comp a b → push (width (target_ty P a)) s ≡ done t → Entered a t
      comp_right : {i a b : ℕ} {s s₁ s₂ t : State} → Entered i s → node_at P.nodes i ≡ comp a b → push (width (target_ty P a)) s ≡ done s₁
          → run_node a s₁ ≡ done s₂ → move_frame s₂ ≡ done t → Entered b t
      pair_left : {i a b : ℕ} {s : State} → Entered i s → node_at P.nodes i ≡ pair a b → Entered a s
      pair_right : {i a b : ℕ} {s t : State} → Entered i s → node_at P.nodes i ≡ pair a b → run_node a s ≡ done t → Entered b t
      in_injl : {i a : ℕ} {s s₁ t : State} → Entered i s → node_at P.nodes i ≡ injl a → write_bits (0 ∷ []) s ≡ done s₁
          → skip (pad_l (left_of (target_ty P i)) (right_of (target_ty P i))) s₁ ≡ done t → Entered a t
      in_injr : {i a : ℕ} {s s₁ t : State} → Entered i s → node_at P.nodes i ≡ injr a → write_bits (1 ∷ []) s ≡ done s₁
          → skip (pad_r (left_of (target_ty P i)) (right_of (target_ty P i))) s₁ ≡ done t → Entered a t
      case_left : {i a b : ℕ} {s t : State} → Entered i s → node_at P.nodes i ≡ case a b → hidden_at P.nodes a ≡ false → peek s ≡ done 0
          → fwd (1 + pad_l (left_of (left_of (source_ty P i))) (right_of (left_of (source_ty P i)))) s ≡ done t → Entered a t
      case_right : {i a b k : ℕ} {s t : State} → Entered i s → node_at P.nodes i ≡ case a b → hidden_at P.nodes b ≡ false → peek s ≡ done (suc k)
          → fwd (1 + pad_r (left_of (left_of (source_ty P i))) (right_of (left_of (source_ty P i)))) s ≡ done t → Entered b t
      in_take : {i a : ℕ} {s : State} → Entered i s → node_at P.nodes i ≡ take a → Entered a s
      in_drop : {i a : ℕ} {s t : State} → Entered i s → node_at P.nodes i ≡ drop a → fwd (width (left_of (source_ty P i))) s ≡ done t → Entered a t
      disconnect_left : {i a b : ℕ} {s t : State} → Entered i s → node_at P.nodes i ≡ disconnect a b → handed i b s ≡ done t → Entered a t
      disconnect_right : {i a b : ℕ} {s s₁ s₂ s₃ s₄ t : State} → Entered i s → node_at P.nodes i ≡ disconnect a b → handed i b s ≡ done s₁
          → run_node a s₁ ≡ done s₂ → move_frame s₂ ≡ done s₃ → copy (width (left_of (target_ty P i))) s₃ ≡ done s₄
          → fwd (width (left_of (target_ty P i))) s₄ ≡ done t → Entered b t
