-- A run that stops has entered the node at which it stops, and its last state is the one in which it entered that node: the fail node, or
-- the assertion whose pruned branch was picked. So the nodes that a run enters reach as far as the run does.
use Rattle.std.specs.Prelude.{◌≡◌, Bool, leb, ltb, eqb, get_or}
use Rattle.std.proofs.Math.Path.{refl}
use Rattle.std.proofs.Math.Bool.{true, false}
use mathlib.Core.List.{List, [], ◌∷◌}
use Prim.Native.Nat.{ℕ, zero, suc, ◌+◌, ◌<◌}
use Rattle.std.proofs.Common.{arith, not-suc-le-zero}
use Rattle.std.proofs.Math.ListN.{length}
use Rattle.report.specs.Bits.{Bit}
use Rattle.report.specs.Types.{width, pad_l, pad_r, left_of, right_of, word_ty}
use Rattle.report.specs.Values.{Val, ⟨⟩, HasTy, Cells, padded}
use Rattle.report.specs.Nodes.{Node, comp, case, pair, disconnect, injl, injr, take, drop, disconnect1, iden, unit, witness, fail, hidden, word}
use Rattle.report.specs.Canonical.{children}
use Rattle.report.specs.Meaning.{Out, done, ◌>>=◌}
use Rattle.scope.specs.Nodes.{node_at}
use Rattle.scope.specs.Walk.{hidden_at}
use Rattle.scope.specs.Program.{Program, value_from, source_ty, target_ty, case_term, term_of, term_at, last, whole, whole_source, whole_target}
use Rattle.scope.specs.Bounds.{whole_cells, whole_frames}
use Rattle.scope.specs.Machine.{Frame, State, Step, state, need, in_frame, new_frame, move_frame, drop_frame, write_bits, skip, copy, fwd, back, peek, input, output, exec, machine}
use Rattle.common.specs.Bits.{AllBelow}
use Rattle.theory.proofs.NodeTerms.{term_step}
use Rattle.theory.specs.Sound.{Sound}
use Rattle.theory.specs.Programs.{run_of}
use Rattle.theory.specs.Entered.{push, run_node, handed, Entered, last_node, comp_left, comp_right, pair_left, pair_right, in_injl, in_injr, case_left, case_right, in_take, in_drop, disconnect_left, disconnect_right}
use Rattle.theory.proofs.AtNodes.{entered_at}
use Rattle.theory.specs.Stops.{StopsIn, goes_on, at_fail, at_pruned, no_rule}

module _ (Q : ℕ → State → Type 0) where
  -- one step after the other
  stops_then : {X : Type 0} {o : Out State X} {k : X → Step} → StopsIn Q o → ((x : X) → o ≡ done x → StopsIn Q (k x)) → StopsIn Q (o >>= k)
  unfolding ◌>>=◌
  stops_then (goes_on {x}) f = f x refl
  stops_then (at_fail h) f = at_fail h
  stops_then (at_pruned h) f = at_pruned h
  stops_then no_rule f = no_rule

  -- a rule of the machine goes on or does not apply: it asks for tests and for frames
  asks : {X : Type 0} (b : Bool) (x : X) → StopsIn Q (need b (done x))
  unfolding need
  asks true x = goes_on
  asks false x = no_rule

  -- two tests
  asks_both : {X : Type 0} (a b : Bool) (x : X) → StopsIn Q (need a (need b (done x)))
  unfolding need
  asks_both true b x = asks b x
  asks_both false b x = no_rule

  -- a new frame
  push_stops : (size most n : ℕ) (s : State) → StopsIn Q (new_frame size most n s)
  unfolding new_frame
  push_stops size most n s = asks_both (leb (s.next + n) size) (ltb (length s.reads + length s.writes) most) _

  -- the rules that look at the active frames
  module _ (c : Cells) where
    -- a frame moved
    moves : (rs ws : List Frame) (nx : ℕ) → StopsIn Q (move_frame (state c rs ws nx))
    unfolding move_frame
    moves rs [] nx = no_rule
    moves rs (f ∷ ws) nx = goes_on

    -- a frame dropped
    drops : (rs ws : List Frame) (nx : ℕ) → StopsIn Q (drop_frame (state c rs ws nx))
    unfolding drop_frame
    drops [] ws nx = no_rule
    drops (f ∷ rs) ws nx = asks (eqb nx (f.start + f.len)) _

    -- bits written
    writes : (bs : List Bit) (rs ws : List Frame) (nx : ℕ) → StopsIn Q (write_bits bs (state c rs ws nx))
    unfolding write_bits
    writes [] rs ws nx = goes_on
    writes (b ∷ bs) rs [] nx = no_rule
    writes (b ∷ bs) rs (f ∷ ws) nx = asks (in_frame (length (b ∷ bs)) f) _

    -- cells passed over
    skips : (n : ℕ) (rs ws : List Frame) (nx : ℕ) → StopsIn Q (skip n (state c rs ws nx))
    unfolding skip
    skips zero rs ws nx = goes_on
    skips (suc n) rs [] nx = no_rule
    skips (suc n) rs (f ∷ ws) nx = asks (in_frame (suc n) f) _

    -- cells copied
    copies : (n : ℕ) (rs ws : List Frame) (nx : ℕ) → StopsIn Q (copy n (state c rs ws nx))
    unfolding copy
    copies zero rs ws nx = goes_on
    copies (suc n) [] ws nx = no_rule
    copies (suc n) (f ∷ rs) [] nx = no_rule
    copies (suc n) (f ∷ rs) (g ∷ ws) nx = asks_both (in_frame (suc n) f) (in_frame (suc n) g) _

    -- the read cursor on
    goes_on_lem : (n : ℕ) (rs ws : List Frame) (nx : ℕ) → StopsIn Q (fwd n (state c rs ws nx))
    unfolding fwd
    goes_on_lem zero rs ws nx = goes_on
    goes_on_lem (suc n) [] ws nx = no_rule
    goes_on_lem (suc n) (f ∷ rs) ws nx = asks (in_frame (suc n) f) _

    -- and back
    goes_back : (n : ℕ) (rs ws : List Frame) (nx : ℕ) → StopsIn Q (back n (state c rs ws nx))
    unfolding back
    goes_back zero rs ws nx = goes_on
    goes_back (suc n) [] ws nx = no_rule
    goes_back (suc n) (f ∷ rs) ws nx = asks (leb (f.start + suc n) f.cursor) _

    -- the bit at it
    peeks : (rs ws : List Frame) (nx : ℕ) → StopsIn Q (peek (state c rs ws nx))
    unfolding peek state
    peeks [] ws nx = no_rule
    peeks (f ∷ rs) ws nx = asks (in_frame 1 f) _

-- what is done before the left child of a disconnect, step by step
hands_on : (P : Program) (i b : ℕ) (s : State) {s₁ s₂ s₃ s₄ s₅ : State} → push P (width (word_ty 8) + width (source_ty P i)) s ≡ done s₁
    → write_bits (padded (word_ty 8) (P.hash b)) s₁ ≡ done s₂
    → copy (width (source_ty P i)) s₂ ≡ done s₃ → move_frame s₃ ≡ done s₄
    → push P (width (left_of (target_ty P i)) + width (source_ty P b)) s₄ ≡ done s₅ → handed P i b s ≡ done s₅
unfolding handed ◌>>=◌
hands_on P i b s e₁ e₂ e₃ e₄ e₅ = rw e₁ (rw e₂ (rw e₃ (rw e₄ e₅)))

-- the runs of the nodes of a sound program, on its input
module _ (P : Program) (ok : Sound P) (v : Val) (hv : HasTy v (whole_source P)) (c : Cells) where
  -- entered nodes
  abbrev In : ℕ → State → Type 0
  In = Entered P v c

  -- the outcome stops only where the run has entered a node, in the state in which it did
  abbrev Ok : Step → Type 0
  Ok o = StopsIn In o

  -- a rule, and what follows it
  after_push : (n : ℕ) (s : State) {k : State → Step} → ((t : State) → push P n s ≡ done t → Ok (k t)) → Ok (push P n s >>= k)
  after_push n s = stops_then In (push_stops In (whole_cells P) (whole_frames P) n s)

  -- a frame moved
  after_move : (s : State) {k : State → Step} → ((t : State) → move_frame s ≡ done t → Ok (k t)) → Ok (move_frame s >>= k)
  unfolding state
  after_move s = stops_then In (moves In s.cells s.reads s.writes s.next)

  -- bits written
  after_write : (bs : List Bit) (s : State) {k : State → Step} → ((t : State) → write_bits bs s ≡ done t → Ok (k t)) → Ok (write_bits bs s >>= k)
  unfolding state
  after_write bs s = stops_then In (writes In s.cells bs s.reads s.writes s.next)

  -- cells passed over
  after_skip : (n : ℕ) (s : State) {k : State → Step} → ((t : State) → skip n s ≡ done t → Ok (k t)) → Ok (skip n s >>= k)
  unfolding state
  after_skip n s = stops_then In (skips In s.cells n s.reads s.writes s.next)

  -- cells copied
  after_copy : (n : ℕ) (s : State) {k : State → Step} → ((t : State) → copy n s ≡ done t → Ok (k t)) → Ok (copy n s >>= k)
  unfolding state
  after_copy n s = stops_then In (copies In s.cells n s.reads s.writes s.next)

  -- the read cursor on
  after_fwd : (n : ℕ) (s : State) {k : State → Step} → ((t : State) → fwd n s ≡ done t → Ok (k t)) → Ok (fwd n s >>= k)
  unfolding state
  after_fwd n s = stops_then In (goes_on_lem In s.cells n s.reads s.writes s.next)

  -- the bit at it
  after_peek : (s : State) {k : Bit → Step} → ((b : Bit) → peek s ≡ done b → Ok (k b)) → Ok (peek s >>= k)
  unfolding state
  after_peek s = stops_then In (peeks In s.cells s.reads s.writes s.next)

  -- a frame dropped, at the end
  last_drop : (s : State) → Ok (drop_frame s)
  unfolding state
  last_drop s = drops In s.cells s.reads s.writes s.next

  -- the read cursor back, at the end
  last_back : (n : ℕ) (s : State) → Ok (back n s)
  unfolding state
  last_back n s = goes_back In s.cells n s.reads s.writes s.next

  -- node i, given the nodes below it
  module _ (i : ℕ) (s : State) (h : Entered P v c i s) (child : (j : ℕ) (t : State) → j < i → Entered P v c j t → Ok (run_node P j t)) where
    -- a child, and the read cursor back
    there_and_back : (n j : ℕ) (t : State) → j < i → Entered P v c j t → Ok (run_node P j t >>= λ s. back n s)
    there_and_back n j t l e = stops_then In (child j t l e) (λ u q. last_back n u)

    -- by the bit at the read cursor
    by_bit : (left right : Step) → (peek s ≡ done 0 → Ok left) → ((k : ℕ) → peek s ≡ done (suc k) → Ok right)
        → Ok (peek s >>= λ bit. elim bit [ zero ↦ left | suc k ↦ right ])
    by_bit left right f g = after_peek s go
      where
        go : (bit : Bit) → peek s ≡ done bit → Ok (elim bit [ zero ↦ left | suc k ↦ right ])
        go zero e = f e
        go (suc k) e = g k e

    -- the cells before a left part and before a right part of the sum that a case looks at
    abbrev left_tag : ℕ
    left_tag = 1 + pad_l (left_of (left_of (source_ty P i))) (right_of (left_of (source_ty P i)))

    -- before a right part
    abbrev right_tag : ℕ
    right_tag = 1 + pad_r (left_of (left_of (source_ty P i))) (right_of (left_of (source_ty P i)))

    -- the left branch
    left_branch : (a b : ℕ) → node_at P.nodes i ≡ case a b → a < i → hidden_at P.nodes a ≡ false → peek s ≡ done 0
        → Ok (fwd left_tag s >>= λ s. run_node P a s >>= λ s. back left_tag s)
    left_branch a b e l q r = after_fwd left_tag s λ s₁ e₁. there_and_back left_tag a s₁ l (case_left h e q r e₁)

    -- the right branch
    right_branch : (a b k : ℕ) → node_at P.nodes i ≡ case a b → b < i → hidden_at P.nodes b ≡ false → peek s ≡ done (suc k)
        → Ok (fwd right_tag s >>= λ s. run_node P b s >>= λ s. back right_tag s)
    right_branch a b k e l q r = after_fwd right_tag s λ s₁ e₁. there_and_back right_tag b s₁ l (case_right h e q r e₁)

    -- a case, by which of its children are hidden
    stops_case : (a b : ℕ) → node_at P.nodes i ≡ case a b → a < i → b < i → (x y : Bool) → hidden_at P.nodes a ≡ x → hidden_at P.nodes b ≡ y
        → Ok (exec (whole_cells P) (whole_frames P) (case_term x y i (source_ty P i) (term_at P a) (term_at P b)) s)
    unfolding case_term exec
    stops_case a b e la lb false false p q = by_bit _ _ (left_branch a b e la p) (λ k r. right_branch a b k e lb q r)
    stops_case a b e la lb false true p q = by_bit _ _ (left_branch a b e la p) (λ k r. at_pruned h)
    stops_case a b e la lb true false p q = by_bit _ _ (λ r. at_pruned h) (λ k r. right_branch a b k e lb q r)
    stops_case a b e la lb true true p q = no_rule

    -- a node of each kind
    stops_node : (n : Node) → node_at P.nodes i ≡ n → AllBelow i (children n) → Ok (exec (whole_cells P) (whole_frames P) (term_of P i n (term_at P)) s)
    unfolding term_of exec children state
    stops_node (comp a b) e l =
        after_push (width (target_ty P a)) s λ s₁ e₁. stops_then In (child a s₁ l.0 (comp_left h e e₁)) λ s₂ e₂. after_move s₂ λ s₃ e₃.
        stops_then In (child b s₃ l.1.0 (comp_right h e e₁ e₂ e₃)) λ s₄ e₄. last_drop s₄
    stops_node (case a b) e l = stops_case a b e l.0 l.1.0 (hidden_at P.nodes a) (hidden_at P.nodes b) refl refl
    stops_node (pair a b) e l = stops_then In (child a s l.0 (pair_left h e)) λ s₁ e₁. child b s₁ l.1.0 (pair_right h e e₁)
    stops_node (disconnect a b) e l =
        let A : ℕ = width (source_ty P i) in
        let B : ℕ = width (left_of (target_ty P i)) in
        after_push (width (word_ty 8) + A) s λ s₁ e₁. after_write (padded (word_ty 8) (P.hash b)) s₁ λ s₂ e₂. after_copy A s₂ λ s₃ e₃. after_move s₃ λ s₄ e₄.
        after_push (B + width (source_ty P b)) s₄ λ s₅ e₅.
        let hands : handed P i b s ≡ done s₅ = hands_on P i b s e₁ e₂ e₃ e₄ e₅ in
        stops_then In (child a s₅ l.0 (disconnect_left h e hands)) λ s₆ e₆. after_move s₆ λ s₇ e₇. after_copy B s₇ λ s₈ e₈. after_fwd B s₈ λ s₉ e₉.
        stops_then In (child b s₉ l.1.0 (disconnect_right h e hands e₆ e₇ e₈ e₉)) λ t q. stops_then In (last_drop t) λ u z. last_drop u
    stops_node (injl a) e l =
        after_write (0 ∷ []) s λ s₁ e₁. after_skip (pad_l (left_of (target_ty P i)) (right_of (target_ty P i))) s₁ λ s₂ e₂.
        child a s₂ l.0 (in_injl h e e₁ e₂)
    stops_node (injr a) e l =
        after_write (1 ∷ []) s λ s₁ e₁. after_skip (pad_r (left_of (target_ty P i)) (right_of (target_ty P i))) s₁ λ s₂ e₂.
        child a s₂ l.0 (in_injr h e e₁ e₂)
    stops_node (take a) e l = child a s l.0 (in_take h e)
    stops_node (drop a) e l = after_fwd (width (left_of (source_ty P i))) s λ s₁ e₁. there_and_back (width (left_of (source_ty P i))) a s₁ l.0 (in_drop h e e₁)
    stops_node (disconnect1 a) e l = no_rule
    stops_node iden e l = copies In s.cells (width (source_ty P i)) s.reads s.writes s.next
    stops_node unit e l = goes_on
    stops_node witness e l = writes In s.cells (padded (target_ty P i) (get_or P.witnesses i ⟨⟩)) s.reads s.writes s.next
    stops_node (fail bytes) e l = at_fail h
    stops_node (hidden bytes) e l = no_rule
    stops_node (word n bits) e l = writes In s.cells (padded (target_ty P i) (value_from (target_ty P i) bits)) s.reads s.writes s.next

  -- the nodes below n
  stops_below : (n i : ℕ) (s : State) → i < n → Entered P v c i s → Ok (run_node P i s)
  stops_below zero i s l h = absurd (not-suc-le-zero l)
  stops_below (suc n) i s l h =
      let below = ok.children_below i (entered_at P ok v hv c h).in_table in
      rw (term_step P i below)
      (stops_node i s h (λ j t m k. stops_below n j t (omega arith) k) (node_at P.nodes i) refl below)

  -- A NODE'S RUN STOPS ONLY AT A NODE THAT WAS ENTERED, in the state in which it was
  pub node_stops : {i : ℕ} {s : State} → Entered P v c i s → StopsIn (Entered P v c) (run_node P i s)
  node_stops {i} {s} h = stops_below (suc i) i s (omega arith) h

  -- the frames of input and output
  after_input : (n : ℕ) (bits : List Bit) (s : State) → Ok (input (whole_cells P) (whole_frames P) n bits s)
  unfolding input state
  after_input zero bits s = goes_on
  after_input (suc n) bits s = after_push (suc n) s λ s₁ e₁. after_write bits s₁ λ s₂ e₂. moves In s₂.cells s₂.reads s₂.writes s₂.next

  -- the output
  after_output : (n : ℕ) (s : State) → Ok (output (whole_cells P) (whole_frames P) n s)
  unfolding output
  after_output zero s = goes_on
  after_output (suc n) s = push_stops In (whole_cells P) (whole_frames P) (suc n) s

  -- AND SO DOES THE WHOLE RUN
  pub run_stops : StopsIn (Entered P v c) (run_of P v c)
  unfolding run_of machine whole last whole_source whole_target
  run_stops =
      stops_then In (after_input (width (whole_source P)) (padded (whole_source P) v) (state c [] [] 0)) λ s e.
      stops_then In (after_output (width (whole_target P)) s) λ t g. node_stops (last_node e g)
