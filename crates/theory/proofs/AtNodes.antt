-- Every state in which a run of a sound program enters a node is one that the node's arrow and bounds ask for, so there the machine is the node's meaning.
-- By induction along the ways into a child: the arrows of the children are those that the report's typing of the node gives.
use Rattle.std.specs.Prelude.{◌≡◌, Bool, true, false, ℕ, ◌+◌, ◌≤◌, ◌<◌, length}
use Rattle.std.proofs.Math.Path.{refl, ap, subst}
use Rattle.std.proofs.Common.{sym, ◌∙◌}
use mathlib.Core.List.{List, [], ◌∷◌}
use native.Mathlib.Omega.{arith}
use Rattle.report.specs.Types.{Ty, sum, prod, width, pad_l, pad_r, left_of, right_of, word_ty}
use Rattle.report.specs.Values.{Val, HasTy, Cells, padded}
use Rattle.report.specs.Nodes.{Node, comp, case, pair, disconnect, injl, injr, take, drop}
use Rattle.report.specs.Canonical.{children}
use Rattle.report.specs.Terms.{Term}
use Rattle.report.specs.Typing.{Typed}
use Rattle.report.specs.Meaning.{done}
use Rattle.scope.specs.Check.{passed}
use Rattle.scope.specs.Nodes.{node_at}
use Rattle.scope.specs.Walk.{hidden_at, none_hidden, allowed}
use Rattle.scope.specs.Program.{Program, source_ty, target_ty, case_term, term_of, term_at, last, whole, whole_source, whole_target}
use Rattle.scope.specs.Bounds.{bounds, child_row, pair_row, case_row, comp_row, disconnect_row, whole_cells, whole_frames}
use Rattle.scope.specs.Machine.{State, state, put_bits, move_frame, write_bits, skip, copy, fwd, input, output}
use Rattle.common.specs.Bits.{AllBelow}
use Rattle.exactness.specs.Values.{length-padded}
use Rattle.exactness.specs.NodeTyping.{Goes, Branch, NodeTyped}
use Rattle.common.specs.Checks.{not_both}
use Rattle.theory.proofs.NodeTerms.{term_step}
use Rattle.theory.specs.Sound.{Sound}
use Rattle.theory.proofs.Sound.{none_hidden_lem, arrow_typed_in, term_typed}
use Rattle.theory.proofs.WholeRuns.{input_does, output_does}
use Rattle.theory.specs.Entered.{push, run_node, handed, Entered, last_node, comp_left, comp_right, pair_left, pair_right, in_injl, in_injr, case_left, case_right, in_take, in_drop, disconnect_left, disconnect_right}
use Rattle.theory.specs.Entry.{Entry}
use Rattle.theory.proofs.Entry.{at_cursor}
use Rattle.theory.proofs.Ways.{Beside, same_way, behind_way, tag_way, pair_way, comp_left_lem, comp_right_lem, disconnect_left_lem, disconnect_right_lem}

-- node i can be entered in state s: it is a node of the table that is not hidden, and the state is one for its arrow and its bounds
pub record AtNode (P : Program) (i : ℕ) (s : State) : Type 0 where
  pub in_table : i < length P.nodes
  pub shown : hidden_at P.nodes i ≡ false
  pub entry : Entry (whole_cells P) (whole_frames P) (source_ty P i) (target_ty P i) (bounds (term_at P i)) s

-- the last node, once input and output have their frames
module _ (P : Program) (ok : Sound P) (v : Val) (hv : HasTy v (whole_source P)) (c : Cells) where
  -- its state, from the frames that are opened
  at_last : {s t : State} → input (whole_cells P) (whole_frames P) (width (whole_source P)) (padded (whole_source P) v) (state c [] [] 0) ≡ done s
      → output (whole_cells P) (whole_frames P) (width (whole_target P)) s ≡ done t → AtNode P (last P) t
  unfolding whole_cells whole_frames whole whole_source whole_target last state
  at_last {s} {t} e g =
      let A : Ty = whole_source P in
      let B : Ty = whole_target P in
      let bits = padded A v in
      let i = input_does (whole_cells P) (whole_frames P) (width A) bits c (length-padded hv) (omega arith) (omega arith) in
      let o = output_does (whole_cells P) (whole_frames P) (width B) (put_bits c 0 bits) i.0 (width A) (omega arith) (omega (arith, i.3)) in
      let first : state (put_bits c 0 bits) i.0 [] (width A) ≡ s = (let p = i.1 in cc) in
      let then : state (put_bits c 0 bits) i.0 o.0 (width A + width B) ≡ t =
      (let p = o.1 in let q = ap (output (whole_cells P) (whole_frames P) (width B)) first ∙ g in cc) in
      subst (AtNode P (last P)) then (record {
        in_table = omega (arith, ok.some_node);
        shown = ok.last_shown;
        entry = record {
          read = at_cursor i.0 0 (width A) i.2;
          write = at_cursor o.0 (width A) (width B) o.2;
          stacked = o.4 i.4;
          cells = omega arith;
          frames = omega (arith, i.3, o.3);
        };
      })

-- what the report's typing of a node says of the arrows of its children
module _ {nodes : List Node} {from to : ℕ → Ty} where
  -- comp
  comp_arrows : {a b : ℕ} {A C : Ty} → NodeTyped nodes from to (comp a b) A C → Goes from to a A (to a) × Goes from to b (to a) C
  comp_arrows (NodeTyped.of_comp g h) = (record { starts = g.starts; ends = refl }, record { starts = h.starts ∙ sym g.ends; ends = h.ends })

  -- pair
  pair_arrows : {a b : ℕ} {A E : Ty} → NodeTyped nodes from to (pair a b) A E → Goes from to a A (to a) × Goes from to b A (to b) × (E ≡ prod (to a) (to b))
  pair_arrows (NodeTyped.of_pair g h) = (record { starts = g.starts; ends = refl }, record { starts = h.starts; ends = refl }, rw (g.ends, h.ends))

  -- injl
  injl_arrows : {a : ℕ} {A E : Ty} → NodeTyped nodes from to (injl a) A E → (C : Ty) × (from a ≡ A) × (E ≡ sum (to a) C)
  injl_arrows (NodeTyped.of_injl {C = C} g) = (C, g.starts, rw g.ends)

  -- injr
  injr_arrows : {a : ℕ} {A E : Ty} → NodeTyped nodes from to (injr a) A E → (B : Ty) × (from a ≡ A) × (E ≡ sum B (to a))
  injr_arrows (NodeTyped.of_injr {B = B} g) = (B, g.starts, rw g.ends)

  -- take
  take_arrows : {a : ℕ} {S C : Ty} → NodeTyped nodes from to (take a) S C → (B : Ty) × (S ≡ prod (from a) B) × (to a ≡ C)
  take_arrows (NodeTyped.of_take {B = B} g) = (B, rw g.starts, g.ends)

  -- drop
  drop_arrows : {a : ℕ} {S C : Ty} → NodeTyped nodes from to (drop a) S C → (A : Ty) × (S ≡ prod A (from a)) × (to a ≡ C)
  drop_arrows (NodeTyped.of_drop {A = A} g) = (A, rw g.starts, g.ends)

  -- case: each branch goes on or is pruned
  case_arrows : {a b : ℕ} {S D : Ty} → NodeTyped nodes from to (case a b) S D
      → (A B C : Ty) × (S ≡ prod (sum A B) C) × Branch nodes from to a A C D × Branch nodes from to b B C D
  case_arrows (NodeTyped.of_case {A = A} {B = B} {C = C} g h) = (A, B, C, refl, g, h)

  -- disconnect
  disconnect_arrows : {a b : ℕ} {A E : Ty} → NodeTyped nodes from to (disconnect a b) A E
      → (B : Ty) × (E ≡ prod B (to b)) × Goes from to a (prod (word_ty 8) A) (prod B (from b))
  disconnect_arrows (NodeTyped.of_disconnect {B = B} g h) = (B, rw h.ends, record { starts = g.starts; ends = g.ends ∙ rw h.starts })

  -- a branch that is not pruned
  branch_arrow : {j : ℕ} {A C D : Ty} → hidden_at nodes j ≡ false → Branch nodes from to j A C D → Goes from to j (prod A C) D
  branch_arrow shown (Branch.of_shown e g) = g
  branch_arrow shown (Branch.of_pruned e) = not_both e shown

-- a branch's part stands behind the tag and its padding
left_wide : (S X A B C : Ty) → S ≡ prod (sum A B) C → X ≡ prod A C → 1 + pad_l (left_of (left_of S)) (right_of (left_of S)) + width X ≤ width S
unfolding width pad_l left_of right_of
left_wide S X A B C p q = rw (p, q) (omega arith)

-- the right part
right_wide : (S X A B C : Ty) → S ≡ prod (sum A B) C → X ≡ prod B C → 1 + pad_r (left_of (left_of S)) (right_of (left_of S)) + width X ≤ width S
unfolding width pad_r left_of right_of
right_wide S X A B C p q = rw (p, q) (omega arith)

-- a child of a case needs no more than the case, or the assertion
left_beside : (y : Bool) (p : ℕ) (S : Ty) (s t : Term) → Beside 0 0 (bounds s) (bounds (case_term false y p S s t))
unfolding case_term bounds case_row child_row
left_beside false p S s t = record { cells = omega arith; frames = omega arith }
left_beside true p S s t = record { cells = omega arith; frames = omega arith }

-- the right child
right_beside : (x : Bool) (p : ℕ) (S : Ty) (s t : Term) → Beside 0 0 (bounds t) (bounds (case_term x false p S s t))
unfolding case_term bounds case_row child_row
right_beside false p S s t = record { cells = omega arith; frames = omega arith }
right_beside true p S s t = record { cells = omega arith; frames = omega arith }

-- what a sound program says of a node of a known kind
record NodeIs (P : Program) (i : ℕ) (n : Node) : Type 0 where
  typed : NodeTyped P.nodes (source_ty P) (target_ty P) n (source_ty P i) (target_ty P i)
  term : term_at P i ≡ term_of P i n (term_at P)
  below : AllBelow i (children n)
  fine : allowed P.nodes i n ≡ passed tt

-- by the node that stands there
node_is_lem : (P : Program) → Sound P → {i : ℕ} {s : State} (n : Node) → AtNode P i s → node_at P.nodes i ≡ n → NodeIs P i n
node_is_lem P ok {i} n h e = record {
  typed =
      subst (λ (n : Node). NodeTyped P.nodes (source_ty P) (target_ty P) n (source_ty P i) (target_ty P i)) e
      (arrow_typed_in P ok.type_rules i (ok.arrow_rules i h.in_table));
  term = term_step P i (ok.children_below i h.in_table) ∙ ap (λ (n : Node). term_of P i n (term_at P)) e;
  below = subst (λ (n : Node). AllBelow i (children n)) e (ok.children_below i h.in_table);
  fine = subst (λ (n : Node). allowed P.nodes i n ≡ passed tt) e (ok.hidden_rules i h.in_table h.shown);
}

module _ (P : Program) (ok : Sound P) (i : ℕ) (s : State) (h : AtNode P i s) where
  -- within the cells and frames of the whole program
  abbrev size : ℕ
  size = whole_cells P

  -- the frames
  abbrev most : ℕ
  most = whole_frames P

  -- a child j below node i that is not hidden
  abbrev Child : (j : ℕ) → Type 0
  Child j = (j < i) × (hidden_at P.nodes j ≡ false)

  -- entered in state t
  at_child : (j : ℕ) (t : State) → Child j → Entry size most (source_ty P j) (target_ty P j) (bounds (term_at P j)) t → AtNode P j t
  at_child j t l k = record { in_table = omega (arith, h.in_table, l.0); shown = l.1; entry = k }

  -- its term
  child_typed : (j : ℕ) → Child j → Typed (term_at P j) (source_ty P j) (target_ty P j)
  child_typed j l = term_typed P ok j (omega (arith, h.in_table, l.0)) l.1

  -- the bounds of child j, beside m cells and k frames, are within those of node i
  abbrev Room : (m k j : ℕ) → Type 0
  Room m k j = Beside m k (bounds (term_at P j)) (bounds (term_at P i))

  -- the children of a node that allows no hidden one
  two_children : (n : Node) (a b : ℕ) → node_at P.nodes i ≡ n → children n ≡ a ∷ b ∷ []
      → allowed P.nodes i n ≡ none_hidden P.nodes i (a ∷ b ∷ []) → Child a × Child b
  two_children n a b e q r =
      let m = node_is_lem P ok n h e in
      let l : AllBelow i (a ∷ b ∷ []) = subst (AllBelow i) q m.below in
      let k = none_hidden_lem P.nodes i (a ∷ b ∷ []) (sym r ∙ m.fine) in
      ((l.0, k.0), (l.1.0, k.1.0))

  -- a comp
  module _ (a b : ℕ) (e : node_at P.nodes i ≡ comp a b) where
    -- room for its middle and each child
    comp_room : Room (width (target_ty P a)) 1 a × Room (width (target_ty P a)) 1 b
    unfolding term_of bounds comp_row
    comp_room =
        rw (node_is_lem P ok (comp a b) h e).term
        (record { cells = omega arith; frames = omega arith }, record { cells = omega arith; frames = omega arith })

    -- its children
    comp_children : Child a × Child b
    unfolding allowed children
    comp_children = two_children (comp a b) a b e refl refl

    -- the left child is entered
    at_comp_left : {t : State} → push P (width (target_ty P a)) s ≡ done t → AtNode P a t
    at_comp_left {t} g =
        let k = comp_arrows (node_is_lem P ok (comp a b) h e).typed in
        at_child a t comp_children.0 (rw k.0.starts (comp_left_lem size most comp_room.0 h.entry g))

    -- the right child is entered
    at_comp_right : {s₁ s₂ t : State} → push P (width (target_ty P a)) s ≡ done s₁ → run_node P a s₁ ≡ done s₂ → move_frame s₂ ≡ done t → AtNode P b t
    at_comp_right {t = t} g₁ g₂ g₃ =
        let k = comp_arrows (node_is_lem P ok (comp a b) h e).typed in
        let left : Typed (term_at P a) (source_ty P i) (target_ty P a) = rw k.0.starts at (child_typed a comp_children.0) in
        at_child b t comp_children.1 (rw (k.1.starts, k.1.ends) (comp_right_lem size most left comp_room.0 comp_room.1 h.entry g₁ g₂ g₃))

  -- a pair
  module _ (a b : ℕ) (e : node_at P.nodes i ≡ pair a b) where
    -- room for each child
    pair_room : Room 0 0 a × Room 0 0 b
    unfolding term_of bounds pair_row
    pair_room =
        rw (node_is_lem P ok (pair a b) h e).term
        (record { cells = omega arith; frames = omega arith }, record { cells = omega arith; frames = omega arith })

    -- its children
    pair_children : Child a × Child b
    unfolding allowed children
    pair_children = two_children (pair a b) a b e refl refl

    -- its target is as wide as both targets
    pair_wide : width (target_ty P i) ≡ width (target_ty P a) + width (target_ty P b)
    unfolding width
    pair_wide = ap width (pair_arrows (node_is_lem P ok (pair a b) h e).typed).2

    -- the left child is entered
    at_pair_left : AtNode P a s
    at_pair_left =
        let k = pair_arrows (node_is_lem P ok (pair a b) h e).typed in
        at_child a s pair_children.0 (rw k.0.starts (same_way size most pair_room.0 (omega arith) (omega (arith, pair_wide)) h.entry))

    -- the right child is entered
    at_pair_right : {t : State} → run_node P a s ≡ done t → AtNode P b t
    at_pair_right {t} g =
        let k = pair_arrows (node_is_lem P ok (pair a b) h e).typed in
        let left : Typed (term_at P a) (source_ty P i) (target_ty P a) = rw k.0.starts at (child_typed a pair_children.0) in
        at_child b t pair_children.1 (rw k.1.starts (pair_way size most left pair_room.0 pair_room.1 (omega (arith, pair_wide)) h.entry g))

  -- a node with one child that is not a case: injl, injr, take, drop
  module _ (n : Node) (a : ℕ) (e : node_at P.nodes i ≡ n) where
    -- its child
    one_child : children n ≡ a ∷ [] → allowed P.nodes i n ≡ none_hidden P.nodes i (a ∷ []) → Child a
    one_child q r =
        let m = node_is_lem P ok n h e in
        ((subst (AllBelow i) q m.below).0, (none_hidden_lem P.nodes i (a ∷ []) (sym r ∙ m.fine)).0)

    -- room for it
    one_room : bounds (term_of P i n (term_at P)) ≡ child_row (bounds (term_at P a)) → Room 0 0 a
    unfolding child_row
    one_room q = rw ((node_is_lem P ok n h e).term, q) (record { cells = omega arith; frames = omega arith })

  -- under injl
  at_injl : (a : ℕ) → node_at P.nodes i ≡ injl a → {s₁ t : State} → write_bits (0 ∷ []) s ≡ done s₁
      → skip (pad_l (left_of (target_ty P i)) (right_of (target_ty P i))) s₁ ≡ done t → AtNode P a t
  unfolding children allowed term_of bounds width pad_l left_of right_of
  at_injl a e {t = t} g₁ g₂ =
      let k = injl_arrows (node_is_lem P ok (injl a) h e).typed in
      let wide : 1 + pad_l (left_of (target_ty P i)) (right_of (target_ty P i)) + width (target_ty P a) ≤ width (target_ty P i) = rw k.2 (omega arith) in
      at_child a t (one_child (injl a) a e refl refl) (rw k.1 (tag_way size most 0 _ (one_room (injl a) a e refl) wide h.entry g₁ g₂))

  -- under injr
  at_injr : (a : ℕ) → node_at P.nodes i ≡ injr a → {s₁ t : State} → write_bits (1 ∷ []) s ≡ done s₁
      → skip (pad_r (left_of (target_ty P i)) (right_of (target_ty P i))) s₁ ≡ done t → AtNode P a t
  unfolding children allowed term_of bounds width pad_r left_of right_of
  at_injr a e {t = t} g₁ g₂ =
      let k = injr_arrows (node_is_lem P ok (injr a) h e).typed in
      let wide : 1 + pad_r (left_of (target_ty P i)) (right_of (target_ty P i)) + width (target_ty P a) ≤ width (target_ty P i) = rw k.2 (omega arith) in
      at_child a t (one_child (injr a) a e refl refl) (rw k.1 (tag_way size most 1 _ (one_room (injr a) a e refl) wide h.entry g₁ g₂))

  -- under take
  at_take : (a : ℕ) → node_at P.nodes i ≡ take a → AtNode P a s
  unfolding children allowed term_of bounds width
  at_take a e =
      let k = take_arrows (node_is_lem P ok (take a) h e).typed in
      let wide : width (source_ty P a) ≤ width (source_ty P i) = rw k.1 (omega arith) in
      at_child a s (one_child (take a) a e refl refl) (rw k.2 (same_way size most (one_room (take a) a e refl) wide (omega arith) h.entry))

  -- under drop
  at_drop : (a : ℕ) → node_at P.nodes i ≡ drop a → {t : State} → fwd (width (left_of (source_ty P i))) s ≡ done t → AtNode P a t
  unfolding children allowed term_of bounds width left_of
  at_drop a e {t} g =
      let k = drop_arrows (node_is_lem P ok (drop a) h e).typed in
      let wide : width (left_of (source_ty P i)) + width (source_ty P a) ≤ width (source_ty P i) = rw k.1 (omega arith) in
      at_child a t (one_child (drop a) a e refl refl) (rw k.2 (behind_way size most _ (one_room (drop a) a e refl) wide h.entry g))

  -- a case, or an assertion
  module _ (a b : ℕ) (e : node_at P.nodes i ≡ case a b) where
    -- its children stand below it
    case_below : (a < i) × (b < i)
    unfolding children
    case_below = let l = (node_is_lem P ok (case a b) h e).below in (l.0, l.1.0)

    -- room for the left branch
    left_room : hidden_at P.nodes a ≡ false → Room 0 0 a
    unfolding term_of
    left_room q = rw ((node_is_lem P ok (case a b) h e).term, term_of, q) (left_beside (hidden_at P.nodes b) i (source_ty P i) (term_at P a) (term_at P b))

    -- room for the right branch
    right_room : hidden_at P.nodes b ≡ false → Room 0 0 b
    unfolding term_of
    right_room q = rw ((node_is_lem P ok (case a b) h e).term, term_of, q) (right_beside (hidden_at P.nodes a) i (source_ty P i) (term_at P a) (term_at P b))

    -- the left branch is entered
    at_case_left : hidden_at P.nodes a ≡ false → {t : State}
        → fwd (1 + pad_l (left_of (left_of (source_ty P i))) (right_of (left_of (source_ty P i)))) s ≡ done t → AtNode P a t
    at_case_left q {t} g =
        let k = case_arrows (node_is_lem P ok (case a b) h e).typed in
        let l = branch_arrow q k.4 in
        at_child a t (case_below.0, q)
        (rw l.ends (behind_way size most _ (left_room q) (left_wide (source_ty P i) (source_ty P a) k.0 k.1 k.2 k.3 l.starts) h.entry g))

    -- the right branch is entered
    at_case_right : hidden_at P.nodes b ≡ false → {t : State}
        → fwd (1 + pad_r (left_of (left_of (source_ty P i))) (right_of (left_of (source_ty P i)))) s ≡ done t → AtNode P b t
    at_case_right q {t} g =
        let k = case_arrows (node_is_lem P ok (case a b) h e).typed in
        let l = branch_arrow q k.5 in
        at_child b t (case_below.1, q)
        (rw l.ends (behind_way size most _ (right_room q) (right_wide (source_ty P i) (source_ty P b) k.0 k.1 k.2 k.3 l.starts) h.entry g))

  -- a disconnect
  module _ (a b : ℕ) (e : node_at P.nodes i ≡ disconnect a b) where
    -- the part that is kept, and what the left child makes
    abbrev kept : Ty
    kept = left_of (target_ty P i)

    -- both parts
    abbrev both : Ty
    both = prod kept (source_ty P b)

    -- room for its two frames and each child
    disconnect_room : Room (width (word_ty 8) + width (source_ty P i) + width both) 2 a × Room (width (word_ty 8) + width (source_ty P i) + width both) 2 b
    unfolding term_of bounds disconnect_row width
    disconnect_room =
        rw (node_is_lem P ok (disconnect a b) h e).term
        (record { cells = omega arith; frames = omega arith }, record { cells = omega arith; frames = omega arith })

    -- its children
    disconnect_children : Child a × Child b
    unfolding allowed children
    disconnect_children = two_children (disconnect a b) a b e refl refl

    -- the left child's arrow, and the target
    left_goes : Goes (source_ty P) (target_ty P) a (prod (word_ty 8) (source_ty P i)) both × (target_ty P i ≡ prod kept (target_ty P b))
    unfolding left_of
    left_goes =
        let k = disconnect_arrows (node_is_lem P ok (disconnect a b) h e).typed in
        let l : left_of (target_ty P i) ≡ k.0 = ap left_of k.1 in
        (record { starts = k.2.starts; ends = k.2.ends ∙ rw l }, k.1 ∙ rw l)

    -- the left child is entered
    at_disconnect_left : {t : State} → handed P i b s ≡ done t → AtNode P a t
    unfolding handed width
    at_disconnect_left {t} g =
        at_child a t disconnect_children.0 (rw (left_goes.0.starts, left_goes.0.ends)
        (disconnect_left_lem size most (P.hash b) (ok.hash_values i a b e) (source_ty P i) kept (source_ty P b) (target_ty P i)
        (bounds (term_at P i)) s h.entry disconnect_room.0 g))

    -- the right child is entered
    at_disconnect_right : {s₁ s₂ s₃ s₄ t : State} → handed P i b s ≡ done s₁ → run_node P a s₁ ≡ done s₂ → move_frame s₂ ≡ done s₃
        → copy (width kept) s₃ ≡ done s₄ → fwd (width kept) s₄ ≡ done t → AtNode P b t
    unfolding handed width
    at_disconnect_right {t = t} g₁ g₂ g₃ g₄ g₅ =
        let left : Typed (term_at P a) (prod (word_ty 8) (source_ty P i)) both =
        rw (left_goes.0.starts, left_goes.0.ends) at (child_typed a disconnect_children.0) in
        let wide : width kept + width (target_ty P b) ≤ width (target_ty P i) = omega (arith, ap width left_goes.1) in
        at_child b t disconnect_children.1
        (disconnect_right_lem size most (P.hash b) (ok.hash_values i a b e) (source_ty P i) kept (source_ty P b) (target_ty P i) (bounds (term_at P i)) s h.entry
        left disconnect_room.0 disconnect_room.1 wide g₁ g₂ g₃ g₄ g₅)

-- EVERY STATE IN WHICH A RUN ENTERS A NODE is one for the node's arrow and its bounds
pub entered_at : (P : Program) → Sound P → (v : Val) → HasTy v (whole_source P) → (c : Cells) {i : ℕ} {s : State} → Entered P v c i s → AtNode P i s
entered_at P ok v hv c (last_node e g) = at_last P ok v hv c e g
entered_at P ok v hv c (comp_left {i} {a} {b} {s} h e g) = at_comp_left P ok i s (entered_at P ok v hv c h) a b e g
entered_at P ok v hv c (comp_right {i} {a} {b} {s} h e g₁ g₂ g₃) = at_comp_right P ok i s (entered_at P ok v hv c h) a b e g₁ g₂ g₃
entered_at P ok v hv c (pair_left {i} {a} {b} {s} h e) = at_pair_left P ok i s (entered_at P ok v hv c h) a b e
entered_at P ok v hv c (pair_right {i} {a} {b} {s} h e g) = at_pair_right P ok i s (entered_at P ok v hv c h) a b e g
entered_at P ok v hv c (in_injl {i} {a} {s} h e g₁ g₂) = at_injl P ok i s (entered_at P ok v hv c h) a e g₁ g₂
entered_at P ok v hv c (in_injr {i} {a} {s} h e g₁ g₂) = at_injr P ok i s (entered_at P ok v hv c h) a e g₁ g₂
entered_at P ok v hv c (case_left {i} {a} {b} {s} h e q p g) = at_case_left P ok i s (entered_at P ok v hv c h) a b e q g
entered_at P ok v hv c (case_right {i} {a} {b} {k} {s} h e q p g) = at_case_right P ok i s (entered_at P ok v hv c h) a b e q g
entered_at P ok v hv c (in_take {i} {a} {s} h e) = at_take P ok i s (entered_at P ok v hv c h) a e
entered_at P ok v hv c (in_drop {i} {a} {s} h e g) = at_drop P ok i s (entered_at P ok v hv c h) a e g
entered_at P ok v hv c (disconnect_left {i} {a} {b} {s} h e g) = at_disconnect_left P ok i s (entered_at P ok v hv c h) a b e g
entered_at P ok v hv c (disconnect_right {i} {a} {b} {s} h e g₁ g₂ g₃ g₄ g₅) = at_disconnect_right P ok i s (entered_at P ok v hv c h) a b e g₁ g₂ g₃ g₄ g₅
