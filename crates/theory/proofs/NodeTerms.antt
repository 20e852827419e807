-- The term of a node is made of the terms of its children, where these stand below it; and it is the table's step that a walk over the nodes takes.
-- The bounds of a term depend on types, nodes and arrows alone: not on the witness values, and not on the hashes.
use Rattle.std.specs.Prelude.{◌≡◌, Bool, ℕ, ◌+◌, ◌-◌, ◌<◌, take as take_l}
use Rattle.std.proofs.Math.Path.{refl, sym, ap, ap₂}
use Rattle.std.proofs.Common.{◌∙◌, arith, get_or-take, length-take-le}
use Rattle.std.proofs.Math.Bool.{true, false}
use mathlib.Core.List.{List, [], ◌∷◌, ◌++◌, map, map-append}
use Rattle.std.proofs.Math.Decide.{dec_lt}
use Rattle.std.proofs.Math.ListN.{length, get_or, get_or-eq_default, get_or-map, length-map}
use Rattle.report.specs.Types.{Ty}
use Rattle.report.specs.Table.{entries, entries_from}
use Rattle.report.specs.Values.{Val}
use Rattle.report.specs.Nodes.{Node, comp, case, pair, disconnect, injl, injr, take, drop, disconnect1, iden, unit, witness, fail, hidden, word}
use Rattle.report.specs.Canonical.{children}
use Rattle.report.specs.Terms.{Term, fail as fail_term}
use Rattle.scope.specs.Types.{TypeRecord, ty_at}
use Rattle.scope.specs.Nodes.{no_node, node_at}
use Rattle.scope.specs.Walk.{hidden_at}
use Rattle.scope.specs.Arrows.{Arrow, source, target}
use Rattle.scope.specs.Program.{Program, source_ty, target_ty, case_term, term_of, term_make, term_at, last, whole, whole_source, whole_target}
use Rattle.scope.specs.Bounds.{Bound, bounds, child_row, pair_row, case_row, comp_row, disconnect_row, whole_cells, whole_frames, whole_cost}
use Rattle.common.specs.Bits.{AllBelow}
use Rattle.common.specs.Tables.{length-entries, entries_at, entries_past}

-- a node's term depends on its children's terms alone
module _ (P : Program) (i : ℕ) (t t' : ℕ → Term) (same : (j : ℕ) → j < i → t j ≡ t' j) where
  -- kind by kind
  pub term_same : (n : Node) → AllBelow i (children n) → term_of P i n t ≡ term_of P i n t'
  unfolding term_of children
  term_same (comp a b) h = rw (same a h.0, same b h.1.0)
  term_same (case a b) h = rw (same a h.0, same b h.1.0)
  term_same (pair a b) h = rw (same a h.0, same b h.1.0)
  term_same (disconnect a b) h = rw (same a h.0, same b h.1.0)
  term_same (injl a) h = rw (same a h.0)
  term_same (injr a) h = rw (same a h.0)
  term_same (take a) h = rw (same a h.0)
  term_same (drop a) h = rw (same a h.0)
  term_same (disconnect1 a) h = refl
  term_same iden h = refl
  term_same unit h = refl
  term_same witness h = refl
  term_same (fail bytes) h = refl
  term_same (hidden bytes) h = refl
  term_same (word n bits) h = refl

-- THE TERM OF A NODE IS MADE OF ITS CHILDREN'S TERMS; past the table's end both sides can only fail
pub term_step : (P : Program) (i : ℕ) → AllBelow i (children (node_at P.nodes i)) → term_at P i ≡ term_of P i (node_at P.nodes i) (term_at P)
unfolding term_at term_make node_at term_of
term_step P i below = go (dec_lt i (length P.nodes))
  where
    E : List Term
    E = entries (term_make P) P.nodes

    go : Dec (i < length P.nodes) → term_at P i ≡ term_of P i (node_at P.nodes i) (term_at P)
    go (yes h) =
        let l : length (take_l i E) ≡ i = length-take-le i E (omega (arith, length-entries (term_make P) P.nodes)) in
        entries_at (term_make P) P.nodes i (fail_term i) no_node h
        ∙ rw l (term_same P i (λ j. get_or (take_l i E) j (fail_term j)) (term_at P) (λ j p. get_or-take i E j (fail_term j) p) (node_at P.nodes i) below)
    go (no h) = entries_past (term_make P) P.nodes i (fail_term i) (omega arith)
        ∙ ap (λ (n : Node). term_of P i n (term_at P)) {x = no_node} (sym (get_or-eq_default P.nodes no_node {n = i} (omega arith)))

-- the bounds of a node's term, of those of its children's terms
module _ (types : List TypeRecord) (nodes : List Node) (arrows : List Arrow) where
  -- the program with these witness values and these hashes
  abbrev pub with_values : List Val → (ℕ → Val) → Program
  with_values w h = record { types = types; nodes = nodes; arrows = arrows; witnesses = w; hash = h }

  module _ (w w' : List Val) (h h' : ℕ → Val) where
    -- a case, by which of its children are hidden
    case_alike : (x y : Bool) (i : ℕ) (S : Ty) (s s' t t' : Term) → bounds s ≡ bounds s' → bounds t ≡ bounds t'
        → bounds (case_term x y i S s t) ≡ bounds (case_term x y i S s' t')
    unfolding case_term bounds
    case_alike false false i S s s' t t' e f = ap₂ case_row e f
    case_alike false true i S s s' t t' e f = ap child_row e
    case_alike true false i S s s' t t' e f = ap child_row f
    case_alike true true i S s s' t t' e f = refl

    -- a node of each kind
    node_alike : (i : ℕ) (t t' : ℕ → Term) → ((j : ℕ) → bounds (t j) ≡ bounds (t' j)) → (n : Node)
        → bounds (term_of (with_values w h) i n t) ≡ bounds (term_of (with_values w' h') i n t')
    unfolding term_of bounds
    node_alike i t t' e (comp a b) = ap₂ (comp_row _) (e a) (e b)
    node_alike i t t' e (case a b) = case_alike (hidden_at nodes a) (hidden_at nodes b) i (source_ty (with_values w h) i) (t a) (t' a) (t b) (t' b) (e a) (e b)
    node_alike i t t' e (pair a b) = ap₂ pair_row (e a) (e b)
    node_alike i t t' e (disconnect a b) = ap₂ (disconnect_row _ _ _) (e a) (e b)
    node_alike i t t' e (injl a) = ap child_row (e a)
    node_alike i t t' e (injr a) = ap child_row (e a)
    node_alike i t t' e (take a) = ap child_row (e a)
    node_alike i t t' e (drop a) = ap child_row (e a)
    node_alike i t t' e (disconnect1 a) = refl
    node_alike i t t' e iden = refl
    node_alike i t t' e unit = refl
    node_alike i t t' e witness = refl
    node_alike i t t' e (fail bytes) = refl
    node_alike i t t' e (hidden bytes) = refl
    node_alike i t t' e (word n bits) = refl

    -- a table's terms have the same bounds, one by one
    entries_alike : (ns : List Node) (before before' : List Term) → map bounds before ≡ map bounds before'
        → map bounds (entries_from (term_make (with_values w h)) before ns) ≡ map bounds (entries_from (term_make (with_values w' h')) before' ns)
    unfolding entries_from term_make
    entries_alike [] before before' e = e
    entries_alike (n ∷ ns) before before' e =
        let m : Term = term_make (with_values w h) before n in
        let m' : Term = term_make (with_values w' h') before' n in
        let l : length before ≡ length before' = sym (length-map before bounds) ∙ ap length e ∙ length-map before' bounds in
        let child : (j : ℕ) → bounds (get_or before j (fail_term j)) ≡ bounds (get_or before' j (fail_term j)) =
        λ j. sym (get_or-map bounds before j (fail_term j))
        ∙ ap (λ (bs : List Bound). get_or bs j (bounds (fail_term j))) e
        ∙ get_or-map bounds before' j (fail_term j) in
        let f : bounds m ≡ bounds m' =
        ap (λ (i : ℕ). bounds (term_of (with_values w h) i n (λ j. get_or before j (fail_term j)))) l
        ∙ node_alike (length before') (λ j. get_or before j (fail_term j)) (λ j. get_or before' j (fail_term j)) child n in
        entries_alike ns (before ++ m ∷ []) (before' ++ m' ∷ [])
        (map-append bounds before (m ∷ []) ∙ ap₂ (λ xs x. xs ++ x ∷ []) e f ∙ sym (map-append bounds before' (m' ∷ [])))

    -- each node of two programs with the same tables
    values_alike : (i : ℕ) → bounds (term_at (with_values w h) i) ≡ bounds (term_at (with_values w' h') i)
    unfolding term_at entries
    values_alike i =
        let E : List Term = entries_from (term_make (with_values w h)) [] nodes in
        let E' : List Term = entries_from (term_make (with_values w' h')) [] nodes in
        sym (get_or-map bounds E i (fail_term i))
        ∙ ap (λ (bs : List Bound). get_or bs i (bounds (fail_term i))) (entries_alike nodes [] [] refl)
        ∙ get_or-map bounds E' i (fail_term i)

-- BOUNDS DEPEND ON TYPES, NODES AND ARROWS ALONE
pub bounds_alike : (P Q : Program) → P.types ≡ Q.types → P.nodes ≡ Q.nodes → P.arrows ≡ Q.arrows → (i : ℕ) → bounds (term_at P i) ≡ bounds (term_at Q i)
bounds_alike P Q t n a i =
    values_alike P.types P.nodes P.arrows P.witnesses Q.witnesses P.hash Q.hash i
    ∙ ap (λ (T : List TypeRecord). bounds (term_at (with_values T P.nodes P.arrows Q.witnesses Q.hash) i)) t
    ∙ ap (λ (N : List Node). bounds (term_at (with_values Q.types N P.arrows Q.witnesses Q.hash) i)) n
    ∙ ap (λ (A : List Arrow). bounds (term_at (with_values Q.types Q.nodes A Q.witnesses Q.hash) i)) a

-- and so do the bounds of the whole program
module _ (P Q : Program) (t : P.types ≡ Q.types) (n : P.nodes ≡ Q.nodes) (a : P.arrows ≡ Q.arrows) where
  -- the last node
  pub whole_alike : bounds (whole P) ≡ bounds (whole Q)
  unfolding whole last
  whole_alike = bounds_alike P Q t n a (last P) ∙ ap (λ (N : List Node). bounds (term_at Q (length N - 1))) n

  -- its source
  pub source_alike : whole_source P ≡ whole_source Q
  unfolding whole_source source_ty last
  source_alike =
      ap (λ (T : List TypeRecord). ty_at T (source P.arrows (length P.nodes - 1))) t
      ∙ ap₂ (λ A N. ty_at Q.types (source A (length N - 1))) a n

  -- its target
  pub target_alike : whole_target P ≡ whole_target Q
  unfolding whole_target target_ty last
  target_alike =
      ap (λ (T : List TypeRecord). ty_at T (target P.arrows (length P.nodes - 1))) t
      ∙ ap₂ (λ A N. ty_at Q.types (target A (length N - 1))) a n

  -- the cells in all
  pub cells_alike : whole_cells P ≡ whole_cells Q
  unfolding whole_cells
  cells_alike = rw (source_alike, target_alike, whole_alike)

  -- the frames in all
  pub frames_alike : whole_frames P ≡ whole_frames Q
  unfolding whole_frames
  frames_alike = ap (λ (b : Bound). b.frames + 2) whole_alike

  -- the cost
  pub cost_alike : whole_cost P ≡ whole_cost Q
  unfolding whole_cost
  cost_alike = ap (λ (b : Bound). b.cost) whole_alike
