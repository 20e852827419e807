-- The right children of the disconnects of a lent table, found node by node: those of the first nodes, put into an array, and those of the nodes from one on.
use mathlib.Core.Path.{◌≡◌, refl, sym, ap, ap₂, ◌∙◌}
use mathlib.Core.Bool.{Bool, true, false}
use mathlib.Core.List.{List, [], ◌∷◌, ◌++◌, append_assoc}
use Prim.Native.Nat.{ℕ, zero, suc, ◌+◌, ◌<◌, ◌≤◌}
use native.Mathlib.Numerals.{add-one}
use native.Mathlib.Omega.{arith}
use lib.Dec.{eqb}
use lib.ListN.{length, get_or, take as take_l, drop as drop_l, set, length-append, length-drop}
use lib.Seq.{take-suc, drop-cons, set_split, take_at, drop_at, drop-drop, take-length}
use borrow.Author.Tests.{eq-eqb, ne_eqb}
use Rattle.report.specs.Nodes.{Node, comp, case, pair, disconnect, injl, injr, take, drop, disconnect1, iden, unit, witness, fail, hidden, word}
use Rattle.scope.specs.Nodes.{kind_of, no_node, node_of, nodes_of, NodeRecord, node_records, node_at, on_disconnect}
use Rattle.scope.specs.Hashes.{rights}
use Rattle.scope.specs.Stages.{no_record}
use Rattle.table.specs.Lent.{node_is, lent_nodes}
use Rattle.common.specs.Nodes.{length_nodes, node_at_lem}
use Rattle.table.proofs.Groups.{by_kind, unknown}
use Rattle.std.proofs.lemmas.List.{append-nil}
use Rattle.hashes.specs.Hashes.{right_of}

-- one node's right child stands before those of the nodes after it
before_rest : (n : Node) (xs ys : List ℕ) → on_disconnect n (λ left right. right ∷ (xs ++ ys)) (xs ++ ys) ≡ on_disconnect n (λ left right. right ∷ xs) xs ++ ys
unfolding on_disconnect
before_rest (comp a b) xs ys = refl
before_rest (case a b) xs ys = refl
before_rest (pair a b) xs ys = refl
before_rest (disconnect a b) xs ys = refl
before_rest (injl a) xs ys = refl
before_rest (injr a) xs ys = refl
before_rest (take a) xs ys = refl
before_rest (drop a) xs ys = refl
before_rest (disconnect1 a) xs ys = refl
before_rest iden xs ys = refl
before_rest unit xs ys = refl
before_rest witness xs ys = refl
before_rest (fail bytes) xs ys = refl
before_rest (hidden bytes) xs ys = refl
before_rest (word n bits) xs ys = refl

rights-append : (ns ms : List Node) → rights (ns ++ ms) ≡ rights ns ++ rights ms
unfolding rights
rights-append [] ms = refl
rights-append (n ∷ ns) ms =
    ap (λ (l : List ℕ). on_disconnect n (λ left right. right ∷ l) l) (rights-append ns ms) ∙ before_rest n (rights ns) (rights ms)

-- a record's right child by its kind, whatever the bits of words and the bytes of hashes
pub right_by : (bits hashes : List ℕ) (a b k : ℕ) → rights (node_of bits hashes (kind_of k) a b ∷ []) ≡ elim (eqb k 3) [ true ↦ b ∷ [] | false ↦ [] ]
unfolding rights on_disconnect node_of kind_of
right_by bits hashes a b =
    by_kind (λ k. rights (node_of bits hashes (kind_of k) a b ∷ []) ≡ elim (eqb k 3) [ true ↦ b ∷ [] | false ↦ [] ])
    refl refl refl refl refl refl refl refl refl refl refl refl refl refl refl
    (λ k h. ap (λ x. rights (node_of bits hashes x a b ∷ [])) (unknown k h) ∙ sym (rw (ne_eqb k 3 (λ e. omega arith))))

-- so the right children are the same
pub rights_alike : (bits hashes : List ℕ) (rs : List NodeRecord) → rights (nodes_of bits hashes rs) ≡ rights (nodes_of [] [] rs)
unfolding nodes_of
rights_alike bits hashes [] = refl
rights_alike bits hashes (r ∷ rs) =
    rights-append (node_of bits hashes (kind_of r.kind) r.first r.second ∷ []) (nodes_of bits hashes rs)
    ∙ ap₂ ◌++◌ (right_by bits hashes r.first r.second r.kind ∙ sym (right_by [] [] r.first r.second r.kind))
    (rights_alike bits hashes rs)
    ∙ sym (rights-append (node_of [] [] (kind_of r.kind) r.first r.second ∷ []) (nodes_of [] [] rs))

module _ (r : NodeRecord) where
  pub right_none : (r.kind ≡ 3 → ⊥) → right_of r ≡ []
  unfolding right_of
  right_none n = right_by [] [] r.first r.second r.kind ∙ rw (ne_eqb r.kind 3 n)

  pub right_own : r.kind ≡ 3 → right_of r ≡ r.second ∷ []
  unfolding right_of
  right_own e = right_by [] [] r.first r.second r.kind ∙ rw (eq-eqb r.kind 3 e)

  short_by : (b : Bool) → length {A = ℕ} (elim b [ true ↦ r.second ∷ [] | false ↦ [] ]) ≤ 1
  short_by true = omega arith
  short_by false = omega arith

  pub right_short : length (right_of r) ≤ 1
  unfolding right_of
  right_short = rw (right_by [] [] r.first r.second r.kind) (short_by (eqb r.kind 3))

-- a number put after those that stand at the front of a store
abbrev pub fronted : (xs store : List ℕ) → List ℕ
fronted xs store = xs ++ drop_l (length xs) store

module _ (xs store : List ℕ) (at : ℕ) (e : at ≡ length xs) where
  past : drop_l (suc at) (fronted xs store) ≡ drop_l (length xs + 1) store
  past =
      ap (λ k. drop_l k (fronted xs store)) (let q : suc at ≡ length xs + 1 = omega arith in q)
      ∙ sym (drop-drop 1 (length xs) (fronted xs store)) ∙ ap (drop_l 1) (drop_at xs (drop_l (length xs) store) (length xs) refl) ∙ drop-drop 1 (length xs) store

  pub put_after : (v : ℕ) → at < length (fronted xs store) → set (fronted xs store) at v ≡ fronted (xs ++ v ∷ []) store
  put_after v h =
      set_split (fronted xs store) at v h
      ∙ ap₂ (λ a b. a ++ v ∷ b) (take_at xs (drop_l (length xs) store) at (sym e)) past
      ∙ sym (append_assoc xs (v ∷ []) (drop_l (length xs + 1) store))
      ∙ ap (λ k. (xs ++ v ∷ []) ++ drop_l k store) (sym (length-append xs (v ∷ [])))

module _ (nodes : List ℕ) where
  -- the right children among the first i nodes
  abbrev pub found : ℕ → List ℕ
  found i = rights (take_l i (lent_nodes [] nodes))

  pub found_none : found 0 ≡ []
  unfolding rights
  found_none = refl

  pub found_more : (i : ℕ) → i < length (node_records nodes) → found (i + 1) ≡ found i ++ right_of (get_or (node_records nodes) i no_record)
  unfolding right_of node_at
  found_more i h =
      ap (λ k. rights (take_l k (lent_nodes [] nodes))) (add-one i)
      ∙ ap rights (take-suc (lent_nodes [] nodes) i no_node (omega (arith, length_nodes [] [] (node_records nodes))))
      ∙ rights-append (take_l i (lent_nodes [] nodes)) (node_at (lent_nodes [] nodes) i ∷ [])
      ∙ ap (λ n. found i ++ rights (n ∷ [])) (node_at_lem [] [] (node_records nodes) i)

  pub found_all : (i : ℕ) → i ≡ length (node_records nodes) → found i ≡ rights (lent_nodes [] nodes)
  found_all i e = ap found (e ∙ sym (length_nodes [] [] (node_records nodes))) ∙ ap rights (take-length (lent_nodes [] nodes))

  -- a right child for each node at most
  pub found_few : (i : ℕ) → i ≤ length (node_records nodes) → length (found i) ≤ i
  unfolding rights
  found_few zero h = omega arith
  found_few (suc i) h =
      rw (ap (λ (l : List ℕ). length l) (ap found (sym (add-one i)) ∙ found_more i (omega arith)), length-append)
      (omega (arith, found_few i (omega arith), right_short (get_or (node_records nodes) i no_record)))

  pub rights_few : length (rights (lent_nodes [] nodes)) ≤ length (node_records nodes)
  rights_few = rw (found_all (length (node_records nodes)) refl) at (found_few (length (node_records nodes)) (omega arith))

  -- one node more: its right child is put after those found, or it has none
  module _ (store children : List ℕ) (i count : ℕ) (r : NodeRecord) (h : i < length (node_records nodes)) (few : length (node_records nodes) ≤ length store)
      (is : r ≡ get_or (node_records nodes) i no_record) (counted : count ≡ length (found i)) (front : children ≡ fronted (found i) store) where
    own_more : {own : List ℕ} → right_of r ≡ own → found (i + 1) ≡ found i ++ own
    own_more q = found_more i h ∙ ap (λ x. found i ++ right_of x) (sym is) ∙ ap (λ (l : List ℕ). found i ++ l) q

    pub found_bound : count < length store
    found_bound = omega (arith, found_few i (omega arith))

    pub found_put : r.kind ≡ 3 → (count + 1 ≡ length (found (i + 1))) × (set children count r.second ≡ fronted (found (i + 1)) store)
    found_put e =
        let f = own_more (right_own r e) in (
          omega (arith, ap (λ (l : List ℕ). length l) f, length-append (found i) (r.second ∷ [])),
          ap (λ (l : List ℕ). set l count r.second) front
              ∙ put_after (found i) store count counted r.second (omega (arith, found_bound, length-append (found i) (drop_l (length (found i)) store), length-drop (length (found i)) store))
              ∙ ap (λ (l : List ℕ). fronted l store) (sym f),
        )

    pub found_kept : (r.kind ≡ 3 → ⊥) → (count ≡ length (found (i + 1))) × (children ≡ fronted (found (i + 1)) store)
    found_kept n =
        let f = own_more (right_none r n) ∙ append-nil (found i) in
        (counted ∙ ap (λ (l : List ℕ). length l) (sym f), front ∙ ap (λ (l : List ℕ). fronted l store) (sym f))

  pub found_end : (store : List ℕ) (i count : ℕ) (children : List ℕ) → i ≡ length (node_records nodes)
      → count ≡ length (found i) → children ≡ found i ++ drop_l (length (found i)) store
      → (count ≡ length (rights (lent_nodes [] nodes))) × (children ≡ rights (lent_nodes [] nodes) ++ drop_l count store)
  found_end store i count children e p q = (
    p ∙ ap (λ (x : List ℕ). length x) (found_all i e),
    q ∙ ap₂ (λ (x : List ℕ) (k : ℕ). x ++ drop_l k store) (found_all i e) (sym p),
  )

-- the right children of the nodes from i on: that of node i, then those of the nodes after it
pub rights_from : (nodes : List ℕ) (i : ℕ) (r : NodeRecord) → i < length (node_records nodes) → r ≡ get_or (node_records nodes) i no_record
    → rights (drop_l i (lent_nodes [] nodes)) ≡ right_of r ++ rights (drop_l (i + 1) (lent_nodes [] nodes))
unfolding right_of node_at
rights_from nodes i r h e =
    ap rights (drop-cons (lent_nodes [] nodes) i no_node (omega (arith, length_nodes [] [] (node_records nodes))))
    ∙ rights-append (node_at (lent_nodes [] nodes) i ∷ []) (drop_l (suc i) (lent_nodes [] nodes))
    ∙ ap₂ (λ n k. rights (n ∷ []) ++ rights (drop_l k (lent_nodes [] nodes))) (node_at_lem [] [] (node_records nodes) i ∙ ap (node_is []) (sym e))
    (sym (add-one i))

-- those that were put at the front
pub front : (xs store children : List ℕ) (n : ℕ) → n ≡ length xs → children ≡ xs ++ drop_l n store → take_l n children ≡ xs
front xs store children n e p = ap (take_l n) p ∙ take_at xs (drop_l n store) n (sym e)

pub front_within : (xs store children : List ℕ) (n : ℕ) → n ≡ length xs → children ≡ xs ++ drop_l n store → n ≤ length children
front_within xs store children n e p = omega (arith, ap (λ (l : List ℕ). length l) p, length-append xs (drop_l n store))

pub length_front : (xs store children : List ℕ) → length xs ≤ length store → children ≡ xs ++ drop_l (length xs) store → length children ≡ length store
length_front xs store children h p =
    ap (λ (l : List ℕ). length l) p ∙ length-append xs (drop_l (length xs) store) ∙ omega (arith, length-drop (length xs) store)
