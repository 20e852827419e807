-- The hash of a branch as the code finds it: in the hash store, or among the supplied ones by passing over the table once.
-- The part that is handed back holds `branch_hash` of the requirements (`branch_holds`), in which a word's bits play no part (`branch_bits`).
use mathlib.Core.Path.{◌≡◌, refl, sym, ap, ◌∙◌}
use mathlib.Core.Bool.{Bool, true, false}
use mathlib.Core.List.{List, [], ◌∷◌, ◌++◌}
use Prim.Native.Nat.{ℕ, suc, ◌+◌, ◌*◌, ◌/◌, ◌<◌, ◌≤◌}
use native.Mathlib.Numerals.{add-one}
use native.Mathlib.Omega.{arith}
use native.Mathlib.Decide.{ℕ_discrete}
use lib.Dec.{eqb}
use lib.ListN.{length, get_or, take, drop, drop_of_length-le, length-take, length-drop}
use borrow.Author.Tests.{eq-eqb, ne_eqb}
use Rattle.promise.specs.Parts.{Part, cut}
use Rattle.limits.specs.Limits.{hash_bytes, node_numbers}
use Rattle.report.specs.Nodes.{Node}
use Rattle.scope.specs.Nodes.{kind_of, NodeRecord, node_records, node_of, nodes_of, node_at, on_hidden}
use Rattle.scope.specs.Hashes.{rights, whole_hash, entry, entry_for, branch_hash}
use Rattle.scope.specs.Stages.{no_record}
use Rattle.table.specs.Lent.{node_is, lent_nodes, hidden_kind, hash_is}
use Rattle.common.specs.Nodes.{length_records, length_nodes, node_at_lem}
use Rattle.table.proofs.Groups.{by_hidden, hidden_by}
use Rattle.hashes.specs.Branch.{whole_part, entry_part, supplied_part, branch_part}
use Rattle.hashes.specs.Hashes.{right_of}
use Rattle.hashes.proofs.Rights.{right_none, right_own, rights_alike, rights_from}

-- which entry is for a node does not hang on how the table is named
entry_for_same : (N M : List Node) (given : List ℕ) (j e : ℕ) (rs : List ℕ) → entry_for N given j e rs ≡ entry_for M given j e rs
unfolding entry_for
entry_for_same N M given j e [] = refl
entry_for_same N M given j e (r ∷ rs) =
    ap (λ (x : List ℕ). elim (eqb r j) [ true ↦ whole_hash (entry given e) | false ↦ x ]) (entry_for_same N M given j (suc e) rs)

-- nor does a branch's hash on a word's bits
module _ (bits hashes : List ℕ) (rs : List NodeRecord) (given : List ℕ) (j : ℕ) where
  hidden_same : (other : List ℕ) → on_hidden (node_at (nodes_of bits hashes rs) j) whole_hash other ≡ on_hidden (node_at (nodes_of [] hashes rs) j) whole_hash other
  hidden_same other =
      let r : NodeRecord = get_or rs j no_record in
      ap (λ (n : Node). on_hidden n whole_hash other) (node_at_lem bits hashes rs j)
      ∙ by_hidden bits hashes (kind_of r.kind) r.first r.second whole_hash other
      ∙ sym (by_hidden [] hashes (kind_of r.kind) r.first r.second whole_hash other)
      ∙ ap (λ (n : Node). on_hidden n whole_hash other) (sym (node_at_lem [] hashes rs j))

  pub branch_bits : branch_hash (nodes_of bits hashes rs) given j ≡ branch_hash (nodes_of [] hashes rs) given j
  unfolding branch_hash
  branch_bits =
      ap (on_hidden (node_at (nodes_of bits hashes rs) j) whole_hash)
      (entry_for_same (nodes_of bits hashes rs) (nodes_of [] hashes rs) given j 0 (rights (nodes_of bits hashes rs))
      ∙ ap (entry_for (nodes_of [] hashes rs) given j 0) (rights_alike bits hashes rs ∙ sym (rights_alike [] hashes rs)))
      ∙ hidden_same (entry_for (nodes_of [] hashes rs) given j 0 (rights (nodes_of [] hashes rs)))

-- a part is handed back whole, or as the empty part at the start, and holds what the requirements say
module _ (slice : Part) (at : ℕ) (bytes : List ℕ) where
  pub part_there : length bytes ≡ hash_bytes → cut slice at hash_bytes ≡ whole_part slice at bytes
  unfolding whole_part
  part_there e = rw (whole_part, eq-eqb (length bytes) hash_bytes e)

  pub part_missing : (length bytes ≡ hash_bytes → ⊥) → cut slice 0 0 ≡ whole_part slice at bytes
  unfolding whole_part
  part_missing n = rw (whole_part, ne_eqb (length bytes) hash_bytes n)

whole_holds : (slice : Part) (at : ℕ)
    → (whole_part slice at (take hash_bytes (drop at slice.bytes))).bytes ≡ whole_hash (take hash_bytes (drop at slice.bytes))
unfolding whole_part whole_hash
whole_holds slice at = go (eqb (length (take hash_bytes (drop at slice.bytes))) hash_bytes)
  where
    go : (b : Bool) → (elim b as (λ x. Part) [ true ↦ cut slice at hash_bytes | false ↦ cut slice 0 0 ]).bytes
        ≡ elim b [ true ↦ take hash_bytes (drop at slice.bytes) | false ↦ [] ]
    go true = refl
    go false = refl

pub entry_holds : (part given : Part) (e : ℕ) → part ≡ entry_part given e → part.bytes ≡ whole_hash (entry given.bytes e)
unfolding entry
entry_holds part given e q = ap (λ (p : Part). p.bytes) q ∙ whole_holds given (hash_bytes * e)

pub entry_past : (given : Part) (e : ℕ) → length given.bytes / hash_bytes ≤ e → cut given 0 0 ≡ entry_part given e
unfolding entry
entry_past given e h =
    part_missing given (hash_bytes * e) (take hash_bytes (drop (hash_bytes * e) given.bytes)) (simp (length-take, length-drop) (λ q. omega arith))

supplied_holds : (N : List Node) (given : Part) (j e : ℕ) (rs : List ℕ) → (supplied_part given j e rs).bytes ≡ entry_for N given.bytes j e rs
unfolding supplied_part entry_for
supplied_holds N given j e [] = refl
supplied_holds N given j e (r ∷ rs) = go (eqb r j) (entry_holds (entry_part given e) given e refl) (supplied_holds N given j (suc e) rs)
  where
    go : (b : Bool) → (entry_part given e).bytes ≡ whole_hash (entry given.bytes e)
        → (supplied_part given j (suc e) rs).bytes ≡ entry_for N given.bytes j (suc e) rs
        → (elim b as (λ x. Part) [ true ↦ entry_part given e | false ↦ supplied_part given j (suc e) rs ]).bytes
        ≡ elim b [ true ↦ whole_hash (entry given.bytes e) | false ↦ entry_for N given.bytes j (suc e) rs ]
    go true p q = p
    go false p q = q

-- what is made of node j where it is hidden, by the record of node j
module _ (hashes nodes : List ℕ) (j : ℕ) (r : NodeRecord) (is : r ≡ get_or (node_records nodes) j no_record) {X : Type 0} (f : List ℕ → X) (other : X) where
  by_record : on_hidden (node_is hashes r) f other ≡ on_hidden (node_at (lent_nodes hashes nodes) j) f other
  by_record = ap (λ (n : Node). on_hidden n f other) (ap (node_is hashes) is ∙ sym (node_at_lem [] hashes (node_records nodes) j))

  shown : (b : Bool) → hidden_kind r.kind ≡ b → on_hidden (node_is hashes r) f other ≡ elim b [ true ↦ f (hash_is (node_is hashes r)) | false ↦ other ]
  unfolding hidden_kind
  shown b e =
      by_hidden [] hashes (kind_of r.kind) r.first r.second f other
      ∙ ap (λ (h : Bool). elim h [ true ↦ f (hash_is (node_is hashes r)) | false ↦ other ]) e

  pub in_store : r.kind ≡ 13 → f (take hash_bytes (drop r.first hashes)) ≡ on_hidden (node_at (lent_nodes hashes nodes) j) f other
  unfolding kind_of node_of on_hidden
  in_store e = sym (ap (λ (k : ℕ). on_hidden (node_of [] hashes (kind_of k) r.first r.second) f other) e) ∙ by_record

  pub not_hidden : (r.kind ≡ 13 → ⊥) → other ≡ on_hidden (node_at (lent_nodes hashes nodes) j) f other
  not_hidden n =
      let shows : hidden_kind r.kind ≡ false = hidden_by r.kind ∙ ne_eqb r.kind 13 n in
      sym (shown false shows) ∙ by_record

-- the part of node j's branch, by the record of node j
module _ (nodes : List ℕ) (hashes given : Part) (j : ℕ) where
  abbrev lent : List Node
  lent = lent_nodes hashes.bytes nodes

  abbrev supply : Part
  supply = supplied_part given j 0 (rights (lent_nodes [] nodes))

  module _ (r : NodeRecord) (is : r ≡ get_or (node_records nodes) j no_record) where
    abbrev stored : List ℕ → Part
    stored = whole_part hashes (get_or (node_records nodes) j no_record).first

    pub part_stored : r.kind ≡ 13 → whole_part hashes r.first (take hash_bytes (drop r.first hashes.bytes)) ≡ branch_part nodes hashes given j
    unfolding branch_part
    part_stored e =
        ap (λ (at : ℕ). whole_part hashes at (take hash_bytes (drop r.first hashes.bytes))) (ap (λ (r : NodeRecord). r.first) is)
        ∙ in_store hashes.bytes nodes j r is stored supply e

    pub part_supplied : (r.kind ≡ 13 → ⊥) → supply ≡ branch_part nodes hashes given j
    unfolding branch_part
    part_supplied n = not_hidden hashes.bytes nodes j r is stored supply n

  pub branch_holds : (part : Part) → part ≡ branch_part nodes hashes given j → part.bytes ≡ branch_hash lent given.bytes j
  unfolding branch_hash
  branch_holds part q = ap (λ (p : Part). p.bytes) q ∙ go (get_or (node_records nodes) j no_record) refl
    where
      go : (r : NodeRecord) → r ≡ get_or (node_records nodes) j no_record → (branch_part nodes hashes given j).bytes ≡ branch_hash lent given.bytes j
      go r is =
          let held = entry_for lent given.bytes j 0 (rights lent) in
          let bytes : Part → List ℕ = λ (p : Part). p.bytes in
          elim (ℕ_discrete r.kind 13) [
            | yes e ↦ sym (ap bytes (part_stored r is e)) ∙ whole_holds hashes r.first ∙ in_store hashes.bytes nodes j r is whole_hash held e
            | no n ↦ sym (ap bytes (part_supplied r is n)) ∙ supplied_holds lent given j 0 (rights (lent_nodes [] nodes))
                ∙ ap (entry_for lent given.bytes j 0) (sym (rights_alike [] hashes.bytes (node_records nodes)))
                ∙ not_hidden hashes.bytes nodes j r is whole_hash held n
          ]

-- one pass over the table: the entries from e on are those of the disconnects from node i on
module _ (nodes : List ℕ) (given : Part) (j : ℕ) where
  abbrev pub from_node : (i e : ℕ) → Part
  from_node i e = supplied_part given j e (rights (drop i (lent_nodes [] nodes)))

  module _ (i e : ℕ) (r : NodeRecord) (h : i < length nodes / node_numbers) (is : r ≡ get_or (node_records nodes) i no_record) where
    one_more_lem : {own : List ℕ} → right_of r ≡ own → from_node i e ≡ supplied_part given j e (own ++ rights (drop (i + 1) (lent_nodes [] nodes)))
    one_more_lem q =
        ap (supplied_part given j e)
        (rights_from nodes i r (omega (arith, length_records nodes)) is ∙ ap (λ (l : List ℕ). l ++ rights (drop (i + 1) (lent_nodes [] nodes))) q)

    pub found_here : r.kind ≡ 3 → r.second ≡ j → from_node i e ≡ entry_part given e
    unfolding supplied_part
    found_here k q = one_more_lem (right_own r k) ∙ rw (supplied_part, eq-eqb r.second j q)

    pub passed_child : r.kind ≡ 3 → (r.second ≡ j → ⊥) → from_node i e ≡ from_node (i + 1) (e + 1)
    unfolding supplied_part
    passed_child k n = one_more_lem (right_own r k) ∙ rw (supplied_part, ne_eqb r.second j n, add-one e)

    pub passed_kind : (r.kind ≡ 3 → ⊥) → from_node i e ≡ from_node (i + 1) e
    passed_kind n = one_more_lem (right_none r n)

  pub at_end : (i e : ℕ) → length nodes / node_numbers ≤ i → cut given 0 0 ≡ from_node i e
  unfolding rights supplied_part
  at_end i e h =
      sym (ap (λ (ns : List Node). supplied_part given j e (rights ns))
      (drop_of_length-le (lent_nodes [] nodes) {i = i} (omega (arith, length_nodes [] [] (node_records nodes), length_records nodes))))
