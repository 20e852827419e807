-- The rules of arrows take no look at the bits of words or at the bytes of the hash store, so the pass leaves both out where it judges an
-- arrow. Where the records keep their rules its answer is that for the nodes with all their bits and bytes.
use mathlib.Core.Path.{◌≡◌, refl, sym, ap, ap₂, ◌∙◌}
use mathlib.Core.Bool.{Bool, true, false, not}
use mathlib.Core.List.{List, [], ◌∷◌}
use Prim.Native.Nat.{ℕ, ◌*◌, ◌≤◌, ◌<◌}
use lib.Dec.{eqb}
use lib.ListN.{length, get_or}
use Rattle.limits.specs.Limits.{dossier_bytes}
use Rattle.refusal.specs.declared.Refusal.{Refusal}
use Rattle.refusal.specs.declared.Refusal.TheVariants.{NodeRepeated, OneChildDisconnect, Arrow as BadArrow}
use Rattle.report.specs.Nodes.{Node}
use Rattle.scope.specs.Check.{Check, ◌>>=◌, require, each}
use Rattle.scope.specs.Numbers.{every, stream_of}
use Rattle.scope.specs.Types.{TypeRecord, type_records, is_sum, is_product, left_at, right_at}
use Rattle.scope.specs.Nodes.{Kind, k_comp, k_case, k_pair, k_disconnect, k_injl, k_injr, k_take, k_drop, k_iden, k_unit, k_fail, k_disconnect1, k_witness, k_hidden, k_word, k_unknown, kind_of, node_of, NodeRecord, node_records, nodes_of, node_at, on_one_child}
use Rattle.scope.specs.Walk.{hidden_at}
use Rattle.scope.specs.Arrows.{Arrow, arrow_records, source, target, goes, branch_rule, kind_rule, arrow_rule, no_one_child, repeats, node_rule, node_refusal, check_arrows}
use Rattle.scope.specs.Stages.{no_record, record_rule}
use Rattle.common.specs.Checks.{each_alike}
use Rattle.common.specs.Nodes.{length_nodes, node_at_lem}
use Rattle.table.proofs.Hashes.{hidden_alike}
use Rattle.equal.proofs.Lent.{fresh_is}
use Rattle.arrow.specs.Stage.{lent_rule, lent_refusal}
use Rattle.arrow.proofs.Stages.{whole, one_each, judged}

module _ (types : List TypeRecord) (arrows : List Arrow) (nodes nodes' : List Node) (same : (j : ℕ) → hidden_at nodes j ≡ hidden_at nodes' j) where
  branch_alike : (j part rest to : ℕ) → branch_rule types nodes arrows j part rest to ≡ branch_rule types nodes' arrows j part rest to
  unfolding branch_rule
  branch_alike j part rest to =
      ap (λ h. elim h [ true ↦ true | false ↦ every (is_product types (source arrows j) part rest ∷ eqb (target arrows j) to ∷ []) ]) (same j)

  -- node by node, kind by kind
  kind_alike : (bits hashes : List ℕ) (from to : ℕ) (kind : Kind) (a b : ℕ)
      → kind_rule types nodes arrows from to (node_of bits hashes kind a b) ≡ kind_rule types nodes' arrows from to (node_of [] [] kind a b)
  unfolding kind_rule goes node_of
  kind_alike bits hashes from to k_comp a b = refl
  kind_alike bits hashes from to k_case a b =
      λ k. every (is_product types from (left_at types from) (right_at types from)
      ∷ is_sum types (left_at types from) (left_at types (left_at types from)) (right_at types (left_at types from))
      ∷ branch_alike a (left_at types (left_at types from)) (right_at types from) to k
      ∷ branch_alike b (right_at types (left_at types from)) (right_at types from) to k ∷ [])
  kind_alike bits hashes from to k_pair a b = refl
  kind_alike bits hashes from to k_disconnect a b = refl
  kind_alike bits hashes from to k_injl a b = refl
  kind_alike bits hashes from to k_injr a b = refl
  kind_alike bits hashes from to k_take a b = refl
  kind_alike bits hashes from to k_drop a b = refl
  kind_alike bits hashes from to k_iden a b = refl
  kind_alike bits hashes from to k_unit a b = refl
  kind_alike bits hashes from to k_fail a b = refl
  kind_alike bits hashes from to k_disconnect1 a b = refl
  kind_alike bits hashes from to k_witness a b = refl
  kind_alike bits hashes from to k_hidden a b = refl
  kind_alike bits hashes from to k_word a b = refl
  kind_alike bits hashes from to k_unknown a b = refl

one_child_alike : (bits hashes : List ℕ) (kind : Kind) (a b : ℕ)
    → on_one_child (node_of bits hashes kind a b) (λ child. false) true ≡ on_one_child (node_of [] [] kind a b) (λ child. false) true
unfolding on_one_child node_of
one_child_alike bits hashes k_comp a b = refl
one_child_alike bits hashes k_case a b = refl
one_child_alike bits hashes k_pair a b = refl
one_child_alike bits hashes k_disconnect a b = refl
one_child_alike bits hashes k_injl a b = refl
one_child_alike bits hashes k_injr a b = refl
one_child_alike bits hashes k_take a b = refl
one_child_alike bits hashes k_drop a b = refl
one_child_alike bits hashes k_iden a b = refl
one_child_alike bits hashes k_unit a b = refl
one_child_alike bits hashes k_fail a b = refl
one_child_alike bits hashes k_disconnect1 a b = refl
one_child_alike bits hashes k_witness a b = refl
one_child_alike bits hashes k_hidden a b = refl
one_child_alike bits hashes k_word a b = refl
one_child_alike bits hashes k_unknown a b = refl

module _ (bits hashes : List ℕ) (rs : List NodeRecord) where
  module _ (types : List TypeRecord) (arrows : List Arrow) where
    pub arrow_alike : (i : ℕ) → arrow_rule types (nodes_of bits hashes rs) arrows i ≡ arrow_rule types (nodes_of [] [] rs) arrows i
    unfolding arrow_rule
    arrow_alike i =
        let r : NodeRecord = get_or rs i no_record in
        let e : kind_rule types (nodes_of bits hashes rs) arrows (source arrows i) (target arrows i) (node_at (nodes_of bits hashes rs) i)
        ≡ kind_rule types (nodes_of [] [] rs) arrows (source arrows i) (target arrows i) (node_at (nodes_of [] [] rs) i) =
        ap (kind_rule types (nodes_of bits hashes rs) arrows (source arrows i) (target arrows i)) (node_at_lem bits hashes rs i)
        ∙ kind_alike types arrows (nodes_of bits hashes rs) (nodes_of [] [] rs) (hidden_alike bits hashes rs) bits hashes (source arrows i)
        (target arrows i) (kind_of r.kind) r.first r.second
        ∙ ap (kind_rule types (nodes_of [] [] rs) arrows (source arrows i) (target arrows i)) (sym (node_at_lem [] [] rs i)) in
        rw e

    pub whole_alike : (i : ℕ) → no_one_child types (nodes_of bits hashes rs) arrows i ≡ no_one_child types (nodes_of [] [] rs) arrows i
    unfolding no_one_child
    whole_alike i =
        let r : NodeRecord = get_or rs i no_record in
        ap (λ n. on_one_child n (λ child. false) true) (node_at_lem bits hashes rs i)
        ∙ one_child_alike bits hashes (kind_of r.kind) r.first r.second
        ∙ ap (λ n. on_one_child n (λ child. false) true) (sym (node_at_lem [] [] rs i))

module _ (types nodes arrows program hashes : List ℕ) (fits : length program ≤ dossier_bytes)
    (kept : (i : ℕ) → i < length (node_records nodes) → record_rule (8 * length program) (length hashes) (node_records nodes) i ≡ true) where
  -- the tables as records, nodes and arrows
  abbrev ts : List TypeRecord
  ts = type_records types

  abbrev rs : List NodeRecord
  rs = node_records nodes

  abbrev ns : List Node
  ns = nodes_of (stream_of program) hashes rs

  abbrev as' : List Arrow
  as' = arrow_records arrows

  -- the rule of a node, and why it is refused
  rule_is : (i : ℕ) → i < length rs → lent_rule types nodes arrows program hashes i ≡ node_rule ts ns as' i
  unfolding lent_rule node_rule
  rule_is i l =
      ap₂ (λ (a b : Bool). every (a ∷ b ∷ [])) (fresh_is nodes arrows program hashes fits kept i l)
      (sym (arrow_alike (stream_of program) hashes rs ts as' i))

  refusal_is : (i : ℕ) → i < length rs → lent_refusal types nodes arrows program hashes i ≡ node_refusal ts ns as' i
  unfolding lent_refusal node_refusal
  refusal_is i l =
      ap (λ (b : Bool). elim b [ true ↦ BadArrow i | false ↦ NodeRepeated i ]) (fresh_is nodes arrows program hashes fits kept i l)
      ∙ go (repeats ns as' i)
    where
      go : (b : Bool) → ◌≡◌ {A = Refusal} (elim (not b) [ true ↦ BadArrow i | false ↦ NodeRepeated i ]) (elim b [ true ↦ NodeRepeated i | false ↦ BadArrow i ])
      go true = refl
      go false = refl

  -- THE PASS ANSWERS FOR THE NODES
  pub arrows_alike : (whole types nodes arrows program hashes >>= λ one. one_each types nodes arrows program hashes >>= λ count.
      judged types nodes arrows program hashes)
      ≡ check_arrows ts ns as'
  unfolding check_arrows
  arrows_alike =
      let l : length rs ≡ length ns = sym (length_nodes (stream_of program) hashes rs) in
      ap (λ (c : Check (Unit {0})). whole types nodes arrows program hashes >>= λ one. one_each types nodes arrows program hashes >>= λ count. c)
      (each_alike (lent_rule types nodes arrows program hashes) (node_rule ts ns as') (length rs) (lent_refusal types nodes arrows program hashes)
      (node_refusal ts ns as') rule_is refusal_is)
      ∙ (λ k. each (l k) (λ i. (sym (whole_alike (stream_of program) hashes rs ts as' i)) k) OneChildDisconnect >>= λ one.
      require (eqb (length as') (l k)) (BadArrow (l k)) >>= λ count.
      each (l k) (node_rule ts ns as') (node_refusal ts ns as'))
