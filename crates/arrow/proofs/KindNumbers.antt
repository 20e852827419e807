-- The rule of a node's arrow by the number of its kind, as the code tells the kinds apart.
use mathlib.Core.Path.{◌≡◌, refl, sym, ap, ◌∙◌}
use mathlib.Core.Bool.{true, false, not}
use mathlib.Core.List.{List, [], ◌∷◌}
use Prim.Native.Nat.{ℕ, ◌/◌}
use native.Mathlib.Omega.{arith}
use lib.Dec.{eqb, ltb}
use lib.ListN.{length, get_or}
use borrow.Author.Tests.{ne_eqb}
use Rattle.limits.specs.Limits.{arrow_bytes}
use Rattle.report.specs.Nodes.{Node, disconnect}
use Rattle.scope.specs.Numbers.{every}
use Rattle.scope.specs.Types.{TypeRecord, is_product, is_word, left_at, right_at}
use Rattle.scope.specs.Nodes.{kind_of, node_of, NodeRecord, node_records, node_at, on_one_child}
use Rattle.scope.specs.Arrows.{Arrow, no_arrow, arrow_record, arrow_records, source, target, kind_rule, arrow_rule, no_one_child}
use Rattle.scope.specs.Stages.{no_record}
use Rattle.table.specs.Lent.{lent_nodes, node_is}
use Rattle.common.specs.Nodes.{node_at_lem}
use Rattle.table.proofs.Groups.{by_kind, unknown}
use Rattle.common.specs.Tables.{length-tabulate}

pub length_arrows : (bytes : List ℕ) → length (arrow_records bytes) ≡ length bytes / arrow_bytes
unfolding arrow_records
length_arrows bytes = length-tabulate (arrow_record bytes) (length bytes / arrow_bytes)

module _ (types : List TypeRecord) (nodes : List Node) (arrows : List Arrow) where
  module _ (from to s t : ℕ) where
    -- a disconnect, of its children's arrows
    pub disconnect_is : (a b : Arrow) (word kept handed : ℕ) → a ≡ get_or arrows s no_arrow → b ≡ get_or arrows t no_arrow
        → word ≡ left_at types a.source → kept ≡ left_at types a.target → handed ≡ right_at types a.target
        → every (is_product types a.source word from ∷ is_word types 8 word ∷ is_product types a.target kept handed
        ∷ eqb b.source handed ∷ is_product types to kept b.target ∷ [])
        ≡ kind_rule types nodes arrows from to (disconnect s t)
    unfolding kind_rule source target
    disconnect_is a b word kept handed e f w x y =
        let w' = w ∙ ap (λ l. left_at types l.source) e in
        let x' = x ∙ ap (λ l. left_at types l.target) e in
        let y' = y ∙ ap (λ l. right_at types l.target) e in
        λ k. every (is_product types (e k).source (w' k) from ∷ is_word types 8 (w' k) ∷ is_product types (e k).target (x' k) (y' k)
        ∷ eqb (f k).source (y' k) ∷ is_product types to (x' k) (f k).target ∷ [])

-- whether a kind is the disconnect with one child
one_child_by : (a b k : ℕ) → not (eqb k 11) ≡ on_one_child (node_of [] [] (kind_of k) a b) (λ child. false) true
unfolding on_one_child node_of kind_of
one_child_by a b =
    by_kind (λ k. not (eqb k 11) ≡ on_one_child (node_of [] [] (kind_of k) a b) (λ child. false) true)
    refl refl refl refl refl refl refl refl refl refl refl refl refl refl refl
    (λ k h. rw (ne_eqb k 11 (λ e. omega arith)) (ap (λ x. on_one_child (node_of [] [] x a b) (λ child. false) true) (sym (unknown k h))))

module _ (types : List TypeRecord) (nodes : List ℕ) (arrows : List Arrow) (i : ℕ) (r : NodeRecord) (e : r ≡ get_or (node_records nodes) i no_record) where
  -- the node that a record of a lent table stands for
  node_is_lem : node_is [] r ≡ node_at (lent_nodes [] nodes) i
  node_is_lem = ap (node_is []) e ∙ sym (node_at_lem [] [] (node_records nodes) i)

  pub one_child_is : not (eqb r.kind 11) ≡ no_one_child types (lent_nodes [] nodes) arrows i
  unfolding no_one_child
  one_child_is = one_child_by r.first r.second r.kind ∙ ap (λ n. on_one_child n (λ child. false) true) node_is_lem

-- the rule of node i, of its own arrow and its record
pub arrow_is : (types : List TypeRecord) (nodes : List ℕ) (arrows : List Arrow) (i : ℕ) → arrow_rule types (lent_nodes [] nodes) arrows i
    ≡ every (ltb (get_or arrows i no_arrow).source (length types) ∷ ltb (get_or arrows i no_arrow).target (length types)
    ∷ kind_rule types (lent_nodes [] nodes) arrows (get_or arrows i no_arrow).source (get_or arrows i no_arrow).target
    (node_is [] (get_or (node_records nodes) i no_record)) ∷ [])
unfolding arrow_rule source target
arrow_is types nodes arrows i =
    ap (λ (n : Node). every (ltb (get_or arrows i no_arrow).source (length types) ∷ ltb (get_or arrows i no_arrow).target (length types)
    ∷ kind_rule types (lent_nodes [] nodes) arrows (get_or arrows i no_arrow).source (get_or arrows i no_arrow).target n ∷ []))
    (sym (node_is_lem types nodes arrows i (get_or (node_records nodes) i no_record) refl))
