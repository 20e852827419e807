-- A disconnect with one child is refused (11). Then the arrows: one for each node (12 at the node count). Then node by node: no earlier
-- node is equal to it (9), and its arrow is as the report's typing has it, on indices of the type table (12).
-- iden, iden, pair(0, 1), where both iden have the same arrow, is 9 at 1.
use Rattle.std.specs.Prelude.{Bool, not, List, [], ◌∷◌, ℕ, ◌+◌, ◌*◌, ◌-◌, ◌/◌, length, get_or}
use Rattle.std.proofs.Math.Bool.{true, false}
use Rattle.std.proofs.Math.Dec.{ltb, eqb}
use Rattle.limits.specs.Limits.{arrow_bytes}
use Rattle.refusal.specs.declared.Refusal.{Refusal}
use Rattle.refusal.specs.declared.Refusal.TheVariants.{NodeRepeated, OneChildDisconnect, Arrow as BadArrow}
use Rattle.report.specs.Nodes.{Node, comp, case, pair, disconnect, injl, injr, take, drop, disconnect1, iden, unit, witness, fail, hidden, word}
use Rattle.scope.specs.Check.{Check, ◌>>=◌, require, each}
use Rattle.scope.specs.Numbers.{be16, tabulate, every, any_below}
use Rattle.scope.specs.Types.{TypeRecord, is_unit, is_sum, is_product, left_at, right_at, a_sum, sum_with_left, sum_with_right, a_product, product_with_left, product_with_right, is_word}
use Rattle.scope.specs.Nodes.{node_at, on_one_child}
use Rattle.scope.specs.Walk.{hidden_at}
use Rattle.scope.specs.Equal.{key_of, same_key}

-- source and target as indices of the type table
pub record Arrow : Type 0 where
  pub source : ℕ
  pub target : ℕ

unfoldable pub arrow_record : List ℕ → (i : ℕ) → Arrow
arrow_record bytes i = record { source = be16 bytes (arrow_bytes * i); target = be16 bytes (arrow_bytes * i + 2) }

unfoldable pub arrow_records : List ℕ → List Arrow
unfolding tabulate arrow_record
arrow_records bytes = tabulate (length bytes / arrow_bytes) (arrow_record bytes)

abbrev pub no_arrow : Arrow
no_arrow = record { source = 0; target = 0 }

unfoldable pub source : List Arrow → (i : ℕ) → ℕ
source arrows i = (get_or arrows i no_arrow).source

unfoldable pub target : List Arrow → (i : ℕ) → ℕ
target arrows i = (get_or arrows i no_arrow).target

module _ (nodes : List Node) (arrows : List Arrow) where
  -- nodes j and i are equal: the same key and the same arrow
  unfoldable pub equal_nodes : (j i : ℕ) → Bool
  unfolding key_of same_key node_at source target every
  equal_nodes j i = every (
      same_key (key_of (node_at nodes j)) (key_of (node_at nodes i))
      ∷ eqb (source arrows j) (source arrows i)
      ∷ eqb (target arrows j) (target arrows i)
      ∷ [])

  -- an earlier node is equal to node i
  unfoldable pub repeats : (i : ℕ) → Bool
  unfolding any_below equal_nodes
  repeats i = any_below i (λ j. equal_nodes j i)

-- the arrow of each kind of node
module _ (types : List TypeRecord) (nodes : List Node) (arrows : List Arrow) where
  -- node j goes from this to that
  unfoldable pub goes : (j from to : ℕ) → Bool
  unfolding source target every
  goes j from to = every (eqb (source arrows j) from ∷ eqb (target arrows j) to ∷ [])

  -- a branch of a case goes from its part of the sum times the rest to the case's target; a hidden one is free
  unfoldable pub branch_rule : (j part rest to : ℕ) → Bool
  unfolding hidden_at source target is_product every
  branch_rule j part rest to = elim (hidden_at nodes j) [
    | true ↦ true
    | false ↦ every (is_product types (source arrows j) part rest ∷ eqb (target arrows j) to ∷ [])
  ]

  -- a node from A to B
  unfoldable pub kind_rule : (A B : ℕ) → Node → Bool
  unfolding goes branch_rule source target is_unit is_sum is_product is_word left_at right_at every
  kind_rule A B (comp s t) = every (eqb (source arrows s) A ∷ goes t (target arrows s) B ∷ [])
  kind_rule A B (case s t) =
      let sum = left_at types A in
      let rest = right_at types A in
      every (a_product types A ∷ a_sum types sum ∷ branch_rule s (left_at types sum) rest B ∷ branch_rule t (right_at types sum) rest B ∷ [])
  kind_rule A B (pair s t) = every (eqb (source arrows s) A ∷ eqb (source arrows t) A ∷ is_product types B (target arrows s) (target arrows t) ∷ [])
  kind_rule A B (disconnect s t) =
      let b = left_at types (target arrows s) in
      let c = right_at types (target arrows s) in
      every (product_with_right types (source arrows s) A ∷ is_word types 8 (left_at types (source arrows s)) ∷ a_product types (target arrows s)
      ∷ eqb (source arrows t) c ∷ is_product types B b (target arrows t) ∷ [])
  kind_rule A B (injl s) = every (eqb (source arrows s) A ∷ sum_with_left types B (target arrows s) ∷ [])
  kind_rule A B (injr s) = every (eqb (source arrows s) A ∷ sum_with_right types B (target arrows s) ∷ [])
  kind_rule A B (take s) = every (product_with_left types A (source arrows s) ∷ eqb (target arrows s) B ∷ [])
  kind_rule A B (drop s) = every (product_with_right types A (source arrows s) ∷ eqb (target arrows s) B ∷ [])
  kind_rule A B (disconnect1 s) = false
  kind_rule A B iden = eqb A B
  kind_rule A B unit = is_unit types B
  kind_rule A B witness = true
  kind_rule A B (fail bytes) = true
  kind_rule A B (hidden bytes) = every (eqb A 0 ∷ eqb B 0 ∷ [])
  kind_rule A B (word n bits) = every (is_unit types A ∷ is_word types (n - 1) B ∷ [])

  -- both ends of the arrow are in the type table, and it is the node's
  unfoldable pub arrow_rule : (i : ℕ) → Bool
  unfolding source target kind_rule node_at every
  arrow_rule i = every (
      ltb (source arrows i) (length types)
      ∷ ltb (target arrows i) (length types)
      ∷ kind_rule (source arrows i) (target arrows i) (node_at nodes i)
      ∷ [])

  -- node i is no disconnect with one child
  unfoldable pub no_one_child : (i : ℕ) → Bool
  unfolding node_at on_one_child
  no_one_child i = on_one_child (node_at nodes i) (λ child. false) true

  -- node i repeats no earlier one, and its arrow is right
  unfoldable pub node_rule : (i : ℕ) → Bool
  unfolding repeats arrow_rule every
  node_rule i = every (not (repeats nodes arrows i) ∷ arrow_rule i ∷ [])

  -- why a node is refused that does not keep this rule
  unfoldable pub node_refusal : (i : ℕ) → Refusal
  unfolding repeats
  node_refusal i = elim (repeats nodes arrows i) [ true ↦ NodeRepeated i | false ↦ BadArrow i ]

  unfoldable pub check_arrows : Check (Unit {0})
  unfolding ◌>>=◌ require each no_one_child node_rule node_refusal
  check_arrows = do
    paired ← each (length nodes) no_one_child OneChildDisconnect
    count ← require (eqb (length arrows) (length nodes)) (BadArrow (length nodes))
    each (length nodes) node_rule node_refusal
