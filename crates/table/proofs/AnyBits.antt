-- A walk does not see a word's bits: it does the same over the nodes of a table whatever the program's bits are.
use mathlib.Core.Path.{◌≡◌, refl, sym, ap, ap₂, ◌∙◌}
use mathlib.Core.Bool.{Bool, true, false, not}
use mathlib.Core.List.{List, [], ◌∷◌}
use Prim.Native.Nat.{ℕ, zero, suc, ◌-◌, ◌<◌, ◌≤◌}
use native.Mathlib.Nat.{not-suc-le-zero}
use native.Mathlib.Omega.{arith}
use native.Mathlib.Decide.{dec_lt}
use lib.Dec.{eqb, ltb}
use lib.ListN.{length, get_or}
use Rattle.refusal.specs.declared.Refusal.TheVariants.{CanonicalOrder, HiddenElsewhere, BothHidden, NodeRepeated}
use Rattle.report.specs.Nodes.{Node}
use Rattle.report.specs.Canonical.{up_from}
use Rattle.scope.specs.Check.{Check, passed, ◌>>=◌, require}
use Rattle.scope.specs.Numbers.{every, any_below}
use Rattle.scope.specs.Nodes.{Kind, k_comp, k_case, k_pair, k_disconnect, k_injl, k_injr, k_take, k_drop, k_iden, k_unit, k_fail, k_disconnect1, k_witness, k_hidden, k_word, k_unknown, kind_of, NodeRecord, node_of, nodes_of}
use Rattle.scope.specs.Walk.{hidden_at, none_hidden, allowed, check_walk}
use Rattle.scope.specs.Stages.{no_record}
use Rattle.exactness.specs.Walk.{count, arrive_count, walk_count}
use Rattle.exactness.proofs.Walk.{walk_past, check_walk_count}
use Rattle.table.specs.Lent.{left_of, right_of}
use Rattle.table.specs.Walking.{child_walk}
use Rattle.common.specs.Nodes.{length_nodes, node_at_lem}
use Rattle.table.proofs.Groups.{same_children, few_children}
use Rattle.table.proofs.Hashes.{hidden_alike, hides-kind}
use Rattle.common.specs.Checks.{then_same}
use Rattle.table.proofs.Steps.{walk_by, child_below, child_not_below, step_any}

any_same : (n : ℕ) (f g : ℕ → Bool) → ((j : ℕ) → f j ≡ g j) → any_below n f ≡ any_below n g
unfolding any_below
any_same zero f g e = refl
any_same (suc n) f g e = ap₂ (λ (b c : Bool). elim b [ true ↦ true | false ↦ c ]) (e n) (any_same n f g e)

module _ (bits hashes : List ℕ) (rs : List NodeRecord) where
  abbrev one : List Node
  one = nodes_of bits hashes rs

  abbrev other : List Node
  other = nodes_of [] hashes rs

  hidden_same : (j : ℕ) → hidden_at one j ≡ hidden_at other j
  hidden_same j = hidden_alike bits hashes rs j ∙ sym (hidden_alike [] hashes rs j)

  none_same : (i : ℕ) (js : List ℕ) → none_hidden one i js ≡ none_hidden other i js
  unfolding none_hidden
  none_same i [] = refl
  none_same i (j ∷ js) =
      ap₂ (λ (b : Bool) (c : Check (Unit {0})). require (not b) (HiddenElsewhere i) >>= λ shown. c) (hidden_same j) (none_same i js)

  -- node i asks the same of both tables
  allowed_same : (i : ℕ) (kind : Kind) (a b : ℕ) → allowed one i (node_of bits hashes kind a b) ≡ allowed other i (node_of [] hashes kind a b)
  unfolding allowed node_of
  allowed_same i k_comp a b = none_same i (a ∷ b ∷ [])
  allowed_same i k_case a b = ap₂ (λ (x y : Bool). require (not (every (x ∷ y ∷ []))) (BothHidden i)) (hidden_same a) (hidden_same b)
  allowed_same i k_pair a b = none_same i (a ∷ b ∷ [])
  allowed_same i k_disconnect a b = none_same i (a ∷ b ∷ [])
  allowed_same i k_injl a b = none_same i (a ∷ [])
  allowed_same i k_injr a b = none_same i (a ∷ [])
  allowed_same i k_take a b = none_same i (a ∷ [])
  allowed_same i k_drop a b = none_same i (a ∷ [])
  allowed_same i k_iden a b = refl
  allowed_same i k_unit a b = refl
  allowed_same i k_fail a b = refl
  allowed_same i k_disconnect1 a b = none_same i (a ∷ [])
  allowed_same i k_witness a b = refl
  allowed_same i k_hidden a b =
      ap (λ (x : Bool). require (not x) (NodeRepeated i)) (any_same i _ _ (λ j. hides-kind bits hashes rs _ j ∙ sym (hides-kind [] hashes rs _ j)))
  allowed_same i k_word a b = refl
  allowed_same i k_unknown a b = refl

  module _ (i : ℕ) where
    -- record i, and its node in either table
    abbrev here : NodeRecord
    here = get_or rs i no_record

    abbrev node : (bits : List ℕ) → Node
    node bits = node_of bits hashes (kind_of here.kind) here.first here.second

    arrive_same : (m : ℕ) → arrive_count one i (node bits) m ≡ arrive_count other i (node []) m
    unfolding arrive_count
    arrive_same m =
        ap (λ (c : Check (Unit {0})). require (eqb i m) (CanonicalOrder m) >>= λ next. c >>= λ fine. passed (suc m))
        (allowed_same i (kind_of here.kind) here.first here.second)

    -- the children, the same in both
    abbrev left : ℕ
    left = left_of (node_of [] [] (kind_of here.kind) here.first here.second) i

    abbrev right : ℕ
    right = right_of (node_of [] [] (kind_of here.kind) here.first here.second) i

    step_of : (b : List ℕ) (k : ℕ) → i < length rs → walk_count (nodes_of b hashes rs) i k ≡ walk_by (nodes_of b hashes rs) i left right (node b) (ltb i k) k
    step_of b k h =
        step_any (nodes_of b hashes rs) i (node b) k (omega (arith, length_nodes b hashes rs)) (node_at_lem b hashes rs i)
        (few_children b hashes (kind_of here.kind) here.first here.second)
        ∙ ap (λ (js : List ℕ). walk_by (nodes_of b hashes rs) i (get_or js 0 i) (get_or js 1 i) (node b) (ltb i k) k)
        (same_children b hashes (kind_of here.kind) here.first here.second)

    past_same : (k : ℕ) → length rs ≤ i → walk_count one i k ≡ walk_count other i k
    unfolding walk_count
    past_same k h =
        ap count
        (walk_past one i (omega (arith, length_nodes bits hashes rs)) (up_from 0 k)
        ∙ sym (walk_past other i (omega (arith, length_nodes [] hashes rs)) (up_from 0 k)))

    -- the walk from node i, where those from the nodes below are the same
    step_same : ((j k : ℕ) → j < i → walk_count one j k ≡ walk_count other j k) → (k : ℕ) → i < length rs → walk_count one i k ≡ walk_count other i k
    unfolding ◌>>=◌
    step_same below k h = step_of bits k h ∙ go (ltb i k) ∙ sym (step_of [] k h)
      where
        child_same : (j k : ℕ) → child_walk one i j k ≡ child_walk other i j k
        child_same j k =
            elim (dec_lt j i) [
              | yes l ↦ child_below one i j k l ∙ below j k l ∙ sym (child_below other i j k l)
              | no n ↦ child_not_below one i j k (omega arith) ∙ sym (child_not_below other i j k (omega arith))
            ]

        then_both : (c d : Check ℕ) (f g : ℕ → Check ℕ) → c ≡ d → ((m : ℕ) → f m ≡ g m) → (c >>= f) ≡ (d >>= g)
        then_both c d f g e h = ap (λ (x : Check ℕ). x >>= f) e ∙ then_same d f g h

        go : (t : Bool) → walk_by one i left right (node bits) t k ≡ walk_by other i left right (node []) t k
        go true = refl
        go false = then_both _ _ _ _ (then_both _ _ _ _ (child_same _ k) (λ m. child_same _ m)) arrive_same

  walks_same : (n i : ℕ) → i < n → (k : ℕ) → walk_count one i k ≡ walk_count other i k
  walks_same zero i l k = absurd (not-suc-le-zero l)
  walks_same (suc n) i l k =
      elim (dec_lt i (length rs)) [
        | yes h ↦ step_same i (λ j k m. walks_same n j (omega arith) k) k h
        | no m ↦ past_same i k (omega arith)
      ]

  -- the whole walk is the same whatever the bits
  pub walk_any_bits : check_walk (nodes_of bits hashes rs) ≡ check_walk (nodes_of [] hashes rs)
  walk_any_bits =
      check_walk_count one
      ∙ ap (λ (n : ℕ). walk_count one (n - 1) 0 >>= λ all. require (not (hidden_at one (n - 1))) (HiddenElsewhere (n - 1)))
      (length_nodes bits hashes rs ∙ sym (length_nodes [] hashes rs))
      ∙ ap₂ (λ (c : Check ℕ) (b : Bool). c >>= λ all. require (not b) (HiddenElsewhere (length other - 1)))
      (walks_same (suc (length other - 1)) (length other - 1) (omega arith) 0) (hidden_same (length other - 1))
      ∙ sym (check_walk_count other)
