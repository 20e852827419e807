-- The left-first walk from the last node, each node once, when its children are done. The k-th done, from 0, must be node k (6).
-- Hidden children are allowed only under case (7), one at most (8); no hidden hash twice (9); the last node is not hidden (7).
-- `A9 40 20` is unit, iden, comp(0, 1): from node 2 the nodes done grow from [] to [0], [0, 1] and [0, 1, 2].
-- `A9 40 10` is unit, iden, comp(1, 0): its left child, node 1, comes while nothing is done, so it is 6 at 0.
use Rattle.std.specs.Prelude.{Bool, not, ℕ, ◌-◌, eqb}
use Rattle.std.proofs.Math.Bool.{true, false}
use mathlib.Core.List.{List, [], ◌∷◌, ◌++◌}
use Rattle.std.proofs.Math.ListN.{length, get_or}
use Rattle.refusal.specs.declared.Refusal.TheVariants.{CanonicalOrder, HiddenElsewhere, BothHidden, NodeRepeated}
use Rattle.report.specs.Table.{entries}
use Rattle.report.specs.Nodes.{Node, comp, case, pair, disconnect, injl, injr, take, drop, disconnect1, iden, unit, witness, fail, hidden, word}
use Rattle.report.specs.Canonical.{children, is_done}
use Rattle.scope.specs.Check.{Check, passed, ◌>>=◌, require}
use Rattle.scope.specs.Numbers.{every, any_below, same}
use Rattle.scope.specs.Nodes.{node_at, on_hidden}

module _ (nodes : List Node) where
  -- node j is hidden
  unfoldable pub hidden_at : (j : ℕ) → Bool
  unfolding node_at on_hidden
  hidden_at j = on_hidden (node_at nodes j) (λ hash. true) false

  -- node j is hidden and has this hash
  unfoldable pub hides : (hash : List ℕ) → (j : ℕ) → Bool
  unfolding node_at on_hidden same
  hides hash j = on_hidden (node_at nodes j) (λ other. same other hash) false

  -- none of the children of node i is hidden
  unfoldable pub none_hidden : (i : ℕ) → List ℕ → Check (Unit {0})
  unfolding ◌>>=◌ require hidden_at
  none_hidden i [] = passed tt
  none_hidden i (j ∷ js) = do
    shown ← require (not (hidden_at j)) (HiddenElsewhere i)
    none_hidden i js

  -- what a node asks once it is known to be node i: of its children, or of the hidden nodes before it
  unfoldable pub allowed : (i : ℕ) → Node → Check (Unit {0})
  unfolding require none_hidden hidden_at any_below hides every
  allowed i (comp a b) = none_hidden i (a ∷ b ∷ [])
  allowed i (case a b) = require (not (every (hidden_at a ∷ hidden_at b ∷ []))) (BothHidden i)
  allowed i (pair a b) = none_hidden i (a ∷ b ∷ [])
  allowed i (disconnect a b) = none_hidden i (a ∷ b ∷ [])
  allowed i (injl a) = none_hidden i (a ∷ [])
  allowed i (injr a) = none_hidden i (a ∷ [])
  allowed i (take a) = none_hidden i (a ∷ [])
  allowed i (drop a) = none_hidden i (a ∷ [])
  allowed i (disconnect1 a) = none_hidden i (a ∷ [])
  allowed i iden = passed tt
  allowed i unit = passed tt
  allowed i witness = passed tt
  allowed i (fail bytes) = passed tt
  allowed i (hidden hash) = require (not (any_below i (hides hash))) (NodeRepeated i)
  allowed i (word n bits) = passed tt

  -- a walk takes the list of the nodes done before it to the list of those done after it, or refuses
  abbrev pub Walk : Type 0
  Walk = List ℕ → Check (List ℕ)

  unfoldable pub walk_each : List Walk → List ℕ → Walk
  unfolding ◌>>=◌
  walk_each walks [] done = passed done
  walk_each walks (j ∷ js) done = (get_or walks j (λ d. passed d)) done >>= λ done. walk_each walks js done

  -- the walk from a node, of the walks from the nodes before it
  unfoldable pub walk_make : List Walk → Node → Walk
  unfolding ◌>>=◌ require is_done children walk_each allowed
  walk_make walks n done =
      let i = length walks in
      elim (is_done i done) [
        | true ↦ passed done
        | false ↦ (do
          done ← walk_each walks (children n) done
          next ← require (eqb i (length done)) (CanonicalOrder (length done))
          fine ← allowed i n
          passed (done ++ i ∷ []))
      ]

  -- the walk from node i
  unfoldable pub walk_from : (i : ℕ) → Walk
  unfolding entries walk_make
  walk_from i = get_or (entries walk_make nodes) i (λ d. passed d)

  -- the whole walk: from the last node, which must not be hidden
  unfoldable pub check_walk : Check (Unit {0})
  unfolding ◌>>=◌ require walk_from hidden_at
  check_walk = do
    all ← walk_from (length nodes - 1) []
    require (not (hidden_at (length nodes - 1))) (HiddenElsewhere (length nodes - 1))
