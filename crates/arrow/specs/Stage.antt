-- The pass over the arrows of lent tables. It tests the node count first, so that places and loops stay within bounds.
use Rattle.std.specs.Prelude.{Bool, ℕ, eqb, length}
use Rattle.std.proofs.Math.Bool.{true, false}
use mathlib.Core.List.{List, [], ◌∷◌}
use Rattle.limits.specs.Limits.{node_count}
use Rattle.refusal.specs.declared.Refusal.{Refusal}
use Rattle.refusal.specs.declared.Refusal.TheVariants.{NodeRepeated, OneChildDisconnect, Arrow as BadArrow}
use Rattle.scope.specs.Check.{Check, ◌>>=◌, require, each}
use Rattle.scope.specs.Numbers.{every}
use Rattle.scope.specs.Types.{type_records}
use Rattle.scope.specs.Nodes.{node_records}
use Rattle.scope.specs.Arrows.{arrow_records, no_one_child, arrow_rule}
use Rattle.scope.specs.Stages.{counted}
use Rattle.table.specs.Lent.{lent_nodes}
use Rattle.equal.specs.Keys.{fresh}

module _ (types nodes arrows program hashes : List ℕ) where
  -- node i is fresh and its arrow is right
  unfoldable pub lent_rule : (i : ℕ) → Bool
  unfolding fresh arrow_rule every
  lent_rule i =
      every (fresh nodes arrows program hashes i ∷ arrow_rule (type_records types) (lent_nodes [] nodes) (arrow_records arrows) i ∷ [])

  -- why it is refused where not
  unfoldable pub lent_refusal : (i : ℕ) → Refusal
  unfolding fresh
  lent_refusal i = elim (fresh nodes arrows program hashes i) [ true ↦ BadArrow i | false ↦ NodeRepeated i ]

  -- 4, then 11, the count of the arrows, and node by node 9 and 12
  unfoldable pub counted_arrows : Check (Unit {0})
  unfolding ◌>>=◌ require each counted no_one_child lent_rule lent_refusal
  counted_arrows = do
    some ← counted (length (node_records nodes)) node_count
    paired ← each (length (node_records nodes)) (no_one_child (type_records types) (lent_nodes [] nodes) (arrow_records arrows)) OneChildDisconnect
    count ← require (eqb (length (arrow_records arrows)) (length (node_records nodes))) (BadArrow (length (node_records nodes)))
    each (length (node_records nodes)) lent_rule lent_refusal
