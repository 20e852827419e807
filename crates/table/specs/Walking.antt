-- The walk in the pieces in which the code does it: what a node asks of its two children, what a hidden one asks of those before it,
-- and the walk from a child, which does nothing where the child is not below its parent.
use Rattle.std.specs.Prelude.{Bool, true, false, not, List, [], ◌∷◌, ℕ, ◌<◌, ◌≤◌, ltb, length}
use Rattle.limits.specs.Limits.{node_count}
use Rattle.refusal.specs.declared.Refusal.TheVariants.{HiddenElsewhere, BothHidden, NodeRepeated}
use Rattle.report.specs.Nodes.{Node}
use Rattle.scope.specs.Check.{Check, passed, ◌>>=◌, require}
use Rattle.scope.specs.Numbers.{every, any_below}
use Rattle.scope.specs.Nodes.{node_records}
use Rattle.scope.specs.Walk.{hides}
use Rattle.exactness.specs.Walk.{walk_count}
use Rattle.table.specs.Lent.{hash_is}

-- the children of node i, of which these are hidden, under a case or elsewhere
unfoldable pub children_rule : (is_case left right : Bool) → (i : ℕ) → Check (Unit {0})
unfolding ◌>>=◌ require every
children_rule true left right i = require (not (every (left ∷ right ∷ []))) (BothHidden i)
children_rule false left right i = do
  shown ← require (not left) (HiddenElsewhere i)
  require (not right) (HiddenElsewhere i)

-- the hash of node i is that of no hidden node before it
unfoldable pub repeat_rule : (nodes : List Node) → Node → (i : ℕ) → Check (Unit {0})
unfolding require any_below hides
repeat_rule nodes n i = require (not (any_below i (hides nodes (hash_is n)))) (NodeRepeated i)

-- the walk from child j of node i
unfoldable pub child_walk : (nodes : List Node) → (i j k : ℕ) → Check ℕ
unfolding walk_count
child_walk nodes i j k = elim (ltb j i) [ true ↦ walk_count nodes j k | false ↦ passed k ]

-- record i stands in a table that is not too large
abbrev pub Within : (nodes : List ℕ) → (i : ℕ) → Type 0
Within nodes i = (i < length (node_records nodes)) × (length (node_records nodes) ≤ node_count)
