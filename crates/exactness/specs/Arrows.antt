-- What the check of all arrows asks, node by node: an arrow for each node, in range and of the node's kind.
-- It says nothing of equal nodes, which the same check refuses.
use Rattle.std.specs.Prelude.{◌≡◌, List}
use Rattle.std.proofs.Math.Bool.{true}
use Prim.Native.Nat.{ℕ, ◌<◌}
use Rattle.std.proofs.Math.ListN.{length}
use Rattle.report.specs.Nodes.{Node}
use Rattle.scope.specs.Types.{TypeRecord}
use Rattle.scope.specs.Arrows.{Arrow}
use Rattle.scope.specs.Arrows.{arrow_rule}

module _ (types : List TypeRecord) (nodes : List Node) (arrows : List Arrow) where
  -- one arrow for each node, and each keeps its rule
  abbrev pub RulesHold : Type 0
  RulesHold = (length arrows ≡ length nodes) × ((i : ℕ) → i < length nodes → arrow_rule types nodes arrows i ≡ true)
