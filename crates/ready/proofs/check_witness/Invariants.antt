-- `ready::check_witness` meets its contract: the walk has come to node i with p bits passed, and the array holds the positions of the nodes before.
use mathlib.Core.List.{List}
use mathlib.Core.Path.{◌≡◌}
use Prim.Native.Nat.{ℕ, ◌≤◌}
use lib.ListN.{length}
use Rattle.scope.specs.Arrows.{arrow_records}
use Rattle.scope.specs.Nodes.{node_records, nodes_of}
use Rattle.scope.specs.Types.{type_records}
use Rattle.limits.specs.Limits.{node_count}
use Rattle.ready.proofs.Walks.{Come}
use Rattle.ready.proofs.check_witness.Given as goal

abbrev pub invariant-loop-i : goal.invariant-loop-i
invariant-loop-i l =
    ((bits hashes : List ℕ) → Come (type_records l.shapes.shapes.types.now) (nodes_of bits hashes (node_records l.table.nodes.now)) (arrow_records l.arrows)
    l.witness l.count l.i l.p l.positions)
    × (l.i ≤ l.n)
    × (l.n ≡ length (node_records l.table.nodes.now))
    × (l.p ≤ l.count)
    × (length l.positions ≡ node_count)
