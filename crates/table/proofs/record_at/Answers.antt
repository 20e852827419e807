-- `table::record_at` meets its contract: a node's index is its place.
use mathlib.Core.Path.{ap, ◌∙◌}
use Prim.Native.Nat.{ℕ}
use lib.ListN.{get_or}
use Rattle.scope.specs.Nodes.{node_records}
use Rattle.scope.specs.Stages.{no_record}
use Rattle.table.proofs.record_at.Goals as goal

pub returns : goal.returns
returns c = c.record_in.ensures ∙ ap (λ (k : ℕ). get_or (node_records c.args.nodes.now) k no_record) c.place.ensures.0
