-- What the stage of the arrows accepts, in the report's words: tables that keep their rules, with one arrow for each node, both ends of it
-- in the type table, at which the report types the node, and no two equal nodes.
use mathlib.Core.Path.{◌≡◌, ◌∙◌}
use mathlib.Core.Logic.{◌↔◌}
use mathlib.Core.List.{List}
use Prim.Native.Nat.{ℕ, ◌<◌}
use native.Mathlib.Omega.{arith}
use lib.ListN.{length}
use Rattle.report.specs.Canonical.{children}
use Rattle.scope.specs.Check.{passed}
use Rattle.scope.specs.Numbers.{stream_of}
use Rattle.scope.specs.Types.{type_records}
use Rattle.scope.specs.Nodes.{node_records, node_at}
use Rattle.scope.specs.Arrows.{arrow_records, check_arrows}
use Rattle.scope.specs.Stages.{lent_tables, tables_lent, arrow_stage}
use Rattle.common.specs.Checks.{then_passes}
use Rattle.common.specs.Bits.{AllBelow}
use Rattle.exactness.specs.Types.{types_pass}
use Rattle.exactness.specs.NodeTyping.{ArrowsTyped}
use Rattle.exactness.specs.Equal.{NoneEqual}
use Rattle.exactness.proofs.Arrows.{arrows_typed, typed_arrows}
use Rattle.common.specs.Nodes.{length_nodes}
use Rattle.stages.proofs.Passed.{nodes_in, LentPassed, lent_passed, lent_below, stage_passed}

module _ (types nodes arrows program hashes : List ℕ) where
  below : LentPassed types nodes program hashes → (i : ℕ) → i < length (nodes_in nodes program hashes) → AllBelow i
      (children (node_at (nodes_in nodes program hashes) i))
  below p i h = lent_below types nodes program hashes p i (omega (arith, length_nodes (stream_of program) hashes (node_records nodes)))

  -- THE STAGE OF THE ARROWS PASSES EXACTLY IF THE TABLES DO, EVERY NODE HAS THE REPORT'S TYPING AT ITS ARROW, AND NO TWO NODES ARE EQUAL
  pub stage_typed : (arrow_stage types nodes arrows program hashes ≡ passed tt)
      ↔ ((lent_tables types nodes program hashes ≡ passed tt) × ArrowsTyped (type_records types) (nodes_in nodes program hashes) (arrow_records arrows)
      × NoneEqual (nodes_in nodes program hashes) (arrow_records arrows))
  unfolding arrow_stage tables_lent
  stage_typed = (
    (λ e.
        let a = stage_passed types nodes program hashes arrows e in
        let p = lent_passed types nodes program hashes a.0 in
        let t = arrows_typed (type_records types) (types_pass (type_records types) p.types_kept) (nodes_in nodes program hashes) (arrow_records arrows)
        (below p) a.1 in
        (a.0, t.0, t.1)),
    (λ h.
        let p = lent_passed types nodes program hashes h.0 in
        then_passes (lent_tables types nodes program hashes)
        (λ tables. check_arrows (type_records types) (nodes_in nodes program hashes) (arrow_records arrows)) tt h.0
        ∙ typed_arrows (type_records types) (types_pass (type_records types) p.types_kept) (nodes_in nodes program hashes) (arrow_records arrows)
        (below p) h.1 h.2),
  )
