-- What each way out of the pass over the arrows answers, of the checks that it is made of.
use mathlib.Core.Path.{◌≡◌, ap, ◌∙◌}
use mathlib.Core.List.{List, []}
use Prim.Native.Nat.{ℕ}
use lib.Dec.{eqb}
use lib.ListN.{length}
use Rattle.std.specs.Borrow.{Bor}
use Rattle.limits.specs.Limits.{node_count}
use Rattle.refusal.specs.declared.Refusal.TheVariants.{OneChildDisconnect, Arrow as BadArrow}
use Rattle.scope.specs.Check.{Check, passed, ◌>>=◌, require, each}
use Rattle.scope.specs.Types.{type_records}
use Rattle.scope.specs.Nodes.{node_records}
use Rattle.scope.specs.Arrows.{arrow_records, no_one_child}
use Rattle.scope.specs.Stages.{counted}
use Rattle.table.specs.Lent.{lent_nodes}
use Rattle.common.specs.Checks.{passes}
use Rattle.arrow.specs.Stage.{lent_rule, lent_refusal, counted_arrows}

module _ (types nodes arrows program hashes : List ℕ) where
  -- no disconnect with one child, one arrow for each node, and every node judged
  abbrev pub whole : Check (Unit {0})
  whole = each (length (node_records nodes)) (no_one_child (type_records types) (lent_nodes [] nodes) (arrow_records arrows)) OneChildDisconnect

  abbrev pub one_each : Check (Unit {0})
  one_each = require (eqb (length (arrow_records arrows)) (length (node_records nodes))) (BadArrow (length (node_records nodes)))

  abbrev pub judged : Check (Unit {0})
  judged = each (length (node_records nodes)) (lent_rule types nodes arrows program hashes) (lent_refusal types nodes arrows program hashes)

  -- the pass, once the count of the nodes is fine
  module _ (some : counted (length (node_records nodes)) node_count ≡ passed tt) where
    pub arrows_counted : (whole >>= λ one. one_each >>= λ count. judged) ≡ counted_arrows types nodes arrows program hashes
    unfolding counted_arrows
    arrows_counted = passes some (λ x. whole >>= λ one. one_each >>= λ count. judged)

-- the same of a counted table of these nodes
pub table_counted : (types arrows program hashes : List ℕ) (lent nodes : Bor (List ℕ)) → lent ≡ nodes
    → counted (length (node_records nodes.now)) node_count ≡ passed tt
    → (whole types lent.now arrows program hashes >>= λ one. one_each types lent.now arrows program hashes
    >>= λ count. judged types lent.now arrows program hashes) ≡ counted_arrows types nodes.now arrows program hashes
table_counted types arrows program hashes lent nodes same some =
    arrows_counted types lent.now arrows program hashes (ap (λ (n : Bor (List ℕ)). counted (length (node_records n.now)) node_count) same ∙ some)
    ∙ ap (λ (n : Bor (List ℕ)). counted_arrows types n.now arrows program hashes) same
