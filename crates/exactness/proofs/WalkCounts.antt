-- What a walk by the count has done where it passes: the nodes below the larger of its count before and its node's next,
-- by what the walk over the list of nodes done has done.
use Rattle.std.specs.Prelude.{◌≡◌}
use Rattle.std.proofs.Math.Path.{ap}
use Rattle.std.proofs.Common.{◌∙◌}
use mathlib.Core.List.{List}
use Prim.Native.Nat.{ℕ, suc, ◌<◌, max}
use Rattle.std.proofs.Math.ListN.{length}
use Rattle.report.specs.Nodes.{Node}
use Rattle.report.specs.Canonical.{up_from}
use Rattle.scope.specs.Check.{Check, passed, ◌>>=◌}
use Rattle.exactness.specs.Walk.{walk_count}
use Rattle.exactness.proofs.Walk.{walk_is_count, walk_passed}

module _ (nodes : List Node) where
  pub count_passed : (i k m : ℕ) → i < length nodes → walk_count nodes i k ≡ passed m → m ≡ max k (suc i)
  unfolding ◌>>=◌
  count_passed i k m h e = walk_passed nodes i k m h (walk_is_count nodes i k ∙ ap (λ (c : Check ℕ). c >>= λ m. passed (up_from 0 m)) e)
