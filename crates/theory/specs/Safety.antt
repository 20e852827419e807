-- Good: a meaning that is not stuck and whose value is one of a type. That typed terms have such meanings is shown in proofs/Safety.
-- It says which ends a run may have: a value of the target, a fail node or a pruned branch.
use Rattle.std.specs.Prelude.{ℕ}
use Rattle.report.specs.Types.{Ty}
use Rattle.report.specs.Values.{Val, HasTy}
use Rattle.report.specs.Meaning.{done, failed, pruned, Means}

-- a meaning that is not stuck, and whose value is one of the type B
pub data Good (B : Ty) : Means → Type 0 where
  good_value : {w : Val} → HasTy w B → Good B (done w)
  good_fail : {p : ℕ} → Good B (failed p tt)
  good_prune : {p : ℕ} → Good B (pruned p tt)
