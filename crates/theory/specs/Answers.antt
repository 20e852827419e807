-- What is said of a meaning, and what it leaves in the answer store: the value's compact bits, or 18 or 19 at the place where it stops.
-- That a run says and leaves just this is shown in proofs/Answers.
use Rattle.std.specs.Prelude.{List, ℕ, length}
use Rattle.refusal.specs.declared.Refusal.TheVariants.{FailReached, PrunedReached, StoreShort}
use Rattle.refusal.specs.Answers.{Answer}
use Rattle.std.specs.Prelude.{Ok as Value, Err as Refused}
use Rattle.report.specs.Values.{compact}
use Rattle.report.specs.Meaning.{done, failed, pruned, stuck, Means}
use Rattle.scope.specs.Run.{written}

-- what is said of a meaning
unfoldable pub told : Means → Answer
unfolding compact
told (done w) = Value (length (compact w))
told (failed p y) = Refused (FailReached p)
told (pruned p y) = Refused (PrunedReached p)
told stuck = Refused (StoreShort 0)

-- what a meaning leaves in the answer store
unfoldable pub output : Means → List ℕ → List ℕ
unfolding compact written
output (done w) answer = written (compact w) answer
output (failed p y) answer = answer
output (pruned p y) answer = answer
output stuck answer = answer
