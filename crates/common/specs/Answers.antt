-- What the answer of a check stands for in the definitions of `scope`, one to one, and that one check follows another.
use Rattle.std.specs.Prelude.{◌≡◌, Result, Ok, Err, IsErrAnd, refl}
use Rattle.std.proofs.lemmas.Result.{err_from_is_err_and}
use Rattle.std.proofs.Common.{ap, ◌∙◌}
use Rattle.refusal.specs.Answers.{Answer}
use Rattle.std.specs.Prelude.{Ok as Value, Err as Stopped}
use Rattle.scope.specs.Check.{Check, passed, refused, ◌>>=◌}
use Rattle.refusal.specs.declared.Refusal.{Refusal}
use Rattle.common.specs.Checks.{clash}

abbrev pub check_of : Result (Unit {0}) Refusal → Check (Unit {0})
check_of (Ok x) = passed tt
check_of (Err why) = refused why

-- an answer is told by what it stands for
pub check_tells : (c d : Result (Unit {0}) Refusal) → check_of c ≡ check_of d → c ≡ d
check_tells (Ok x) (Ok y) e = refl
check_tells (Ok x) (Err why) e = clash (cc)
check_tells (Err why) (Ok x) e = clash (cc)
check_tells (Err why) (Err other) e = ap Err (cc)

-- as the answer of a job that has nothing to tell
abbrev pub answer_of : Result (Unit {0}) Refusal → Answer
answer_of (Ok x) = Value 0
answer_of (Err why) = Stopped why

-- one check and then the other: the first refusal is the answer
abbrev pub in_turn : (first second : Check (Unit {0})) → Check (Unit {0})
in_turn first second = first >>= λ x. second

-- what `?` hands on of a check that refused
pub handed_on : {X Y : Type 0} {check : Result X Refusal} {why : Refusal} (handed : Result Y Refusal)
    → check ≡ Err why → IsErrAnd handed (λ other. other ≡ why) → handed ≡ Err why
handed_on handed e said = let p = err_from_is_err_and handed said in p.1 ∙ ap Err p.2
