-- What each public call promises has one outcome: over the call's own promise, `Post`, two answers and two stores that are left are the same.
use mathlib.Core.Path.{◌≡◌, sym, ap, ◌∙◌}
use Rattle.refusal.specs.declared.Refusal.{Refusal}
use Rattle.promise.specs.Outcomes.{OneOutcome, ◌&◌}
use Rattle.common.specs.Checks.{clash}
use Rattle.std.specs.Prelude.{Result, Ok, Err}
use Rattle.decode.specs.declared.Sizes.{Sizes}
use Rattle.decode.specs.Answers.{said_of}
use Rattle.decode.specs.Stores.{Left}
use Rattle.decode.proofs.decode.Kinds as decode-kinds
use Rattle.decode.proofs.decode.Reads as decode-reads

-- what an answer says tells it
pub answer_tells : (r q : Result Sizes Refusal) → said_of r ≡ said_of q → r ≡ q
answer_tells (Ok s) (Ok t) e = ap Ok (cc)
answer_tells (Ok s) (Err why) e = clash (cc)
answer_tells (Err why) (Ok t) e = clash (cc)
answer_tells (Err why) (Err other) e = ap Err (cc)

pub decode : OneOutcome 3 decode-kinds.ps decode-kinds.r decode-reads.Post
decode κs a s t v w p q =
    let e = p ∙ sym q in
    let nodes = ap (λ (l : Left). l.nodes) e in
    let hashes = ap (λ (l : Left). l.hashes) e in
    (answer_tells s t (ap (λ (l : Left). l.says) e), λ i. tt & nodes i & hashes i & tt)
