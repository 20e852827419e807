-- What the public call promises has one outcome: over its own promise, `Post`, two results are the same, and so are two of each store as it is left.
use mathlib.Core.Path.{ap, sym, ◌∙◌}
use Rattle.promise.specs.Outcomes.{OneOutcome, ◌&◌}
use Rattle.scope.specs.Run.{Left, left_with}
use Rattle.bit_machine.proofs.run_stage.Kinds as run-stage-kinds
use Rattle.bit_machine.proofs.run_stage.Reads as run-stage-reads

pub run_stage_lem : OneOutcome 5 run-stage-kinds.ps run-stage-kinds.r run-stage-reads.Post
unfolding left_with
run_stage_lem κs a s t v w p q =
    let e = p ∙ sym q in
    let cells = ap (λ (l : Left). l.cells) e in
    let frames = ap (λ (l : Left). l.frames) e in
    let answer = ap (λ (l : Left). l.answer) e in
    (ap (λ (l : Left). l.says) e, λ i. tt & tt & tt & tt & tt & tt & cells i & frames i & answer i & tt)
