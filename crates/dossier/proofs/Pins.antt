-- What the whole job promises has one outcome: over its own promise, `Post`, two answers and two sets of stores that are left are the same.
use mathlib.Core.Path.{sym, ap, ◌∙◌}
use Rattle.promise.specs.Outcomes.{OneOutcome, ◌&◌}
use Rattle.scope.specs.Run.{Ended, ended_with}
use Rattle.dossier.proofs.run.Kinds as run-kinds
use Rattle.dossier.proofs.run.Reads as run-reads

pub run : OneOutcome 6 run-kinds.ps run-kinds.r run-reads.Post
unfolding ended_with
run κs a s t v w p q =
    let e = p ∙ sym q in
    let nodes = ap (λ (e : Ended). e.nodes) e in
    let hashes = ap (λ (e : Ended). e.hashes) e in
    let cells = ap (λ (e : Ended). e.cells) e in
    let frames = ap (λ (e : Ended). e.frames) e in
    let answer = ap (λ (e : Ended). e.answer) e in
    (ap (λ (e : Ended). e.says) e, λ i. tt & nodes i & hashes i & cells i & frames i & answer i & tt)
