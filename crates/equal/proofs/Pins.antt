-- What each public call promises has one outcome: over the call's own promise, `Post`, two results are the same.
use mathlib.Core.Path.{sym, ◌∙◌}
use Rattle.promise.specs.Outcomes.{OneResult}
use Rattle.equal.proofs.first_repeat.Kinds as first-repeat-kinds
use Rattle.equal.proofs.first_repeat.Reads as first-repeat-reads

pub first_repeat_lem : OneResult 4 first-repeat-kinds.ps first-repeat-kinds.r first-repeat-reads.Post
first_repeat_lem κs a s t x y p q = p ∙ sym q
