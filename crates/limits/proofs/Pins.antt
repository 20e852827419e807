-- What each public call promises has one outcome: over the call's own promise, `Post`, two results are the same.
use mathlib.Core.Path.{sym, ◌∙◌}
use Rattle.promise.specs.Outcomes.{OneResult}
use Rattle.limits.proofs.every_limit.Kinds as every-limit-kinds
use Rattle.limits.proofs.every_limit.Reads as every-limit-reads

pub every_limit_lem : OneResult 0 every-limit-kinds.ps every-limit-kinds.r every-limit-reads.Post
every_limit_lem κs a s t x y p q = p ∙ sym q
