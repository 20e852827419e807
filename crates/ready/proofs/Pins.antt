-- What the public call promises has one outcome: over its own promise, `Post`, two results are the same.
use mathlib.Core.Path.{sym, ◌∙◌}
use Rattle.promise.specs.Outcomes.{OneResult}
use Rattle.ready.proofs.check_run.Kinds as check-run-kinds
use Rattle.ready.proofs.check_run.Reads as check-run-reads

pub check_run : OneResult 5 check-run-kinds.ps check-run-kinds.r check-run-reads.Post
check_run κs a s t x y p q = p ∙ sym q
