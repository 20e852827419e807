-- What each public call promises has one outcome: over the call's own promise, `Post`, two results are the same.
use mathlib.Core.Path.{◌≡◌, sym, ap, ◌∙◌}
use Rattle.scope.specs.Arrows.{Arrow}
use Rattle.promise.specs.Outcomes.{OneResult}
use Rattle.common.specs.Answers.{check_tells}
use Rattle.arrow.specs.Answers.{arrow_of}
use Rattle.arrow.specs.declared.Arrow.{Arrow as Lent}
use Rattle.arrow.proofs.arrow_at.Kinds as arrow-at-kinds
use Rattle.arrow.proofs.arrow_at.Reads as arrow-at-reads
use Rattle.arrow.proofs.arrow_fits.Kinds as arrow-fits-kinds
use Rattle.arrow.proofs.arrow_fits.Reads as arrow-fits-reads
use Rattle.arrow.proofs.check_arrows.Kinds as check-arrows-kinds
use Rattle.arrow.proofs.check_arrows.Reads as check-arrows-reads

-- an arrow's numbers tell it
arrow_tells : (a b : Lent) → arrow_of a ≡ arrow_of b → a ≡ b
arrow_tells a b e = ap (λ (x : Arrow). record { source = x.source; target = x.target }) e

pub arrow_at : OneResult 1 arrow-at-kinds.ps arrow-at-kinds.r arrow-at-reads.Post
arrow_at κs a s t x y p q = arrow_tells s t (p ∙ sym q)

pub arrow_fits : OneResult 3 arrow-fits-kinds.ps arrow-fits-kinds.r arrow-fits-reads.Post
arrow_fits κs a s t x y p q = p ∙ sym q

pub check_arrows_lem : OneResult 2 check-arrows-kinds.ps check-arrows-kinds.r check-arrows-reads.Post
check_arrows_lem κs a s t x y p q = check_tells s t (p ∙ sym q)
