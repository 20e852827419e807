-- What each public call promises has one outcome: over the call's own promise, `Post`, two results, and two stores that are left, are the same.
-- A part that is handed back is told by what it holds. The calls that print promise nothing: what is printed is no result.
use denote.RattleType.{RattleType}
use denote.Param.Laws.{Laws}
use Rattle.std.proofs.Common.{sym, ◌∙◌}
use Rattle.promise.specs.Outcomes.{OneResult, OneSeen, OneOutcome, ◌&◌}
use Rattle.packed.proofs.after_first.Kinds as after-first-kinds
use Rattle.packed.proofs.after_first.Reads as after-first-reads
use Rattle.packed.proofs.counted.Kinds as counted-kinds
use Rattle.packed.proofs.counted.Reads as counted-reads
use Rattle.packed.proofs.first_record.Kinds as first-record-kinds
use Rattle.packed.proofs.first_record.Reads as first-record-reads
use Rattle.packed.proofs.from.Kinds as from-kinds
use Rattle.packed.proofs.from.Reads as from-reads
use Rattle.packed.proofs.FileRecords.of.Kinds as records-of-kinds
use Rattle.packed.proofs.FileRecords.of.Reads as records-of-reads
use Rattle.packed.proofs.front.Kinds as front-kinds
use Rattle.packed.proofs.front.Reads as front_reads
use Rattle.packed.proofs.holds_numbers.Kinds as holds-numbers-kinds
use Rattle.packed.proofs.holds_numbers.Reads as holds-numbers-reads
use Rattle.packed.proofs.laid.Kinds as laid-kinds
use Rattle.packed.proofs.laid.Reads as laid-reads
use Rattle.packed.proofs.number.Kinds as number-kinds
use Rattle.packed.proofs.number.Reads as number-reads
use Rattle.packed.proofs.part.Kinds as part-kinds
use Rattle.packed.proofs.part.Reads as part-reads
use Rattle.packed.proofs.tells.Kinds as tells-kinds
use Rattle.packed.proofs.tells.Reads as tells-reads
use Rattle.packed.proofs.tells_refusal.Kinds as tells-refusal-kinds
use Rattle.packed.proofs.tells_refusal.Reads as tells-refusal-reads

pub number : OneResult 1 number-kinds.ps number-kinds.r number-reads.Post
number κs a s t x y p q = p ∙ sym q

pub tells : OneResult 1 tells-kinds.ps tells-kinds.r tells-reads.Post
tells κs a s t x y p q = p ∙ sym q

pub tells_refusal : OneResult 1 tells-refusal-kinds.ps tells-refusal-kinds.r tells-refusal-reads.Post
tells_refusal κs a s t x y p q = p ∙ sym q

pub from : OneSeen 1 from-kinds.ps from-kinds.r (λ κs. (λ x. x.now)) from-reads.Post
from κs a s t x y p q = p ∙ sym q

pub part : OneSeen 1 part-kinds.ps part-kinds.r (λ κs. (λ x. x.now)) part-reads.Post
part κs a s t x y p q = p ∙ sym q

pub holds_numbers_lem : OneResult 2 holds-numbers-kinds.ps holds-numbers-kinds.r holds-numbers-reads.Post
holds_numbers_lem κs a s t x y p q = p ∙ sym q

pub laid : OneOutcome 2 laid-kinds.ps laid-kinds.r laid-reads.Post
laid κs a s t v w p q = let e = p ∙ sym q in (λ i. (e i).0, λ i. tt & (e i).1 & tt)

pub first_record_lem : OneSeen 1 first-record-kinds.ps first-record-kinds.r (λ κs. (λ x. x.now)) first-record-reads.Post
first_record_lem κs a s t x y p q = p ∙ sym q

pub after_first_lem : OneSeen 1 after-first-kinds.ps after-first-kinds.r (λ κs. (λ x. x.now)) after-first-reads.Post
after_first_lem κs a s t x y p q = p ∙ sym q

pub records_of : OneSeen 1 records-of-kinds.ps records-of-kinds.r (λ κs. (λ x. x.rest.now)) records-of-reads.Post
records_of κs a s t x y p q = p ∙ sym q

pub counted : OneResult 0 counted-kinds.ps counted-kinds.r counted-reads.Post
counted κs a s t x y p q = p ∙ sym q

-- of the calls over every type
module _ (T : RattleType) (laws : Laws T) where
  pub front : OneSeen 2 (front-kinds.ps T laws) (front-kinds.r T laws) (λ κs. (λ x. x.now)) (front_reads.Post T laws)
  front κs a s t x y p q = p ∙ sym q
