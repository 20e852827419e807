-- What each public call promises has one outcome: over the call's own promise, `Post`, two results are the same.
use mathlib.Core.Path.{sym, ◌∙◌}
use Rattle.promise.specs.Outcomes.{OneResult}
use Rattle.refusal.proofs.keeps_table.Kinds as keeps-table-kinds
use Rattle.refusal.proofs.keeps_table.Reads as keeps-table-reads
use Rattle.refusal.proofs.number.Kinds as number-kinds
use Rattle.refusal.proofs.number.Reads as number-reads
use Rattle.refusal.proofs.place.Kinds as place-kinds
use Rattle.refusal.proofs.place.Reads as place-reads

pub number : OneResult 0 number-kinds.ps number-kinds.r number-reads.Post
number κs a s t x y p q = p ∙ sym q

pub place : OneResult 0 place-kinds.ps place-kinds.r place-reads.Post
place κs a s t x y p q = p ∙ sym q

pub keeps_table_lem : OneResult 0 keeps-table-kinds.ps keeps-table-kinds.r keeps-table-reads.Post
keeps_table_lem κs a s t x y p q = p ∙ sym q
