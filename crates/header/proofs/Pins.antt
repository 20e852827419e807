-- What each public call promises has one outcome: over the call's own promise, `Post`, two results are the same, and two parts stand at the same place.
use mathlib.Core.Path.{sym, ◌∙◌}
use Rattle.promise.specs.Outcomes.{OneResult, OneSeen}
use Rattle.promise.specs.Parts.{part_of}
use Rattle.common.specs.Answers.{check_tells}
use Rattle.header.proofs.check_header.Kinds as check-header-kinds
use Rattle.header.proofs.check_header.Reads as check-header-reads
use Rattle.header.proofs.count.Kinds as count-kinds
use Rattle.header.proofs.count.Reads as count-reads
use Rattle.header.proofs.opened.Kinds as opened-kinds
use Rattle.header.proofs.opened.Reads as opened-reads
use Rattle.header.proofs.SectionName.count.Kinds as named-count-kinds
use Rattle.header.proofs.SectionName.count.Reads as named-count-reads
use Rattle.header.proofs.SectionName.index.Kinds as named-index-kinds
use Rattle.header.proofs.SectionName.index.Reads as named-index-reads
use Rattle.header.proofs.SectionName.of.Kinds as named-of-kinds
use Rattle.header.proofs.SectionName.of.Reads as named-of-reads
use Rattle.header.proofs.SectionName.opened.Kinds as named-opened-kinds
use Rattle.header.proofs.SectionName.opened.Reads as named-opened-reads
use Rattle.header.proofs.section.Kinds as section-kinds
use Rattle.header.proofs.section.Reads as section-reads

pub check_header_lem : OneResult 1 check-header-kinds.ps check-header-kinds.r check-header-reads.Post
check_header_lem κs a s t x y p q = check_tells s t (p ∙ sym q)

pub count : OneResult 1 count-kinds.ps count-kinds.r count-reads.Post
count κs a s t x y p q = p ∙ sym q

pub opened : OneSeen 1 opened-kinds.ps opened-kinds.r (λ κs. part_of) opened-reads.Post
opened κs a s t x y p q = p ∙ sym q

pub section : OneSeen 1 section-kinds.ps section-kinds.r (λ κs. part_of) section-reads.Post
section κs a s t x y p q = p ∙ sym q

-- of the sections by name
pub named_index : OneResult 0 named-index-kinds.ps named-index-kinds.r named-index-reads.Post
named_index κs a s t x y p q = p ∙ sym q

pub named_count : OneResult 1 named-count-kinds.ps named-count-kinds.r named-count-reads.Post
named_count κs a s t x y p q = p ∙ sym q

pub named_opened : OneSeen 1 named-opened-kinds.ps named-opened-kinds.r (λ κs. part_of) named-opened-reads.Post
named_opened κs a s t x y p q = p ∙ sym q

pub named_of : OneSeen 1 named-of-kinds.ps named-of-kinds.r (λ κs. part_of) named-of-reads.Post
named_of κs a s t x y p q = p ∙ sym q
