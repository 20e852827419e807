-- What each public call promises has one outcome: over the call's own promise, `Post`, two results, and a store that is left, are the same.
use mathlib.Core.Path.{sym, ◌∙◌}
use denote.RattleType.{RattleType}
use denote.Param.Laws.{Laws, IsCopy}
use mir.Syntax.{Dict}
use Rattle.std.specs.declared.clone.Clone.{Ghosts}
use Rattle.promise.specs.Outcomes.{OneResult, OneSeen, OneOutcome, ◌&◌}
use Rattle.promise.specs.Parts.{part_of}
use Rattle.common.specs.Answers.{check_tells}
use Rattle.common.proofs.answer_of.Kinds as answer-of-kinds
use Rattle.common.proofs.answer_of.Reads as answer-of-reads
use Rattle.common.proofs.entry_or.Kinds as entry-or-kinds
use Rattle.common.proofs.entry_or.Reads as entry-or-reads
use Rattle.common.proofs.fill_from.Kinds as fill-from-kinds
use Rattle.common.proofs.fill_from.Reads as fill-from-reads
use Rattle.common.proofs.check_count.Kinds as check-count-kinds
use Rattle.common.proofs.check_count.Reads as check-count-reads
use Rattle.common.proofs.first_refusal.Kinds as first-refusal-kinds
use Rattle.common.proofs.first_refusal.Reads as first-refusal-reads
use Rattle.common.proofs.index.Kinds as index-kinds
use Rattle.common.proofs.index.Reads as index_Reads
use Rattle.common.proofs.place.Kinds as place-kinds
use Rattle.common.proofs.place.Reads as place-reads
use Rattle.common.proofs.wide.Kinds as wide-kinds
use Rattle.common.proofs.wide.Reads as wide-reads
use Rattle.common.proofs.half_at.Kinds as half-at-kinds
use Rattle.common.proofs.half_at.Reads as half-at-reads
use Rattle.common.proofs.number_at.Kinds as number-at-kinds
use Rattle.common.proofs.number_at.Reads as number-at-reads
use Rattle.common.proofs.part.Kinds as part-kinds
use Rattle.common.proofs.part.Reads as part-reads
use Rattle.common.proofs.same_bytes.Kinds as same-bytes-kinds
use Rattle.common.proofs.same_bytes.Reads as same-bytes-reads
use Rattle.common.proofs.bytes_for.Kinds as bytes-for-kinds
use Rattle.common.proofs.bytes_for.Reads as bytes-for-reads
use Rattle.common.proofs.word_bits.Kinds as word-bits-kinds
use Rattle.common.proofs.word_bits.Reads as word-bits-reads

pub first_refusal : OneResult 0 first-refusal-kinds.ps first-refusal-kinds.r first-refusal-reads.Post
first_refusal κs a s t x y p q = check_tells s t (p ∙ sym q)

pub check_count : OneResult 0 check-count-kinds.ps check-count-kinds.r check-count-reads.Post
check_count κs a s t x y p q = check_tells s t (p ∙ sym q)

pub answer_of_lem : OneResult 0 answer-of-kinds.ps answer-of-kinds.r answer-of-reads.Post
answer_of_lem κs a s t x y p q = p ∙ sym q

pub index : OneResult 0 index-kinds.ps index-kinds.r index_Reads.Post
index κs a s t x y p q = p.0 ∙ sym q.0

pub place : OneResult 0 place-kinds.ps place-kinds.r place-reads.Post
place κs a s t x y p q = p.0 ∙ sym q.0

pub wide : OneResult 0 wide-kinds.ps wide-kinds.r wide-reads.Post
wide κs a s t x y p q = p.0 ∙ sym q.0

pub half_at : OneResult 1 half-at-kinds.ps half-at-kinds.r half-at-reads.Post
half_at κs a s t x y p q = p ∙ sym q

pub number_at : OneResult 1 number-at-kinds.ps number-at-kinds.r number-at-reads.Post
number_at κs a s t x y p q = p ∙ sym q

pub part : OneSeen 1 part-kinds.ps part-kinds.r (λ κs. part_of) part-reads.Post
part κs a s t x y p q = p ∙ sym q

pub same_bytes : OneResult 2 same-bytes-kinds.ps same-bytes-kinds.r same-bytes-reads.Post
same_bytes κs a s t x y p q = p ∙ sym q

pub bytes_for_lem : OneResult 0 bytes-for-kinds.ps bytes-for-kinds.r bytes-for-reads.Post
bytes_for_lem κs a s t x y p q = p.0 ∙ sym q.0

pub word_bits_lem : OneResult 0 word-bits-kinds.ps word-bits-kinds.r word-bits-reads.Post
word_bits_lem κs a s t x y p q = p.0 ∙ sym q.0

-- of the calls over every type that may be copied
module _ (T : RattleType) (laws : Laws T) (copied : IsCopy T) (clones : Ghosts T.Denot) (dict : Dict) where
  pub entry_or : OneResult 2 (entry-or-kinds.ps T laws copied) (entry-or-kinds.r T laws copied) (entry-or-reads.Post T laws copied clones dict)
  entry_or κs a s t x y p q = p ∙ sym q

  pub fill_from : OneOutcome 2 (fill-from-kinds.ps T laws copied) (fill-from-kinds.r T laws copied) (fill-from-reads.Post T laws copied clones dict)
  fill_from κs a s t v w p q = let e = p ∙ sym q in (λ i. tt, λ i. e i & tt & tt & tt)
