-- What each public call promises has one outcome: over the call's own promise, `Post`, two results are the same.
use mathlib.Core.Path.{sym, ◌∙◌}
use Rattle.promise.specs.Outcomes.{OneResult}
use Rattle.lookup.proofs.around_at.Kinds as around-at-kinds
use Rattle.lookup.proofs.around_at.Reads as around-at-reads
use Rattle.lookup.proofs.kept_width.Kinds as kept-width-kinds
use Rattle.lookup.proofs.kept_width.Reads as kept-width-reads
use Rattle.lookup.proofs.padding_at.Kinds as padding-at-kinds
use Rattle.lookup.proofs.padding_at.Reads as padding-at-reads
use Rattle.lookup.proofs.position_at.Kinds as position-at-kinds
use Rattle.lookup.proofs.position_at.Reads as position-at-reads
use Rattle.lookup.proofs.source_at.Kinds as source-at-kinds
use Rattle.lookup.proofs.source_at.Reads as source-at-reads
use Rattle.lookup.proofs.source_width.Kinds as source-width-kinds
use Rattle.lookup.proofs.source_width.Reads as source-width-reads
use Rattle.lookup.proofs.target_at.Kinds as target-at-kinds
use Rattle.lookup.proofs.target_at.Reads as target-at-reads
use Rattle.lookup.proofs.target_width.Kinds as target-width-kinds
use Rattle.lookup.proofs.target_width.Reads as target-width-reads

pub around_at : OneResult 4 around-at-kinds.ps around-at-kinds.r around-at-reads.Post
around_at κs a s t x y p q = p ∙ sym q

pub kept_width_lem : OneResult 3 kept-width-kinds.ps kept-width-kinds.r kept-width-reads.Post
kept_width_lem κs a s t x y p q = p ∙ sym q

pub padding_at : OneResult 2 padding-at-kinds.ps padding-at-kinds.r padding-at-reads.Post
padding_at κs a s t x y p q = p ∙ sym q

pub position_at_lem : OneResult 1 position-at-kinds.ps position-at-kinds.r position-at-reads.Post
position_at_lem κs a s t x y p q = p ∙ sym q

pub source_at_lem : OneResult 1 source-at-kinds.ps source-at-kinds.r source-at-reads.Post
source_at_lem κs a s t x y p q = p ∙ sym q

pub source_width_lem : OneResult 2 source-width-kinds.ps source-width-kinds.r source-width-reads.Post
source_width_lem κs a s t x y p q = p ∙ sym q

pub target_at : OneResult 1 target-at-kinds.ps target-at-kinds.r target-at-reads.Post
target_at κs a s t x y p q = p ∙ sym q

pub target_width_lem : OneResult 2 target-width-kinds.ps target-width-kinds.r target-width-reads.Post
target_width_lem κs a s t x y p q = p ∙ sym q
