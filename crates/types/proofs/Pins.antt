-- What each public call promises has one outcome: over the call's own promise, `Post`, two results are the same.
use mathlib.Core.Path.{sym, ◌∙◌}
use Rattle.promise.specs.Outcomes.{OneResult}
use Rattle.common.specs.Answers.{check_tells}
use Rattle.types.proofs.check_types.Kinds as check-types-kinds
use Rattle.types.proofs.check_types.Reads as check-types-reads
use Rattle.types.proofs.record_at.Kinds as record-at-kinds
use Rattle.types.proofs.record_at.Reads as record-at-reads
use Rattle.types.proofs.is_unit.Kinds as is-unit-kinds
use Rattle.types.proofs.is_unit.Reads as is-unit-reads
use Rattle.types.proofs.is_sum.Kinds as is-sum-kinds
use Rattle.types.proofs.is_sum.Reads as is-sum-reads
use Rattle.types.proofs.is_product.Kinds as is-product-kinds
use Rattle.types.proofs.is_product.Reads as is-product-reads
use Rattle.types.proofs.left_of.Kinds as left-of-kinds
use Rattle.types.proofs.left_of.Reads as left-of-reads
use Rattle.types.proofs.right_of.Kinds as right-of-kinds
use Rattle.types.proofs.right_of.Reads as right-of-reads
use Rattle.types.proofs.is_word.Kinds as is-word-kinds
use Rattle.types.proofs.is_word.Reads as is-word-reads
use Rattle.types.proofs.left_width.Kinds as left-width-kinds
use Rattle.types.proofs.left_width.Reads as left-width-reads
use Rattle.types.proofs.type_count.Kinds as type-count-kinds
use Rattle.types.proofs.type_count.Reads as type-count-reads
use Rattle.types.proofs.without_count.Kinds as without-count-kinds
use Rattle.types.proofs.without_count.Reads as without-count-reads
use Rattle.types.proofs.types_hold.Kinds as types-hold-kinds
use Rattle.types.proofs.types_hold.Reads as types-hold-reads

pub record_at_lem : OneResult 1 record-at-kinds.ps record-at-kinds.r record-at-reads.Post
record_at_lem κs a s t x y p q = p ∙ sym q

pub is_unit_lem : OneResult 1 is-unit-kinds.ps is-unit-kinds.r is-unit-reads.Post
is_unit_lem κs a s t x y p q = p ∙ sym q

pub is_sum_lem : OneResult 1 is-sum-kinds.ps is-sum-kinds.r is-sum-reads.Post
is_sum_lem κs a s t x y p q = p ∙ sym q

pub is_product_lem : OneResult 1 is-product-kinds.ps is-product-kinds.r is-product-reads.Post
is_product_lem κs a s t x y p q = p ∙ sym q

pub left_of_lem : OneResult 1 left-of-kinds.ps left-of-kinds.r left-of-reads.Post
left_of_lem κs a s t x y p q = p ∙ sym q

pub right_of_lem : OneResult 1 right-of-kinds.ps right-of-kinds.r right-of-reads.Post
right_of_lem κs a s t x y p q = p ∙ sym q

pub is_word_lem : OneResult 1 is-word-kinds.ps is-word-kinds.r is-word-reads.Post
is_word_lem κs a s t x y p q = p ∙ sym q

pub left_width : OneResult 2 left-width-kinds.ps left-width-kinds.r left-width-reads.Post
left_width κs a s t x y p q = p ∙ sym q

pub check_types_lem : OneResult 1 check-types-kinds.ps check-types-kinds.r check-types-reads.Post
check_types_lem κs a s t x y p q = p ∙ sym q

pub type_count_lem : OneResult 1 type-count-kinds.ps type-count-kinds.r type-count-reads.Post
type_count_lem κs a s t x y p q = check_tells s t (p ∙ sym q)

pub without_count_lem : OneResult 0 without-count-kinds.ps without-count-kinds.r without-count-reads.Post
without_count_lem κs a s t x y p q = check_tells s t (p ∙ sym q)

pub types_hold : OneResult 1 types-hold-kinds.ps types-hold-kinds.r types-hold-reads.Post
types_hold κs a s t x y p q = check_tells s t (p ∙ sym q)
