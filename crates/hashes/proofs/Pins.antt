-- What each public call promises has one outcome: over the call's own promise, `Post`, two results are the same, and two parts stand at the same place.
use mathlib.Core.Path.{sym, ◌∙◌}
use Rattle.promise.specs.Outcomes.{OneResult, OneSeen}
use Rattle.promise.specs.Parts.{part_of}
use Rattle.common.specs.Answers.{check_tells}
use Rattle.hashes.proofs.branch_hash.Kinds as branch-hash-kinds
use Rattle.hashes.proofs.branch_hash.Reads as branch-hash-reads
use Rattle.hashes.proofs.check_hashes.Kinds as check-hashes-kinds
use Rattle.hashes.proofs.check_hashes.Reads as check-hashes-reads

pub check_hashes_lem : OneResult 2 check-hashes-kinds.ps check-hashes-kinds.r check-hashes-reads.Post
check_hashes_lem κs a s t x y p q = check_tells s t (p ∙ sym q)

pub branch_hash_lem : OneSeen 2 branch-hash-kinds.ps branch-hash-kinds.r (λ κs. part_of) branch-hash-reads.Post
branch_hash_lem κs a s t x y p q = p ∙ sym q
