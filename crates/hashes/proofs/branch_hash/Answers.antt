-- `hashes::branch_hash` meets its contract: in the hash store, or among the supplied hashes.
use mathlib.Core.Path.{ap, ◌∙◌}
use Prim.Native.Nat.{ℕ}
use lib.ListN.{take, drop}
use Rattle.limits.specs.Limits.{hash_bytes}
use Rattle.promise.specs.Parts.{part_of}
use Rattle.table.specs.Answers.{record_of}
use Rattle.table.proofs.KindNumbers.{of_kind, not_of_kind}
use Rattle.hashes.specs.Branch.{whole_part}
use Rattle.hashes.proofs.Branch.{part_stored, part_supplied}
use Rattle.hashes.proofs.branch_hash.Goals as goal

pub returns-then-eq : goal.returns-then-eq
returns-then-eq c =
    let a = c.args in
    let own = c.record_in-r in
    c.hash_at.ensures
    ∙ ap (λ (at : ℕ). whole_part (part_of a.hashes) at (take hash_bytes (drop at a.hashes.now))) c.place.ensures.0
    ∙ part_stored _ _ _ _ (record_of own.result) own.ensures (of_kind _ _ _ c.eq.ensures c.kind_of.ensures.number c.if-eq.true)

pub returns : goal.returns
returns c =
    let own = c.record_in-r in
    c.supplied.ensures ∙ part_supplied _ _ _ _ (record_of own.result) own.ensures (not_of_kind _ _ _ c.eq.ensures c.kind_of.ensures.number c.if-eq.false)
