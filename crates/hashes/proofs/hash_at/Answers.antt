-- `hashes::hash_at` meets its contract: the part is whole, or the empty one.
use mathlib.Core.Path.{ap, sym, ◌∙◌}
use lib.ListN.{length}
use Rattle.promise.specs.Parts.{Part}
use Rattle.hashes.proofs.Branch.{part_there, part_missing}
use Rattle.hashes.proofs.hash_at.Goals as goal

pub returns-then-hash-eq-HASH_BYTES : goal.returns-then-hash-eq-HASH_BYTES
returns-then-hash-eq-HASH_BYTES c =
    let cut-is = c.part-hash.ensures in
    cut-is ∙ part_there _ _ _ (sym (ap (λ (p : Part). length p.bytes) cut-is) ∙ c.if-hash-eq-HASH_BYTES.true)

pub returns : goal.returns
returns c =
    let cut-is = c.part-hash.ensures in
    c.part.ensures ∙ part_missing _ _ _ (λ e. c.if-hash-eq-HASH_BYTES.false (ap (λ (p : Part). length p.bytes) cut-is ∙ e))
