use Rattle.hashes.proofs.Branch.{branch_holds}
use native.Mathlib.Omega.{arith}
use mathlib.Core.Path.{ap, ◌∙◌}
use Rattle.common.specs.Bits.{length_bits}
use Rattle.scope.specs.Hashes.{branch_hash}
use Rattle.bit_machine.proofs.Written.{hash_short, hash_count, hash_bits, written_as}
use Rattle.bit_machine.proofs.values.write_hash.Goals as goal

pub overflow_cast-n : goal.overflow_cast-n
overflow_cast-n c =
    let short = hash_short c.branch_hash-hash.result.now _ _ _
    (branch_holds _ _ _ _ _ c.branch_hash-hash.ensures ∙ ap (branch_hash _ _) c.place.ensures.0) in
    omega arith

pub overflow_mul-n : goal.overflow_mul-n
overflow_mul-n c =
    let short = hash_short c.branch_hash-hash.result.now _ _ _
    (branch_holds _ _ _ _ _ c.branch_hash-hash.ensures ∙ ap (branch_hash _ _) c.place.ensures.0) in
    omega arith

pub write_bits-requires : goal.write_bits-requires
write_bits-requires c =
    let place-there = c.place in
    let e = hash_count (branch_holds _ _ _ _ _ c.branch_hash-hash.ensures ∙ ap (branch_hash _ _) place-there.ensures.0) in record {
      fed = c.requires.fed;
      n_in_bounds = omega (arith, length_bits c.branch_hash-hash.result.now);
      write_ok = λ pos. rw e (c.requires.write_ok (rw e at pos));
    }

pub returns : goal.returns
returns c =
    let found = c.branch_hash-hash in
    let there = c.place in
    c.write_bits.ensures
    ∙ written_as _ (hash_bits (branch_holds _ _ _ _ _ found.ensures ∙ ap (branch_hash _ _) there.ensures.0))
