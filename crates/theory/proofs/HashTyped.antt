-- The supplied hashes, once their check has passed: the right child of each disconnect has a hash of 256 bits.
-- There are as many entries as disconnects, so the first entry for a right child is there with all its bytes (Hashes).
use Rattle.std.specs.Prelude.{◌≡◌}
use Rattle.std.proofs.Math.Path.{refl, ap}
use Rattle.std.proofs.Common.{◌∙◌}
use Rattle.std.proofs.Math.Bool.{true, false, not}
use mathlib.Core.List.{List}
use Prim.Native.Nat.{ℕ, ◌/◌}
use native.Mathlib.Omega.{arith}
use Rattle.std.proofs.Math.Dec.{eqb}
use borrow.Author.Tests.{eqb-true}
use Rattle.std.proofs.Math.ListN.{length}
use Rattle.limits.specs.Limits.{hash_bytes}
use Rattle.refusal.specs.declared.Refusal.TheVariants.{Hash}
use Rattle.report.specs.Bits.{bits_of}
use Rattle.report.specs.Types.{word_ty}
use Rattle.report.specs.Values.{HasTy}
use Rattle.report.specs.Nodes.{Node, comp, case, pair, disconnect, injl, injr, take, drop, disconnect1, iden, unit, witness, fail, hidden, word}
use Rattle.scope.specs.Check.{passed, require, each}
use Rattle.scope.specs.Nodes.{node_at, on_hidden}
use Rattle.scope.specs.Walk.{hidden_at}
use Rattle.scope.specs.Hashes.{count_place, rights, whole_hash, entry, clash, check_hashes, entry_for, branch_hash}
use Rattle.scope.specs.Program.{value_from}
use Rattle.common.specs.Checks.{not_both, both_passed, require_holds}
use Rattle.common.specs.Bits.{length_bits}
use Rattle.theory.proofs.Values.{word_from}
use Rattle.theory.proofs.Hashes.{among_rights, entry_found, entry_whole}

-- a node that is not hidden has no hash of its own
on_shown : {X : Type 0} (n : Node) (f : List ℕ → X) (other : X) → on_hidden n (λ hash. true) false ≡ false → on_hidden n f other ≡ other
unfolding on_hidden
on_shown (comp a b) f other e = refl
on_shown (case a b) f other e = refl
on_shown (pair a b) f other e = refl
on_shown (disconnect a b) f other e = refl
on_shown (injl a) f other e = refl
on_shown (injr a) f other e = refl
on_shown (take a) f other e = refl
on_shown (drop a) f other e = refl
on_shown (disconnect1 a) f other e = refl
on_shown iden f other e = refl
on_shown unit f other e = refl
on_shown witness f other e = refl
on_shown (fail bytes) f other e = refl
on_shown (hidden bytes) f other e = not_both refl e
on_shown (word n bits) f other e = refl

module _ (nodes : List Node) (given : List ℕ) where
  -- THE RIGHT CHILD OF A DISCONNECT HAS A HASH OF 256 BITS
  pub hash_typed : check_hashes nodes given ≡ passed tt → (i a b : ℕ) → node_at nodes i ≡ disconnect a b → hidden_at nodes b ≡ false
      → HasTy (value_from (word_ty 8) (bits_of (branch_hash nodes given b))) (word_ty 8)
  unfolding check_hashes branch_hash hidden_at
  hash_typed e i a b q shown =
      let p = both_passed (require (eqb (length given / hash_bytes) (length (rights nodes))) (Hash (count_place (length given / hash_bytes))))
      (λ count. each (length (rights nodes)) (λ e. not (clash nodes given e)) Hash) tt e in
      let count : length given / hash_bytes ≡ length (rights nodes) =
      eqb-true _ _ (require_holds (eqb (length given / hash_bytes) (length (rights nodes))) (Hash (count_place (length given / hash_bytes))) _ p.1) in
      let f = entry_found nodes given b 0 (rights nodes) (among_rights nodes i a b q) in
      let g : branch_hash nodes given b ≡ whole_hash (entry given f.0) =
      on_shown (node_at nodes b) whole_hash (entry_for nodes given b 0 (rights nodes)) shown ∙ f.2 in
      let l : length (branch_hash nodes given b) ≡ hash_bytes = ap length g ∙ entry_whole nodes given f.0 (omega (arith, f.1)) in
      word_from 8 (bits_of (branch_hash nodes given b)) (omega (arith, length_bits (branch_hash nodes given b)))
