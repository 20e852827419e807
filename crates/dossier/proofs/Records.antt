-- The records of a decoded program keep the rules of lent tables (26).
use mathlib.Core.Path.{◌≡◌, refl, subst}
use mathlib.Core.Bool.{true}
use mathlib.Core.List.{List, [], ◌∷◌, ◌++◌}
use Prim.Native.Nat.{ℕ, zero, suc, ◌+◌, ◌-◌, ◌^◌, ◌≤◌, ◌<◌}
use native.Mathlib.Nat.{not-suc-le-zero, zero-add}
use native.Mathlib.Omega.{arith}
use lib.Dec.{leb, ltb, eqb}
use lib.ListN.{length, get_or, length-append}
use borrow.Author.Tests.{le-leb, lt-ltb}
use Rattle.limits.specs.Limits.{word_most, hash_bytes, fail_bytes}
use Rattle.report.specs.Bits.{Bit}
use Rattle.report.specs.Naturals.{code_natural}
use Rattle.report.specs.Nodes.{Node, comp, case, pair, disconnect, injl, injr, take, drop, disconnect1, iden, unit, witness, fail, hidden, word}
use Rattle.report.specs.Nodes.{code_node, code_nodes}
use Rattle.report.specs.Canonical.{children}
use Rattle.scope.specs.Numbers.{every}
use Rattle.scope.specs.Nodes.{NodeRecord, kind_of}
use Rattle.scope.specs.Stages.{numbers_rule, no_record, record_rule}
use Rattle.common.specs.Checks.{all_every}
use Rattle.exactness.specs.Nodes.{NodeFits, NodesFit, stored_by, record_of, records_from, hashes_of}
use Rattle.exactness.proofs.Stream.{Stands, stands_split}

-- a record keeps the rule of its kind at index i
abbrev Kept : (bits bytes i : ℕ) → NodeRecord → Type 0
Kept bits bytes i r = numbers_rule bits bytes i (kind_of r.kind) r.first r.second r.third ≡ true

module _ (bits : List Bit) (bytes : ℕ) where
  -- a node that was read has a record that keeps its rule
  record_kept : (i held at p : ℕ) (n : Node) → NodeFits i n → Stands bits at p (code_node i n) → held + length (stored_by n) ≤ bytes
      → Kept (length bits) bytes i (record_of held at n)
  unfolding numbers_rule kind_of record_of stored_by code_node children
  record_kept i held at p (comp a b) f h e =
      all_every (ltb a i ∷ ltb b i ∷ eqb 0 0 ∷ []) (lt-ltb a i f.below.0, (lt-ltb b i f.below.1.0, (refl, tt)))
  record_kept i held at p (case a b) f h e =
      all_every (ltb a i ∷ ltb b i ∷ eqb 0 0 ∷ []) (lt-ltb a i f.below.0, (lt-ltb b i f.below.1.0, (refl, tt)))
  record_kept i held at p (pair a b) f h e =
      all_every (ltb a i ∷ ltb b i ∷ eqb 0 0 ∷ []) (lt-ltb a i f.below.0, (lt-ltb b i f.below.1.0, (refl, tt)))
  record_kept i held at p (disconnect a b) f h e =
      all_every (ltb a i ∷ ltb b i ∷ eqb 0 0 ∷ []) (lt-ltb a i f.below.0, (lt-ltb b i f.below.1.0, (refl, tt)))
  record_kept i held at p (injl a) f h e = all_every (ltb a i ∷ eqb 0 0 ∷ eqb 0 0 ∷ []) (lt-ltb a i f.below.0, (refl, (refl, tt)))
  record_kept i held at p (injr a) f h e = all_every (ltb a i ∷ eqb 0 0 ∷ eqb 0 0 ∷ []) (lt-ltb a i f.below.0, (refl, (refl, tt)))
  record_kept i held at p (take a) f h e = all_every (ltb a i ∷ eqb 0 0 ∷ eqb 0 0 ∷ []) (lt-ltb a i f.below.0, (refl, (refl, tt)))
  record_kept i held at p (drop a) f h e = all_every (ltb a i ∷ eqb 0 0 ∷ eqb 0 0 ∷ []) (lt-ltb a i f.below.0, (refl, (refl, tt)))
  record_kept i held at p (disconnect1 a) f h e = all_every (ltb a i ∷ eqb 0 0 ∷ eqb 0 0 ∷ []) (lt-ltb a i f.below.0, (refl, (refl, tt)))
  record_kept i held at p iden f h e = refl
  record_kept i held at p unit f h e = refl
  record_kept i held at p witness f h e = refl
  record_kept i held at p (fail bs) f h e =
      all_every (leb (held + fail_bytes) bytes ∷ eqb 0 0 ∷ eqb 0 0 ∷ []) (le-leb (held + fail_bytes) bytes (omega (arith, f.content.0)), (refl, (refl, tt)))
  record_kept i held at p (hidden bs) f h e =
      all_every (leb (held + hash_bytes) bytes ∷ eqb 0 0 ∷ eqb 0 0 ∷ []) (le-leb (held + hash_bytes) bytes (omega (arith, f.content.0)), (refl, (refl, tt)))
  record_kept i held at p (word n bs) f h e =
      let from : ℕ = at + 2 + length (code_natural n) in
      let few : every (leb 1 n ∷ leb n word_most ∷ eqb 0 0 ∷ []) ≡ true =
      all_every (leb 1 n ∷ leb n word_most ∷ eqb 0 0 ∷ []) (le-leb 1 n f.content.0, (le-leb n word_most f.content.1, (refl, tt))) in
      let end : p ≡ at + length (1 ∷ 0 ∷ code_natural n ++ bs) = h.ends_at in
      let size = length-append (code_natural n) bs in
      rw (few, numbers_rule) (le-leb (from + 2 ^ (n - 1)) (length bits) (omega (arith, h.inside, f.content.2)))

  -- so have all nodes of a table
  kept_from : (a held at p : ℕ) (ns : List Node) → NodesFit a ns → Stands bits at p (code_nodes a ns) → held + length (hashes_of ns) ≤ bytes
      → (i : ℕ) → i < length ns → Kept (length bits) bytes (a + i) (get_or (records_from a held at ns) i no_record)
  unfolding records_from hashes_of code_nodes
  kept_from a held at p [] f h e i l = absurd (not-suc-le-zero l)
  kept_from a held at p (n ∷ ns) f h e zero l =
      let s = stands_split bits at p (code_node a n) (code_nodes (suc a) ns) h in
      let size = length-append (stored_by n) (hashes_of ns) in
      let here : a ≡ a + 0 = omega arith in
      subst (λ (k : ℕ). Kept (length bits) bytes k (record_of held at n)) here
      (record_kept a held at (at + length (code_node a n)) n f.0 s.0 (omega arith))
  kept_from a held at p (n ∷ ns) f h e (suc i) l =
      let s = stands_split bits at p (code_node a n) (code_nodes (suc a) ns) h in
      let size = length-append (stored_by n) (hashes_of ns) in
      let there : suc a + i ≡ a + suc i = omega arith in
      subst (λ (k : ℕ). Kept (length bits) bytes k (get_or (records_from (suc a) (held + length (stored_by n)) (at + length (code_node a n)) ns) i no_record)) there
      (kept_from (suc a) (held + length (stored_by n)) (at + length (code_node a n)) p ns f.1 s.1 (omega arith) i (omega arith))

  pub records_kept : (at p : ℕ) (ns : List Node) → NodesFit 0 ns → Stands bits at p (code_nodes 0 ns) → length (hashes_of ns) ≤ bytes
      → (i : ℕ) → i < length ns → record_rule (length bits) bytes (records_from 0 0 at ns) i ≡ true
  unfolding record_rule
  records_kept at p ns f h e i l =
      subst (λ (k : ℕ). Kept (length bits) bytes k (get_or (records_from 0 0 at ns) i no_record)) (zero-add i) (kept_from 0 0 at p ns f h (omega arith) i l)
