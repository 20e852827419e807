-- Where the records of lent tables keep their rules (26) and the program is within the limit, what the code holds against each other are the
-- nodes: a record's key is its node's, and a node is fresh exactly if it repeats no earlier one.
use mathlib.Core.Path.{◌≡◌, refl, sym, ap, ap₂, ◌∙◌}
use mathlib.Core.Bool.{Bool, true, false, not}
use mathlib.Core.List.{List, [], ◌∷◌}
use Prim.Native.Nat.{ℕ, zero, suc, ◌+◌, ◌*◌, ◌-◌, ◌^◌, ◌≤◌, ◌<◌}
use native.Mathlib.Omega.{arith}
use lib.Dec.{eqb, leb}
use lib.ListN.{length, get_or, take as take_l, drop as drop_l}
use borrow.Author.Tests.{leb-true}
use Rattle.limits.specs.Limits.{dossier_bytes, word_most}
use Rattle.report.specs.Bits.{bits_of}
use Rattle.report.specs.Nodes.{Node}
use Rattle.scope.specs.Numbers.{every, any_below, stream_of}
use Rattle.scope.specs.Nodes.{Kind, k_comp, k_case, k_pair, k_disconnect, k_injl, k_injr, k_take, k_drop, k_iden, k_unit, k_fail, k_disconnect1, k_witness, k_hidden, k_word, k_unknown, kind_of, NodeRecord, node_records, node_of, nodes_of, node_at}
use Rattle.scope.specs.Equal.{key_of, same_key}
use Rattle.scope.specs.Arrows.{arrow_records, source, target, equal_nodes, repeats}
use Rattle.scope.specs.Stages.{numbers_rule, no_record, record_rule}
use Rattle.common.specs.Checks.{clash, every_all}
use Rattle.common.specs.Bits.{stream_within, length_bits}
use Rattle.common.specs.Nodes.{node_at_lem}
use Rattle.common.specs.Words.{word_bits, word_has}
use Rattle.common.specs.Cells.{bits_from}
use Rattle.cells.proofs.Parts.{bits_within}
use Rattle.equal.specs.Keys.{key_from, key_at, equal_at, fresh}

-- a word whose numbers keep the rule has its bits in the program
word_key : (program : List ℕ) (bytes i a b c : ℕ) → length program ≤ dossier_bytes → numbers_rule (8 * length program) bytes i k_word a b c ≡ true
    → bits_from (bits_of program) b (word_bits a) ≡ take_l (2 ^ (a - 1)) (drop_l b (stream_of program))
unfolding numbers_rule
word_key program bytes i a b c fits e = go (every (leb 1 a ∷ leb a word_most ∷ eqb c 0 ∷ [])) refl e
  where
    go : (ok : Bool) → every (leb 1 a ∷ leb a word_most ∷ eqb c 0 ∷ []) ≡ ok
        → elim ok [ true ↦ leb (b + 2 ^ (a - 1)) (8 * length program) | false ↦ false ] ≡ true
        → bits_from (bits_of program) b (word_bits a) ≡ take_l (2 ^ (a - 1)) (drop_l b (stream_of program))
    go true p e =
        let q = every_all (leb 1 a ∷ leb a word_most ∷ eqb c 0 ∷ []) p in
        let n = word_has a (leb-true 1 a q.0) (leb-true a word_most q.1.0) in
        let within = leb-true (b + 2 ^ (a - 1)) (8 * length program) e in
        ap (bits_from (bits_of program) b) n ∙ bits_within (bits_of program) b (2 ^ (a - 1)) (omega (arith, within, length_bits program))
        ∙ ap (λ (l : List ℕ). take_l (2 ^ (a - 1)) (drop_l b l)) (sym (stream_within program fits))
    go false p e = clash (cc)

-- the key of a record is its node's
kind_key : (program hashes : List ℕ) (i : ℕ) (kind : Kind) (a b c : ℕ) → length program ≤ dossier_bytes
    → numbers_rule (8 * length program) (length hashes) i kind a b c ≡ true → key_from program hashes kind a b ≡ key_of (node_of (stream_of program) hashes kind a b)
unfolding key_from key_of node_of numbers_rule
kind_key program hashes i k_comp a b c fits e = refl
kind_key program hashes i k_case a b c fits e = refl
kind_key program hashes i k_pair a b c fits e = refl
kind_key program hashes i k_disconnect a b c fits e = refl
kind_key program hashes i k_injl a b c fits e = refl
kind_key program hashes i k_injr a b c fits e = refl
kind_key program hashes i k_take a b c fits e = refl
kind_key program hashes i k_drop a b c fits e = refl
kind_key program hashes i k_iden a b c fits e = refl
kind_key program hashes i k_unit a b c fits e = refl
kind_key program hashes i k_fail a b c fits e = refl
kind_key program hashes i k_disconnect1 a b c fits e = refl
kind_key program hashes i k_witness a b c fits e = refl
kind_key program hashes i k_hidden a b c fits e = refl
kind_key program hashes i k_word a b c fits e = ap (λ (l : List ℕ). 14 ∷ a ∷ l) (word_key program (length hashes) i a b c fits e)
kind_key program hashes i k_unknown a b c fits e = clash (cc)

-- tests that are alike below n
any_alike : (n : ℕ) (test test' : ℕ → Bool) → ((j : ℕ) → j < n → test j ≡ test' j) → any_below n test ≡ any_below n test'
unfolding any_below
any_alike zero test test' h = refl
any_alike (suc n) test test' h =
    ap₂ (λ (b c : Bool). elim b [ true ↦ true | false ↦ c ]) (h n (omega arith)) (any_alike n test test' (λ j l. h j (omega arith)))

module _ (nodes arrows program hashes : List ℕ) (fits : length program ≤ dossier_bytes)
    (kept : (i : ℕ) → i < length (node_records nodes) → record_rule (8 * length program) (length hashes) (node_records nodes) i ≡ true) where
  -- the nodes that the tables stand for
  abbrev ns : List Node
  ns = nodes_of (stream_of program) hashes (node_records nodes)

  key_is : (i : ℕ) → i < length (node_records nodes) → key_at nodes arrows program hashes i ≡ key_of (node_at ns i)
  unfolding key_at record_rule
  key_is i l =
      let r : NodeRecord = get_or (node_records nodes) i no_record in
      kind_key program hashes i (kind_of r.kind) r.first r.second r.third fits (kept i l)
      ∙ ap key_of (sym (node_at_lem (stream_of program) hashes (node_records nodes) i))

  -- A NODE IS FRESH EXACTLY IF IT REPEATS NONE
  pub fresh_is : (i : ℕ) → i < length (node_records nodes) → fresh nodes arrows program hashes i ≡ not (repeats ns (arrow_records arrows) i)
  unfolding fresh equal_at repeats equal_nodes
  fresh_is i l =
      let A = arrow_records arrows in
      ap not (any_alike i (λ j. equal_at nodes arrows program hashes j i) (λ j. equal_nodes ns A j i)
      (λ j m. ap₂ (λ (x y : List ℕ). every (same_key x y ∷ eqb (source A j) (source A i) ∷ eqb (target A j) (target A i) ∷ []))
      (key_is j (omega arith)) (key_is i l)))
