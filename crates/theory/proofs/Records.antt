-- Node records that keep their rules stand for nodes whose children are below them, and for words that have all their bits.
-- So a table may be read from its first record to its last, and a word's value is one of its type.
use Rattle.std.specs.Prelude.{◌≡◌, Bool, true, false, List, [], ◌∷◌, ℕ, ◌+◌, ◌-◌, ◌^◌, ◌≤◌, ◌<◌, ltb, get_or, take as take_l, drop as drop_l}
use Rattle.std.proofs.Math.Path.{refl}
use Rattle.std.proofs.Common.{sym, ap, ◌∙◌, arith, leb-true, ltb-true, length-drop, length-take-le}
use Rattle.std.proofs.Math.Decide.{dec_lt}
use Rattle.std.proofs.Math.Dec.{leb, eqb}
use Rattle.std.proofs.Math.ListN.{length, get_or-eq_default}
use Rattle.limits.specs.Limits.{word_most}
use Rattle.report.specs.Bits.{Bit}
use Rattle.report.specs.Nodes.{word}
use Rattle.report.specs.Canonical.{children}
use Rattle.scope.specs.Numbers.{every}
use Rattle.scope.specs.Nodes.{Kind, k_comp, k_case, k_pair, k_disconnect, k_injl, k_injr, k_take, k_drop, k_iden, k_unit, k_fail, k_disconnect1, k_witness, k_hidden, k_word, k_unknown, kind_of, NodeRecord, no_node, node_of, nodes_of, node_at}
use Rattle.scope.specs.Stages.{numbers_rule, no_record, record_rule}
use Rattle.common.specs.Checks.{clash, not_both, every_all}
use Rattle.common.specs.Bits.{AllBelow}
use Rattle.common.specs.Nodes.{node_at_lem, length_nodes}

module _ (bits : List Bit) (hashes : List ℕ) where
  -- two children
  two_below : (i a b c : ℕ) → every (ltb a i ∷ ltb b i ∷ eqb c 0 ∷ []) ≡ true → AllBelow i (a ∷ b ∷ [])
  two_below i a b c e = let h = every_all (ltb a i ∷ ltb b i ∷ eqb c 0 ∷ []) e in (ltb-true a i h.0, (ltb-true b i h.1.0, tt))

  -- one child
  one_below : (i a b c : ℕ) → every (ltb a i ∷ eqb b 0 ∷ eqb c 0 ∷ []) ≡ true → AllBelow i (a ∷ [])
  one_below i a b c e = let h = every_all (ltb a i ∷ eqb b 0 ∷ eqb c 0 ∷ []) e in (ltb-true a i h.0, tt)

  -- the children of a node whose numbers keep their rule are below it
  numbers_below : (m n i : ℕ) (k : Kind) (a b c : ℕ) → numbers_rule m n i k a b c ≡ true → AllBelow i (children (node_of bits hashes k a b))
  unfolding numbers_rule node_of children
  numbers_below m n i k_comp a b c e = two_below i a b c e
  numbers_below m n i k_case a b c e = two_below i a b c e
  numbers_below m n i k_pair a b c e = two_below i a b c e
  numbers_below m n i k_disconnect a b c e = two_below i a b c e
  numbers_below m n i k_injl a b c e = one_below i a b c e
  numbers_below m n i k_injr a b c e = one_below i a b c e
  numbers_below m n i k_take a b c e = one_below i a b c e
  numbers_below m n i k_drop a b c e = one_below i a b c e
  numbers_below m n i k_iden a b c e = tt
  numbers_below m n i k_unit a b c e = tt
  numbers_below m n i k_fail a b c e = tt
  numbers_below m n i k_disconnect1 a b c e = one_below i a b c e
  numbers_below m n i k_witness a b c e = tt
  numbers_below m n i k_hidden a b c e = tt
  numbers_below m n i k_word a b c e = tt
  numbers_below m n i k_unknown a b c e = tt

  -- the bits of a word
  word_bits_lem : (a b c n' : ℕ) (bs : List Bit) (x : Bool) → every (leb 1 a ∷ leb a word_most ∷ eqb c 0 ∷ []) ≡ x
      → (elim x [ true ↦ leb (b + 2 ^ (a - 1)) (length bits) | false ↦ false ]) ≡ true
      → word a (take_l (2 ^ (a - 1)) (drop_l b bits)) ≡ word n' bs → length bs ≡ 2 ^ (n' - 1)
  word_bits_lem a b c n' bs true e f q =
      let l : b + 2 ^ (a - 1) ≤ length bits = leb-true (b + 2 ^ (a - 1)) (length bits) f in
      let p : a ≡ n' = cc in
      let r : take_l (2 ^ (a - 1)) (drop_l b bits) ≡ bs = cc in
      ap length (sym r) ∙ length-take-le (2 ^ (a - 1)) (drop_l b bits) (omega (arith, length-drop b bits)) ∙ ap (λ (m : ℕ). 2 ^ (m - 1)) p
  word_bits_lem a b c n' bs false e f q = not_both f refl

  -- and where it is a word it has its bits
  numbers_word : (n i : ℕ) (k : Kind) (a b c : ℕ) → numbers_rule (length bits) n i k a b c ≡ true → (n' : ℕ) (bs : List Bit)
      → node_of bits hashes k a b ≡ word n' bs
      → length bs ≡ 2 ^ (n' - 1)
  unfolding numbers_rule node_of
  numbers_word n i k_comp a b c e n' bs q = clash (cc)
  numbers_word n i k_case a b c e n' bs q = clash (cc)
  numbers_word n i k_pair a b c e n' bs q = clash (cc)
  numbers_word n i k_disconnect a b c e n' bs q = clash (cc)
  numbers_word n i k_injl a b c e n' bs q = clash (cc)
  numbers_word n i k_injr a b c e n' bs q = clash (cc)
  numbers_word n i k_take a b c e n' bs q = clash (cc)
  numbers_word n i k_drop a b c e n' bs q = clash (cc)
  numbers_word n i k_iden a b c e n' bs q = clash (cc)
  numbers_word n i k_unit a b c e n' bs q = clash (cc)
  numbers_word n i k_fail a b c e n' bs q = clash (cc)
  numbers_word n i k_disconnect1 a b c e n' bs q = clash (cc)
  numbers_word n i k_witness a b c e n' bs q = clash (cc)
  numbers_word n i k_hidden a b c e n' bs q = clash (cc)
  numbers_word n i k_word a b c e n' bs q = word_bits_lem a b c n' bs (every (leb 1 a ∷ leb a word_most ∷ eqb c 0 ∷ [])) refl e q
  numbers_word n i k_unknown a b c e n' bs q = clash (cc)

  -- a table of records that keep their rules
  module _ (n : ℕ) (records : List NodeRecord) (ok : (i : ℕ) → i < length records → record_rule (length bits) n records i ≡ true) where
    -- THE CHILDREN OF EACH NODE ARE BELOW IT
    pub records_below : (i : ℕ) → i < length records → AllBelow i (children (node_at (nodes_of bits hashes records) i))
    unfolding record_rule
    records_below i h = rw (node_at_lem bits hashes records i) (numbers_below (length bits) n i (kind_of (get_or records i no_record).kind) _ _ _ (ok i h))

    -- EACH WORD HAS ITS BITS
    pub records_word : (i n' : ℕ) (bs : List Bit) → node_at (nodes_of bits hashes records) i ≡ word n' bs → length bs ≡ 2 ^ (n' - 1)
    unfolding record_rule node_at
    records_word i n' bs q = go (dec_lt i (length records))
      where
        go : Dec (i < length records) → length bs ≡ 2 ^ (n' - 1)
        go (yes h) = numbers_word n i (kind_of (get_or records i no_record).kind) _ _ _ (ok i h) n' bs (sym (node_at_lem bits hashes records i) ∙ q)
        go (no h) =
            let e : node_at (nodes_of bits hashes records) i ≡ no_node =
            get_or-eq_default (nodes_of bits hashes records) no_node {n = i} (omega (arith, length_nodes bits hashes records)) in
            clash (cc)
