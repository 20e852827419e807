-- Reading a node answers a record and a position exactly if the code of a well-formed node stands between the two positions,
-- and the record is that node's. First from the reading to the node, then back.
use Rattle.std.specs.Prelude.{◌≡◌, true, false, eqb}
use Rattle.std.proofs.Math.Path.{refl, ap}
use Rattle.std.proofs.Common.{sym, ◌∙◌, subst}
use mathlib.Core.List.{List, [], ◌∷◌, ◌++◌}
use Prim.Native.Nat.{ℕ, zero, suc, ◌+◌, ◌-◌, ◌^◌, ◌≤◌, ◌<◌}
use native.Mathlib.Omega.{arith}
use Rattle.std.proofs.Math.ListN.{length}
use Rattle.limits.specs.Limits.{word_most, hash_bytes, fail_bytes}
use Rattle.report.specs.Bits.{Bit, bits_of, number_from}
use Rattle.report.specs.Naturals.{code_natural}
use Rattle.report.specs.Nodes.{Node, comp, case, pair, disconnect, injl, injr, take, drop, disconnect1, iden, unit, witness, fail, hidden, word, code_node}
use Rattle.report.specs.Canonical.{children}
use Rattle.scope.specs.Reading.{a_jet, got, Reader, ◌>>=◌, give, stop, here, Item, item, next, code, natural_up_to, child, octets, combinator, word_item, node}
use Rattle.common.specs.Checks.{clash}
use Rattle.common.specs.Bits.{AllBelow, AreBits, AreBytes}
use Rattle.exactness.specs.Naturals.{natural_bound}
use Rattle.exactness.specs.Nodes.{ContentFits, NodeFits, stored_by, record_with, record_of}
use Rattle.exactness.proofs.Stream.{both_got, then_reads, Stands, stands_none, stands_then, stands_split, stands_bits}
use Rattle.exactness.proofs.Stream.{next_stands, natural_stands, child_stands, octets_stand, one_stands, two_stand}
use Rattle.exactness.proofs.Stream.{stands_next, stands_natural, stands_child, stand_octets, stands_code}

abbrev pub item_with : (kind first second : ℕ) → List ℕ → Item
item_with kind first second stored = record { node = record_with kind first second; stored = stored }

-- what a node at a position is read as, with so many bytes in the hash store
unfoldable pub item_of : (held at : ℕ) → Node → Item
unfolding record_of stored_by
item_of held at n = record { node = record_of held at n; stored = stored_by n }

-- a node that stands between two positions, and is read as x
pub record IsNode (bits : List Bit) (i held at : ℕ) (x : Item) (p : ℕ) : Type 0 where
  pub the : Node
  pub fits : NodeFits i the
  pub stands : Stands bits at p (code_node i the)
  pub read_as : x ≡ item_of held at the

module _ (bits : List Bit) (are : AreBits bits) (i held : ℕ) where
  is_item : (kind first second : ℕ) (stored : List ℕ) (at : ℕ) (x : Item) (p : ℕ) → item kind first second stored at ≡ got x p
      → (x ≡ item_with kind first second stored) × (at ≡ p)
  unfolding item give
  is_item kind first second stored at x p e = ((let q : x ≡ item_with kind first second stored = cc in q), (let q : at ≡ p = cc in q))

  -- a node whose code is three parts that stand one after the other
  three_parts : (n : Node) (at m m₁ p : ℕ) (u v w : List Bit) (x : Item) → NodeFits i n → code_node i n ≡ u ++ (v ++ w)
      → Stands bits at m u → Stands bits m m₁ v → Stands bits m₁ p w → x ≡ item_of held at n → IsNode bits i held at x p
  three_parts n at m m₁ p u v w x f e h k l q = record {
    the = n;
    fits = f;
    stands = subst (Stands bits at p) (sym e) (stands_then bits at m p u (v ++ w) h (stands_then bits m m₁ p v w k l));
    read_as = q;
  }

  -- nothing stands between a position and itself
  ended : (m p : ℕ) → m ≤ length bits → m ≡ p → Stands bits m p []
  ended m p l e = subst (λ (n : ℕ). Stands bits m n []) e (stands_none bits m l)

  -- two children: comp, case, pair, disconnect
  two_children : (at m m₁ p d e sub a b : ℕ) (x : Item) → d < 2 → e < 2 → number_from 0 (d ∷ e ∷ []) ≡ sub → AllBelow i (a ∷ b ∷ [])
      → x ≡ item_with sub a b []
      → Stands bits at m (0 ∷ 0 ∷ 0 ∷ []) → Stands bits m m₁ (d ∷ e ∷ []) → Stands bits m₁ p (code_natural (i - a) ++ code_natural (i - b))
      → IsNode bits i held at x p
  unfolding number_from item_of code_node children
  two_children at m m₁ p zero zero sub a b x ld le n f q h k l =
      three_parts (comp a b) at m m₁ p _ _ _ x (record { below = f; content = tt }) refl h k l (q ∙ ap (λ (k : ℕ). item_with k a b []) (sym n))
  two_children at m m₁ p zero (suc zero) sub a b x ld le n f q h k l =
      three_parts (case a b) at m m₁ p _ _ _ x (record { below = f; content = tt }) refl h k l (q ∙ ap (λ (k : ℕ). item_with k a b []) (sym n))
  two_children at m m₁ p (suc zero) zero sub a b x ld le n f q h k l =
      three_parts (pair a b) at m m₁ p _ _ _ x (record { below = f; content = tt }) refl h k l (q ∙ ap (λ (k : ℕ). item_with k a b []) (sym n))
  two_children at m m₁ p (suc zero) (suc zero) sub a b x ld le n f q h k l =
      three_parts (disconnect a b) at m m₁ p _ _ _ x (record { below = f; content = tt }) refl h k l (q ∙ ap (λ (k : ℕ). item_with k a b []) (sym n))
  two_children at m m₁ p zero (suc (suc e)) sub a b x ld le n f q h k l = absurd (omega arith)
  two_children at m m₁ p (suc zero) (suc (suc e)) sub a b x ld le n f q h k l = absurd (omega arith)
  two_children at m m₁ p (suc (suc d)) e sub a b x ld le n f q h k l = absurd (omega arith)

  two_read : (at m p : ℕ) (x : Item) → Stands bits at m (0 ∷ 0 ∷ 0 ∷ []) → combinator bits i held 0 m ≡ got x p → IsNode bits i held at x p
  unfolding combinator
  two_read at m p x h e =
      let r = both_got (code bits 2) (λ sub. child bits i >>= λ left. child bits i >>= λ right. item sub left right []) m x p e in
      let s = two_stand bits are m r.0 r.1 r.2 in
      let l = both_got (child bits i) (λ left. child bits i >>= λ right. item r.0 left right []) r.1 x p r.3 in
      let a = child_stands bits are i r.1 l.0 l.1 l.2 in
      let t = both_got (child bits i) (λ right. item r.0 l.0 right []) l.1 x p l.3 in
      let b = child_stands bits are i l.1 t.0 t.1 t.2 in
      let q = is_item r.0 l.0 t.0 [] t.1 x p t.3 in
      two_children at m r.1 p s.0 s.1 r.0 l.0 t.0 x s.3 s.4 s.5 (a.1, (b.1, tt)) q.0
      h s.2 (stands_then bits r.1 l.1 p _ _ a.0 (subst (λ (k : ℕ). Stands bits l.1 k (code_natural (i - t.0))) q.1 b.0))

  -- one child: injl, injr, take, drop
  one_child : (at m m₁ p d e sub a : ℕ) (x : Item) → d < 2 → e < 2 → number_from 0 (d ∷ e ∷ []) ≡ sub → AllBelow i (a ∷ [])
      → x ≡ item_with (4 + sub) a 0 []
      → Stands bits at m (0 ∷ 0 ∷ 1 ∷ []) → Stands bits m m₁ (d ∷ e ∷ []) → Stands bits m₁ p (code_natural (i - a)) → IsNode bits i held at x p
  unfolding number_from item_of code_node children
  one_child at m m₁ p zero zero sub a x ld le n f q h k l =
      three_parts (injl a) at m m₁ p _ _ _ x (record { below = f; content = tt }) refl h k l (q ∙ ap (λ (k : ℕ). item_with (4 + k) a 0 []) (sym n))
  one_child at m m₁ p zero (suc zero) sub a x ld le n f q h k l =
      three_parts (injr a) at m m₁ p _ _ _ x (record { below = f; content = tt }) refl h k l (q ∙ ap (λ (k : ℕ). item_with (4 + k) a 0 []) (sym n))
  one_child at m m₁ p (suc zero) zero sub a x ld le n f q h k l =
      three_parts (take a) at m m₁ p _ _ _ x (record { below = f; content = tt }) refl h k l (q ∙ ap (λ (k : ℕ). item_with (4 + k) a 0 []) (sym n))
  one_child at m m₁ p (suc zero) (suc zero) sub a x ld le n f q h k l =
      three_parts (drop a) at m m₁ p _ _ _ x (record { below = f; content = tt }) refl h k l (q ∙ ap (λ (k : ℕ). item_with (4 + k) a 0 []) (sym n))
  one_child at m m₁ p zero (suc (suc e)) sub a x ld le n f q h k l = absurd (omega arith)
  one_child at m m₁ p (suc zero) (suc (suc e)) sub a x ld le n f q h k l = absurd (omega arith)
  one_child at m m₁ p (suc (suc d)) e sub a x ld le n f q h k l = absurd (omega arith)

  one_read : (at m p : ℕ) (x : Item) → Stands bits at m (0 ∷ 0 ∷ 1 ∷ []) → combinator bits i held 1 m ≡ got x p → IsNode bits i held at x p
  unfolding combinator
  one_read at m p x h e =
      let r = both_got (code bits 2) (λ sub. child bits i >>= λ only. item (4 + sub) only 0 []) m x p e in
      let s = two_stand bits are m r.0 r.1 r.2 in
      let l = both_got (child bits i) (λ only. item (4 + r.0) only 0 []) r.1 x p r.3 in
      let a = child_stands bits are i r.1 l.0 l.1 l.2 in
      let q = is_item (4 + r.0) l.0 0 [] l.1 x p l.3 in
      one_child at m r.1 p s.0 s.1 r.0 l.0 x s.3 s.4 s.5 (a.1, tt) q.0
      h s.2 (subst (λ (k : ℕ). Stands bits r.1 k (code_natural (i - l.0))) q.1 a.0)

  -- after the third code: iden, unit, a fail node's bytes, or the one child of a disconnect
  after_third : (sub : ℕ) → Reader Item
  after_third sub = elim (eqb sub 3) [
    | true ↦ child bits i >>= λ only. item 11 only 0 []
    | false ↦ elim (eqb sub 2) [ true ↦ octets bits fail_bytes >>= λ bytes. item 10 held 0 bytes | false ↦ item (8 + sub) 0 0 [] ]
  ]

  third_kind : (at m m₁ p d e : ℕ) (x : Item) → d < 2 → e < 2 → Stands bits at m (0 ∷ 1 ∷ 0 ∷ []) → Stands bits m m₁ (d ∷ e ∷ [])
      → after_third (number_from 0 (d ∷ e ∷ [])) m₁ ≡ got x p → IsNode bits i held at x p
  unfolding after_third number_from item_of code_node children
  third_kind at m m₁ p zero zero x ld le h k e =
      let q = is_item 8 0 0 [] m₁ x p e in
      three_parts iden at m m₁ p _ _ [] x (record { below = tt; content = tt }) refl h k (ended m₁ p k.inside q.1) q.0
  third_kind at m m₁ p zero (suc zero) x ld le h k e =
      let q = is_item 9 0 0 [] m₁ x p e in
      three_parts unit at m m₁ p _ _ [] x (record { below = tt; content = tt }) refl h k (ended m₁ p k.inside q.1) q.0
  third_kind at m m₁ p (suc zero) zero x ld le h k e =
      let r = both_got (octets bits fail_bytes) (λ bytes. item 10 held 0 bytes) m₁ x p e in
      let o = octets_stand bits are fail_bytes m₁ r.0 r.1 r.2 in
      let q = is_item 10 held 0 r.0 r.1 x p r.3 in
      three_parts (fail r.0) at m m₁ p _ _ (bits_of r.0) x (record { below = tt; content = (o.1, o.2) }) refl h k
      (subst (λ (n : ℕ). Stands bits m₁ n (bits_of r.0)) q.1 o.0) q.0
  third_kind at m m₁ p (suc zero) (suc zero) x ld le h k e =
      let r = both_got (child bits i) (λ only. item 11 only 0 []) m₁ x p e in
      let a = child_stands bits are i m₁ r.0 r.1 r.2 in
      let q = is_item 11 r.0 0 [] r.1 x p r.3 in
      three_parts (disconnect1 r.0) at m m₁ p _ _ (code_natural (i - r.0)) x (record { below = (a.1, tt); content = tt }) refl h k
      (subst (λ (n : ℕ). Stands bits m₁ n (code_natural (i - r.0))) q.1 a.0) q.0
  third_kind at m m₁ p zero (suc (suc d)) x ld le h k e = absurd (omega arith)
  third_kind at m m₁ p (suc zero) (suc (suc d)) x ld le h k e = absurd (omega arith)
  third_kind at m m₁ p (suc (suc c)) d x ld le h k e = absurd (omega arith)

  third_read : (at m p : ℕ) (x : Item) → Stands bits at m (0 ∷ 1 ∷ 0 ∷ []) → combinator bits i held 2 m ≡ got x p → IsNode bits i held at x p
  unfolding combinator after_third
  third_read at m p x h e =
      let r = both_got (code bits 2) after_third m x p e in
      let s = two_stand bits are m r.0 r.1 r.2 in
      third_kind at m r.1 p s.0 s.1 x s.3 s.4 h s.2 (ap (λ (k : ℕ). after_third k r.1) s.5 ∙ r.3)

  -- after the fourth code: a witness, or a hidden node's bytes
  after_fourth : (sub : ℕ) → Reader Item
  after_fourth sub = elim (eqb sub 1) [ true ↦ item 12 0 0 [] | false ↦ octets bits hash_bytes >>= λ bytes. item 13 held 0 bytes ]

  fourth_kind : (at m m₁ p d : ℕ) (x : Item) → d < 2 → Stands bits at m (0 ∷ 1 ∷ 1 ∷ []) → Stands bits m m₁ (d ∷ [])
      → after_fourth d m₁ ≡ got x p → IsNode bits i held at x p
  unfolding after_fourth item_of code_node children
  fourth_kind at m m₁ p zero x l h k e =
      let r = both_got (octets bits hash_bytes) (λ bytes. item 13 held 0 bytes) m₁ x p e in
      let o = octets_stand bits are hash_bytes m₁ r.0 r.1 r.2 in
      let q = is_item 13 held 0 r.0 r.1 x p r.3 in
      three_parts (hidden r.0) at m m₁ p _ _ (bits_of r.0) x (record { below = tt; content = (o.1, o.2) }) refl h k
      (subst (λ (n : ℕ). Stands bits m₁ n (bits_of r.0)) q.1 o.0) q.0
  fourth_kind at m m₁ p (suc zero) x l h k e =
      let q = is_item 12 0 0 [] m₁ x p e in
      three_parts witness at m m₁ p _ _ [] x (record { below = tt; content = tt }) refl h k (ended m₁ p k.inside q.1) q.0
  fourth_kind at m m₁ p (suc (suc d)) x l h k e = absurd (omega arith)

  fourth_read : (at m p : ℕ) (x : Item) → Stands bits at m (0 ∷ 1 ∷ 1 ∷ []) → combinator bits i held 3 m ≡ got x p → IsNode bits i held at x p
  unfolding combinator after_fourth
  fourth_read at m p x h e =
      let r = both_got (code bits 1) after_fourth m x p e in
      let s = one_stands bits are m r.0 r.1 r.2 in
      fourth_kind at m r.1 p r.0 x s.1 h s.0 r.3

  -- a word
  word_read : (at m p : ℕ) (x : Item) → Stands bits at m (1 ∷ 0 ∷ []) → word_item bits m ≡ got x p → IsNode bits i held at x p
  unfolding word_item here item_of code_node children
  word_read at m p x h e =
      let r = both_got (natural_up_to bits word_most) (λ n. here >>= λ first. next bits (2 ^ (n - 1)) >>= λ bs. item 14 n first []) m x p e in
      let n = natural_stands bits are word_most m r.0 r.1 r.2 in
      let s = both_got (next bits (2 ^ (r.0 - 1))) (λ bs. item 14 r.0 r.1 []) r.1 x p r.3 in
      let w = next_stands bits (2 ^ (r.0 - 1)) r.1 s.0 s.1 s.2 in
      let q = is_item 14 r.0 r.1 [] s.1 x p s.3 in
      let first : r.1 ≡ at + 2 + length (code_natural r.0) = omega (arith, h.ends_at, n.0.ends_at) in
      three_parts (word r.0 s.0) at m r.1 p (1 ∷ 0 ∷ []) (code_natural r.0) s.0 x
      (record { below = tt; content = (n.1, n.2, w.1, stands_bits bits are r.1 s.1 s.0 w.0) }) refl
      h n.0 (subst (λ (k : ℕ). Stands bits r.1 k s.0) q.1 w.0) (q.0 ∙ ap (λ (k : ℕ). item_with 14 r.0 k []) first)

  -- the four codes of combinators
  combinator_read : (at m p d e : ℕ) (x : Item) → d < 2 → e < 2 → Stands bits at m (0 ∷ d ∷ e ∷ [])
      → combinator bits i held (number_from 0 (d ∷ e ∷ [])) m ≡ got x p
      → IsNode bits i held at x p
  unfolding number_from
  combinator_read at m p zero zero x ld le h q = two_read at m p x h q
  combinator_read at m p zero (suc zero) x ld le h q = one_read at m p x h q
  combinator_read at m p (suc zero) zero x ld le h q = third_read at m p x h q
  combinator_read at m p (suc zero) (suc zero) x ld le h q = fourth_read at m p x h q
  combinator_read at m p zero (suc (suc e)) x ld le h q = absurd (omega arith)
  combinator_read at m p (suc zero) (suc (suc e)) x ld le h q = absurd (omega arith)
  combinator_read at m p (suc (suc d)) e x ld le h q = absurd (omega arith)

  -- after the first bit: a combinator, or a word or a jet
  jet_or_word : (jet : ℕ) → Reader Item
  jet_or_word jet = elim (eqb jet 1) [ true ↦ stop a_jet | false ↦ word_item bits ]

  after_first : (other : ℕ) → Reader Item
  after_first other = elim (eqb other 0) [ true ↦ code bits 2 >>= combinator bits i held | false ↦ code bits 1 >>= jet_or_word ]

  word_or_jet : (at m p v : ℕ) (x : Item) → v < 2 → Stands bits at m (1 ∷ v ∷ []) → jet_or_word v m ≡ got x p → IsNode bits i held at x p
  unfolding jet_or_word stop
  word_or_jet at m p zero x l h e = word_read at m p x h e
  word_or_jet at m p (suc zero) x l h e = clash (cc)
  word_or_jet at m p (suc (suc v)) x l h e = absurd (omega arith)

  first_read : (at m p v : ℕ) (x : Item) → v < 2 → Stands bits at m (v ∷ []) → after_first v m ≡ got x p → IsNode bits i held at x p
  unfolding after_first
  first_read at m p zero x l h e =
      let r = both_got (code bits 2) (combinator bits i held) m x p e in
      let s = two_stand bits are m r.0 r.1 r.2 in
      combinator_read at r.1 p s.0 s.1 x s.3 s.4 (stands_then bits at m r.1 (0 ∷ []) (s.0 ∷ s.1 ∷ []) h s.2)
      (ap (λ (k : ℕ). combinator bits i held k r.1) s.5 ∙ r.3)
  first_read at m p (suc zero) x l h e =
      let r = both_got (code bits 1) jet_or_word m x p e in
      let s = one_stands bits are m r.0 r.1 r.2 in
      word_or_jet at r.1 p r.0 x s.1 (stands_then bits at m r.1 (1 ∷ []) (r.0 ∷ []) h s.0) r.3
  first_read at m p (suc (suc v)) x l h e = absurd (omega arith)

  -- what is read is the code of a node
  pub node_is_code : (at : ℕ) (x : Item) (p : ℕ) → node bits i held at ≡ got x p → IsNode bits i held at x p
  unfolding node after_first jet_or_word
  node_is_code at x p e =
      let r = both_got (code bits 1) after_first at x p e in
      let s = one_stands bits are at r.0 r.1 r.2 in
      first_read at r.1 p r.0 x s.1 s.0 r.3

  -- the other way: a code that stands there is read
  module _ (bound : i < natural_bound) where
    two_reads : (m p d e a b : ℕ) → AllBelow i (a ∷ b ∷ []) → Stands bits m p (d ∷ e ∷ (code_natural (i - a) ++ code_natural (i - b)))
        → combinator bits i held 0 m ≡ got (item_with (number_from 0 (d ∷ e ∷ [])) a b []) p
    unfolding combinator item give
    two_reads m p d e a b f h =
        let sub : ℕ = number_from 0 (d ∷ e ∷ []) in
        let s = stands_split bits m p (d ∷ e ∷ []) (code_natural (i - a) ++ code_natural (i - b)) h in
        let t = stands_split bits (m + 2) p (code_natural (i - a)) (code_natural (i - b)) s.1 in
        then_reads (code bits 2) (λ sub. child bits i >>= λ left. child bits i >>= λ right. item sub left right []) m sub (m + 2)
        (stands_code bits are m (m + 2) (d ∷ e ∷ []) s.0)
        ∙ then_reads (child bits i) (λ left. child bits i >>= λ right. item sub left right []) (m + 2) a
        (m + 2 + length (code_natural (i - a))) (stands_child bits are i (m + 2) a _ bound f.0 t.0)
        ∙ then_reads (child bits i) (λ right. item sub a right []) (m + 2 + length (code_natural (i - a))) b p
        (stands_child bits are i _ b p bound f.1.0 t.1)

    one_reads : (m p d e a : ℕ) → AllBelow i (a ∷ []) → Stands bits m p (d ∷ e ∷ code_natural (i - a))
        → combinator bits i held 1 m ≡ got (item_with (4 + number_from 0 (d ∷ e ∷ [])) a 0 []) p
    unfolding combinator item give
    one_reads m p d e a f h =
        let sub : ℕ = number_from 0 (d ∷ e ∷ []) in
        let s = stands_split bits m p (d ∷ e ∷ []) (code_natural (i - a)) h in
        then_reads (code bits 2) (λ sub. child bits i >>= λ only. item (4 + sub) only 0 []) m sub (m + 2)
        (stands_code bits are m (m + 2) (d ∷ e ∷ []) s.0)
        ∙ then_reads (child bits i) (λ only. item (4 + sub) only 0 []) (m + 2) a p (stands_child bits are i (m + 2) a p bound f.0 s.1)

    third_reads : (m p d e : ℕ) (rest : List Bit) → Stands bits m p (d ∷ e ∷ rest)
        → (combinator bits i held 2 m ≡ after_third (number_from 0 (d ∷ e ∷ [])) (m + 2)) × Stands bits (m + 2) p rest
    unfolding combinator after_third
    third_reads m p d e rest h =
        let s = stands_split bits m p (d ∷ e ∷ []) rest h in
        (then_reads (code bits 2) after_third m (number_from 0 (d ∷ e ∷ [])) (m + 2) (stands_code bits are m (m + 2) (d ∷ e ∷ []) s.0), s.1)

    fourth_reads : (m p d : ℕ) (rest : List Bit) → Stands bits m p (d ∷ rest)
        → (combinator bits i held 3 m ≡ after_fourth (number_from 0 (d ∷ [])) (m + 1)) × Stands bits (m + 1) p rest
    unfolding combinator after_fourth
    fourth_reads m p d rest h =
        let s = stands_split bits m p (d ∷ []) rest h in
        (then_reads (code bits 1) after_fourth m (number_from 0 (d ∷ [])) (m + 1) (stands_code bits are m (m + 1) (d ∷ []) s.0), s.1)

    combinator_reads : (at p d e : ℕ) (rest : List Bit) → Stands bits at p (0 ∷ d ∷ e ∷ rest)
        → (node bits i held at ≡ combinator bits i held (number_from 0 (d ∷ e ∷ [])) (at + 1 + 2)) × Stands bits (at + 1 + 2) p rest
    unfolding node after_first jet_or_word number_from
    combinator_reads at p d e rest h =
        let s = stands_split bits at p (0 ∷ []) (d ∷ e ∷ rest) h in
        let t = stands_split bits (at + 1) p (d ∷ e ∷ []) rest s.1 in (
          then_reads (code bits 1) after_first at 0 (at + 1) (stands_code bits are at (at + 1) (0 ∷ []) s.0)
              ∙ then_reads (code bits 2) (combinator bits i held) (at + 1) (number_from 0 (d ∷ e ∷ [])) (at + 1 + 2)
              (stands_code bits are (at + 1) (at + 1 + 2) (d ∷ e ∷ []) t.0),
          t.1,
        )

    word_reads : (at p n : ℕ) (bs : List Bit) → ContentFits (word n bs) → Stands bits at p (1 ∷ 0 ∷ (code_natural n ++ bs))
        → node bits i held at ≡ got (item_with 14 n (at + 2 + length (code_natural n)) []) p
    unfolding node after_first jet_or_word number_from word_item here item give
    word_reads at p n bs f h =
        let s = stands_split bits at p (1 ∷ []) (0 ∷ (code_natural n ++ bs)) h in
        let t = stands_split bits (at + 1) p (0 ∷ []) (code_natural n ++ bs) s.1 in
        let u = stands_split bits (at + 1 + 1) p (code_natural n) bs t.1 in
        let first : ℕ = at + 1 + 1 + length (code_natural n) in
        then_reads (code bits 1) after_first at 1 (at + 1) (stands_code bits are at (at + 1) (1 ∷ []) s.0)
        ∙ then_reads (code bits 1) jet_or_word (at + 1) 0 (at + 1 + 1) (stands_code bits are (at + 1) (at + 1 + 1) (0 ∷ []) t.0)
        ∙ then_reads (natural_up_to bits word_most) (λ n. here >>= λ first. next bits (2 ^ (n - 1)) >>= λ bs. item 14 n first []) (at + 1 + 1) n first
        (stands_natural bits are word_most (at + 1 + 1) n first (omega arith) f.0 f.1 u.0)
        ∙ then_reads (next bits (2 ^ (n - 1))) (λ bs. item 14 n first []) first bs p
        (ap (λ (k : ℕ). next bits k first) (sym f.2) ∙ stands_next bits first p bs u.1)
        ∙ ap (λ (k : ℕ). got (item_with 14 n k []) p) (let e : first ≡ at + 2 + length (code_natural n) = omega arith in e)

    none_left : (at p : ℕ) → Stands bits at p [] → at ≡ p
    none_left at p h = omega (arith, h.ends_at)

    octets_read : (k at p : ℕ) (bytes : List ℕ) → length bytes ≡ k → AreBytes bytes → Stands bits at p (bits_of bytes) → octets bits k at ≡ got bytes p
    octets_read k at p bytes n b h = ap (λ (k : ℕ). octets bits k at) (sym n) ∙ stand_octets bits are at bytes p b h

    -- the code of a node is read as that node
    pub code_is_node : (n : Node) → NodeFits i n → (at p : ℕ) → Stands bits at p (code_node i n) → node bits i held at ≡ got (item_of held at n) p
    unfolding item_of code_node children number_from after_third after_fourth item give
    code_is_node (comp a b) f at p h = let c = combinator_reads at p 0 0 _ h in c.0 ∙ two_reads (at + 1 + 2) p 0 0 a b f.below c.1
    code_is_node (case a b) f at p h = let c = combinator_reads at p 0 0 _ h in c.0 ∙ two_reads (at + 1 + 2) p 0 1 a b f.below c.1
    code_is_node (pair a b) f at p h = let c = combinator_reads at p 0 0 _ h in c.0 ∙ two_reads (at + 1 + 2) p 1 0 a b f.below c.1
    code_is_node (disconnect a b) f at p h = let c = combinator_reads at p 0 0 _ h in c.0 ∙ two_reads (at + 1 + 2) p 1 1 a b f.below c.1
    code_is_node (injl a) f at p h = let c = combinator_reads at p 0 1 _ h in c.0 ∙ one_reads (at + 1 + 2) p 0 0 a f.below c.1
    code_is_node (injr a) f at p h = let c = combinator_reads at p 0 1 _ h in c.0 ∙ one_reads (at + 1 + 2) p 0 1 a f.below c.1
    code_is_node (take a) f at p h = let c = combinator_reads at p 0 1 _ h in c.0 ∙ one_reads (at + 1 + 2) p 1 0 a f.below c.1
    code_is_node (drop a) f at p h = let c = combinator_reads at p 0 1 _ h in c.0 ∙ one_reads (at + 1 + 2) p 1 1 a f.below c.1
    code_is_node (disconnect1 a) f at p h =
        let c = combinator_reads at p 1 0 _ h in
        let t = third_reads (at + 1 + 2) p 1 1 _ c.1 in
        c.0 ∙ t.0 ∙ then_reads (child bits i) (λ only. item 11 only 0 []) (at + 1 + 2 + 2) a p
        (stands_child bits are i (at + 1 + 2 + 2) a p bound f.below.0 t.1)
    code_is_node iden f at p h =
        let c = combinator_reads at p 1 0 _ h in
        let t = third_reads (at + 1 + 2) p 0 0 _ c.1 in
        c.0 ∙ t.0 ∙ ap (got (item_with 8 0 0 [])) (none_left (at + 1 + 2 + 2) p t.1)
    code_is_node unit f at p h =
        let c = combinator_reads at p 1 0 _ h in
        let t = third_reads (at + 1 + 2) p 0 1 _ c.1 in
        c.0 ∙ t.0 ∙ ap (got (item_with 9 0 0 [])) (none_left (at + 1 + 2 + 2) p t.1)
    code_is_node witness f at p h =
        let c = combinator_reads at p 1 1 _ h in
        let t = fourth_reads (at + 1 + 2) p 1 _ c.1 in
        c.0 ∙ t.0 ∙ ap (got (item_with 12 0 0 [])) (none_left (at + 1 + 2 + 1) p t.1)
    code_is_node (fail bytes) f at p h =
        let c = combinator_reads at p 1 0 _ h in
        let t = third_reads (at + 1 + 2) p 1 0 _ c.1 in
        c.0 ∙ t.0 ∙ then_reads (octets bits fail_bytes) (λ bytes. item 10 held 0 bytes) (at + 1 + 2 + 2) bytes p
        (octets_read fail_bytes (at + 1 + 2 + 2) p bytes f.content.0 f.content.1 t.1)
    code_is_node (hidden bytes) f at p h =
        let c = combinator_reads at p 1 1 _ h in
        let t = fourth_reads (at + 1 + 2) p 0 _ c.1 in
        c.0 ∙ t.0 ∙ then_reads (octets bits hash_bytes) (λ bytes. item 13 held 0 bytes) (at + 1 + 2 + 1) bytes p
        (octets_read hash_bytes (at + 1 + 2 + 1) p bytes f.content.0 f.content.1 t.1)
    code_is_node (word n bs) f at p h = word_reads at p n bs f.content h
