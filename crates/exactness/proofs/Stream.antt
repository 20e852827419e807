-- The readers of a stream, one by one: each answers a result and a position exactly if that result's code stands between the two positions.
-- So is it for bits, for naturals within a bound, for children, and for whole bytes.
use Rattle.std.specs.Prelude.{◌≡◌, Bool, ℕ, ◌+◌, ◌*◌, ◌-◌, ◌≤◌, ◌<◌}
use Rattle.std.proofs.Math.Path.{refl, sym, ap, ap₂, subst, subst₂}
use Rattle.std.proofs.Common.{◌∙◌, take-append-drop, drop-drop, drop_at}
use Rattle.std.proofs.Math.Bool.{true, false}
use mathlib.Core.List.{List, [], ◌∷◌, ◌++◌, append_assoc}
use native.Mathlib.Omega.{arith}
use Rattle.std.proofs.Math.Dec.{leb}
use Rattle.std.proofs.Math.ListN.{length, take, drop, length-append, length-drop}
use Rattle.std.proofs.Math.Seq.{take_at, length-take-le}
use borrow.Author.Tests.{leb-true, le-leb}
use Rattle.report.specs.Bits.{Bit, bits_of, number_from, bytes_of}
use Rattle.report.specs.Naturals.{code_natural}
use Rattle.scope.specs.Naturals.{Natural, natural, ended, too_long, read_natural}
use Rattle.scope.specs.Reading.{stream_ended, over_bound, Got, got, fault, Reader, ◌>>=◌, give, next, code, bounded, natural_up_to, child, octets}
use Rattle.common.specs.Checks.{clash}
use Rattle.common.specs.Bits.{AreBits, AreBytes, below_drop, below_front, length_bits, length_bytes, bits_of_bytes, bytes_of_bits}
use Rattle.exactness.specs.Naturals.{natural_bound}
use Rattle.exactness.proofs.Naturals.{code_some, reads_code, read_is_code}

-- two readers in a row: the second goes on where the first ends
pub both_got : {X Y : Type 0} (m : Reader X) (f : X → Reader Y) (at : ℕ) (y : Y) (p : ℕ) → (m >>= f) at ≡ got y p
    → (x : X) × (mid : ℕ) × (m at ≡ got x mid) × (f x mid ≡ got y p)
unfolding ◌>>=◌
both_got m f at y p e = go (m at) refl e
  where
    go : (g : Got _) → m at ≡ g → elim g [ got x next ↦ f x next | fault e ↦ fault e ] ≡ got y p
        → (x : _) × (mid : ℕ) × (m at ≡ got x mid) × (f x mid ≡ got y p)
    go (got x mid) q e = (x, mid, q, e)
    go (fault b) q e = clash (cc)

pub then_reads : {X Y : Type 0} (m : Reader X) (f : X → Reader Y) (at : ℕ) (x : X) (mid : ℕ) → m at ≡ got x mid → (m >>= f) at ≡ f x mid
unfolding ◌>>=◌
then_reads m f at x mid e = rw (e, ◌>>=◌)

-- these bits stand between two positions of the stream
pub record Stands (bits : List Bit) (at p : ℕ) (x : List Bit) : Type 0 where
  pub bits_there : drop at bits ≡ x ++ drop p bits
  pub ends_at : p ≡ at + length x
  pub inside : p ≤ length bits

module _ (bits : List Bit) where
  -- bits that stand one after the other stand together, and the other way round
  pub stands_then : (at mid p : ℕ) (x y : List Bit) → Stands bits at mid x → Stands bits mid p y → Stands bits at p (x ++ y)
  stands_then at mid p x y h k = record {
    bits_there = h.bits_there ∙ ap (λ (l : List Bit). x ++ l) k.bits_there ∙ sym (append_assoc x y (drop p bits));
    ends_at = omega (arith, h.ends_at, k.ends_at, length-append x y);
    inside = k.inside;
  }

  pub stands_split : (at p : ℕ) (x y : List Bit) → Stands bits at p (x ++ y) → Stands bits at (at + length x) x × Stands bits (at + length x) p y
  stands_split at p x y h =
      let whole : drop at bits ≡ x ++ (y ++ drop p bits) = h.bits_there ∙ append_assoc x y (drop p bits) in
      let rest : drop (at + length x) bits ≡ y ++ drop p bits =
      sym (drop-drop (length x) at bits) ∙ ap (drop (length x)) whole ∙ drop_at x (y ++ drop p bits) (length x) refl in
      let size : p ≡ at + length x + length y = omega (arith, h.ends_at, length-append x y) in (
        record { bits_there = whole ∙ ap (λ (l : List Bit). x ++ l) (sym rest); ends_at = refl; inside = omega (arith, h.inside) },
        record { bits_there = rest; ends_at = size; inside = h.inside },
      )

  pub stands_none : (at : ℕ) → at ≤ length bits → Stands bits at at []
  stands_none at h = record { bits_there = refl; ends_at = omega arith; inside = h }

  -- the next k bits
  pub next_stands : (k at : ℕ) (x : List Bit) (p : ℕ) → next bits k at ≡ got x p → Stands bits at p x × (length x ≡ k)
  unfolding next
  next_stands k at x p e = go (leb (at + k) (length bits)) refl e
    where
      go : (b : Bool) → leb (at + k) (length bits) ≡ b → elim b [ true ↦ got (take k (drop at bits)) (at + k) | false ↦ fault stream_ended ] ≡ got x p
          → Stands bits at p x × (length x ≡ k)
      go true q e =
          let l : at + k ≤ length bits = leb-true (at + k) (length bits) q in
          let w : take k (drop at bits) ≡ x = cc in
          let v : at + k ≡ p = cc in
          let size : length x ≡ k = ap length (sym w) ∙ length-take-le k (drop at bits) (omega (arith, length-drop at bits)) in (
            record {
              bits_there = sym (take-append-drop k (drop at bits))
                  ∙ ap₂ (λ (u r : List Bit). u ++ r) w (drop-drop k at bits ∙ ap (λ (n : ℕ). drop n bits) v);
              ends_at = omega arith;
              inside = omega arith;
            },
            size,
          )
      go false q e = clash (cc)

  pub stands_next : (at p : ℕ) (x : List Bit) → Stands bits at p x → next bits (length x) at ≡ got x p
  unfolding next
  stands_next at p x h =
      rw (le-leb (at + length x) (length bits) (omega (arith, h.ends_at, h.inside)), next)
      (ap₂ got (ap (take (length x)) h.bits_there ∙ take_at x (drop p bits) (length x) refl) (sym h.ends_at))

  -- some bits at the front of what is left stand there
  pub front_stands : (at : ℕ) (x rest : List Bit) → 1 ≤ length x → drop at bits ≡ x ++ rest → Stands bits at (at + length x) x
  front_stands at x rest some e =
      let r : drop (at + length x) bits ≡ rest = sym (drop-drop (length x) at bits) ∙ ap (drop (length x)) e ∙ drop_at x rest (length x) refl in
      record {
        bits_there = e ∙ ap (λ (l : List Bit). x ++ l) (sym r);
        ends_at = refl;
        inside = omega (arith, length-drop at bits, ap length e, length-append x rest);
      }

  -- a natural within a bound, of a stream of bits
  module _ (are : AreBits bits) where
    pub stands_bits : (at p : ℕ) (x : List Bit) → Stands bits at p x → AreBits x
    stands_bits at p x h = below_front 2 x (drop p bits) (subst AreBits h.bits_there (below_drop 2 at bits are))

    pub natural_stands : (most at n p : ℕ) → natural_up_to bits most at ≡ got n p → Stands bits at p (code_natural n) × (1 ≤ n) × (n ≤ most)
    unfolding natural_up_to bounded
    natural_stands most at n p e = go (read_natural (drop at bits)) refl e
      where
        found : (m : ℕ) (rest : List Bit) → read_natural (drop at bits) ≡ natural m rest → (b : Bool) → leb m most ≡ b
            → elim b [ true ↦ got m (at + (length (drop at bits) - length rest)) | false ↦ fault over_bound ] ≡ got n p
            → Stands bits at p (code_natural n) × (1 ≤ n) × (n ≤ most)
        found m rest q true l e =
            let c = read_is_code (drop at bits) m rest (below_drop 2 at bits are) q in
            let same : m ≡ n = cc in
            let to : at + (length (drop at bits) - length rest) ≡ p = cc in
            let size : at + length (code_natural m) ≡ p = omega (arith, ap length c.0, length-append (code_natural m) rest) in
            let there = front_stands at (code_natural m) rest (code_some m) c.0 in (
              subst₂ (λ (q : ℕ) (k : ℕ). Stands bits at q (code_natural k)) size same there,
              omega (arith, c.1),
              omega (arith, leb-true m most l),
            )
        found m rest q false l e = clash (cc)

        go : (x : Natural) → read_natural (drop at bits) ≡ x → bounded bits most at (drop at bits) x ≡ got n p
            → Stands bits at p (code_natural n) × (1 ≤ n) × (n ≤ most)
        go (natural m rest) q e = found m rest q (leb m most) refl e
        go ended q e = clash (cc)
        go too_long q e = clash (cc)

    -- it takes just the bits of its code
    pub natural_takes : (most at n p : ℕ) → natural_up_to bits most at ≡ got n p → p ≡ at + length (code_natural n)
    natural_takes most at n p e = (natural_stands most at n p e).0.ends_at

    pub stands_natural : (most at n p : ℕ) → most < natural_bound → 1 ≤ n → n ≤ most → Stands bits at p (code_natural n)
        → natural_up_to bits most at ≡ got n p
    unfolding natural_up_to bounded
    stands_natural most at n p b some l h =
        let read : read_natural (drop at bits) ≡ natural n (drop p bits) =
        ap read_natural h.bits_there ∙ reads_code n (drop p bits) some (omega arith) in
        let size : at + (length (drop at bits) - length (drop p bits)) ≡ p =
        omega (arith, length-drop at bits, length-drop p bits, h.ends_at, h.inside) in
        ap (bounded bits most at (drop at bits)) read ∙ rw (le-leb n most l, bounded) (ap (got n) size)

    -- a child of node i
    pub child_stands : (i at a p : ℕ) → child bits i at ≡ got a p → Stands bits at p (code_natural (i - a)) × (a < i)
    unfolding child give
    child_stands i at a p e =
        let r = both_got (natural_up_to bits i) (λ distance. give (i - distance)) at a p e in
        let n = natural_stands i at r.0 r.1 r.2 in
        let same : i - r.0 ≡ a = (let q = r.3 in cc) in
        let to : r.1 ≡ p = (let q = r.3 in cc) in
        let distance : r.0 ≡ i - a = omega (arith, n.1, n.2) in
        (subst₂ (λ (q k : ℕ). Stands bits at q (code_natural k)) to distance n.0, omega (arith, n.1, n.2))

    pub stands_child : (i at a p : ℕ) → i < natural_bound → a < i → Stands bits at p (code_natural (i - a)) → child bits i at ≡ got a p
    unfolding child give
    stands_child i at a p b l h =
        then_reads (natural_up_to bits i) (λ distance. give (i - distance)) at (i - a) p (stands_natural i at (i - a) p b (omega arith) (omega arith) h)
        ∙ ap (λ (n : ℕ). got n p) (let e : i - (i - a) ≡ a = omega arith in e)

    -- k whole bytes
    pub octets_stand : (k at : ℕ) (bytes : List ℕ) (p : ℕ) → octets bits k at ≡ got bytes p
        → Stands bits at p (bits_of bytes) × (length bytes ≡ k) × AreBytes bytes
    unfolding octets give
    octets_stand k at bytes p e =
        let r = both_got (next bits (8 * k)) (λ bs. give (bytes_of k bs)) at bytes p e in
        let n = next_stands (8 * k) at r.0 r.1 r.2 in
        let same : bytes_of k r.0 ≡ bytes = (let q = r.3 in cc) in
        let to : r.1 ≡ p = (let q = r.3 in cc) in
        let back = bits_of_bytes k r.0 n.1 (stands_bits at r.1 r.0 n.0) in (
          subst₂ (λ (q : ℕ) (x : List Bit). Stands bits at q x) to (sym back.0 ∙ ap bits_of same) n.0,
          ap length (sym same) ∙ length_bytes k r.0,
          subst AreBytes same back.1,
        )

    pub stand_octets : (at : ℕ) (bytes : List ℕ) (p : ℕ) → AreBytes bytes → Stands bits at p (bits_of bytes)
        → octets bits (length bytes) at ≡ got bytes p
    unfolding octets give
    stand_octets at bytes p b h =
        then_reads (next bits (8 * length bytes)) (λ bs. give (bytes_of (length bytes) bs)) at (bits_of bytes) p
        (ap (λ (k : ℕ). next bits k at) (sym (length_bits bytes)) ∙ stands_next at p (bits_of bytes) h)
        ∙ ap (λ (x : List ℕ). got x p) (bytes_of_bits bytes b)

    -- one bit, and two bits, as a number
    pub one_stands : (at v p : ℕ) → code bits 1 at ≡ got v p → Stands bits at p (v ∷ []) × (v < 2)
    unfolding code give number_from
    one_stands at v p e =
        let r = both_got (next bits 1) (λ bs. give (number_from 0 bs)) at v p e in
        let n = next_stands 1 at r.0 r.1 r.2 in
        go r.0 r.1 n.0 n.1 r.3
      where
        go : (x : List Bit) (q : ℕ) → Stands bits at q x → length x ≡ 1 → give (number_from 0 x) q ≡ got v p → Stands bits at p (v ∷ []) × (v < 2)
        go [] q h n e = absurd (omega arith)
        go (b ∷ []) q h n e =
            let same : 0 * 2 + b ≡ v = cc in
            let to : q ≡ p = cc in
            let bit : b ≡ v = omega arith in
            let small = (stands_bits at q (b ∷ []) h).0 in
            (subst₂ (λ (k c : ℕ). Stands bits at k (c ∷ [])) to bit h, omega arith)
        go (b ∷ c ∷ x) q h n e = absurd (omega arith)

    pub two_stand : (at v p : ℕ) → code bits 2 at ≡ got v p
        → (b : ℕ) × (c : ℕ) × Stands bits at p (b ∷ c ∷ []) × (b < 2) × (c < 2) × (number_from 0 (b ∷ c ∷ []) ≡ v)
    unfolding code give
    two_stand at v p e =
        let r = both_got (next bits 2) (λ bs. give (number_from 0 bs)) at v p e in
        let n = next_stands 2 at r.0 r.1 r.2 in
        go r.0 r.1 n.0 n.1 r.3
      where
        go : (x : List Bit) (q : ℕ) → Stands bits at q x → length x ≡ 2 → give (number_from 0 x) q ≡ got v p
            → (b : ℕ) × (c : ℕ) × Stands bits at p (b ∷ c ∷ []) × (b < 2) × (c < 2) × (number_from 0 (b ∷ c ∷ []) ≡ v)
        go [] q h n e = absurd (omega arith)
        go (b ∷ []) q h n e = absurd (omega arith)
        go (b ∷ c ∷ []) q h n e =
            let same : number_from 0 (b ∷ c ∷ []) ≡ v = cc in
            let to : q ≡ p = cc in
            let small = stands_bits at q (b ∷ c ∷ []) h in
            (b, c, subst (λ (k : ℕ). Stands bits at k (b ∷ c ∷ [])) to h, small.0, small.1.0, same)
        go (b ∷ c ∷ d ∷ x) q h n e = absurd (omega arith)

    pub stands_code : (at p : ℕ) (x : List Bit) → Stands bits at p x → code bits (length x) at ≡ got (number_from 0 x) p
    unfolding code give
    stands_code at p x h = then_reads (next bits (length x)) (λ bs. give (number_from 0 bs)) at x p (stands_next at p x h)
