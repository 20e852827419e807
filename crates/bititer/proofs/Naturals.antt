-- Reading a natural: a turn of each of the code's loops, what the reader gives at a position, and what a natural that was read is.
use mathlib.Core.Path.{◌≡◌, refl, ap, ap₂, sym, ◌∙◌}
use mathlib.Core.Bool.{Bool, true, false}
use mathlib.Core.List.{List, [], ◌∷◌}
use Prim.Native.Nat.{ℕ, zero, suc, ◌+◌, ◌*◌, ◌-◌, ◌^◌, ◌≤◌, ◌<◌}
use native.Mathlib.Numerals.{add-one}
use native.Mathlib.Omega.{arith}
use native.Mathlib.Decide.{dec_lt}
use borrow.Author.Tests.{le-leb, lt-leb, leb-true}
use lib.Dec.{leb}
use lib.ListN.{length, drop, length-drop}
use lib.Pow.{pow_mono, pow-add}
use lib.Seq.{drop-drop}
use Rattle.limits.specs.Limits.{natural_length, dossier_bytes}
use Rattle.report.specs.Bits.{Bit}
use Rattle.scope.specs.Naturals.{Natural, natural, ended, too_long, more_bits, of_length, read_natural}
use Rattle.scope.specs.Reading.{got, fault, stream_ended, length_too_long, over_bound, bounded, natural_up_to}
use Rattle.scope.specs.Numbers.{stream_of}
use Rattle.common.specs.Numbers.{length_fits, length_too_long_lem}
use Rattle.bititer.specs.Answers.{at_most}
use Rattle.bititer.specs.Parts.{of_lengths}
use Rattle.bititer.proofs.Streams.{length_stream}

-- the ones that begin a natural
pub natural_none : (l : List Bit) → l ≡ [] → read_natural l ≡ ended
unfolding read_natural
natural_none l e = rw e

pub natural_zero : (l r : List Bit) (b : ℕ) → l ≡ b ∷ r → b ≡ 0 → read_natural l ≡ natural 1 r
unfolding read_natural
natural_zero l r b e z = rw (e, z)

pub natural_one : (l r : List Bit) (b : ℕ) → l ≡ b ∷ r → (b ≡ 0 → ⊥) → read_natural l ≡ of_length (read_natural r)
unfolding read_natural
natural_one l r b e n = rw e (go b n)
  where
    go : (b : ℕ) → (b ≡ 0 → ⊥) → read_natural (b ∷ r) ≡ of_length (read_natural r)
    go zero n = absurd (n refl)
    go (suc b) n = refl

-- the lengths that follow them
pub lengths_none : (x : Natural) → of_lengths 0 x ≡ x
unfolding of_lengths
lengths_none x = refl

pub lengths_more : (k : ℕ) (x : Natural) → of_lengths (k + 1) x ≡ of_lengths k (of_length x)
unfolding of_lengths
lengths_more k x = rw add-one

pub lengths_ended : (k : ℕ) → of_lengths k ended ≡ ended
unfolding of_lengths of_length
lengths_ended zero = refl
lengths_ended (suc k) = lengths_ended k

pub lengths_long : (k : ℕ) → of_lengths k too_long ≡ too_long
unfolding of_lengths of_length
lengths_long zero = refl
lengths_long (suc k) = lengths_long k

-- one length less, of which there are some
lengths_less : (k : ℕ) (x : Natural) → 0 < k → of_lengths k x ≡ of_lengths (k - 1) (of_length x)
lengths_less k x h = let e : k ≡ k - 1 + 1 = omega arith in ap (λ (j : ℕ). of_lengths j x) e ∙ lengths_more (k - 1) x

pub lengths_turn : (k n : ℕ) (l : List Bit) (y : Natural) → 0 < k → n ≤ natural_length → more_bits n 1 l ≡ y → of_lengths k (natural n l) ≡ of_lengths (k - 1) y
lengths_turn k n l y h f e = lengths_less k (natural n l) h ∙ ap (of_lengths (k - 1)) (length_fits n l f ∙ e)

pub lengths_cut : (k n : ℕ) (l : List Bit) → 0 < k → n ≤ natural_length → more_bits n 1 l ≡ ended → of_lengths k (natural n l) ≡ ended
lengths_cut k n l h f e = lengths_turn k n l ended h f e ∙ lengths_ended (k - 1)

pub lengths_stop : (k n : ℕ) (l : List Bit) → 0 < k → natural_length < n → of_lengths k (natural n l) ≡ too_long
lengths_stop k n l h f = lengths_less k (natural n l) h ∙ ap (of_lengths (k - 1)) (length_too_long_lem n l f) ∙ lengths_long (k - 1)

pub lengths_done : (k : ℕ) (x : Natural) → k ≡ 0 → of_lengths k x ≡ x
lengths_done k x e = ap (λ (j : ℕ). of_lengths j x) e ∙ lengths_none x

-- the bits of a length
pub bits_done_lem : (k n : ℕ) (l : List Bit) → k ≡ 0 → more_bits k n l ≡ natural n l
unfolding more_bits
bits_done_lem k n l e = rw e

pub bits_cut : (k n : ℕ) (l : List Bit) → 0 < k → l ≡ [] → more_bits k n l ≡ ended
unfolding more_bits
bits_cut k n l h e = rw e (go k h)
  where
    go : (k : ℕ) → 0 < k → more_bits k n [] ≡ ended
    go zero h = absurd (omega arith)
    go (suc k) h = refl

pub bits_turn : (k n b : ℕ) (l r : List Bit) → 0 < k → l ≡ b ∷ r → more_bits k n l ≡ more_bits (k - 1) (n * 2 + b) r
unfolding more_bits
bits_turn k n b l r h e = let j : k ≡ suc (k - 1) = omega arith in ap₂ (λ (i : ℕ) (t : List Bit). more_bits i n t) j e

-- a number of so many bits after its first fits, and so does the next
pub bits_fit : (count n b : ℕ) → count < natural_length → n < 2 ^ (count + 1) → b < 2 → (n * 2 + b < 2 ^ (count + 1 + 1)) × (n * 2 + b < 2 ^ 32)
bits_fit count n b hc hn hb =
    let d : 2 ^ (count + 1 + 1) ≡ 2 ^ (count + 1) * 2 = pow-add 2 (count + 1) 1 in
    let w : 2 ^ (count + 1) ≤ 2 ^ 31 = pow_mono {i = count + 1} {j = 31} (omega arith) in
    (rw d (omega arith), omega arith)

-- what is left after bits that were read, and that the number did not fall
pub bits_got : (k n m : ℕ) (l r : List Bit) → more_bits k n l ≡ natural m r → (k ≤ length l) × (r ≡ drop k l) × (n ≤ m)
unfolding more_bits
bits_got zero n m l r e = (omega arith, (let q : r ≡ l = cc in q), (let q : n ≡ m = cc in omega arith))
bits_got (suc k) n m [] r e = let z : ◌≡◌ {A = ℕ} 0 1 = cc in absurd (omega arith)
bits_got (suc k) n m (b ∷ l) r e = let h = bits_got k (n * 2 + b) m l r e in (omega arith, h.1, omega arith)

-- a natural that was read is at least 1, and what is left is a shorter end of the list
pub natural_told : (l : List Bit) (n : ℕ) (r : List Bit) → read_natural l ≡ natural n r → (1 ≤ n) × (length r < length l) × (r ≡ drop (length l - length r) l)
unfolding read_natural
natural_told [] n r e = let z : ◌≡◌ {A = ℕ} 0 1 = cc in absurd (omega arith)
natural_told (zero ∷ l) n r e =
    let q : r ≡ l = cc in
    let m : 1 ≡ n = cc in
    let d : suc (length l) - length r ≡ 1 = omega (arith, ap length q) in
    let f : l ≡ drop (suc (length l) - length r) (0 ∷ l) = ap (λ (j : ℕ). drop j (0 ∷ l)) (sym d) in
    (omega arith, omega (arith, ap length q), q ∙ f)
natural_told (suc b ∷ l) n r e = go (read_natural l) (λ m t f. natural_told l m t f) e
  where
    long : (m : ℕ) (t : List Bit) → of_length (natural m t) ≡ natural n r → natural_length < m → ⊥
    long m t e h = let c : natural n r ≡ too_long = sym e ∙ length_too_long_lem m t h in let z : ◌≡◌ {A = ℕ} 0 1 = cc in omega arith

    fine : (m : ℕ) (t : List Bit) → (1 ≤ m) × (length t < length l) × (t ≡ drop (length l - length t) l)
        → of_length (natural m t) ≡ natural n r → m ≤ natural_length
        → (1 ≤ n) × (length r < length (suc b ∷ l)) × (r ≡ drop (length (suc b ∷ l) - length r) (suc b ∷ l))
    fine m t i e h =
        let g = bits_got m 1 n t r (sym (length_fits m t h) ∙ e) in
        let a : length r ≡ length t - m = ap length g.1 ∙ length-drop m t in
        let d : r ≡ drop (length l - length t + m) l = g.1 ∙ ap (drop m) i.2 ∙ drop-drop m (length l - length t) l in
        let p : suc (length l) - length r ≡ suc (length l - length t + m) = omega arith in
        (omega arith, omega arith, d ∙ ap (λ (j : ℕ). drop j (suc b ∷ l)) (sym p))

    go : (x : Natural) → ((m : ℕ) (t : List Bit) → x ≡ natural m t → (1 ≤ m) × (length t < length l) × (t ≡ drop (length l - length t) l))
        → of_length x ≡ natural n r
        → (1 ≤ n) × (length r < length (suc b ∷ l)) × (r ≡ drop (length (suc b ∷ l) - length r) (suc b ∷ l))
    go (natural m t) ih e = elim (dec_lt natural_length m) [ yes h ↦ absurd (long m t e h) | no k ↦ fine m t (ih m t refl) e (omega arith) ]
    go ended ih e = let z : ◌≡◌ {A = ℕ} 0 1 = cc in absurd (omega arith)
    go too_long ih e = let z : ◌≡◌ {A = ℕ} 0 1 = cc in absurd (omega arith)

-- a number within its bound, and one over it
pub at_most_read : (bound n next : ℕ) → n ≤ bound → got n next ≡ at_most bound n next
at_most_read bound n next h = rw (le-leb n bound h, at_most)

pub at_most_over : (bound n next : ℕ) → bound < n → fault over_bound ≡ at_most bound n next
at_most_over bound n next h = rw (lt-leb n bound h, at_most)

-- the reader with its bound, at a position
module _ (bits : List Bit) (most p : ℕ) where
  pub up_to_ended : read_natural (drop p bits) ≡ ended → natural_up_to bits most p ≡ fault stream_ended
  unfolding natural_up_to bounded
  up_to_ended e = ap (bounded bits most p (drop p bits)) e

  pub up_to_long : read_natural (drop p bits) ≡ too_long → natural_up_to bits most p ≡ fault length_too_long
  unfolding natural_up_to bounded
  up_to_long e = ap (bounded bits most p (drop p bits)) e

  pub up_to_over : (n : ℕ) (r : List Bit) → read_natural (drop p bits) ≡ natural n r → most < n → natural_up_to bits most p ≡ fault over_bound
  unfolding natural_up_to bounded
  up_to_over n r e h = ap (bounded bits most p (drop p bits)) e ∙ rw (lt-leb n most h, bounded)

  pub up_to_read : (n next : ℕ) → read_natural (drop p bits) ≡ natural n (drop next bits) → p ≤ next → next ≤ length bits → n ≤ most
      → natural_up_to bits most p ≡ got n next
  unfolding natural_up_to bounded
  up_to_read n next e a b h =
      let j : p + (length (drop p bits) - length (drop next bits)) ≡ next = omega (arith, length-drop p bits, length-drop next bits) in
      ap (bounded bits most p (drop p bits)) e ∙ rw (le-leb n most h, bounded) (ap (got n) j)

  -- a natural that was read, whatever its bound
  pub up_to_natural : (n next : ℕ) → read_natural (drop p bits) ≡ natural n (drop next bits) → p ≤ next → next ≤ length bits
      → natural_up_to bits most p ≡ at_most most n next
  unfolding natural_up_to bounded
  up_to_natural n next e a b =
      let j : p + (length (drop p bits) - length (drop next bits)) ≡ next = omega (arith, length-drop p bits, length-drop next bits) in
      ap (bounded bits most p (drop p bits)) e ∙ ap (at_most most n) j

  -- a natural that was read: from 1 to its bound, the next position within the stream, and what stands from there on
  pub up_to_got : (n next : ℕ) → natural_up_to bits most p ≡ got n next
      → (1 ≤ n) × (n ≤ most) × (p < next) × (next ≤ length bits) × (read_natural (drop p bits) ≡ natural n (drop next bits))
  unfolding natural_up_to bounded
  up_to_got n next e = go (read_natural (drop p bits)) refl e
    where
      told : (m : ℕ) (r : List Bit) → read_natural (drop p bits) ≡ natural m r → (t : Bool) → leb m most ≡ t
          → elim t [ true ↦ got m (p + (length (drop p bits) - length r)) | false ↦ fault over_bound ] ≡ got n next
          → (1 ≤ n) × (n ≤ most) × (p < next) × (next ≤ length bits) × (read_natural (drop p bits) ≡ natural n (drop next bits))
      told m r x true b e =
          let i = natural_told (drop p bits) m r x in
          let h = leb-true m most b in
          let v : m ≡ n = cc in
          let w : p + (length (drop p bits) - length r) ≡ next = cc in
          let d : r ≡ drop next bits = i.2 ∙ drop-drop (length (drop p bits) - length r) p bits ∙ ap (λ (j : ℕ). drop j bits) w in
          (omega arith, omega arith, omega arith, omega (arith, length-drop p bits), x ∙ ap₂ natural v d)
      told m r x false b e = let z : ◌≡◌ {A = ℕ} 0 1 = cc in absurd (omega arith)

      go : (y : Natural) → read_natural (drop p bits) ≡ y → bounded bits most p (drop p bits) y ≡ got n next
          → (1 ≤ n) × (n ≤ most) × (p < next) × (next ≤ length bits) × (read_natural (drop p bits) ≡ natural n (drop next bits))
      go (natural m r) x e = told m r x (leb m most) refl e
      go ended x e = let z : ◌≡◌ {A = ℕ} 0 1 = cc in absurd (omega arith)
      go too_long x e = let z : ◌≡◌ {A = ℕ} 0 1 = cc in absurd (omega arith)

pub natural_inside : (s : List ℕ) (most p n next : ℕ) → natural_up_to (stream_of s) most p ≡ got n next → (next ≤ 8 * length s) × (next ≤ 8 * dossier_bytes)
natural_inside s most p n next e =
    let g =
    up_to_got (stream_of s) most p n next e in (omega (arith, g.3, length_stream s), omega (arith, g.3, length_stream s))
