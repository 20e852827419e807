-- The bits of a string of bytes: how many there are, which bits stand from a position on, and that bytes are told by their bits.
-- What is true of single bytes is one test, computed over all of them at every bit position.
use mathlib.Core.Path.{◌≡◌, refl, ap, ap₂, sym, ◌∙◌}
use mathlib.Core.Bool.{Bool}
use mathlib.Core.List.{List, [], ◌∷◌, ◌++◌}
use Prim.Native.Nat.{ℕ, zero, suc, ◌+◌, ◌*◌, ◌-◌, ◌/◌, ◌%◌, ◌^◌, ◌≤◌, ◌<◌}
use native.Mathlib.Nat.{not-suc-le-zero}
use native.Mathlib.Omega.{arith}
use lib.Dec.{T, leb, ltb, eqb, leb→le, ltb→lt, eqb→eq, lit<}
use native.Mathlib.Decide.{dec_lt}
use lib.ListN.{length, get_or, take, drop, drop_of_length-le, get_or-eq_default}
use lib.Seq.{drop-append-le, drop-append-add, get_or-drop}
use Rattle.report.specs.Bits.{byte_bits, bits_of, number_from, bytes_of}
use Rattle.scope.specs.Numbers.{all_zero}
use Rattle.common.specs.Bits.{length_bits, each_below, bytes_of_bits, bits_of_bytes}
use Rattle.bititer.proofs.Tests.{both, both_left, both_right, agree, agree_eq, below, below_at}

-- from bit k of byte i on: the rest of that byte, then the bytes after it
pub bits_from_lem : (s : List ℕ) (i k : ℕ) → i < length s → k ≤ 8
    → drop (8 * i + k) (bits_of s) ≡ drop k (byte_bits (get_or s i 0)) ++ bits_of (drop (suc i) s)
unfolding bits_of
bits_from_lem [] i k h l = absurd (not-suc-le-zero h)
bits_from_lem (b ∷ s) zero k h l =
    let e : 8 * 0 + k ≡ k = omega arith in
    ap (λ (n : ℕ). drop n (byte_bits b ++ bits_of s)) e ∙ drop-append-le k (byte_bits b) (bits_of s) l
bits_from_lem (b ∷ s) (suc i) k h l =
    let e : 8 * suc i + k ≡ 8 + (8 * i + k) = omega arith in
    ap (λ (n : ℕ). drop n (byte_bits b ++ bits_of s)) e ∙ drop-append-add (byte_bits b) (bits_of s) (8 * i + k) ∙ bits_from_lem s i k (omega arith) l

-- what holds at 0 to 7 holds of every number below 8
pub below_eight : (P : ℕ → Type 0) → P 0 → P 1 → P 2 → P 3 → P 4 → P 5 → P 6 → P 7 → (k : ℕ) → k < 8 → P k
below_eight P a b c d e f g h zero l = a
below_eight P a b c d e f g h (suc zero) l = b
below_eight P a b c d e f g h (suc (suc zero)) l = c
below_eight P a b c d e f g h (suc (suc (suc zero))) l = d
below_eight P a b c d e f g h (suc (suc (suc (suc zero)))) l = e
below_eight P a b c d e f g h (suc (suc (suc (suc (suc zero))))) l = f
below_eight P a b c d e f g h (suc (suc (suc (suc (suc (suc zero)))))) l = g
below_eight P a b c d e f g h (suc (suc (suc (suc (suc (suc (suc zero))))))) l = h
below_eight P a b c d e f g h (suc (suc (suc (suc (suc (suc (suc (suc k)))))))) l = absurd (omega arith)

byte_from : (x k : ℕ) → k < 8 → drop k (byte_bits x) ≡ x / 2 ^ (7 - k) % 2 ∷ drop (suc k) (byte_bits x)
byte_from x =
    below_eight (λ k. drop k (byte_bits x) ≡ x / 2 ^ (7 - k) % 2 ∷ drop (suc k) (byte_bits x)) refl refl refl refl refl refl refl
    (ap (λ (b : ℕ). b ∷ []) (let e : x % 2 ≡ x / 1 % 2 = omega arith in e))

-- the bit at position p, as code computes it from its byte
abbrev pub bit_at : List ℕ → ℕ → ℕ
bit_at s p = get_or s (p / 8) 0 / 2 ^ (7 - p % 8) % 2

pub bit_from : (s : List ℕ) (p : ℕ) → p / 8 < length s → drop p (bits_of s) ≡ bit_at s p ∷ drop (suc p) (bits_of s)
bit_from s p h =
    let e : p ≡ 8 * (p / 8) + p % 8 = omega arith in
    let n : 8 * (p / 8) + suc (p % 8) ≡ suc p = omega arith in
    let x = get_or s (p / 8) 0 in
    let r = bits_of (drop (suc (p / 8)) s) in
    ap (λ (q : ℕ). drop q (bits_of s)) e
    ∙ bits_from_lem s (p / 8) (p % 8) h (omega arith)
    ∙ ap (λ (l : List ℕ). l ++ r) (byte_from x (p % 8) (omega arith))
    ∙ ap (λ (l : List ℕ). bit_at s p ∷ l) (sym (bits_from_lem s (p / 8) (suc (p % 8)) h (omega arith)) ∙ ap (λ (q : ℕ). drop q (bits_of s)) n)

pub bits_end : (s : List ℕ) (p : ℕ) → length s ≤ p / 8 → drop p (bits_of s) ≡ []
bits_end s p h = drop_of_length-le (bits_of s) {i = p} (omega (arith, length_bits s))

pub bit_at_lem : (s : List ℕ) (p : ℕ) → p / 8 < length s → get_or (bits_of s) p 0 ≡ bit_at s p
bit_at_lem s p h =
    let e : p ≡ p + 0 = omega arith in
    ap (λ (q : ℕ). get_or (bits_of s) q 0) e ∙ sym (get_or-drop p (bits_of s) 0 0) ∙ ap (λ (l : List ℕ). get_or l 0 0) (bit_from s p h)

pub bit_small : (s : List ℕ) (p : ℕ) → get_or (bits_of s) p 0 < 2
bit_small s p = elim (dec_lt (p / 8) (length s)) [
  | yes h ↦ rw (bit_at_lem s p h) (omega arith)
  | no n ↦ past (let h : length s ≤ p / 8 = omega arith in h)
]
  where
    past : length s ≤ p / 8 → get_or (bits_of s) p 0 < 2
    past h =
        let l : length (bits_of s) ≤ p = omega (arith, length_bits s) in
        rw (get_or-eq_default (bits_of s) 0 l) (lit< tt)

-- each byte is below 256, as it is in every slice of bytes
abbrev pub Bytes : List ℕ → Type 0
Bytes s = (i : ℕ) → get_or s i 0 < 256

-- what is true of every byte x at bit k: its bits from k on and its bits before k as numbers, and when the bits from k on are zero
byte_rule : ℕ → ℕ → Bool
byte_rule k x =
    both (eqb (number_from 0 (drop k (byte_bits x)) * 2 ^ k) (x * 2 ^ k % 256))
    (both (eqb (number_from 0 (take k (byte_bits x))) (x / 2 ^ (8 - k)))
    (both (ltb (x / 2 ^ (8 - k)) (2 ^ k))
    (both (leb (x * 2 ^ k % 256 + 2 ^ k) 256) (agree (all_zero (drop k (byte_bits x))) (eqb (x * 2 ^ k % 256) 0)))))

every_byte : T (below (λ k. below (byte_rule k) 256) 8)
unfolding byte_rule number_from all_zero
every_byte = tt

-- the same as facts
pub record ByteAt (k x : ℕ) : Type 0 where
  pub low : number_from 0 (drop k (byte_bits x)) * 2 ^ k ≡ x * 2 ^ k % 256
  pub high : number_from 0 (take k (byte_bits x)) ≡ x / 2 ^ (8 - k)
  pub high_small : x / 2 ^ (8 - k) < 2 ^ k
  pub low_fits : x * 2 ^ k % 256 + 2 ^ k ≤ 256
  pub low_zero : all_zero (drop k (byte_bits x)) ≡ eqb (x * 2 ^ k % 256) 0

pub byte_at : (k x : ℕ) → k < 8 → x < 256 → ByteAt k x
unfolding byte_rule
byte_at k x hk hx =
    let a = eqb (number_from 0 (drop k (byte_bits x)) * 2 ^ k) (x * 2 ^ k % 256) in
    let b = eqb (number_from 0 (take k (byte_bits x))) (x / 2 ^ (8 - k)) in
    let c = ltb (x / 2 ^ (8 - k)) (2 ^ k) in
    let d = leb (x * 2 ^ k % 256 + 2 ^ k) 256 in
    let e = agree (all_zero (drop k (byte_bits x))) (eqb (x * 2 ^ k % 256) 0) in
    let t : T (both a (both b (both c (both d e)))) = below_at (byte_rule k) 256 x (below_at (λ j. below (byte_rule j) 256) 8 k every_byte hk) hx in
    let u = both_right a (both b (both c (both d e))) t in
    let v = both_right b (both c (both d e)) u in
    let w = both_right c (both d e) v in
    record {
      low = eqb→eq _ _ (both_left a (both b (both c (both d e))) t);
      high = eqb→eq _ _ (both_left b (both c (both d e)) u);
      high_small = ltb→lt _ _ (both_left c (both d e) v);
      low_fits = leb→le _ _ (both_left d e w);
      low_zero = agree_eq _ _ (both_right d e w);
    }

-- bytes are packed again from their bits
pub packing : (s : List ℕ) → Bytes s → bytes_of (length s) (bits_of s) ≡ s
packing s h = bytes_of_bits s (each_below 256 s (λ i l. h i))

-- so two strings of bytes with the same bits are the same
pub bits_tell : (s t : List ℕ) → Bytes s → Bytes t → bits_of s ≡ bits_of t → s ≡ t
bits_tell s t hs ht e =
    let n : length s ≡ length t = omega (arith, length_bits s, length_bits t, ap length e) in
    sym (packing s hs) ∙ ap₂ bytes_of n e ∙ packing t ht

-- bits that fill whole bytes are those of the bytes that they are packed in
pub unpacking : (k : ℕ) (l : List ℕ) → length l ≡ 8 * k → ((i : ℕ) → get_or l i 0 < 2) → bits_of (bytes_of k l) ≡ l
unpacking k l n h = (bits_of_bytes k l n (each_below 2 l (λ i m. h i))).0
