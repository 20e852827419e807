-- One cell set: what that does to its byte is one test, computed over all bytes, places and both bits; a law carries it to the whole string.
-- Eight cells at once: a byte stored is eight bits put, and the eight bits from any place on are two neighbours shifted together.
use mathlib.Core.Path.{◌≡◌, refl, ap, ap₂, sym, subst, ◌∙◌}
use mathlib.Core.Bool.{Bool}
use mathlib.Core.List.{List, [], ◌∷◌, ◌++◌}
use Prim.Native.Nat.{ℕ, zero, suc, ◌+◌, ◌*◌, ◌-◌, ◌/◌, ◌%◌, ◌^◌, ◌≤◌, ◌<◌}
use native.Mathlib.Nat.{not-suc-le-zero}
use native.Mathlib.Omega.{arith}
use lib.Dec.{T, ltb, ltb→lt, lit<}
use lib.Ieee.Bits.{is_true}
use lib.ListN.{length, get_or, set, length-append, length-replicate, replicate-append-replicate, get_or-eq_default}
use lib.Seq.{sets, set-append_left, set_out, take_all}
use Rattle.report.specs.Bits.{byte_bits, bits_of, number_from, bytes_of}
use Rattle.scope.specs.Numbers.{same, zeros}
use Rattle.bititer.proofs.Tests.{both, both_left, both_right, below, below_at}
use Rattle.common.specs.Lists.{set-append-add}
use Rattle.common.specs.Checks.{same_equal}
use Rattle.common.specs.Bits.{length_bits}
use Rattle.bititer.proofs.Bits.{Bytes, bit_small, byte_at, unpacking}
use Rattle.bititer.proofs.Octets.{byte_split}
use Rattle.common.specs.Cells.{bits_from}
use Rattle.cells.proofs.Parts.{length_bits_from, bits_within, bits_alike}

-- the byte with bit b as its bit k, as the code computes it: what stood there is taken away
abbrev pub with_bit : ℕ → ℕ → ℕ → ℕ
with_bit x k b = let unit = 1 * 2 ^ (7 - k) % 256 in x - x / 2 ^ (7 - k) % 2 * unit + b * unit

bit_rule : (k b x : ℕ) → Bool
bit_rule k b x = both (ltb (with_bit x k b) 256) (same (byte_bits (with_bit x k b)) (set (byte_bits x) k b))

every_bit : T (below (λ k. below (λ b. below (bit_rule k b) 256) 2) 8)
unfolding bit_rule same
every_bit = tt

-- the same as facts
pub record BitSet (x k b : ℕ) : Type 0 where
  pub fits : with_bit x k b < 256
  pub bits : byte_bits (with_bit x k b) ≡ set (byte_bits x) k b

pub bit_set : (x k b : ℕ) → x < 256 → k < 8 → b < 2 → BitSet x k b
unfolding bit_rule
bit_set x k b hx hk hb =
    let r = ltb (with_bit x k b) 256 in
    let s = same (byte_bits (with_bit x k b)) (set (byte_bits x) k b) in
    let t : T (both r s) =
    below_at (bit_rule k b) 256 x
    (below_at (λ c. below (bit_rule k c) 256) 2 b (below_at (λ j. below (λ c. below (bit_rule j c) 256) 2) 8 k every_bit hk) hb) hx in
    record { fits = ltb→lt _ _ (both_left r s t); bits = same_equal _ _ (is_true _ (both_right r s t)) }

-- a byte with its bit k set, in its string
set_bits : (s : List ℕ) (i k x b : ℕ) → i < length s → k < 8 → byte_bits x ≡ set (byte_bits (get_or s i 0)) k b
    → bits_of (set s i x) ≡ set (bits_of s) (8 * i + k) b
unfolding bits_of
set_bits [] i k x b h l e = absurd (not-suc-le-zero h)
set_bits (y ∷ s) zero k x b h l e =
    let z : 8 * 0 + k ≡ k = omega arith in
    ap (λ (t : List ℕ). t ++ bits_of s) e
    ∙ sym (set-append_left (byte_bits y) (bits_of s) k b l)
    ∙ ap (λ (n : ℕ). set (byte_bits y ++ bits_of s) n b) (sym z)
set_bits (y ∷ s) (suc i) k x b h l e =
    let z : 8 * suc i + k ≡ 8 + (8 * i + k) = omega arith in
    ap (λ (t : List ℕ). byte_bits y ++ t) (set_bits s i k x b (omega arith) l e)
    ∙ sym (set-append-add (byte_bits y) (bits_of s) (8 * i + k) b)
    ∙ ap (λ (n : ℕ). set (byte_bits y ++ bits_of s) n b) (sym z)

pub cell_set : (s : List ℕ) (p x b : ℕ) → p / 8 < length s → byte_bits x ≡ set (byte_bits (get_or s (p / 8) 0)) (p % 8) b
    → bits_of (set s (p / 8) x) ≡ set (bits_of s) p b
cell_set s p x b h e =
    let z : 8 * (p / 8) + p % 8 ≡ p = omega arith in
    set_bits s (p / 8) (p % 8) x b h (omega arith) e ∙ ap (λ (n : ℕ). set (bits_of s) n b) z

-- past the end nothing is set and 0 is read
pub past_set : (s : List ℕ) (p b : ℕ) → length s ≤ p / 8 → set (bits_of s) p b ≡ bits_of s
past_set s p b h = set_out (bits_of s) p b (omega (arith, length_bits s))

pub past_read : (s : List ℕ) (p : ℕ) → length s ≤ p / 8 → get_or (bits_of s) p 0 ≡ 0
past_read s p h = let l : length (bits_of s) ≤ p = omega (arith, length_bits s) in get_or-eq_default (bits_of s) 0 l

-- a whole byte stored is its eight bits put
sets-append-add : (xs ys : List ℕ) (n : ℕ) (vs : List ℕ) → sets (xs ++ ys) (length xs + n) vs ≡ xs ++ sets ys n vs
sets-append-add xs ys n [] = refl
sets-append-add xs ys n (a ∷ vs) =
    let e : suc (length xs + n) ≡ length xs + suc n = omega arith in
    ap₂ (λ (l : List ℕ) (j : ℕ). sets l j vs) (set-append-add xs ys n a) e ∙ sets-append-add xs (set ys n a) (suc n) vs

pub byte_set : (s : List ℕ) (i x : ℕ) → i < length s → bits_of (set s i x) ≡ sets (bits_of s) (8 * i) (byte_bits x)
unfolding bits_of
byte_set [] i x h = absurd (not-suc-le-zero h)
byte_set (y ∷ s) zero x h = refl
byte_set (y ∷ s) (suc i) x h =
    let z : 8 * suc i ≡ 8 + 8 * i = omega arith in
    ap (λ (t : List ℕ). byte_bits y ++ t) (byte_set s i x (omega arith))
    ∙ sym (sets-append-add (byte_bits y) (bits_of s) (8 * i) (byte_bits x))
    ∙ ap (λ (n : ℕ). sets (byte_bits y ++ bits_of s) n (byte_bits x)) (sym z)

sets_out : (l : List ℕ) (t : ℕ) (vs : List ℕ) → length l ≤ t → sets l t vs ≡ l
sets_out l t [] h = refl
sets_out l t (a ∷ vs) h = ap (λ (m : List ℕ). sets m (suc t) vs) (set_out l t a h) ∙ sets_out l (suc t) vs (omega arith)

pub past_byte : (s : List ℕ) (i x : ℕ) → length s ≤ i → sets (bits_of s) (8 * i) (byte_bits x) ≡ bits_of s
past_byte s i x h = sets_out (bits_of s) (8 * i) (byte_bits x) (omega (arith, length_bits s))

-- zeros behind a list are what is read past its end anyway
get_d_padded : (l : List ℕ) (n j : ℕ) → get_or (l ++ zeros n) j 0 ≡ get_or l j 0
get_d_padded [] zero j = refl
get_d_padded [] (suc n) zero = refl
get_d_padded [] (suc n) (suc j) = get_d_padded [] n j
get_d_padded (x ∷ l) n zero = refl
get_d_padded (x ∷ l) n (suc j) = get_d_padded l n j

bits_padded : (s : List ℕ) (n : ℕ) → bits_of (s ++ zeros n) ≡ bits_of s ++ zeros (8 * n)
unfolding bits_of
bits_padded [] zero = refl
bits_padded [] (suc n) =
    let e : 8 * suc n ≡ 8 + 8 * n = omega arith in
    ap (λ (t : List ℕ). byte_bits 0 ++ t) (bits_padded [] n) ∙ replicate-append-replicate 8 (8 * n) 0 ∙ ap zeros (sym e)
bits_padded (x ∷ s) n = ap (λ (t : List ℕ). byte_bits x ++ t) (bits_padded s n)

-- the bits of zero bytes
pub zero_bits : (n : ℕ) → bits_of (zeros n) ≡ zeros (8 * n)
unfolding bits_of
zero_bits n = bits_padded [] n

-- eight bits of a string are a byte's
small_from : (s : List ℕ) (p n i : ℕ) → get_or (bits_from (bits_of s) p n) i 0 < 2
unfolding bits_from
small_from s p zero i = lit< tt
small_from s p (suc n) zero = bit_small s p
small_from s p (suc n) (suc i) = small_from s (suc p) n i

pub eight_from : (s : List ℕ) (p : ℕ) → byte_bits (number_from 0 (bits_from (bits_of s) p 8)) ≡ bits_from (bits_of s) p 8
unfolding bits_of bytes_of
eight_from s p =
    let l = bits_from (bits_of s) p 8 in
    ap (λ (t : List ℕ). byte_bits (number_from 0 t)) (sym (take_all 8 l (omega (arith, length_bits_from (bits_of s) p 8))))
    ∙ unpacking 1 l (length_bits_from (bits_of s) p 8) (small_from s p 8)

-- eight bits from a place on as the code computes them, from the byte x in which they begin and the next; for a place past the end zero
-- bytes are put behind the string
abbrev pub across : (x y k : ℕ) → ℕ
across x y k = x * 2 ^ k % 256 + y / 2 ^ (8 - k)

pub across_fits : (x y k : ℕ) → x < 256 → y < 256 → k < 8 → across x y k < 256
across_fits x y k hx hy hk = omega (arith, (byte_at k x hk hx).low_fits, (byte_at k y hk hy).high_small)

across_within : (s : List ℕ) (i k : ℕ) → Bytes s → k < 8 → i + 1 < length s
    → byte_bits (across (get_or s i 0) (get_or s (i + 1) 0) k) ≡ bits_from (bits_of s) (8 * i + k) 8
across_within s i k h hk l =
    ap (λ (n : ℕ). byte_bits n)
    (sym (byte_split s i k hk l (h i) (h (i + 1))) ∙ ap (number_from 0) (sym (bits_within (bits_of s) (8 * i + k) 8 (omega (arith, length_bits s)))))
    ∙ eight_from s (8 * i + k)

across_anywhere : (s : List ℕ) (i k : ℕ) → Bytes s → k < 8 → byte_bits (across (get_or s i 0) (get_or s (i + 1) 0) k) ≡ bits_from (bits_of s) (8 * i + k) 8
across_anywhere s i k h hk =
    let t = s ++ zeros (i + 2) in
    ap₂ (λ (x y : ℕ). byte_bits (across x y k)) (sym (get_d_padded s (i + 2) i)) (sym (get_d_padded s (i + 2) (i + 1)))
    ∙ across_within t i k (λ j. subst (λ (x : ℕ). x < 256) (sym (get_d_padded s (i + 2) j)) (h j)) hk
    (omega (arith, length-append s (zeros (i + 2)), length-replicate {A = ℕ} (i + 2) 0))
    ∙ bits_alike (bits_of t) (bits_of s) (λ j. ap (λ (l : List ℕ). get_or l j 0) (bits_padded s (i + 2)) ∙ get_d_padded (bits_of s) (8 * (i + 2)) j) (8 * i + k) 8

pub byte_across : (s : List ℕ) (p x y : ℕ) → Bytes s → x ≡ get_or s (p / 8) 0 → y ≡ get_or s (p / 8 + 1) 0 → byte_bits (across x y (p % 8)) ≡ bits_from (bits_of s) p 8
byte_across s p x y h u v =
    let z : 8 * (p / 8) + p % 8 ≡ p = omega arith in
    ap₂ (λ (m n : ℕ). byte_bits (across m n (p % 8))) u v
    ∙ across_anywhere s (p / 8) (p % 8) h (omega arith)
    ∙ ap (λ (q : ℕ). bits_from (bits_of s) q 8) z

-- at the start of a byte they are that byte
pub byte_whole : (s : List ℕ) (p x : ℕ) → Bytes s → x ≡ get_or s (p / 8) 0 → p % 8 ≡ 0 → byte_bits x ≡ bits_from (bits_of s) p 8
byte_whole s p x h u e =
    let z : 8 * (p / 8) + 0 ≡ p = omega arith in
    let w : x ≡ across (get_or s (p / 8) 0) (get_or s (p / 8 + 1) 0) 0 = omega (arith, h (p / 8), h (p / 8 + 1)) in
    ap (λ (n : ℕ). byte_bits n) w
    ∙ across_anywhere s (p / 8) 0 h (lit< tt)
    ∙ ap (λ (q : ℕ). bits_from (bits_of s) q 8) z
