-- Windows: some of the bits of a number as a part of it, four bytes as the window that stands in them, and what is cut out of a window.
-- A natural's code within a window is read from its number: the ones that it begins with, then each length from the one before.
use mathlib.Core.Path.{◌≡◌, refl, ap, ap₂, sym, subst, ◌∙◌}
use mathlib.Core.List.{List, [], ◌∷◌, ◌++◌}
use Prim.Native.Nat.{ℕ, zero, suc, ◌+◌, ◌*◌, ◌-◌, ◌/◌, ◌%◌, ◌^◌, ◌≤◌, ◌<◌}
use native.Mathlib.Nat.{mod-lt, one-mul}
use native.Mathlib.Omega.{arith}
use borrow.Author.Tests.{le-leb, lt-leb}
use lib.ListN.{length, get_or, take, drop, length-drop, take-append-drop}
use lib.Pow.{high, low, shl-shr, shr-shr, field, pow_mono, pow_pos, shl_exact}
use lib.Seq.{length-take-le, take-take, drop-drop, drop-cons}
use Rattle.report.specs.Bits.{Bit, byte_bits, bits_of, number_from}
use Rattle.scope.specs.Naturals.{natural, more_bits, of_length, read_natural}
use Rattle.scope.specs.Numbers.{stream_of, be32}
use Rattle.scope.specs.Reading.{got, code}
use Rattle.common.specs.Bits.{AreBits, below_take, below_drop, are_bits, bits_of_byte, length_bits, stream_within}
use Rattle.common.specs.Lists.{drop-take}
use Rattle.common.specs.Numbers.{double, length_fits}
use Rattle.bititer.specs.Windows.{window_bits, Window, after_one}
use Rattle.bititer.proofs.Bits.{bits_from_lem}
use Rattle.bititer.proofs.Octets.{number_append, number_scaled}
use Rattle.bititer.proofs.Naturals.{natural_zero, natural_one}
use Rattle.bititer.proofs.Streams.{code_within, code_got, stream_some}

-- a number of so many bits is below as many twos
pub number_below : (l : List Bit) → AreBits l → number_from 0 l < 2 ^ length l
unfolding number_from
number_below [] are = omega arith
number_below (zero ∷ l) are = let h = number_below l are.1 in omega (arith, double (length l))
number_below (suc zero ∷ l) are =
    let h = number_below l are.1 in
    let e = number_scaled 1 l in
    omega (arith, double (length l))
number_below (suc (suc b) ∷ l) are = absurd (omega arith)

-- m bits of a number from bit j on
pub number_part : (l : List Bit) (j m : ℕ) → AreBits l → j + m ≤ length l
    → number_from 0 l / 2 ^ (length l - (j + m)) % 2 ^ m ≡ number_from 0 (take m (drop j l))
number_part l j m are h =
    let a = take j l in
    let b = take m (drop j l) in
    let c = drop m (drop j l) in
    let top = number_from 0 a * 2 ^ m + number_from 0 b in
    let nb : length b ≡ m = length-take-le m (drop j l) (omega (arith, length-drop j l)) in
    let nc : length c ≡ length l - (j + m) = omega (arith, length-drop m (drop j l), length-drop j l) in
    let parts : l ≡ a ++ (b ++ c) = sym (ap (λ (x : List Bit). a ++ x) (take-append-drop m (drop j l)) ∙ take-append-drop j l) in
    let upper : number_from (number_from 0 a) b ≡ top =
    number_scaled (number_from 0 a) b ∙ ap (λ (n : ℕ). number_from 0 a * 2 ^ n + number_from 0 b) nb in
    let whole : number_from 0 l ≡ top * 2 ^ (length l - (j + m)) + number_from 0 c =
    ap (number_from 0) parts ∙ number_append 0 a (b ++ c) ∙ number_append (number_from 0 a) b c ∙ ap (λ (n : ℕ). number_from n c) upper
    ∙ number_scaled top c ∙ ap (λ (n : ℕ). top * 2 ^ n + number_from 0 c) nc in
    let small-c : number_from 0 c < 2 ^ (length l - (j + m)) =
    subst (λ (n : ℕ). number_from 0 c < 2 ^ n) nc (number_below c (below_drop 2 m (drop j l) (below_drop 2 j l are))) in
    let small_b : number_from 0 b < 2 ^ m =
    subst (λ (n : ℕ). number_from 0 b < 2 ^ n) nb (number_below b (below_take 2 m (drop j l) (below_drop 2 j l are))) in
    ap (λ (n : ℕ). n / 2 ^ (length l - (j + m)) % 2 ^ m) whole
    ∙ ap (λ (n : ℕ). n % 2 ^ m) (high top (length l - (j + m)) small-c)
    ∙ low (number_from 0 a) m small_b

-- four bytes as a number, by their bits
byte_number : (n x : ℕ) (l : List Bit) → x < 256 → number_from n (byte_bits x ++ l) ≡ number_from (n * 256 + x) l
byte_number n x l h =
    number_append n (byte_bits x) l
    ∙ ap (λ (m : ℕ). number_from m l) (number_scaled n (byte_bits x) ∙ ap (λ (y : ℕ). n * 256 + y) (bits_of_byte x h))

number_ends : (n x : ℕ) → number_from (n * 256 + x) [] ≡ n * 256 + x
unfolding number_from
number_ends n x = refl

-- the bits of a slice from byte i on: that byte's, and those of the rest
byte_first : (s : List ℕ) (i : ℕ) → i < length s → drop (8 * i) (bits_of s) ≡ byte_bits (get_or s i 0) ++ drop (8 * suc i) (bits_of s)
byte_first s i h =
    let e : 8 * i ≡ 8 * i + 0 = omega arith in
    let f : 8 * suc i ≡ 8 * i + 8 = omega arith in
    ap (λ (n : ℕ). drop n (bits_of s)) e ∙ bits_from_lem s i 0 h (omega arith)
    ∙ ap (λ (l : List Bit). byte_bits (get_or s i 0) ++ l) (sym (ap (λ (n : ℕ). drop n (bits_of s)) f ∙ bits_from_lem s i 8 h (omega arith)))

four_bytes : (s : List ℕ) (i : ℕ) → i + 4 ≤ length s → ((j : ℕ) → get_or s j 0 < 256) → number_from 0 (take 32 (drop (8 * i) (bits_of s))) ≡ be32 s i
four_bytes s i h byte =
    let a = get_or s i 0 in
    let b = get_or s (suc i) 0 in
    let c = get_or s (suc (suc i)) 0 in
    let d = get_or s (suc (suc (suc i))) 0 in
    let rest = drop (8 * suc (suc (suc (suc i)))) (bits_of s) in
    let bits : drop (8 * i) (bits_of s) ≡ byte_bits a ++ (byte_bits b ++ (byte_bits c ++ (byte_bits d ++ rest))) =
    byte_first s i (omega arith) ∙ ap (λ (l : List Bit). byte_bits a ++ l) (byte_first s (suc i) (omega arith)
    ∙ ap (λ (l : List Bit). byte_bits b ++ l) (byte_first s (suc (suc i)) (omega arith)
    ∙ ap (λ (l : List Bit). byte_bits c ++ l) (byte_first s (suc (suc (suc i))) (omega arith)))) in
    let first : take 32 (byte_bits a ++ (byte_bits b ++ (byte_bits c ++ (byte_bits d ++ rest))))
    ≡ byte_bits a ++ (byte_bits b ++ (byte_bits c ++ (byte_bits d ++ []))) =
    refl in
    let e : get_or s (i + 1) 0 ≡ b = ap (λ (n : ℕ). get_or s n 0) (let q : i + 1 ≡ suc i = omega arith in q) in
    let f : get_or s (i + 2) 0 ≡ c = ap (λ (n : ℕ). get_or s n 0) (let q : i + 2 ≡ suc (suc i) = omega arith in q) in
    let g : get_or s (i + 2 + 1) 0 ≡ d = ap (λ (n : ℕ). get_or s n 0) (let q : i + 2 + 1 ≡ suc (suc (suc i)) = omega arith in q) in
    ap (λ (l : List Bit). number_from 0 (take 32 l)) bits
    ∙ ap (number_from 0) first
    ∙ byte_number 0 a _ (byte i)
    ∙ byte_number (0 * 256 + a) b _ (byte (suc i))
    ∙ byte_number ((0 * 256 + a) * 256 + b) c _ (byte (suc (suc i)))
    ∙ byte_number (((0 * 256 + a) * 256 + b) * 256 + c) d [] (byte (suc (suc (suc i))))
    ∙ number_ends (((0 * 256 + a) * 256 + b) * 256 + c) d
    ∙ (let q : (((0 * 256 + a) * 256 + b) * 256 + c) * 256 + d ≡ be32 s i = omega arith in q)

-- the window that stands in four bytes from bit k of the first on
pub window_number : (s : List ℕ) (i k : ℕ) → k < 8 → i + 4 ≤ length s → ((j : ℕ) → get_or s j 0 < 256)
    → be32 s i * 2 ^ k % 2 ^ 32 / 2 ^ 7 ≡ number_from 0 (take window_bits (drop (8 * i + k) (bits_of s)))
window_number s i k hk h byte =
    let l = take 32 (drop (8 * i) (bits_of s)) in
    let n : length l ≡ 32 = length-take-le 32 (drop (8 * i) (bits_of s)) (omega (arith, length-drop (8 * i) (bits_of s), length_bits s)) in
    let e : 7 ≡ k + (7 - k) = omega arith in
    let f : length l - (k + window_bits) ≡ 7 - k = omega arith in
    let cut : be32 s i * 2 ^ k / 2 ^ 7 ≡ be32 s i / 2 ^ (7 - k) =
    ap (λ (j : ℕ). be32 s i * 2 ^ k / 2 ^ j) e ∙ sym (shr-shr (be32 s i * 2 ^ k) k (7 - k)) ∙ ap (λ (j : ℕ). j / 2 ^ (7 - k)) (shl-shr (be32 s i) k) in
    let part : be32 s i / 2 ^ (7 - k) % 2 ^ window_bits ≡ number_from 0 (take window_bits (drop k l)) =
    ap₂ (λ (x j : ℕ). x / 2 ^ j % 2 ^ window_bits) (sym (four_bytes s i h byte)) (sym f)
    ∙ number_part l k window_bits (below_take 2 32 (drop (8 * i) (bits_of s)) (below_drop 2 (8 * i) (bits_of s) (are_bits s))) (omega arith) in
    let bits : take window_bits (drop k l) ≡ take window_bits (drop (8 * i + k) (bits_of s)) =
    ap (take window_bits) (drop-take k 32 (drop (8 * i) (bits_of s))) ∙ take-take window_bits (32 - k) (drop k (drop (8 * i) (bits_of s))) (omega arith)
    ∙ ap (take window_bits) (drop-drop k (8 * i) (bits_of s)) in
    field (be32 s i * 2 ^ k) window_bits 7 ∙ ap (λ (x : ℕ). x % 2 ^ window_bits) cut ∙ part ∙ ap (number_from 0) bits

-- a window that was read stands at its position
pub window_read : (s : List ℕ) (p w : ℕ) → code (stream_of s) window_bits p ≡ got w (p + window_bits) → Window (drop p (stream_of s)) w
window_read s p w e =
    let c = code_got (stream_of s) window_bits p w (p + window_bits) e in
    let d = stream_within s (stream_some s p (omega arith)) in
    (subst (λ (l : List Bit). AreBits (drop p l)) (sym d) (below_drop 2 p (bits_of s) (are_bits s)), omega (arith, length-drop p (stream_of s)), c.2)

-- the number of k bits before those that are left
bits_all : (k n : ℕ) (l : List Bit) → k ≤ length l → more_bits k n l ≡ natural (number_from n (take k l)) (drop k l)
unfolding more_bits number_from
bits_all zero n l h = refl
bits_all (suc k) n [] h = absurd (omega arith)
bits_all (suc k) n (b ∷ l) h = bits_all k (n * 2 + b) l (omega arith)

-- the number that is 1 followed by some bits of a window, as code computes it, and below which number it is
pub after_one_is : (w at count : ℕ) → at + count ≤ window_bits → after_one w at count ≡ 2 ^ count + w / 2 ^ (window_bits - (at + count)) % 2 ^ count
unfolding after_one
after_one_is w at count h = rw (le-leb (at + count) window_bits h, after_one)

pub after_one_past : (w at count : ℕ) → window_bits < at + count → after_one w at count ≡ 0
unfolding after_one
after_one_past w at count h = rw (lt-leb (at + count) window_bits h, after_one)

pub one_shifted : (count : ℕ) → count ≤ window_bits → 1 * 2 ^ count % 2 ^ 32 ≡ 2 ^ count
one_shifted count h = shl_exact {a = 1} 1 count 32 (omega arith) (omega arith) ∙ one-mul (2 ^ count)

pub part_small : (x count : ℕ) → x % 2 ^ count < 2 ^ count
part_small x count = mod-lt x (pow_pos count)

pub after_one_under : (w at count most : ℕ) → at + count ≤ window_bits → count ≤ most → after_one w at count < 2 * 2 ^ most
after_one_under w at count most h m =
    let e = after_one_is w at count h in
    let more : 2 ^ count ≤ 2 ^ most = pow_mono {i = count} {j = most} m in
    omega (arith, part_small (w / 2 ^ (window_bits - (at + count))) count)

-- what is cut out of a window
module _ (l : List Bit) (w : ℕ) (window : Window l w) where
  pub window_part : (j m : ℕ) → j + m ≤ window_bits → w / 2 ^ (window_bits - (j + m)) % 2 ^ m ≡ number_from 0 (take m (drop j l))
  window_part j m h =
      let n : length (take window_bits l) ≡ window_bits = length-take-le window_bits l window.1 in
      let bits : take m (drop j (take window_bits l)) ≡ take m (drop j l) =
      ap (take m) (drop-take j window_bits l) ∙ take-take m (window_bits - j) (drop j l) (omega arith) in
      ap₂ (λ (x k : ℕ). x / 2 ^ (k - (j + m)) % 2 ^ m) window.2 (sym n)
      ∙ number_part (take window_bits l) j m (below_take 2 window_bits l window.0) (omega arith)
      ∙ ap (number_from 0) bits

  -- the bit at j
  pub window_bit : (j : ℕ) → j < window_bits → drop j l ≡ w / 2 ^ (window_bits - (j + 1)) % 2 ∷ drop (suc j) l
  unfolding number_from
  window_bit j h =
      let d : drop j l ≡ get_or l j 0 ∷ drop (suc j) l = drop-cons l j 0 (omega (arith, window.1)) in
      let v : number_from 0 (take 1 (drop j l)) ≡ 0 * 2 + get_or l j 0 = ap (λ (x : List Bit). number_from 0 (take 1 x)) d in
      let e : get_or l j 0 ≡ w / 2 ^ (window_bits - (j + 1)) % 2 = omega (arith, window_part j 1 (omega arith), v) in
      d ∙ ap (λ (b : ℕ). b ∷ drop (suc j) l) e

  -- a length that was read leads to the number that is 1 followed by as many bits
  pub length_read : (at n : ℕ) → at + n ≤ window_bits → of_length (natural n (drop at l)) ≡ natural (after_one w at n) (drop (at + n) l)
  length_read at n h =
      let left : n ≤ length (drop at l) = omega (arith, length-drop at l, window.1) in
      let m : length (take n (drop at l)) ≡ n = length-take-le n (drop at l) left in
      let number : number_from 1 (take n (drop at l)) ≡ after_one w at n =
      number_scaled 1 (take n (drop at l)) ∙ ap (λ (k : ℕ). 1 * 2 ^ k + number_from 0 (take n (drop at l))) m
      ∙ (let e : 1 * 2 ^ n + number_from 0 (take n (drop at l)) ≡ 2 ^ n + w / 2 ^ (window_bits - (at + n)) % 2 ^ n = omega (arith, window_part at n h) in e)
      ∙ sym (after_one_is w at n h) in
      length_fits n (drop at l) (omega arith) ∙ bits_all n 1 (drop at l) left ∙ ap₂ natural number (drop-drop n at l)

  -- a window that begins with a zero, or with one, two or three ones
  zero_at : (j : ℕ) → j < window_bits → w / 2 ^ (window_bits - (j + 1)) % 2 ≡ 0 → read_natural (drop j l) ≡ natural 1 (drop (suc j) l)
  zero_at j h z = natural_zero (drop j l) (drop (suc j) l) _ (window_bit j h) z

  one_at : (j : ℕ) → j < window_bits → w / 2 ^ (window_bits - (j + 1)) % 2 ≡ 1 → read_natural (drop j l) ≡ of_length (read_natural (drop (suc j) l))
  one_at j h o = natural_one (drop j l) (drop (suc j) l) _ (window_bit j h) (λ z. let e : ◌≡◌ {A = ℕ} 0 1 = sym z ∙ o in omega arith)

  pub window_small : w < 2 ^ window_bits
  window_small =
      let n : length (take window_bits l) ≡ window_bits = length-take-le window_bits l window.1 in
      subst (λ (x : ℕ). x < 2 ^ window_bits) (sym window.2)
      (subst (λ (k : ℕ). number_from 0 (take window_bits l) < 2 ^ k) n (number_below (take window_bits l) (below_take 2 window_bits l window.0)))

  pub one_begins : 16777216 ≤ w → read_natural l ≡ of_length (read_natural (drop 1 l))
  one_begins h = one_at 0 (omega arith) (omega (arith, window_small))

  pub no_ones : w < 16777216 → read_natural l ≡ natural 1 (drop 1 l)
  no_ones h = zero_at 0 (omega arith) (omega arith)

  pub one_one : 16777216 ≤ w → w < 25165824 → read_natural l ≡ natural (after_one w 2 1) (drop 3 l)
  one_one h k = one_at 0 (omega arith) (omega arith) ∙ ap of_length (zero_at 1 (omega arith) (omega arith)) ∙ length_read 2 1 (omega arith)

  pub two_ones : 25165824 ≤ w → w < 29360128
      → (read_natural l ≡ natural (after_one w 4 (after_one w 3 1)) (drop (4 + after_one w 3 1) l)) × (4 + after_one w 3 1 ≤ window_bits)
  two_ones h k =
      let x = after_one w 3 1 in
      let small = after_one_under w 3 1 1 (omega arith) (omega arith) in (
        one_at 0 (omega arith) (omega arith)
            ∙ ap of_length (one_at 1 (omega arith) (omega arith) ∙ ap of_length (zero_at 2 (omega arith) (omega arith)) ∙ length_read 3 1 (omega arith))
            ∙ length_read 4 x (omega arith),
        omega arith,
      )

  pub three_ones : 29360128 ≤ w → w < 31457280 → (first length : ℕ) → first ≡ after_one w 4 1 → length ≡ after_one w 5 first
      → (read_natural l ≡ natural (after_one w (5 + first) length) (drop (5 + first + length) l)) × (5 + first + length ≤ window_bits)
  three_ones h k first length e f =
      let small : first < 4 = omega (arith, after_one_under w 4 1 1 (omega arith) (omega arith)) in
      let short : length < 16 = omega (arith, after_one_under w 5 first 3 (omega arith) (omega arith)) in (
        one_at 0 (omega arith) (omega arith)
            ∙ ap of_length (one_at 1 (omega arith) (omega arith)
            ∙ ap of_length (one_at 2 (omega arith) (omega arith) ∙ ap of_length (zero_at 3 (omega arith) (omega arith)) ∙ length_read 4 1 (omega arith)
            ∙ ap (λ (n : ℕ). natural n (drop 5 l)) (sym e))
            ∙ length_read 5 first (omega arith) ∙ ap (λ (n : ℕ). natural n (drop (5 + first) l)) (sym f))
            ∙ length_read (5 + first) length (omega arith),
        omega arith,
      )

-- so many bits from bit j of a window that was read at p
pub window_code : (s : List ℕ) (p w j k : ℕ) → code (stream_of s) window_bits p ≡ got w (p + window_bits) → j + k ≤ window_bits
    → code (stream_of s) k (p + j) ≡ got (w / 2 ^ (window_bits - (j + k)) % 2 ^ k) (p + j + k)
window_code s p w j k e h =
    let inside = code_got (stream_of s) window_bits p w (p + window_bits) e in
    code_within (stream_of s) k (p + j) (omega (arith, inside.0))
    ∙ ap (λ (n : ℕ). got n (p + j + k)) (ap (λ (l : List Bit). number_from 0 (take k l)) (sym (drop-drop j p (stream_of s)))
    ∙ sym (window_part (drop p (stream_of s)) w (window_read s p w e) j k h))
