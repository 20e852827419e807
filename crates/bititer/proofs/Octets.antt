-- Whole bytes at any bit position: a byte as two shifted neighbours, and bytes put into a store one after the other.
-- What reading bytes into a store tells: they stand at their place, and nothing else has changed.
use mathlib.Core.Path.{◌≡◌, refl, ap, ap₂, sym, ◌∙◌}
use mathlib.Core.Bool.{true, false}
use mathlib.Core.List.{List, [], ◌∷◌, ◌++◌, append_assoc}
use Prim.Native.Nat.{ℕ, zero, suc, ◌+◌, ◌*◌, ◌-◌, ◌/◌, ◌%◌, ◌^◌, ◌≤◌, ◌<◌}
use native.Mathlib.Omega.{arith}
use native.Mathlib.Decide.{dec_lt}
use borrow.Author.Tests.{le-leb, lt-leb}
use lib.Dec.{leb}
use lib.ListN.{length, get_or, take, drop, length-take, length-drop, length-append}
use lib.Seq.{paste, take-length, take-take, take_at, take-append_seam, drop_at, drop-append_seam, drop-cons, drop-drop, length-take-le}
use Rattle.report.specs.Bits.{Bit, byte_bits, bits_of, number_from, bytes_of}
use Rattle.scope.specs.Numbers.{stream_of}
use Rattle.scope.specs.Reading.{Got, got, fault, stream_ended, hashes_short, octets}
use Rattle.bititer.specs.Answers.{Stored, stored, placed, storing}
use Rattle.common.specs.Lists.{drop-take}
use Rattle.common.specs.Numbers.{double, shift_in}
use Rattle.common.specs.Bits.{bits_of_byte, length_bytes, stream_within}
use Rattle.bititer.proofs.Bits.{below_eight, bits_from_lem, byte_at}
use Rattle.bititer.proofs.Streams.{stream_some, octets_within, octets_past}

-- a number from two parts of its bits
pub number_append : (n : ℕ) (l r : List Bit) → number_from n (l ++ r) ≡ number_from (number_from n l) r
unfolding number_from
number_append n [] r = refl
number_append n (b ∷ l) r = number_append (n * 2 + b) l r

pub number_scaled : (n : ℕ) (l : List Bit) → number_from n l ≡ n * 2 ^ length l + number_from 0 l
unfolding number_from
number_scaled n [] = omega arith
number_scaled n (b ∷ l) =
    let x = number_scaled (n * 2 + b) l in
    let y = number_scaled (0 * 2 + b) l in
    let u : n * 2 ^ suc (length l) ≡ n * (2 * 2 ^ length l) = ap (λ (i : ℕ). n * i) (double (length l)) in
    omega (arith, shift_in n b (2 ^ length l), shift_in 0 b (2 ^ length l))

-- eight bits from bit k of one byte on, which end in the next
eight_across : (x y : ℕ) (r : List Bit) (k : ℕ) → k < 8 → take 8 (drop k (byte_bits x) ++ (byte_bits y ++ r)) ≡ drop k (byte_bits x) ++ take k (byte_bits y)
eight_across x y r =
    below_eight (λ k. take 8 (drop k (byte_bits x) ++ (byte_bits y ++ r)) ≡ drop k (byte_bits x) ++ take k (byte_bits y)) refl refl refl refl refl refl refl refl

taken_length : (y k : ℕ) → k < 8 → length (take k (byte_bits y)) ≡ k
taken_length y = below_eight (λ k. length (take k (byte_bits y)) ≡ k) refl refl refl refl refl refl refl refl

byte_across : (x y k : ℕ) (r : List Bit) → k < 8 → x < 256 → y < 256
    → number_from 0 (take 8 (drop k (byte_bits x) ++ (byte_bits y ++ r))) ≡ x * 2 ^ k % 256 + y / 2 ^ (8 - k)
byte_across x y k r h hx hy =
    ap (number_from 0) (eight_across x y r k h)
    ∙ number_append 0 (drop k (byte_bits x)) (take k (byte_bits y))
    ∙ number_scaled (number_from 0 (drop k (byte_bits x))) (take k (byte_bits y))
    ∙ ap (λ (n : ℕ). number_from 0 (drop k (byte_bits x)) * 2 ^ n + number_from 0 (take k (byte_bits y))) (taken_length y k h)
    ∙ ap₂ ◌+◌ (byte_at k x h hx).low (byte_at k y h hy).high

-- the byte that begins at bit k of byte i, as code computes it
pub byte_whole : (s : List ℕ) (i k : ℕ) → k ≡ 0 → i < length s → get_or s i 0 < 256 → number_from 0 (take 8 (drop (8 * i + k) (bits_of s))) ≡ get_or s i 0
byte_whole s i k e h hx =
    ap (λ (l : List ℕ). number_from 0 (take 8 l)) (ap (λ (j : ℕ). drop (8 * i + j) (bits_of s)) e ∙ bits_from_lem s i 0 h (omega arith))
    ∙ bits_of_byte (get_or s i 0) hx

pub byte_split : (s : List ℕ) (i k : ℕ) → k < 8 → i + 1 < length s → get_or s i 0 < 256 → get_or s (i + 1) 0 < 256
    → number_from 0 (take 8 (drop (8 * i + k) (bits_of s))) ≡ get_or s i 0 * 2 ^ k % 256 + get_or s (i + 1) 0 / 2 ^ (8 - k)
unfolding bits_of
byte_split s i k hk h hx hy =
    let e : suc i ≡ i + 1 = omega arith in
    let d : drop (suc i) s ≡ get_or s (i + 1) 0 ∷ drop (suc (i + 1)) s = ap (λ (j : ℕ). drop j s) e ∙ drop-cons s (i + 1) 0 h in
    ap (λ (l : List ℕ). number_from 0 (take 8 l))
    (bits_from_lem s i k (omega arith) (omega arith) ∙ ap (λ (l : List ℕ). drop k (byte_bits (get_or s i 0)) ++ bits_of l) d)
    ∙ byte_across (get_or s i 0) (get_or s (i + 1) 0) k (bits_of (drop (suc (i + 1)) s)) hk hx hy

-- k bytes of a stream
pub byte_in : (k j : ℕ) (l : List Bit) → j < k → get_or (bytes_of k l) j 0 ≡ number_from 0 (take 8 (drop (8 * j) l))
unfolding bytes_of
byte_in zero j l h = absurd (omega arith)
byte_in (suc k) zero l h = refl
byte_in (suc k) (suc j) l h =
    byte_in k j (drop 8 l) (omega arith)
    ∙ ap (λ (r : List Bit). number_from 0 (take 8 r)) (drop-drop (8 * j) 8 l ∙ ap (λ (i : ℕ). drop i l) (let e : 8 + 8 * j ≡ 8 * suc j = omega arith in e))

-- only their own bits count
pub bytes_taken : (k : ℕ) (l : List Bit) → bytes_of k (take (8 * k) l) ≡ bytes_of k l
unfolding bytes_of
bytes_taken zero l = refl
bytes_taken (suc k) l =
    let e : 8 * suc k - 8 ≡ 8 * k = omega arith in
    ap₂ ◌∷◌ (ap (number_from 0) (take-take 8 (8 * suc k) l (omega arith)))
    (ap (bytes_of k) (drop-take 8 (8 * suc k) l ∙ ap (λ (j : ℕ). take j (drop 8 l)) e) ∙ bytes_taken k (drop 8 l))

-- a store with bytes put at their place: they stand there, and before and after them it is as it was
module _ (store bytes : List ℕ) (at : ℕ) (room : at + length bytes ≤ length store) where
  before_length : length (take at store) ≡ at
  before_length = length-take-le at store (omega arith)

  pub placed-length : length (placed store at bytes) ≡ length store
  placed-length = simp (length-append, length-take, length-drop) (omega arith)

  pub placed_before : take at (placed store at bytes) ≡ take at store
  placed_before = take_at (take at store) (bytes ++ drop (at + length bytes) store) at before_length

  placed_from : drop at (placed store at bytes) ≡ bytes ++ drop (at + length bytes) store
  placed_from = drop_at (take at store) (bytes ++ drop (at + length bytes) store) at before_length

  pub placed_bytes : take (length bytes) (drop at (placed store at bytes)) ≡ bytes
  placed_bytes = ap (take (length bytes)) placed_from ∙ take-append_seam bytes (drop (at + length bytes) store)

  pub placed_after : drop (at + length bytes) (placed store at bytes) ≡ drop (at + length bytes) store
  placed_after =
      sym (drop-drop (length bytes) at (placed store at bytes))
      ∙ ap (drop (length bytes)) placed_from
      ∙ drop-append_seam bytes (drop (at + length bytes) store)

-- the loop that stores them: what is pasted at its end is what is placed
pub pasted : (store bytes : List ℕ) (at n : ℕ) → length bytes ≡ n → paste store at bytes n ≡ placed store at bytes
pasted store bytes at n e =
    ap (paste store at bytes) (sym e)
    ∙ append_assoc (take at store) (take (length bytes) bytes) (drop (at + length bytes) store)
    ∙ ap (λ (l : List ℕ). take at store ++ (l ++ drop (at + length bytes) store)) (take-length bytes)

-- the test for room, as code makes it
pub room_test : (all at n : ℕ) → n ≤ all → leb at (all - n) ≡ leb (at + n) all
room_test all at n h = elim (dec_lt (all - n) at) [
  | yes k ↦ lt-leb at (all - n) k ∙ sym (lt-leb (at + n) all (omega arith))
  | no m ↦ le-leb at (all - n) (omega arith) ∙ sym (le-leb (at + n) all (omega arith))
]

-- byte j of those from p on, as the loop reads it
pub byte_here : (s : List ℕ) (p n j : ℕ) → j < n → p + 8 * n ≤ length (stream_of s)
    → number_from 0 (take 8 (drop (8 * (p / 8 + j) + p % 8) (bits_of s))) ≡ get_or (bytes_of n (drop p (stream_of s))) j 0
byte_here s p n j h k =
    let e : 8 * (p / 8 + j) + p % 8 ≡ p + 8 * j = omega arith in
    let w = stream_within s (stream_some s p (omega arith)) in
    sym
    (byte_in n j (drop p (stream_of s)) h
    ∙ ap (λ (l : List Bit). number_from 0 (take 8 l)) (drop-drop (8 * j) p (stream_of s) ∙ ap₂ drop (sym e) w))

-- what is left where n bytes from p on are asked for
module _ (bits : List Bit) (n p : ℕ) (store : List ℕ) (at : ℕ) where
  pub bytes_ended : length bits < p + 8 * n → storing (octets bits n p) store at ≡ stored (fault stream_ended) store
  unfolding storing
  bytes_ended h = ap (λ (g : Got (List ℕ)). storing g store at) (octets_past bits n p h)

  got_bytes : p + 8 * n ≤ length bits → octets bits n p ≡ got (bytes_of n (drop p bits)) (p + 8 * n)
  got_bytes h = octets_within bits n p h ∙ ap (λ (l : List ℕ). got l (p + 8 * n)) (bytes_taken n (drop p bits))

  pub bytes_short : p + 8 * n ≤ length bits → length store < at + n → storing (octets bits n p) store at ≡ stored (fault hashes_short) store
  unfolding storing
  bytes_short h k =
      let b = bytes_of n (drop p bits) in
      let e : leb (at + length b) (length store) ≡ false = lt-leb (at + length b) (length store) (omega (arith, length_bytes n (drop p bits))) in
      ap (λ (g : Got (List ℕ)). storing g store at) (got_bytes h) ∙ rw (e, storing)

  pub bytes_read : p + 8 * n ≤ length bits → at + n ≤ length store
      → storing (octets bits n p) store at ≡ stored (got tt (p + 8 * n)) (placed store at (bytes_of n (drop p bits)))
  unfolding storing
  bytes_read h k =
      let b = bytes_of n (drop p bits) in
      let e : leb (at + length b) (length store) ≡ true = le-leb (at + length b) (length store) (omega (arith, length_bytes n (drop p bits))) in
      ap (λ (g : Got (List ℕ)). storing g store at) (got_bytes h) ∙ rw (e, storing)

  -- the stream is too short, or else the store, or neither
  which : {P : Type 0} → (length bits < p + 8 * n → P) → (p + 8 * n ≤ length bits → length store < at + n → P)
      → (p + 8 * n ≤ length bits → at + n ≤ length store → P) → P
  which ended short fine = elim (dec_lt (length bits) (p + 8 * n)) [
    | yes h ↦ ended h
    | no m ↦ elim (dec_lt (length store) (at + n)) [ yes k ↦ short (omega arith) k | no o ↦ fine (omega arith) (omega arith) ]
  ]

  says_other : (x y : Got (Unit {0})) (l r : List ℕ) → stored x l ≡ stored y r → (x ≡ y → ◌≡◌ {A = ℕ} 0 1) → ⊥
  says_other x y l r e f = let z = f (ap (λ (t : Stored). t.says) e) in omega arith

  -- bytes that were read into the store
  pub record BytesIn (next : ℕ) (left : List ℕ) : Type 0 where
    pub within : p + 8 * n ≤ length bits
    pub after : next ≡ p + 8 * n
    pub room : at + n ≤ length store
    pub read : octets bits n p ≡ got (bytes_of n (drop p bits)) next
    pub holds : left ≡ placed store at (bytes_of n (drop p bits))

  pub bytes_told : (next : ℕ) (left : List ℕ) → stored (got tt next) left ≡ storing (octets bits n p) store at → BytesIn next left
  bytes_told next left e =
      which (λ h. absurd (says_other _ _ _ _ (e ∙ bytes_ended h) (λ c. cc))) (λ h k. absurd (says_other _ _ _ _ (e ∙ bytes_short h k) (λ c. cc))) fine
    where
      fine : p + 8 * n ≤ length bits → at + n ≤ length store → BytesIn next left
      fine h k =
          let f : stored (got tt next) left ≡ stored (got tt (p + 8 * n)) (placed store at (bytes_of n (drop p bits))) = e ∙ bytes_read h k in
          let c : got tt next ≡ got tt (p + 8 * n) = ap (λ (x : Stored). x.says) f in
          let w : next ≡ p + 8 * n = cc in
          record {
            within = h;
            after = w;
            room = k;
            read = got_bytes h ∙ ap (got (bytes_of n (drop p bits))) (sym w);
            holds = ap (λ (x : Stored). x.store) f;
          }

  -- a refusal leaves the store: the stream had ended, or the bytes were there and had no room
  pub ended_told : (left : List ℕ) → stored (fault stream_ended) left ≡ storing (octets bits n p) store at
      → (left ≡ store) × (length bits < p + 8 * n) × (octets bits n p ≡ fault stream_ended)
  ended_told left e =
      which (λ h. (ap (λ (x : Stored). x.store) (e ∙ bytes_ended h), h, octets_past bits n p h))
      (λ h k. absurd (says_other _ _ _ _ (e ∙ bytes_short h k) (λ c. cc))) (λ h k. absurd (says_other _ _ _ _ (e ∙ bytes_read h k) (λ c. cc)))

  pub short_told : (left : List ℕ) → stored (fault hashes_short) left ≡ storing (octets bits n p) store at
      → (left ≡ store) × (length store < at + n) × (octets bits n p ≡ got (bytes_of n (drop p bits)) (p + 8 * n))
  short_told left e =
      which (λ h. absurd (says_other _ _ _ _ (e ∙ bytes_ended h) (λ c. cc))) (λ h k. (ap (λ (x : Stored). x.store) (e ∙ bytes_short h k), k, got_bytes h))
      (λ h k. absurd (says_other _ _ _ _ (e ∙ bytes_read h k) (λ c. cc)))
