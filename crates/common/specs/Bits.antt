-- Lists that hold bits alone: each number is 0 or 1.
-- Every string of bytes is such a list, and so is each part of one; whole bytes and their bits are two spellings of one thing.
use Rattle.std.specs.Prelude.{◌≡◌, refl, List, [], ◌∷◌, ◌++◌, ℕ, zero, suc, ◌+◌, ◌*◌, ◌/◌, ◌%◌, ◌≤◌, ◌<◌, length, get_or, take, drop}
use Rattle.std.proofs.Common.{ap, ap₂, ◌∙◌, arith, take_all, lt-ltb, le-ltb}
use Rattle.limits.specs.Limits.{dossier_bytes}
use Rattle.scope.specs.Numbers.{stream_of, held_bits}
use Rattle.report.specs.Bits.{Bit, byte_bits, bits_of, number_from, bytes_of}

-- every number of the list is below the bound
abbrev pub AllBelow : (bound : ℕ) → List ℕ → Type 0
AllBelow bound [] = Unit {0}
AllBelow bound (x ∷ xs) = (x < bound) × AllBelow bound xs

abbrev pub AreBits : List Bit → Type 0
AreBits bs = AllBelow 2 bs

abbrev pub AreBytes : List ℕ → Type 0
AreBytes bytes = AllBelow 256 bytes

-- so is every number of two such lists in a row, and of the parts of one
pub below_append : (m : ℕ) (xs ys : List ℕ) → AllBelow m xs → AllBelow m ys → AllBelow m (xs ++ ys)
below_append m [] ys h k = k
below_append m (x ∷ xs) ys h k = (h.0, below_append m xs ys h.1 k)

pub below_front : (m : ℕ) (xs ys : List ℕ) → AllBelow m (xs ++ ys) → AllBelow m xs
below_front m [] ys h = tt
below_front m (x ∷ xs) ys h = (h.0, below_front m xs ys h.1)

pub below_take : (m k : ℕ) (xs : List ℕ) → AllBelow m xs → AllBelow m (take k xs)
below_take m zero xs h = tt
below_take m (suc k) [] h = tt
below_take m (suc k) (x ∷ xs) h = (h.0, below_take m k xs h.1)

pub below_drop : (m k : ℕ) (xs : List ℕ) → AllBelow m xs → AllBelow m (drop k xs)
below_drop m zero xs h = h
below_drop m (suc k) [] h = tt
below_drop m (suc k) (x ∷ xs) h = below_drop m k xs h.1

-- a list of which each number is below the bound, read by its places
pub each_below : (m : ℕ) (xs : List ℕ) → ((i : ℕ) → i < length xs → get_or xs i 0 < m) → AllBelow m xs
each_below m [] h = tt
each_below m (x ∷ xs) h = (h 0 (omega arith), each_below m xs (λ i l. h (suc i) (omega arith)))

-- a string of bytes has eight bits a byte, each 0 or 1
pub length_bits : (bytes : List ℕ) → length (bits_of bytes) ≡ 8 * length bytes
unfolding bits_of
length_bits [] = refl
length_bits (b ∷ bytes) = let h = length_bits bytes in omega arith

-- the bits of two strings in a row
pub bits_append : (xs ys : List ℕ) → bits_of (xs ++ ys) ≡ bits_of xs ++ bits_of ys
unfolding bits_of
bits_append [] ys = refl
bits_append (x ∷ xs) ys = ap (λ l. byte_bits x ++ l) (bits_append xs ys)

-- a slice's stream: its bits within the limit of a dossier, and none above it
pub stream_within : (bytes : List ℕ) → length bytes ≤ dossier_bytes → stream_of bytes ≡ bits_of bytes
unfolding stream_of
stream_within bytes h = rw (le-ltb dossier_bytes (length bytes) h, stream_of)

pub stream_over : (bytes : List ℕ) → dossier_bytes < length bytes → stream_of bytes ≡ []
unfolding stream_of
stream_over bytes h = rw (lt-ltb dossier_bytes (length bytes) h, stream_of)

-- a slice within the limit is held whole
pub held_within : (bytes : List ℕ) → length bytes ≤ dossier_bytes → held_bits bytes ≡ stream_of bytes
held_within bytes h = ap stream_of (take_all dossier_bytes bytes h)

pub length_within : (bytes : List ℕ) → length bytes ≤ dossier_bytes → length (stream_of bytes) ≡ 8 * length bytes
length_within bytes h = ap length (stream_within bytes h) ∙ length_bits bytes

pub are_bits : (bytes : List ℕ) → AreBits (bits_of bytes)
unfolding bits_of
are_bits [] = tt
are_bits (b ∷ bytes) =
    (omega arith, (omega arith, (omega arith, (omega arith, (omega arith, (omega arith, (omega arith, (omega arith, are_bits bytes))))))))

-- eight bits as a number: a byte, whose bits they are
byte_of_bits : (a b c d e f g h : Bit) → AreBits (a ∷ b ∷ c ∷ d ∷ e ∷ f ∷ g ∷ h ∷ [])
    → (byte_bits (number_from 0 (a ∷ b ∷ c ∷ d ∷ e ∷ f ∷ g ∷ h ∷ [])) ≡ a ∷ b ∷ c ∷ d ∷ e ∷ f ∷ g ∷ h ∷ [])
    × (number_from 0 (a ∷ b ∷ c ∷ d ∷ e ∷ f ∷ g ∷ h ∷ []) < 256)
unfolding number_from
byte_of_bits a b c d e f g h are =
    let n : ℕ = number_from 0 (a ∷ b ∷ c ∷ d ∷ e ∷ f ∷ g ∷ h ∷ []) in
    let is-a : n / 128 % 2 ≡ a = omega arith in
    let is_b : n / 64 % 2 ≡ b = omega arith in
    let is_c : n / 32 % 2 ≡ c = omega arith in
    let is-d : n / 16 % 2 ≡ d = omega arith in
    let is-e : n / 8 % 2 ≡ e = omega arith in
    let is_f : n / 4 % 2 ≡ f = omega arith in
    let is-g : n / 2 % 2 ≡ g = omega arith in
    let is-h : n % 2 ≡ h = omega arith in (
      ap₂ ◌∷◌ is-a (ap₂ ◌∷◌ is_b (ap₂ ◌∷◌ is_c (ap₂ ◌∷◌ is-d (ap₂ ◌∷◌ is-e (ap₂ ◌∷◌ is_f (ap₂ ◌∷◌ is-g (ap₂ ◌∷◌ is-h refl))))))),
      omega arith,
    )

-- a byte's bits as a number: the byte
pub bits_of_byte : (b : ℕ) → b < 256 → number_from 0 (byte_bits b) ≡ b
unfolding number_from
bits_of_byte b l =
    let e₁ : 0 * 2 + b / 128 % 2 ≡ b / 128 = omega arith in
    let e₂ : b / 128 * 2 + b / 64 % 2 ≡ b / 64 = omega arith in
    let e₃ : b / 64 * 2 + b / 32 % 2 ≡ b / 32 = omega arith in
    let e₄ : b / 32 * 2 + b / 16 % 2 ≡ b / 16 = omega arith in
    let e₅ : b / 16 * 2 + b / 8 % 2 ≡ b / 8 = omega arith in
    let e₆ : b / 8 * 2 + b / 4 % 2 ≡ b / 4 = omega arith in
    let e₇ : b / 4 * 2 + b / 2 % 2 ≡ b / 2 = omega arith in
    let e₈ : b / 2 * 2 + b % 2 ≡ b = omega arith in
    rw (e₁, e₂, e₃, e₄, e₅, e₆, e₇, e₈)

-- k whole bytes of 8 * k bits: their bits are those bits
pub length_bytes : (k : ℕ) (bs : List Bit) → length (bytes_of k bs) ≡ k
unfolding bytes_of
length_bytes zero bs = refl
length_bytes (suc k) bs = ap suc (length_bytes k (drop 8 bs))

pub bits_of_bytes : (k : ℕ) (bs : List Bit) → length bs ≡ 8 * k → AreBits bs → (bits_of (bytes_of k bs) ≡ bs) × AreBytes (bytes_of k bs)
unfolding bytes_of bits_of
bits_of_bytes zero [] n are = (refl, tt)
bits_of_bytes zero (b ∷ bs) n are = absurd (omega arith)
bits_of_bytes (suc k) [] n are = absurd (omega arith)
bits_of_bytes (suc k) (a ∷ []) n are = absurd (omega arith)
bits_of_bytes (suc k) (a ∷ b ∷ []) n are = absurd (omega arith)
bits_of_bytes (suc k) (a ∷ b ∷ c ∷ []) n are = absurd (omega arith)
bits_of_bytes (suc k) (a ∷ b ∷ c ∷ d ∷ []) n are = absurd (omega arith)
bits_of_bytes (suc k) (a ∷ b ∷ c ∷ d ∷ e ∷ []) n are = absurd (omega arith)
bits_of_bytes (suc k) (a ∷ b ∷ c ∷ d ∷ e ∷ f ∷ []) n are = absurd (omega arith)
bits_of_bytes (suc k) (a ∷ b ∷ c ∷ d ∷ e ∷ f ∷ g ∷ []) n are = absurd (omega arith)
bits_of_bytes (suc k) (a ∷ b ∷ c ∷ d ∷ e ∷ f ∷ g ∷ h ∷ bs) n are =
    let byte = byte_of_bits a b c d e f g h (below_front 2 (a ∷ b ∷ c ∷ d ∷ e ∷ f ∷ g ∷ h ∷ []) bs are) in
    let rest = bits_of_bytes k bs (omega arith) (below_drop 2 8 (a ∷ b ∷ c ∷ d ∷ e ∷ f ∷ g ∷ h ∷ bs) are) in
    (ap₂ ◌++◌ byte.0 rest.0, (byte.1, rest.1))

-- the bytes of a string's bits are the string
pub bytes_of_bits : (bytes : List ℕ) → AreBytes bytes → bytes_of (length bytes) (bits_of bytes) ≡ bytes
unfolding bytes_of bits_of
bytes_of_bits [] h = refl
bytes_of_bits (b ∷ bytes) h = ap₂ ◌∷◌ (bits_of_byte b h.0) (bytes_of_bits bytes h.1)
