-- A slice's stream: its bits within the dossier's limit, and none above it.
-- The requirements' readers of bits and of whole bytes, on any stream: what they give within it and past its end, and what a result tells.
use mathlib.Core.Path.{◌≡◌, ap, ap₂, sym, ◌∙◌}
use mathlib.Core.List.{List, [], ◌∷◌}
use Prim.Native.Nat.{ℕ, suc, ◌+◌, ◌*◌, ◌/◌, ◌≤◌, ◌<◌}
use native.Mathlib.Omega.{arith}
use native.Mathlib.Decide.{dec_lt}
use borrow.Author.Tests.{le-leb, lt-leb}
use lib.ListN.{length, get_or, take, drop, drop_of_length-le}
use lib.Seq.{drop-cons}
use Rattle.limits.specs.Limits.{dossier_bytes}
use Rattle.report.specs.Bits.{Bit, number_from, bytes_of}
use Rattle.scope.specs.Numbers.{stream_of}
use Rattle.scope.specs.Reading.{got, fault, stream_ended, ◌>>=◌, give, next, code, octets}
use Rattle.common.specs.Bits.{length_within, stream_over, stream_within}
use Rattle.bititer.proofs.Bits.{bit_at, bit_from}

pub length_over : (s : List ℕ) → dossier_bytes < length s → length (stream_of s) ≡ 0
length_over s h = ap length (stream_over s h)

-- a stream has no more bits than its slice, nor than the limit
pub length_stream : (s : List ℕ) → (length (stream_of s) ≤ 8 * length s) × (length (stream_of s) ≤ 8 * dossier_bytes)
length_stream s = elim (dec_lt dossier_bytes (length s)) [
  | yes h ↦ (omega (arith, length_over s h), omega (arith, length_over s h))
  | no n ↦ within (let h : length s ≤ dossier_bytes = omega arith in h)
]
  where
    within : length s ≤ dossier_bytes → (length (stream_of s) ≤ 8 * length s) × (length (stream_of s) ≤ 8 * dossier_bytes)
    within h = (omega (arith, length_within s h), omega (arith, length_within s h))

-- a stream that is not empty is its slice's bits
pub stream_some : (s : List ℕ) (p : ℕ) → p < length (stream_of s) → length s ≤ dossier_bytes
stream_some s p h = elim (dec_lt dossier_bytes (length s)) [ yes k ↦ absurd (none k) | no n ↦ omega arith ]
  where
    none : dossier_bytes < length s → ⊥
    none k = omega (arith, length_over s k)

pub stream_inside : (s : List ℕ) (p : ℕ) → p < length (stream_of s) → p / 8 < length s
stream_inside s p h = omega (arith, length_within s (stream_some s p h))

-- the bit at p, and those after it
pub stream_bit : (s : List ℕ) (p : ℕ) → p < length (stream_of s) → drop p (stream_of s) ≡ bit_at s p ∷ drop (suc p) (stream_of s)
stream_bit s p h =
    let e = stream_within s (stream_some s p h) in
    ap (drop p) e ∙ bit_from s p (stream_inside s p h) ∙ ap (λ (l : List ℕ). bit_at s p ∷ drop (suc p) l) (sym e)

module _ (bits : List Bit) where
  pub next_within : (k at : ℕ) → at + k ≤ length bits → next bits k at ≡ got (take k (drop at bits)) (at + k)
  unfolding next
  next_within k at h = rw (le-leb (at + k) (length bits) h, next)

  pub next_past : (k at : ℕ) → length bits < at + k → next bits k at ≡ fault stream_ended
  unfolding next
  next_past k at h = rw (lt-leb (at + k) (length bits) h, next)

  pub code_within : (k at : ℕ) → at + k ≤ length bits → code bits k at ≡ got (number_from 0 (take k (drop at bits))) (at + k)
  unfolding code ◌>>=◌ give
  code_within k at h = rw (next_within k at h, code, ◌>>=◌)

  pub code_past : (k at : ℕ) → length bits < at + k → code bits k at ≡ fault stream_ended
  unfolding code ◌>>=◌ give
  code_past k at h = rw (next_past k at h, code, ◌>>=◌)

  pub octets_within : (k at : ℕ) → at + 8 * k ≤ length bits → octets bits k at ≡ got (bytes_of k (take (8 * k) (drop at bits))) (at + 8 * k)
  unfolding octets ◌>>=◌ give
  octets_within k at h = rw (next_within (8 * k) at h, octets, ◌>>=◌)

  pub octets_past : (k at : ℕ) → length bits < at + 8 * k → octets bits k at ≡ fault stream_ended
  unfolding octets ◌>>=◌ give
  octets_past k at h = rw (next_past (8 * k) at h, octets, ◌>>=◌)

  -- what a result tells: where it stood, what was read, and where the next reader goes on
  pub code_got : (k at v n : ℕ) → code bits k at ≡ got v n → (at + k ≤ length bits) × (n ≡ at + k) × (v ≡ number_from 0 (take k (drop at bits)))
  code_got k at v n e = elim (dec_lt (length bits) (at + k)) [ yes h ↦ absurd (past h) | no m ↦ within (let h : at + k ≤ length bits = omega arith in h) ]
    where
      past : length bits < at + k → ⊥
      past h =
          let c : got v n ≡ fault stream_ended = sym e ∙ code_past k at h in
          let z : ◌≡◌ {A = ℕ} 0 1 = cc in
          omega arith

      within : at + k ≤ length bits → (at + k ≤ length bits) × (n ≡ at + k) × (v ≡ number_from 0 (take k (drop at bits)))
      within h = let c : got v n ≡ got (number_from 0 (take k (drop at bits))) (at + k) = sym e ∙ code_within k at h in (h, cc, cc)

  pub code_ended : (k at : ℕ) → code bits k at ≡ fault stream_ended → length bits < at + k
  code_ended k at e = elim (dec_lt (length bits) (at + k)) [ yes h ↦ h | no m ↦ absurd (within (let h : at + k ≤ length bits = omega arith in h)) ]
    where
      within : at + k ≤ length bits → ⊥
      within h =
          let c : fault stream_ended ≡ got (number_from 0 (take k (drop at bits))) (at + k) = sym e ∙ code_within k at h in
          let z : ◌≡◌ {A = ℕ} 0 1 = cc in
          omega arith

  pub octets-got : (k at : ℕ) (bytes : List ℕ) (n : ℕ) → octets bits k at ≡ got bytes n
      → (at + 8 * k ≤ length bits) × (n ≡ at + 8 * k) × (bytes ≡ bytes_of k (take (8 * k) (drop at bits)))
  octets-got k at bytes n e = elim (dec_lt (length bits) (at + 8 * k)) [
    | yes h ↦ absurd (past h)
    | no m ↦ within (let h : at + 8 * k ≤ length bits = omega arith in h)
  ]
    where
      past : length bits < at + 8 * k → ⊥
      past h =
          let c : got bytes n ≡ fault stream_ended = sym e ∙ octets_past k at h in
          let z : ◌≡◌ {A = ℕ} 0 1 = cc in
          omega arith

      within : at + 8 * k ≤ length bits → (at + 8 * k ≤ length bits) × (n ≡ at + 8 * k) × (bytes ≡ bytes_of k (take (8 * k) (drop at bits)))
      within h = let c : got bytes n ≡ got (bytes_of k (take (8 * k) (drop at bits))) (at + 8 * k) = sym e ∙ octets_within k at h in (h, cc, cc)

  -- one bit is the first of those that are left
  pub bit_got : (at b n : ℕ) → code bits 1 at ≡ got b n → (at < length bits) × (n ≡ at + 1) × (drop at bits ≡ b ∷ drop n bits)
  unfolding number_from
  bit_got at b n e =
      let c = code_got 1 at b n e in
      let h : at < length bits = omega arith in
      let d : drop at bits ≡ get_or bits at 0 ∷ drop (suc at) bits = drop-cons bits at 0 h in
      let v : b ≡ number_from 0 (get_or bits at 0 ∷ []) = c.2 ∙ ap (λ (l : List ℕ). number_from 0 (take 1 l)) d in
      let w : number_from 0 (get_or bits at 0 ∷ []) ≡ get_or bits at 0 = (let z : 0 * 2 + get_or bits at 0 ≡ get_or bits at 0 = omega arith in z) in
      let m : n ≡ suc at = omega arith in
      (h, c.1, d ∙ ap₂ (λ (x j : ℕ). x ∷ drop j bits) (sym (v ∙ w)) (sym m))

  pub bit_ended : (at : ℕ) → code bits 1 at ≡ fault stream_ended → drop at bits ≡ []
  bit_ended at e = let h = code_ended 1 at e in drop_of_length-le bits {i = at} (omega arith)

  -- two bits are one and then another
  pub two_got : (at a m b n : ℕ) → code bits 1 at ≡ got a m → code bits 1 m ≡ got b n → code bits 2 at ≡ got (a * 2 + b) n
  unfolding number_from
  two_got at a m b n d e =
      let x = bit_got at a m d in
      let y = bit_got m b n e in
      let l : drop at bits ≡ a ∷ b ∷ drop n bits = x.2 ∙ ap (λ (r : List ℕ). a ∷ r) y.2 in
      let v : number_from 0 (a ∷ b ∷ []) ≡ a * 2 + b = (let z : (0 * 2 + a) * 2 + b ≡ a * 2 + b = omega arith in z) in
      let p : at + 2 ≡ n = omega arith in
      code_within 2 at (omega arith) ∙ ap₂ got (ap (λ (r : List ℕ). number_from 0 (take 2 r)) l ∙ v) p

  pub two_ended : (at : ℕ) → code bits 1 at ≡ fault stream_ended → code bits 2 at ≡ fault stream_ended
  two_ended at e = let h = code_ended 1 at e in code_past 2 at (omega arith)

  pub two_cut : (at a m : ℕ) → code bits 1 at ≡ got a m → code bits 1 m ≡ fault stream_ended → code bits 2 at ≡ fault stream_ended
  two_cut at a m d e =
      let x = code_got 1 at a m d in
      let h = code_ended 1 m e in
      code_past 2 at (omega arith)

-- the bit at a position of a slice's stream, and that a bit is below 2
pub bit_here : (s : List ℕ) (p : ℕ) → p < length (stream_of s) → code (stream_of s) 1 p ≡ got (bit_at s p) (p + 1)
unfolding number_from
bit_here s p h =
    let v : 0 * 2 + bit_at s p ≡ bit_at s p = omega arith in
    code_within (stream_of s) 1 p (omega arith) ∙ ap (λ (b : ℕ). got b (p + 1)) (ap (λ (l : List ℕ). number_from 0 (take 1 l)) (stream_bit s p h) ∙ v)

pub bit_below : (s : List ℕ) (p b n : ℕ) → code (stream_of s) 1 p ≡ got b n → b < 2
bit_below s p b n e =
    let h = bit_got (stream_of s) p b n e in
    let c : got b n ≡ got (bit_at s p) (p + 1) = sym e ∙ bit_here s p h.0 in
    let v : b ≡ bit_at s p = cc in
    omega arith

pub two_below : (s : List ℕ) (p v n : ℕ) → code (stream_of s) 2 p ≡ got v n → v < 4
two_below s p v n e =
    let h = code_got (stream_of s) 2 p v n e in
    let a = bit_here s p (omega arith) in
    let b = bit_here s (p + 1) (omega arith) in
    let c : got v n ≡ got (bit_at s p * 2 + bit_at s (p + 1)) (p + 1 + 1) =
    sym e ∙ two_got (stream_of s) p (bit_at s p) (p + 1) (bit_at s (p + 1)) (p + 1 + 1) a b in
    let w : v ≡ bit_at s p * 2 + bit_at s (p + 1) = cc in
    omega arith

-- a position after what was read lies within the slice
pub code_inside : (s : List ℕ) (k p v n : ℕ) → code (stream_of s) k p ≡ got v n → n ≤ 8 * length s
code_inside s k p v n e = omega (arith, code_got (stream_of s) k p v n e, length_stream s)

pub octets_inside : (s : List ℕ) (k p : ℕ) (bytes : List ℕ) (n : ℕ) → octets (stream_of s) k p ≡ got bytes n → n ≤ 8 * length s
octets_inside s k p bytes n e = let g = octets-got (stream_of s) k p bytes n e in omega (arith, length_stream s)
