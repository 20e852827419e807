-- Whole bytes in a run: the bits of a byte in its string, what a turn of a loop that copies or puts bytes leaves, what bytes put at once leave,
-- and what is left of the cells when all bytes that they fill are done.
use mathlib.Core.Path.{◌≡◌, refl, ap, ap₂, sym, ◌∙◌}
use mathlib.Core.List.{List, [], ◌∷◌, ◌++◌}
use mathlib.Core.Logic.{◌⊎◌, inl, inr, ⊎_elim}
use Prim.Native.Nat.{ℕ, zero, suc, ◌+◌, ◌*◌, ◌-◌, ◌/◌, ◌%◌, ◌≤◌, ◌<◌}
use native.Mathlib.Nat.{zero-add, add-zero}
use native.Mathlib.Omega.{arith}
use native.Mathlib.Decide.{dec_lt}
use lib.ListN.{length, get_or, set, take, drop}
use lib.Seq.{sets, drop-drop, get_or-append-add, length-take-le}
use borrow.Rule.Slice.PartMut.{put_mid}
use Rattle.std.proofs.lemmas.List.{take-append-drop, take_at, drop_at, append_assoc, length-drop}
use Rattle.std.proofs.lemmas.List.Edits.{sets-eq}
use Rattle.report.specs.Bits.{byte_bits, bits_of}
use Rattle.scope.specs.Numbers.{zeros}
use Rattle.common.specs.Bits.{length_bits, bits_append}
use Rattle.common.specs.Cells.{copy_bits, bits_from}
use Rattle.cells.proofs.Parts.{zeros_from, bits_within, put_step, zero_step}
use Rattle.cells.proofs.Bytes.{byte_set}
use Rattle.cells.proofs.Copies.{copy_step}

-- bits behind others
bits_behind : (xs l : List ℕ) (p n : ℕ) → bits_from (xs ++ l) (length xs + p) n ≡ bits_from l p n
unfolding bits_from
bits_behind xs l p zero = refl
bits_behind xs l p (suc n) =
    let e : suc (length xs + p) ≡ length xs + suc p = omega arith in
    ap₂ ◌∷◌ (get_or-append-add xs l p 0) (ap (λ (q : ℕ). bits_from (xs ++ l) q n) e ∙ bits_behind xs l (suc p) n)

-- byte i of a string, inside it or not
pub byte_bits_lem : (s : List ℕ) (i : ℕ) → byte_bits (get_or s i 0) ≡ bits_from (bits_of s) (8 * i) 8
unfolding bits_of bits_from
byte_bits_lem [] i = zeros_from (8 * i) 8
byte_bits_lem (x ∷ s) zero = refl
byte_bits_lem (x ∷ s) (suc i) =
    let z : 8 * suc i ≡ 8 + 8 * i = omega arith in
    byte_bits_lem s i ∙ sym (bits_behind (byte_bits x) (bits_of s) (8 * i) 8) ∙ ap (λ (q : ℕ). bits_from (byte_bits x ++ bits_of s) q 8) (sym z)

-- two whole bytes share no bit, or all
pub bytes_apart : (a b : ℕ) → (8 * b ≤ 8 * a) ⊎ (8 * a + 8 ≤ 8 * b)
bytes_apart a b = elim (dec_lt a b) [ yes h ↦ inr (omega arith) | no h ↦ inl (omega arith) ]

-- a turn: byte i of k is stored, from byte b on, and x has the eight bits that belong there
module _ (s : List ℕ) (b k i x : ℕ) (more : i < k) (inside : b + i < length s) where
  stored : bits_of (set s (b + i) x) ≡ sets (bits_of s) (8 * b + 8 * i) (byte_bits x)
  stored = let e : 8 * (b + i) ≡ 8 * b + 8 * i = omega arith in byte_set s (b + i) x inside ∙ ap (λ (t : ℕ). sets (bits_of s) t (byte_bits x)) e

  next : (p : ℕ) → p + 8 * i + 8 ≡ p + 8 * (i + 1)
  next p = omega arith

  left : 8 * k - 8 * i - 8 ≡ 8 * k - 8 * (i + 1)
  left = omega arith

  pub copy_byte : (f : ℕ) → (8 * b ≤ f) ⊎ (f + 8 ≤ 8 * b) → byte_bits x ≡ bits_from (bits_of s) (f + 8 * i) 8
      → copy_bits (bits_of s) (f + 8 * i) (8 * b + 8 * i) (8 * k - 8 * i)
      ≡ copy_bits (bits_of (set s (b + i) x)) (f + 8 * (i + 1)) (8 * b + 8 * (i + 1)) (8 * k - 8 * (i + 1))
  copy_byte f a e =
      copy_step (bits_of s) (bits_of (set s (b + i) x)) (f + 8 * i) (8 * b + 8 * i) (8 * k - 8 * i) 8 (omega arith)
      (⊎_elim (λ h. inl (omega arith)) (λ h. inr (omega arith)) a) (stored ∙ ap (sets (bits_of s) (8 * b + 8 * i)) e)
      ∙ (λ j. copy_bits (bits_of (set s (b + i) x)) (next f j) (next (8 * b) j) (left j))

  pub put_byte : (l : List ℕ) (p : ℕ) → byte_bits x ≡ bits_from l (p + 8 * i) 8
      → sets (bits_of s) (8 * b + 8 * i) (bits_from l (p + 8 * i) (8 * k - 8 * i))
      ≡ sets (bits_of (set s (b + i) x)) (8 * b + 8 * (i + 1)) (bits_from l (p + 8 * (i + 1)) (8 * k - 8 * (i + 1)))
  put_byte l p e =
      put_step (bits_of s) (bits_of (set s (b + i) x)) l (p + 8 * i) (8 * b + 8 * i) (8 * k - 8 * i) 8 (omega arith)
      (stored ∙ ap (sets (bits_of s) (8 * b + 8 * i)) e)
      ∙ (λ j. sets (bits_of (set s (b + i) x)) (next (8 * b) j) (bits_from l (next p j) (left j)))

-- whole bytes put at once: the bits before them, theirs, and those behind them
bits_front : (s : List ℕ) (b : ℕ) → b ≤ length s → take (8 * b) (bits_of s) ≡ bits_of (take b s)
bits_front s b h =
    let e : length (bits_of (take b s)) ≡ 8 * b = length_bits (take b s) ∙ ap (λ (n : ℕ). 8 * n) (length-take-le b s h) in
    ap (λ (t : List ℕ). take (8 * b) (bits_of t)) (sym (take-append-drop b s))
    ∙ ap (take (8 * b)) (bits_append (take b s) (drop b s))
    ∙ take_at (bits_of (take b s)) (bits_of (drop b s)) (8 * b) e

bits_rest : (s : List ℕ) (b : ℕ) → b ≤ length s → drop (8 * b) (bits_of s) ≡ bits_of (drop b s)
bits_rest s b h =
    let e : length (bits_of (take b s)) ≡ 8 * b = length_bits (take b s) ∙ ap (λ (n : ℕ). 8 * n) (length-take-le b s h) in
    ap (λ (t : List ℕ). drop (8 * b) (bits_of t)) (sym (take-append-drop b s))
    ∙ ap (drop (8 * b)) (bits_append (take b s) (drop b s))
    ∙ drop_at (bits_of (take b s)) (bits_of (drop b s)) (8 * b) e

pub bytes_put : (s ys : List ℕ) (b k : ℕ) → length ys ≡ k → b + k ≤ length s → bits_of (put_mid b k s ys) ≡ sets (bits_of s) (8 * b) (bits_of ys)
bytes_put s ys b k e h =
    let n : length (bits_of ys) ≡ 8 * k = length_bits ys ∙ ap (λ (m : ℕ). 8 * m) e in
    let behind : 8 * b + length (bits_of ys) ≡ 8 * (b + k) = omega arith in
    let room : 8 * b + length (bits_of ys) ≤ length (bits_of s) = omega (arith, length_bits s) in
    let right : sets (bits_of s) (8 * b) (bits_of ys) ≡ bits_of (take b s) ++ bits_of ys ++ bits_of (drop (b + k) s) =
    sets-eq (bits_of ys) (bits_of s) (8 * b) room
    ∙ ap₂ (λ (x y : List ℕ). x ++ bits_of ys ++ y) (bits_front s b (omega arith))
    (ap (λ (j : ℕ). drop j (bits_of s)) behind ∙ bits_rest s (b + k) h) in
    bits_append (take b s) (ys ++ drop k (drop b s))
    ∙ ap (λ (x : List ℕ). bits_of (take b s) ++ x) (bits_append ys (drop k (drop b s)) ∙ ap (λ (x : List ℕ). bits_of ys ++ bits_of x) (drop-drop k b s))
    ∙ sym (append_assoc (bits_of (take b s)) (bits_of ys) (bits_of (drop (b + k) s)))
    ∙ sym right

-- the bits of bytes within a string are a part of its bits
pub bits_of_part : (s : List ℕ) (a k : ℕ) → a + k ≤ length s → bits_of (take k (drop a s)) ≡ bits_from (bits_of s) (8 * a) (8 * k)
bits_of_part s a k h =
    let room : 8 * a + 8 * k ≤ length (bits_of s) = omega (arith, length_bits s) in
    sym (bits_within (bits_of s) (8 * a) (8 * k) room
    ∙ ap (take (8 * k)) (bits_rest s a (omega arith))
    ∙ bits_front (drop a s) k (omega (arith, length-drop a s)))

-- part by part
copy_add : (l : List ℕ) (f t m n : ℕ) → copy_bits l f t (m + n) ≡ copy_bits (copy_bits l f t m) (f + m) (t + m) n
unfolding copy_bits
copy_add l f t zero n = rw (zero-add n, add-zero f, add-zero t)
copy_add l f t (suc m) n =
    let u : suc m + n ≡ suc (m + n) = omega arith in
    let v : suc f + m ≡ f + suc m = omega arith in
    let w : suc t + m ≡ t + suc m = omega arith in
    let k = set l t (get_or l f 0) in
    ap (copy_bits l f t) u ∙ copy_add k (suc f) (suc t) m n ∙ ap₂ (λ (i j : ℕ). copy_bits (copy_bits k (suc f) (suc t) m) i j n) v w

-- what is left when the bytes that n cells fill, from the start of a byte on, are done
whole : (p : ℕ) → p % 8 ≡ 0 → 8 * (p / 8) ≡ p
whole p h = omega arith

pub whole_copied : (l m : List ℕ) (f t n : ℕ) → f % 8 ≡ 0 → t % 8 ≡ 0 → m ≡ copy_bits l (8 * (f / 8)) (8 * (t / 8)) (8 * (n / 8))
    → copy_bits l f t n ≡ copy_bits m (f + 8 * (n / 8)) (t + 8 * (n / 8)) (n - 8 * (n / 8))
whole_copied l m f t n hf ht q =
    let u : n ≡ 8 * (n / 8) + (n - 8 * (n / 8)) = omega arith in
    ap (copy_bits l f t) u
    ∙ copy_add l f t (8 * (n / 8)) (n - 8 * (n / 8))
    ∙ ap (λ (k : List ℕ). copy_bits k (f + 8 * (n / 8)) (t + 8 * (n / 8)) (n - 8 * (n / 8)))
    (sym (q ∙ ap₂ (λ (i j : ℕ). copy_bits l i j (8 * (n / 8))) (whole f hf) (whole t ht)))

pub whole_put : (l m s : List ℕ) (p t n : ℕ) → p % 8 ≡ 0 → t % 8 ≡ 0 → m ≡ sets l (8 * (t / 8)) (bits_from s (8 * (p / 8)) (8 * (n / 8)))
    → sets l t (bits_from s p n) ≡ sets m (t + 8 * (n / 8)) (bits_from s (p + 8 * (n / 8)) (n - 8 * (n / 8)))
whole_put l m s p t n hp ht q =
    put_step l m s p t n (8 * (n / 8)) (omega arith)
    (q ∙ ap₂ (λ (i j : ℕ). sets l i (bits_from s j (8 * (n / 8)))) (whole t ht) (whole p hp))

pub whole_cleared : (l m : List ℕ) (t n : ℕ) → t % 8 ≡ 0 → m ≡ sets l (8 * (t / 8)) (zeros (8 * (n / 8)))
    → sets l t (zeros n) ≡ sets m (t + 8 * (n / 8)) (zeros (n - 8 * (n / 8)))
whole_cleared l m t n ht q =
    zero_step l m t n (8 * (n / 8)) (omega arith) (q ∙ ap (λ (i : ℕ). sets l i (zeros (8 * (n / 8)))) (whole t ht))
