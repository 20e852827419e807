-- Copying in a list of bits: a step and a turn of the code's loop, and which cells hold what afterwards.
use mathlib.Core.Path.{◌≡◌, refl, ap, ap₂, sym, ◌∙◌}
use mathlib.Core.Bool.{true}
use mathlib.Core.List.{List, ◌++◌}
use mathlib.Core.Logic.{◌⊎◌, inl, inr, ⊎_elim}
use Prim.Native.Nat.{ℕ, zero, suc, ◌+◌, ◌-◌, ◌≤◌, ◌<◌}
use native.Mathlib.Nat.{zero-add, add-zero, add_assoc, not-suc-le-zero}
use native.Mathlib.Omega.{arith}
use native.Mathlib.Decide.{dec_lt}
use borrow.Author.Tests.{leb-true}
use lib.Dec.{leb}
use lib.ListN.{length, get_or, set, take, drop, length-set, length-drop, get_or-append}
use lib.Seq.{sets, paste, length-paste, length_paste_head, length-take-le, get_or-append-add, get_or-take, get_or-drop, get_or-set_same, get_or-set_other, ext_get_or}
use Rattle.common.specs.Cells.{copy_bits, bits_from, length_copied}
use Rattle.cells.proofs.Parts.{bits_set}

-- the loop that copies
pub copy_turn : (l m : List ℕ) (f t n i r : ℕ) → copy_bits l (f + i) (t + i) (n - i) ≡ copy_bits m (f + i + r) (t + i + r) (n - i - r)
    → copy_bits l (f + i) (t + i) (n - i) ≡ copy_bits m (f + (i + r)) (t + (i + r)) (n - (i + r))
copy_turn l m f t n i r e =
    let u : n - i - r ≡ n - (i + r) = omega arith in
    e ∙ rw (add_assoc f i r, add_assoc t i r, u)

pub copy_done : (l : List ℕ) (f t n i : ℕ) → n ≤ i → copy_bits l f t (n - i) ≡ l
unfolding copy_bits
copy_done l f t n i h = let e : n - i ≡ 0 = omega arith in rw e

-- a step: k cells at once, where none of them is written before it is read
copy_part : (l : List ℕ) (f t k n : ℕ) → (t ≤ f) ⊎ (f + k ≤ t) → copy_bits l f t (k + n) ≡ copy_bits (sets l t (bits_from l f k)) (f + k) (t + k) n
unfolding copy_bits bits_from
copy_part l f t zero n h = rw (zero-add n, add-zero f, add-zero t)
copy_part l f t (suc k) n h =
    let u : suc k + n ≡ suc (k + n) = omega arith in
    let v : suc f + k ≡ f + suc k = omega arith in
    let w : suc t + k ≡ t + suc k = omega arith in
    let m = set l t (get_or l f 0) in
    ap (copy_bits l f t) u
    ∙ copy_part m (suc f) (suc t) k n (⊎_elim (λ p. inl (omega arith)) (λ p. inr (omega arith)) h)
    ∙ ap (λ (bs : List ℕ). copy_bits (sets m (suc t) bs) (suc f + k) (suc t + k) n)
    (bits_set l t (get_or l f 0) (suc f) k (⊎_elim (λ p. inl (omega arith)) (λ p. inr (omega arith)) h))
    ∙ ap₂ (λ (i j : ℕ). copy_bits (sets m (suc t) (bits_from l (suc f) k)) i j n) v w

-- sources and targets are apart where the code's tests say so
pub far : (f t : ℕ) → f < t → leb 8 (t - f) ≡ true → f + 8 ≤ t
far f t h e = omega (arith, leb-true 8 (t - f) e)

-- one cell is never written before it is read
pub one_apart : (f t : ℕ) → (t ≤ f) ⊎ (f + 1 ≤ t)
one_apart f t = elim (dec_lt f t) [ yes h ↦ inr (omega arith) | no h ↦ inl (omega arith) ]

pub copy_step : (l m : List ℕ) (f t n r : ℕ) → r ≤ n → (t ≤ f) ⊎ (f + r ≤ t) → m ≡ sets l t (bits_from l f r)
    → copy_bits l f t n ≡ copy_bits m (f + r) (t + r) (n - r)
copy_step l m f t n r h a q =
    let u : n ≡ r + (n - r) = omega arith in
    ap (copy_bits l f t) u ∙ copy_part l f t r (n - r) a ∙ ap (λ (k : List ℕ). copy_bits k (f + r) (t + r) (n - r)) (sym q)

-- which cells hold what after a copy
-- a cell that is no target of the copy is as it was
pub copy_outside : (l : List ℕ) (from to n j : ℕ) → (j < to) ⊎ (to + n ≤ j) → get_or (copy_bits l from to n) j 0 ≡ get_or l j 0
unfolding copy_bits
copy_outside l from to zero j h = refl
copy_outside l from to (suc n) j h =
    copy_outside (set l to (get_or l from 0)) (suc from) (suc to) n j (⊎_elim (λ p. inl (omega arith)) (λ p. inr (omega arith)) h)
    ∙ get_or-set_other l to j (get_or l from 0) 0 (⊎_elim (λ p e. omega arith) (λ p e. omega arith) h)

-- a target holds what its source held, where no source is written before it is read: above all where the two ranges are apart
pub copy_inside : (l : List ℕ) (from to n i : ℕ) → (to ≤ from) ⊎ (from + n ≤ to) → i < n → to + i < length l
    → get_or (copy_bits l from to n) (to + i) 0 ≡ get_or l (from + i) 0
unfolding copy_bits
copy_inside l from to zero i a h k = absurd (not-suc-le-zero h)
copy_inside l from to (suc n) zero a h k =
    let z : to + 0 ≡ to = omega arith in
    let y : from + 0 ≡ from = omega arith in
    rw (z, y) (copy_outside (set l to (get_or l from 0)) (suc from) (suc to) n to (inl (omega arith)) ∙ get_or-set_same l to (get_or l from 0) 0 (omega arith))
copy_inside l from to (suc n) (suc i) a h k =
    let z : to + suc i ≡ suc to + i = omega arith in
    let y : from + suc i ≡ suc from + i = omega arith in
    let m = set l to (get_or l from 0) in
    rw (z, y)
    (copy_inside m (suc from) (suc to) n i (⊎_elim (λ p. inl (omega arith)) (λ p. inr (omega arith)) a) (omega arith)
    (omega (arith, length-set l to (get_or l from 0)))
    ∙ get_or-set_other l to (suc from + i) (get_or l from 0) 0 (⊎_elim (λ p e. omega arith) (λ p e. omega arith) a))

-- so a copy between such ranges within the list is one of all its cells at once
module _ (l : List ℕ) (from to n : ℕ) (hf : from + n ≤ length l) (ht : to + n ≤ length l) where
  head_length : length (take to l ++ take n (drop from l)) ≡ to + n
  head_length = length_paste_head l to (drop from l) n (omega arith) (omega (arith, length-drop from l))

  pasted_before : (j : ℕ) → j < to → get_or (paste l to (drop from l) n) j 0 ≡ get_or l j 0
  pasted_before j h =
      let k : j < length (take to l) = omega (arith, length-take-le to l (omega arith)) in
      get_or-append (take to l ++ take n (drop from l)) (drop (to + n) l) 0 j (omega (arith, head_length))
      ∙ get_or-append (take to l) (take n (drop from l)) 0 j k
      ∙ get_or-take to l j 0 h

  pasted_within : (i : ℕ) → i < n → get_or (paste l to (drop from l) n) (to + i) 0 ≡ get_or l (from + i) 0
  pasted_within i h =
      let e : length (take to l) + i ≡ to + i = omega (arith, length-take-le to l (omega arith)) in
      get_or-append (take to l ++ take n (drop from l)) (drop (to + n) l) 0 (to + i) (omega (arith, head_length))
      ∙ ap (λ (q : ℕ). get_or (take to l ++ take n (drop from l)) q 0) (sym e)
      ∙ get_or-append-add (take to l) (take n (drop from l)) i 0
      ∙ get_or-take n (drop from l) i 0 h
      ∙ get_or-drop from l i 0

  pasted_after : (i : ℕ) → get_or (paste l to (drop from l) n) (to + n + i) 0 ≡ get_or l (to + n + i) 0
  pasted_after i =
      ap (λ (q : ℕ). get_or (paste l to (drop from l) n) (q + i) 0) (sym head_length)
      ∙ get_or-append-add (take to l ++ take n (drop from l)) (drop (to + n) l) i 0
      ∙ get_or-drop (to + n) l i 0

pub copy_apart : (l : List ℕ) (from to n : ℕ) → (to ≤ from) ⊎ (from + n ≤ to) → from + n ≤ length l → to + n ≤ length l
    → copy_bits l from to n ≡ paste l to (drop from l) n
copy_apart l from to n a hf ht =
    ext_get_or 0 (copy_bits l from to n) (paste l to (drop from l) n)
    (length_copied l from to n ∙ sym (length-paste l to (drop from l) n ht (omega (arith, length-drop from l))))
    (λ j k. cell j (omega (arith, length_copied l from to n)))
  where
    within : (i : ℕ) → i < n → get_or (copy_bits l from to n) (to + i) 0 ≡ get_or (paste l to (drop from l) n) (to + i) 0
    within i h = copy_inside l from to n i a h (omega arith) ∙ sym (pasted_within l from to n hf ht i h)

    after : (i : ℕ) → get_or (copy_bits l from to n) (to + n + i) 0 ≡ get_or (paste l to (drop from l) n) (to + n + i) 0
    after i = copy_outside l from to n (to + n + i) (inr (omega arith)) ∙ sym (pasted_after l from to n hf ht i)

    cell : (j : ℕ) → j < length l → get_or (copy_bits l from to n) j 0 ≡ get_or (paste l to (drop from l) n) j 0
    cell j k = elim (dec_lt j to) [
      | yes h ↦ copy_outside l from to n j (inl h) ∙ sym (pasted_before l from to n hf ht j h)
      | no m ↦ elim (dec_lt j (to + n)) [
        | yes h ↦ (let e : to + (j - to) ≡ j = omega arith in rw e at (within (j - to) (omega arith)))
        | no o ↦ (let e : to + n + (j - (to + n)) ≡ j = omega arith in rw e at (after (j - (to + n))))
      ]
    ]
