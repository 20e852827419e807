-- Bits of a list from a place on: what they are within the list, what leaves them as they are, and that they are put elsewhere part by part.
-- A step of the code's loops puts one bit or eight; the laws are over any number of them.
use mathlib.Core.Path.{◌≡◌, refl, ap, ap₂, sym, ◌∙◌}
use mathlib.Core.List.{List, [], ◌∷◌}
use mathlib.Core.Logic.{◌⊎◌, inl, inr, ⊎_elim}
use Prim.Native.Nat.{ℕ, zero, suc, ◌+◌, ◌*◌, ◌-◌, ◌/◌, ◌%◌, ◌≤◌, ◌<◌}
use native.Mathlib.Nat.{zero-add, add-zero, add_assoc}
use native.Mathlib.Omega.{arith}
use lib.ListN.{length, get_or, set, take, drop}
use lib.Seq.{sets, drop-cons, get_or-set_other}
use Rattle.report.specs.Bits.{byte_bits}
use Rattle.scope.specs.Numbers.{zeros}
use Rattle.common.specs.Cells.{bits_from}

pub length_bits_from : (l : List ℕ) (p n : ℕ) → length (bits_from l p n) ≡ n
unfolding bits_from
length_bits_from l p zero = refl
length_bits_from l p (suc n) = ap suc (length_bits_from l (suc p) n)

-- within the list they are a part of it
pub bits_within : (l : List ℕ) (p n : ℕ) → p + n ≤ length l → bits_from l p n ≡ take n (drop p l)
unfolding bits_from
bits_within l p zero h = refl
bits_within l p (suc n) h =
    ap (λ (t : List ℕ). get_or l p 0 ∷ t) (bits_within l (suc p) n (omega arith))
    ∙ ap (take (suc n)) (sym (drop-cons l p 0 (omega arith)))

-- a list with nothing in it gives zeros
pub zeros_from : (p n : ℕ) → zeros n ≡ bits_from [] p n
unfolding bits_from
zeros_from p zero = refl
zeros_from p (suc n) = ap (λ (t : List ℕ). 0 ∷ t) (zeros_from (suc p) n)

-- lists that read alike give the same bits
pub bits_alike : (l m : List ℕ) → ((i : ℕ) → get_or l i 0 ≡ get_or m i 0) → (p n : ℕ) → bits_from l p n ≡ bits_from m p n
unfolding bits_from
bits_alike l m h p zero = refl
bits_alike l m h p (suc n) = ap₂ ◌∷◌ (h p) (bits_alike l m h (suc p) n)

-- a bit set outside them leaves them
pub bits_set : (l : List ℕ) (t b p n : ℕ) → (t < p) ⊎ (p + n ≤ t) → bits_from (set l t b) p n ≡ bits_from l p n
unfolding bits_from
bits_set l t b p zero h = refl
bits_set l t b p (suc n) h =
    ap₂ ◌∷◌ (get_or-set_other l t p b 0 (⊎_elim (λ q e. omega arith) (λ q e. omega arith) h))
    (bits_set l t b (suc p) n (⊎_elim (λ q. inl (omega arith)) (λ q. inr (omega arith)) h))

-- k of them put, then the others
put_part : (l s : List ℕ) (p t k n : ℕ) → sets l t (bits_from s p (k + n)) ≡ sets (sets l t (bits_from s p k)) (t + k) (bits_from s (p + k) n)
unfolding bits_from
put_part l s p t zero n = rw (zero-add n, add-zero p, add-zero t)
put_part l s p t (suc k) n =
    let u : suc k + n ≡ suc (k + n) = omega arith in
    let v : suc p + k ≡ p + suc k = omega arith in
    let w : suc t + k ≡ t + suc k = omega arith in
    let m = sets (set l t (get_or s p 0)) (suc t) (bits_from s (suc p) k) in
    ap (λ (j : ℕ). sets l t (bits_from s p j)) u
    ∙ put_part (set l t (get_or s p 0)) s (suc p) (suc t) k n
    ∙ ap₂ (λ (i j : ℕ). sets m i (bits_from s j n)) w v

pub put_step : (l m s : List ℕ) (p t n r : ℕ) → r ≤ n → m ≡ sets l t (bits_from s p r) → sets l t (bits_from s p n) ≡ sets m (t + r) (bits_from s (p + r) (n - r))
put_step l m s p t n r h q =
    let u : n ≡ r + (n - r) = omega arith in
    ap (λ (j : ℕ). sets l t (bits_from s p j)) u ∙ put_part l s p t r (n - r) ∙ ap (λ (k : List ℕ). sets k (t + r) (bits_from s (p + r) (n - r))) (sym q)

pub zero_step : (l m : List ℕ) (t n r : ℕ) → r ≤ n → m ≡ sets l t (zeros r) → sets l t (zeros n) ≡ sets m (t + r) (zeros (n - r))
zero_step l m t n r h q =
    ap (sets l t) (zeros_from 0 n)
    ∙ put_step l m [] 0 t n r h (q ∙ ap (sets l t) (zeros_from 0 r))
    ∙ ap (sets m (t + r)) (sym (zeros_from (0 + r) (n - r)))

-- what a step of the code leaves: one bit of the source set, or a byte whose bits are eight of the source's
pub one_put : (l m s : List ℕ) (p t b : ℕ) → b ≡ get_or s p 0 → b < 2 → m ≡ set l t (b % 2) → m ≡ sets l t (bits_from s p 1)
unfolding bits_from
one_put l m s p t b e h q = let z : b % 2 ≡ get_or s p 0 = omega arith in q ∙ ap (set l t) z

pub eight_put : (l m s : List ℕ) (p t x : ℕ) → byte_bits x ≡ bits_from s p 8 → t % 8 ≡ 0 → m ≡ sets l (8 * (t / 8)) (byte_bits x) → m ≡ sets l t (bits_from s p 8)
eight_put l m s p t x e h q = let z : 8 * (t / 8) ≡ t = omega arith in q ∙ ap₂ (sets l) z e

pub eight_zeros : (l m : List ℕ) (t : ℕ) → t % 8 ≡ 0 → m ≡ sets l (8 * (t / 8)) (byte_bits 0) → m ≡ sets l t (zeros 8)
eight_zeros l m t h q = let z : 8 * (t / 8) ≡ t = omega arith in q ∙ ap (λ (i : ℕ). sets l i (zeros 8)) z

-- the loops that put bits and that clear
pub put_turn : (l m s : List ℕ) (p t n i r : ℕ) → sets l (t + i) (bits_from s (p + i) (n - i)) ≡ sets m (t + i + r) (bits_from s (p + i + r) (n - i - r))
    → sets l (t + i) (bits_from s (p + i) (n - i)) ≡ sets m (t + (i + r)) (bits_from s (p + (i + r)) (n - (i + r)))
put_turn l m s p t n i r e =
    let u : n - i - r ≡ n - (i + r) = omega arith in
    e ∙ rw (add_assoc t i r, add_assoc p i r, u)

pub put_done : (l s : List ℕ) (p t n i : ℕ) → n ≤ i → sets l t (bits_from s p (n - i)) ≡ l
unfolding bits_from
put_done l s p t n i h = let e : n - i ≡ 0 = omega arith in rw e

pub zero_turn : (l m : List ℕ) (t n i r : ℕ) → sets l (t + i) (zeros (n - i)) ≡ sets m (t + i + r) (zeros (n - i - r))
    → sets l (t + i) (zeros (n - i)) ≡ sets m (t + (i + r)) (zeros (n - (i + r)))
zero_turn l m t n i r e =
    let u : n - i - r ≡ n - (i + r) = omega arith in
    e ∙ rw (add_assoc t i r, u)
