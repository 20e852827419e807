-- Laws on packed lists of numbers, and on the stores that are held against them or that they are laid over.
use Rattle.std.proofs.Common.{◌≡◌, ℕ, zero, suc, ◌+◌, ◌<◌, ◌≤◌, Bool, true, false, eqb, ltb, List, [], ◌∷◌, ◌++◌, length, get_or, take, drop, set, sym, refl, ap, ◌∙◌, ap₂, add-one, arith, length-drop, take-append-drop, drop_of_length-le, drop-cons, take-suc-set, drop-set-lt, eq-eqb, ne_eqb}
use lib.Seq.{append_snoc}
use Rattle.packed.specs.Lists.{by_first, first_number, after_number, unpacked_past, unpacked, head_or, tail, none, holds_numbers, laid}

-- bytes of a number that is taken are passed over
passed : (n : ℕ) (v : List ℕ) → unpacked_past n v ≡ unpacked_past 0 (drop n v)
unfolding unpacked_past
passed zero v = refl
passed (suc n) [] = refl
passed (suc n) (b ∷ v) = passed n v

-- the numbers of a list that has a byte are its first and those after it
pub unpack : (v : List ℕ) → (length v ≡ 0 → ⊥) → unpacked v ≡ first_number v ∷ unpacked (after_number v)
unfolding unpacked_past after_number by_first
unpack [] n = absurd (n refl)
unpack (b ∷ v) n = ap (λ (ns : List ℕ). first_number (b ∷ v) ∷ ns) (go (ltb b 254) (eqb b 254))
  where
    go : (p q : Bool)
        → unpacked_past (elim p [ true ↦ 0 | false ↦ elim q [ true ↦ 2 | false ↦ 4 ] ]) v
        ≡ unpacked_past 0 (elim p [ true ↦ drop 1 (b ∷ v) | false ↦ elim q [ true ↦ drop 3 (b ∷ v) | false ↦ drop 5 (b ∷ v) ] ])
    go true q = refl
    go false true = passed 2 v
    go false false = passed 4 v

pub first_of : (v : List ℕ) (rest : ℕ) → (length v ≡ 0 → ⊥) → head_or rest (unpacked v) ≡ first_number v
unfolding head_or
first_of v rest n = ap (head_or rest) (unpack v n)

pub first_of_none : (v : List ℕ) (rest : ℕ) → length v ≡ 0 → head_or rest (unpacked v) ≡ rest
unfolding head_or unpacked_past
first_of_none [] rest e = refl
first_of_none (b ∷ v) rest e = absurd (omega arith)

-- a number that was taken off the list stands before those of the rest
pub taken_off : (v w : List ℕ) (n : ℕ) → (length v ≡ 0 → ⊥) → n ≡ head_or 0 (unpacked v) → w ≡ after_number v → unpacked v ≡ n ∷ unpacked w
taken_off v w n h e f = unpack v h ∙ sym (ap₂ (λ (x : ℕ) (xs : List ℕ). x ∷ unpacked xs) (e ∙ first_of v 0 h) f)

pub after_of : (v : List ℕ) → unpacked (after_number v) ≡ tail (unpacked v)
unfolding tail unpacked_past after_number by_first
after_of [] = refl
after_of (b ∷ v) = sym (ap tail (unpack (b ∷ v) (λ (e : suc (length v) ≡ 0). absurd (omega arith))))

pub none_of : (v : List ℕ) → eqb (length v) 0 ≡ none (unpacked v)
unfolding none unpacked_past
none_of [] = refl
none_of (b ∷ v) = ne_eqb (suc (length v)) 0 (λ (e : suc (length v) ≡ 0). absurd (omega arith))

-- a store is held against the numbers from place k on: unlike there, or like and on to the next, or at the end
module _ (store : List ℕ) (ns : List ℕ) (rest k : ℕ) where
  at_place : k < length store → holds_numbers (drop k store) ns rest
      ≡ elim (eqb (get_or store k 0) (head_or rest ns)) [ true ↦ holds_numbers (drop (suc k) store) (tail ns) rest | false ↦ false ]
  unfolding holds_numbers
  at_place h = ap (λ (xs : List ℕ). holds_numbers xs ns rest) (drop-cons store k 0 h)

  pub unlike : (m : ℕ) → k < length store → m ≡ head_or rest ns → (get_or store k 0 ≡ m → ⊥) → holds_numbers (drop k store) ns rest ≡ false
  unlike m h e n = at_place h ∙ rw (ne_eqb (get_or store k 0) (head_or rest ns) (λ (p : get_or store k 0 ≡ head_or rest ns). n (p ∙ sym e)))

  pub like : (m : ℕ) → k < length store → m ≡ head_or rest ns → get_or store k 0 ≡ m
      → holds_numbers (drop k store) ns rest ≡ holds_numbers (drop (k + 1) store) (tail ns) rest
  like m h e p = at_place h ∙ rw (eq-eqb (get_or store k 0) (head_or rest ns) (p ∙ e), add-one)

  pub ended : length store ≤ k → holds_numbers (drop k store) ns rest ≡ none ns
  unfolding holds_numbers
  ended h = ap (λ (xs : List ℕ). holds_numbers xs ns rest) (drop_of_length-le store h)

-- the numbers laid over a store from place k on: how many there are then, and the store
abbrev pub laid_from : (k : ℕ) (ns store : List ℕ) → ℕ × List ℕ
laid_from k ns store = (k + (laid ns (drop k store)).0, take k store ++ (laid ns (drop k store)).1)

-- nothing is laid of an empty list, nor over an empty store
empty_list : (v s : List ℕ) → length v ≤ 0 → laid (unpacked v) s ≡ (0, s)
unfolding laid unpacked_past
empty_list [] [] h = refl
empty_list [] (x ∷ xs) h = refl
empty_list (b ∷ v) s h = absurd (omega arith)

empty_store : (ns s : List ℕ) → length s ≤ 0 → laid ns s ≡ (0, s)
unfolding laid
empty_store ns [] h = refl
empty_store ns (x ∷ xs) h = absurd (omega arith)

module _ (k : ℕ) (store : List ℕ) where
  -- one number more is laid
  pub lay : (n : ℕ) (ns : List ℕ) → k < length store → laid_from k (n ∷ ns) store ≡ laid_from (k + 1) ns (set store k n)
  unfolding laid
  lay n ns h =
      let d : drop k store ≡ get_or store k 0 ∷ drop (suc k) store = drop-cons store k 0 h in
      let e : drop (suc k) (set store k n) ≡ drop (suc k) store = drop-set-lt (suc k) store k n (omega arith) in
      rw (add-one, d, e, take-suc-set store k n h, append_snoc)
      (ap₂ (λ (m : ℕ) (xs : List ℕ). (m, xs)) (omega arith) refl)

  -- all numbers are laid, or there is no room for more
  done : (ns : List ℕ) → laid ns (drop k store) ≡ (0, drop k store) → (k, store) ≡ laid_from k ns store
  done ns e = rw e (ap₂ (λ (m : ℕ) (xs : List ℕ). (m, xs)) (omega arith) (sym (take-append-drop k store)))

  pub all_laid : (v : List ℕ) → length v ≤ 0 → (k, store) ≡ laid_from k (unpacked v) store
  all_laid v h = done (unpacked v) (empty_list v (drop k store) h)

  pub full : (ns : List ℕ) → length store ≤ k → (k, store) ≡ laid_from k ns store
  full ns h = done ns (empty_store ns (drop k store) (rw length-drop (omega arith)))
