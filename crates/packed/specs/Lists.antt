-- Packed lists of numbers: a number below 254 is a byte; 254 stands before a number of two bytes, 255 before one of four.
use Rattle.std.specs.Prelude.{ℕ, zero, suc, Bool, true, false, List, [], ◌∷◌, drop, ◌==◌, nat_lt, slice_index}
use Rattle.scope.specs.Numbers.{be16, be32}

-- one of three, by the first byte of a number
unfoldable pub by_first : {X : Type 0} → (first : ℕ) → X → X → X → X
by_first first one two four = elim (nat_lt first 254) [ true ↦ one | false ↦ elim (first == 254) [ true ↦ two | false ↦ four ] ]

-- the first number of a packed list, and the list after it
unfoldable pub first_number : List ℕ → ℕ
unfolding by_first
first_number v = by_first (slice_index v 0) (slice_index v 0) (be16 v 1) (be32 v 1)

unfoldable pub after_number : List ℕ → List ℕ
unfolding by_first
after_number v = by_first (slice_index v 0) (drop 1 v) (drop 3 v) (drop 5 v)

-- the numbers of a packed list, of which so many bytes belong to a number that is taken
unfoldable pub unpacked_past : ℕ → List ℕ → List ℕ
unfolding by_first first_number
unpacked_past n [] = []
unpacked_past zero (b ∷ v) = first_number (b ∷ v) ∷ unpacked_past (by_first b 0 2 4) v
unpacked_past (suc n) (b ∷ v) = unpacked_past n v

-- the numbers of a packed list
abbrev pub unpacked : List ℕ → List ℕ
unpacked v = unpacked_past 0 v

-- the first of some numbers, else the one that follows them again and again; and the numbers after the first
unfoldable pub head_or : ℕ → List ℕ → ℕ
head_or rest [] = rest
head_or rest (n ∷ ns) = n

unfoldable pub tail : List ℕ → List ℕ
tail [] = []
tail (n ∷ ns) = ns

unfoldable pub none : List ℕ → Bool
none [] = true
none (n ∷ ns) = false

-- a store holds some numbers, and one number again and again after them
unfoldable pub holds_numbers : (store ns : List ℕ) → (rest : ℕ) → Bool
unfolding head_or tail none
holds_numbers [] ns rest = none ns
holds_numbers (x ∷ xs) ns rest = elim (x == head_or rest ns) [ true ↦ holds_numbers xs (tail ns) rest | false ↦ false ]

-- some numbers laid over the start of a store: how many there is room for, and the store
unfoldable pub laid : (ns store : List ℕ) → ℕ × List ℕ
laid ns [] = (0, [])
laid [] (x ∷ xs) = (0, x ∷ xs)
laid (n ∷ ns) (x ∷ xs) = (suc (laid ns xs).0, n ∷ (laid ns xs).1)
