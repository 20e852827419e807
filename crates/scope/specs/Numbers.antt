-- Numbers in bytes, tables as lists, and tests as Booleans.
use Rattle.std.specs.Prelude.{Bool, true, false, List, [], ◌∷◌, ◌++◌, ℕ, zero, suc, ◌+◌, ◌*◌, ◌-◌, ◌/◌, eqb, ltb, length, get_or, take, replicate}
use Rattle.limits.specs.Limits.{dossier_bytes}
use Rattle.report.specs.Bits.{Bit, bits_of}

-- big-endian numbers of 16 and of 32 bits
abbrev pub be16 : List ℕ → ℕ → ℕ
be16 s at = get_or s at 0 * 256 + get_or s (at + 1) 0

abbrev pub be32 : List ℕ → ℕ → ℕ
be32 s at = be16 s at * 65536 + be16 s (at + 2)

-- as many bytes as hold so many bits
abbrev pub bytes_for : ℕ → ℕ
bytes_for bits = (bits + 7) / 8

abbrev pub zeros : ℕ → List ℕ
zeros n = replicate n 0

-- a store that begins with these numbers, the rest zero
unfoldable pub filled : List ℕ → (store : List ℕ) → List ℕ
filled numbers store = numbers ++ zeros (length store - length numbers)

-- the bits of a slice, and none of a slice above the dossier's limit: no such slice is read
unfoldable pub stream_of : List ℕ → List Bit
unfolding bits_of
stream_of s = elim (ltb dossier_bytes (length s)) [ true ↦ [] | false ↦ bits_of s ]

-- the bits of a slice's first bytes, as many as a dossier may have
abbrev pub held_bits : List ℕ → List Bit
held_bits s = stream_of (take dossier_bytes s)

-- f i, f (i + 1), .., n of them
unfoldable pub tabulate_from : {X : Type 0} → (i n : ℕ) → (ℕ → X) → List X
tabulate_from i zero f = []
tabulate_from i (suc n) f = f i ∷ tabulate_from (suc i) n f

-- f 0, f 1, .., f (n - 1)
unfoldable pub tabulate : {X : Type 0} → (n : ℕ) → (ℕ → X) → List X
unfolding tabulate_from
tabulate n f = tabulate_from 0 n f

-- all of the tests hold
unfoldable pub every : List Bool → Bool
every [] = true
every (b ∷ bs) = elim b [ true ↦ every bs | false ↦ false ]

-- the test holds of a number below n
unfoldable pub any_below : (n : ℕ) → (test : ℕ → Bool) → Bool
any_below zero test = false
any_below (suc n) test = elim (test n) [ true ↦ true | false ↦ any_below n test ]

-- two lists of numbers are the same
unfoldable pub same : List ℕ → List ℕ → Bool
same [] [] = true
same [] (y ∷ ys) = false
same (x ∷ xs) [] = false
same (x ∷ xs) (y ∷ ys) = elim (eqb x y) [ true ↦ same xs ys | false ↦ false ]

unfoldable pub all_zero : List ℕ → Bool
all_zero [] = true
all_zero (x ∷ xs) = elim x [ zero ↦ all_zero xs | suc y ↦ false ]
