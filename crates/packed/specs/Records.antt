-- A packed record: numbers of 32 bits, of which the last are the sizes of its parts, and then the parts. A record begins with the count of its bytes.
use Rattle.std.specs.Prelude.{ℕ, zero, suc, ◌+◌, ◌-◌, ◌*◌, Bool, true, false, List, [], length, take, drop, ◌==◌, nat_eq, nat_lt}
use Rattle.scope.specs.Numbers.{be32}

-- number k
abbrev pub number : List ℕ → ℕ → ℕ
number v k = be32 v (4 * k)

-- what is left after n parts, whose sizes are the numbers from j on
unfoldable pub after_parts : (v : List ℕ) (j n : ℕ) → List ℕ → List ℕ
after_parts v j zero rest = rest
after_parts v j (suc n) rest = after_parts v (suc j) n (drop (number v j) rest)

-- the first n bytes; none where they are not all there
abbrev pub whole : ℕ → List ℕ → List ℕ
whole n v = elim (nat_lt (length v) n) [ true ↦ [] | false ↦ take n v ]

-- the part whose size is number k, where the parts follow `head` numbers, and number `first` is the size of the first of them
abbrev pub part : (v : List ℕ) (first head k : ℕ) → List ℕ
part v first head k = whole (number v k) (after_parts v first (k - first) (drop (4 * head) v))

-- the first record of a file, and the bytes after it
abbrev pub first_record : List ℕ → List ℕ
first_record v = whole (number v 0) (drop 4 v)

abbrev pub after_first : List ℕ → List ℕ
after_first v = drop (4 + number v 0) v

-- the record begins with these two numbers
abbrev pub tells : List ℕ → ℕ → ℕ → Bool
tells v a b = elim (number v 0 == a) [ true ↦ nat_eq (number v 1) b | false ↦ false ]
