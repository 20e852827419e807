-- The dossier: a header of 14 big-endian numbers of 32 bits, then six sections without gaps (refusal 1).
-- The numbers are the version; a count and an offset for types, program, arrows, witness, input and hashes; the total length.
use Rattle.std.specs.Prelude.{Bool, length, drop}
use Rattle.std.proofs.Math.Bool.{false}
use mathlib.Core.List.{List, [], ◌∷◌}
use Prim.Native.Nat.{ℕ, zero, suc, ◌+◌, ◌*◌}
use Rattle.std.proofs.Math.Dec.{leb, eqb}
use Rattle.std.proofs.Math.ListN.{get_or, take}
use Rattle.limits.specs.Limits.{dossier_bytes, type_count, header_bytes, type_bytes, arrow_bytes, hash_bytes}
use Rattle.refusal.specs.declared.Refusal.TheVariants.{Header}
use Rattle.scope.specs.Check.{Check, passed, refused, ◌>>=◌, require, each}
use Rattle.scope.specs.Numbers.{be32, bytes_for, every}

-- the sections, by their places in the header
abbrev pub s_types : ℕ
s_types = 0

abbrev pub s_program : ℕ
s_program = 1

abbrev pub s_arrows : ℕ
s_arrows = 2

abbrev pub s_witness : ℕ
s_witness = 3

abbrev pub s_input : ℕ
s_input = 4

abbrev pub s_hashes : ℕ
s_hashes = 5

module _ (d : List ℕ) where
  -- number j of the header
  unfoldable pub number : (j : ℕ) → ℕ
  number j = be32 d (4 * j)

  -- the count and the offset of section k: bytes of the program, bits of witness and input, else records
  unfoldable pub count : (k : ℕ) → ℕ
  unfolding number
  count k = number (2 * k + 1)

  unfoldable pub offset : (k : ℕ) → ℕ
  unfolding number
  offset k = number (2 * k + 2)

  -- the bytes of section k
  unfoldable pub size : (k : ℕ) → ℕ
  unfolding count
  size k =
      get_or (type_bytes * count 0 ∷ count 1 ∷ arrow_bytes * count 2 ∷ bytes_for (count 3) ∷ bytes_for (count 4) ∷ hash_bytes * count 5 ∷ []) k 0

  -- where section k has to start: where the one before it ends
  unfoldable pub start : (k : ℕ) → ℕ
  unfolding size
  start zero = header_bytes
  start (suc k) = start k + size k

  -- a count is wrong where its section passes the end; the type count has limits besides
  unfoldable pub count_rule : (k : ℕ) → Bool
  unfolding start
  count_rule k = leb (start k + size k) (length d)

  unfoldable pub type_count_rule : Bool
  unfolding count count_rule every
  type_count_rule = every (leb 1 (count s_types) ∷ leb (count s_types) type_count ∷ count_rule s_types ∷ [])

  unfoldable pub offset_rule : (k : ℕ) → Bool
  unfolding offset start
  offset_rule k = eqb (offset k) (start k)

  -- the total is the dossier's length, and the sections end there
  unfoldable pub total_rule : Bool
  unfolding number start every
  total_rule = every (eqb (number 13) (length d) ∷ eqb (start 6) (length d) ∷ [])

  -- the rule of each number, in the header's order
  unfoldable pub header_rule : (j : ℕ) → Bool
  unfolding number count_rule type_count_rule offset_rule total_rule
  header_rule j =
      get_or (eqb (number 0) 1 ∷ type_count_rule ∷ offset_rule 0 ∷ count_rule 1 ∷ offset_rule 1 ∷ count_rule 2 ∷ offset_rule 2 ∷ count_rule 3 ∷ offset_rule 3
      ∷ count_rule 4 ∷ offset_rule 4 ∷ count_rule 5 ∷ offset_rule 5 ∷ total_rule ∷ []) j false

  -- a dossier too short for its header or over the limit is refused at 0, and else the first number against its rule, at its byte position
  unfoldable pub check_header : Check (Unit {0})
  unfolding ◌>>=◌ require each header_rule every
  check_header = do
    fits ← require (every (leb header_bytes (length d) ∷ leb (length d) dossier_bytes ∷ [])) (Header 0)
    each 14 header_rule (λ j. Header (4 * j))

  -- section k, as that part of the dossier
  unfoldable pub section : (k : ℕ) → List ℕ
  unfolding start size
  section k = take (size k) (drop (start k) d)

  -- section k as a call hands it back: empty where the header is refused
  unfoldable pub opened : (k : ℕ) → List ℕ
  unfolding check_header section
  opened k = elim check_header [ passed x ↦ section k | refused r ↦ [] ]
