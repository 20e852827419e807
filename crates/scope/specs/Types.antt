-- The type table: which records it may hold (refusal 2), the type that each record stands for, and what a record is (unit, a sum, a product, a word).
-- A record refers only to earlier records, unit's indices are 0, no two records are equal, and no type is too wide.
use Rattle.std.specs.Prelude.{Bool, List, [], ◌∷◌, length}
use Rattle.std.proofs.Math.Bool.{false, not}
use Prim.Native.Nat.{ℕ, zero, suc, ◌+◌, ◌*◌, ◌/◌}
use Rattle.std.proofs.Math.Dec.{leb, ltb, eqb}
use Rattle.std.proofs.Math.ListN.{get_or}
use Rattle.limits.specs.Limits.{type_bytes, type_width}
use Rattle.refusal.specs.declared.Refusal.TheVariants.{TypeRecord as BadTypeRecord}
use Rattle.report.specs.Table.{entries}
use Rattle.report.specs.Types.{Ty, one, sum, prod, width}
use Rattle.scope.specs.Check.{Check, each}
use Rattle.scope.specs.Numbers.{be16, tabulate, every, any_below}

-- tag 0 is unit, 1 a sum, 2 a product; the parts are indices of earlier records
pub record TypeRecord : Type 0 where
  pub tag : ℕ
  pub left : ℕ
  pub right : ℕ

-- record i of a table of 5 bytes each: the tag and two 16-bit indices
unfoldable pub type_record : List ℕ → (i : ℕ) → TypeRecord
type_record bytes i = record {
  tag = get_or bytes (type_bytes * i) 0;
  left = be16 bytes (type_bytes * i + 1);
  right = be16 bytes (type_bytes * i + 3);
}

unfoldable pub type_records : List ℕ → List TypeRecord
unfolding tabulate type_record
type_records bytes = tabulate (length bytes / type_bytes) (type_record bytes)

-- the type of a record, of the types of its parts
unfoldable pub type_from : (tag : ℕ) → Ty → Ty → Ty
type_from zero A B = one
type_from (suc zero) A B = sum A B
type_from (suc (suc k)) A B = prod A B

unfoldable pub type_make : List Ty → TypeRecord → Ty
unfolding type_from
type_make before r = type_from r.tag (get_or before r.left one) (get_or before r.right one)

abbrev pub no_type : TypeRecord
no_type = record { tag = 3; left = 0; right = 0 }

module _ (types : List TypeRecord) where
  -- the type that record i stands for
  unfoldable pub ty_at : (i : ℕ) → Ty
  unfolding entries type_make
  ty_at i = get_or (entries type_make types) i one

  unfoldable pub type_at : (i : ℕ) → TypeRecord
  type_at i = get_or types i no_type

  unfoldable pub same_type : (i j : ℕ) → Bool
  unfolding type_at every
  same_type i j = every (eqb (type_at i).tag (type_at j).tag ∷ eqb (type_at i).left (type_at j).left ∷ eqb (type_at i).right (type_at j).right ∷ [])

  -- unit's indices are 0, and the parts of a sum or a product are earlier records; there is no other tag
  unfoldable pub parts_rule : (i tag left right : ℕ) → Bool
  unfolding every
  parts_rule i zero left right = every (eqb left 0 ∷ eqb right 0 ∷ [])
  parts_rule i (suc zero) left right = every (ltb left i ∷ ltb right i ∷ [])
  parts_rule i (suc (suc zero)) left right = every (ltb left i ∷ ltb right i ∷ [])
  parts_rule i (suc (suc (suc k))) left right = false

  unfoldable pub type_rule : (i : ℕ) → Bool
  unfolding type_at parts_rule any_below same_type ty_at width every
  type_rule i = every (
      parts_rule i (type_at i).tag (type_at i).left (type_at i).right
      ∷ not (any_below i (same_type i))
      ∷ leb (width (ty_at i)) type_width
      ∷ [])

  -- the first record that breaks a rule is refused
  unfoldable pub check_types : Check (Unit {0})
  unfolding each type_rule
  check_types = each (length types) type_rule BadTypeRecord

  -- what record j is: unit
  unfoldable pub is_unit : (j : ℕ) → Bool
  unfolding type_at
  is_unit j = eqb (type_at j).tag 0

  -- or the sum, or the product, of these two
  unfoldable pub is_sum : (j left right : ℕ) → Bool
  unfolding type_at every
  is_sum j left right = every (eqb (type_at j).tag 1 ∷ eqb (type_at j).left left ∷ eqb (type_at j).right right ∷ [])

  unfoldable pub is_product : (j left right : ℕ) → Bool
  unfolding type_at every
  is_product j left right = every (eqb (type_at j).tag 2 ∷ eqb (type_at j).left left ∷ eqb (type_at j).right right ∷ [])

  -- its parts
  unfoldable pub left_at : (j : ℕ) → ℕ
  unfolding type_at
  left_at j = (type_at j).left

  unfoldable pub right_at : (j : ℕ) → ℕ
  unfolding type_at
  right_at j = (type_at j).right

  -- a sum, or a product, of whatever parts; with this left part; with this right part
  abbrev pub a_sum : (j : ℕ) → Bool
  a_sum j = is_sum j (left_at j) (right_at j)

  abbrev pub sum_with_left : (j left : ℕ) → Bool
  sum_with_left j left = is_sum j left (right_at j)

  abbrev pub sum_with_right : (j right : ℕ) → Bool
  sum_with_right j right = is_sum j (left_at j) right

  abbrev pub a_product : (j : ℕ) → Bool
  a_product j = is_product j (left_at j) (right_at j)

  abbrev pub product_with_left : (j left : ℕ) → Bool
  product_with_left j left = is_product j left (right_at j)

  abbrev pub product_with_right : (j right : ℕ) → Bool
  product_with_right j right = is_product j (left_at j) right

  -- the very type of words of 2 ^ k bits: a sum of units, or a product of a word type with itself
  unfoldable pub is_word : (k j : ℕ) → Bool
  unfolding is_unit is_sum is_product left_at right_at every
  is_word zero j = every (a_sum j ∷ is_unit (left_at j) ∷ is_unit (right_at j) ∷ [])
  is_word (suc k) j = every (is_product j (left_at j) (left_at j) ∷ is_word k (left_at j) ∷ [])
