-- What the check of a lent type table answers: 4 at 0 for no record or too many, then 2 at the first record that breaks a rule, and else
-- the count of records; odd bytes at the end are of no record. Beside it, for each record before the first bad one, the width of its type
-- and its entry, which is the mark of a type without padding or the next record that matters; all else is 0.
use Rattle.std.specs.Prelude.{Result, Ok, Err, List, ◌++◌, ℕ, ◌-◌, length}
use Rattle.limits.specs.Limits.{type_count}
use Rattle.refusal.specs.declared.Refusal.{Refusal}
use Rattle.report.specs.Types.{width}
use Rattle.scope.specs.Check.{Check, passed, refused, ◌>>=◌, first_failing}
use Rattle.scope.specs.Numbers.{zeros, tabulate}
use Rattle.scope.specs.Stages.{counted}
use Rattle.scope.specs.Types as Types
use Rattle.scope.specs.Types.{type_records, ty_at, type_rule, check_types}
use Rattle.types.specs.Records.{next_at}
use Rattle.types.specs.declared.TypeRecord.{TypeRecord}
use Rattle.types.specs.declared.TypeTable.{TypeTable}

-- a record as a call hands it back
abbrev pub record_of : Types.TypeRecord → TypeRecord
record_of r = record { tag = r.tag; left = r.left; right = r.right }

-- the check passes with how many records there are
unfoldable pub check_table : (bytes : List ℕ) → Check ℕ
unfolding ◌>>=◌ counted type_records check_types
check_table bytes = do
  some ← counted (length (type_records bytes)) type_count
  sound ← check_types (type_records bytes)
  passed (length (type_records bytes))

-- what the check says, as a call answers it
abbrev pub type_answer : Check ℕ → Result ℕ Refusal
type_answer (passed n) = Ok n
type_answer (refused r) = Err r

-- the same without its count
abbrev pub without_count : Result ℕ Refusal → Check (Unit {0})
without_count (Ok n) = passed tt
without_count (Err why) = refused why

-- 4, then 2
unfoldable pub counted_types : (bytes : List ℕ) → Check (Unit {0})
unfolding ◌>>=◌ counted type_records check_types
counted_types bytes = do
  some ← counted (length (type_records bytes)) type_count
  check_types (type_records bytes)

-- how many records stand before the first bad one; none of a table of no record or too many
unfoldable pub good_records : (bytes : List ℕ) → ℕ
unfolding counted type_records type_rule first_failing
good_records bytes = elim (counted (length (type_records bytes)) type_count) [
  | passed x ↦ first_failing (type_rule (type_records bytes)) (length (type_records bytes)) 0
  | refused r ↦ 0
]

-- an array of a number for each record: f 0, f 1, .., f (n - 1), the rest zero
unfoldable pub array_of : (n : ℕ) → (ℕ → ℕ) → List ℕ
unfolding tabulate
array_of n f = tabulate n f ++ zeros (type_count - n)

-- the width of each good record's type, and its entry
unfoldable pub type_widths : (bytes : List ℕ) → List ℕ
unfolding array_of good_records width ty_at type_records
type_widths bytes = array_of (good_records bytes) (λ i. width (ty_at (type_records bytes) i))

unfoldable pub type_next : (bytes : List ℕ) → List ℕ
unfolding array_of good_records next_at type_records
type_next bytes = array_of (good_records bytes) (next_at (type_records bytes))

-- what the check of a lent table answers
unfoldable pub type_table : (bytes : List ℕ) → TypeTable
unfolding check_table type_widths type_next
type_table bytes = record { answer = type_answer (check_table bytes); widths = type_widths bytes; next = type_next bytes }
