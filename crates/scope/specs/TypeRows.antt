-- The type table, computed: its records, the type of each, and refusal 2 for every rule that a record can break.
use Rattle.std.specs.Prelude.{refl, true, false, List, [], ◌∷◌, ◌++◌, ◌+◌}
use Rattle.refusal.specs.declared.Refusal.TheVariants.{TypeRecord as BadTypeRecord}
use Rattle.report.specs.Lines.{◌is◌, Hold, b1, b2}
use Rattle.report.specs.Types.{one, sum, prod}
use Rattle.scope.specs.Check.{passed, refused}
use Rattle.scope.specs.Numbers.{tabulate}
use Rattle.scope.specs.Types.{TypeRecord, type_record, type_records, type_from, ty_at, type_at, same_type, type_rule, check_types}
use Rattle.scope.specs.Shorthand.{ty}

-- unit, a bit, two bits, and the sum and the product of the two
abbrev table : List TypeRecord
table = ty 0 0 0 ∷ ty 1 0 0 ∷ ty 2 1 1 ∷ ty 1 1 2 ∷ ty 2 1 2 ∷ []

-- five bytes a record; odd bytes at the end are of none
records : Hold (
    type_records (0 ∷ 0 ∷ 0 ∷ 0 ∷ 0 ∷ 2 ∷ 1 ∷ 2 ∷ 3 ∷ 4 ∷ 9 ∷ 9 ∷ 9 ∷ 9 ∷ []) is (ty 0 0 0 ∷ ty 2 0x0102 0x0304 ∷ [])
    -- a byte past the end is 0, and a record past the table of no tag
    ∷ (type_record [] 0 ∷ type_record (2 ∷ 1 ∷ []) 0 ∷ []) is (ty 0 0 0 ∷ ty 2 256 0 ∷ [])
    ∷ (type_at table 3 ∷ type_at table 5 ∷ []) is (ty 1 1 2 ∷ ty 3 0 0 ∷ [])
    ∷ [])
unfolding Hold type_records type_record type_at
records = refl

types : Hold (
    type_from 0 b1 b2 is one
    ∷ type_from 1 b1 b2 is sum b1 b2
    ∷ type_from 2 b1 b2 is prod b1 b2
    ∷ ty_at table 0 is one
    ∷ ty_at table 1 is b1
    ∷ ty_at table 2 is b2
    ∷ ty_at table 3 is sum b1 b2
    ∷ ty_at table 4 is prod b1 b2
    -- past the table, and a part that is not there, count as unit
    ∷ ty_at table 5 is one
    ∷ ty_at (ty 1 7 8 ∷ []) 0 is b1
    ∷ [])
unfolding Hold type_from ty_at
types = refl

same_types : Hold (
    same_type table 3 3 is true
    ∷ same_type (ty 1 4 5 ∷ ty 1 4 5 ∷ []) 0 1 is true
    ∷ same_type (ty 1 4 5 ∷ ty 2 4 5 ∷ []) 0 1 is false
    ∷ same_type (ty 2 4 5 ∷ ty 1 4 5 ∷ []) 0 1 is false
    ∷ same_type (ty 1 4 5 ∷ ty 1 3 5 ∷ []) 0 1 is false
    ∷ same_type (ty 1 3 5 ∷ ty 1 4 5 ∷ []) 0 1 is false
    ∷ same_type (ty 1 4 5 ∷ ty 1 4 6 ∷ []) 0 1 is false
    ∷ same_type (ty 1 4 6 ∷ ty 1 4 5 ∷ []) 0 1 is false
    ∷ [])
unfolding Hold same_type
same_types = refl

refusals : Hold (
    check_types table is passed tt
    -- a unit with an index
    ∷ check_types (ty 0 1 0 ∷ []) is refused (BadTypeRecord 0)
    ∷ check_types (ty 0 0 1 ∷ []) is refused (BadTypeRecord 0)
    -- a part that is the record itself
    ∷ check_types (table ++ ty 1 5 0 ∷ []) is refused (BadTypeRecord 5)
    ∷ check_types (table ++ ty 1 0 5 ∷ []) is refused (BadTypeRecord 5)
    ∷ check_types (table ++ ty 2 5 0 ∷ []) is refused (BadTypeRecord 5)
    ∷ check_types (table ++ ty 2 0 5 ∷ []) is refused (BadTypeRecord 5)
    ∷ check_types (table ++ ty 1 4 4 ∷ ty 2 5 5 ∷ []) is passed tt
    -- another tag
    ∷ check_types (table ++ ty 3 0 0 ∷ []) is refused (BadTypeRecord 5)
    -- a record again, next to the first and further on; the same parts under another tag, or the other way round, are another record
    ∷ check_types (table ++ ty 2 1 2 ∷ []) is refused (BadTypeRecord 5)
    ∷ check_types (table ++ ty 0 0 0 ∷ []) is refused (BadTypeRecord 5)
    ∷ check_types (table ++ ty 2 2 1 ∷ ty 1 2 1 ∷ []) is passed tt
    -- two that break a rule: the first
    ∷ check_types (ty 0 0 0 ∷ ty 1 1 1 ∷ ty 3 0 0 ∷ []) is refused (BadTypeRecord 1)
    ∷ [])
unfolding Hold check_types
refusals = refl

-- a bit doubled 15 times is as wide as a type may be; a sum of it is one too wide
abbrev doubled : List TypeRecord
doubled = ty 0 0 0 ∷ ty 1 0 0 ∷ tabulate 15 (λ k. ty 2 (k + 1) (k + 1))

widths : Hold (
    type_rule doubled 16 is true
    ∷ type_rule (doubled ++ ty 1 0 16 ∷ []) 17 is false
    ∷ [])
unfolding Hold type_rule tabulate
widths = refl
