-- Short ways to write the records of tables, for rows.
use Rattle.std.specs.Prelude.{List, ℕ}
use Rattle.scope.specs.Types.{TypeRecord}
use Rattle.scope.specs.Nodes.{NodeRecord}
use Rattle.scope.specs.Reading.{NodeTable}
use Rattle.scope.specs.Arrows.{Arrow}

abbrev pub ty : (tag left right : ℕ) → TypeRecord
ty t l r = record { tag = t; left = l; right = r }

abbrev pub to : (source target : ℕ) → Arrow
to a b = record { source = a; target = b }

-- a node's record whose third number is unused
abbrev pub row : (kind first second : ℕ) → NodeRecord
row k a b = record { kind = k; first = a; second = b; third = 0 }

abbrev pub table : List NodeRecord → (hashes : List ℕ) → (end : ℕ) → NodeTable
table rows bytes at = record { records = rows; hashes = bytes; end = at }
