-- What the machine asks of a node, as numbers: widths, paddings, and what is done around two children.
use Rattle.std.specs.Prelude.{true, false, List, ℕ, ◌-◌, max, eqb, get_or}
use Rattle.scope.specs.Types.{TypeRecord, type_records, left_at, right_at}
use Rattle.scope.specs.Nodes.{NodeRecord, node_records}
use Rattle.scope.specs.Stages.{no_record}
use Rattle.scope.specs.Arrows.{Arrow, arrow_records, source, target}
use Rattle.lookup.specs.declared.Padding.{Padding}
use Rattle.lookup.specs.declared.Around.{Around}
use Rattle.lookup.specs.declared.Around.TheVariants.{Pairing, Composing, Disconnecting}

-- the width of a node's source, and of its target
abbrev pub source_width : (widths : List ℕ) → List Arrow → (i : ℕ) → ℕ
source_width widths arrows i = get_or widths (source arrows i) 0

abbrev pub target_width : (widths : List ℕ) → List Arrow → (i : ℕ) → ℕ
target_width widths arrows i = get_or widths (target arrows i) 0

-- what a disconnect keeps of its left child's target: as much as the left part of its own target is wide
abbrev pub kept_width : List TypeRecord → (widths : List ℕ) → List Arrow → (i : ℕ) → ℕ
kept_width types widths arrows i = get_or widths (left_at types (target arrows i)) 0

-- the paddings of parts of these widths, and of the parts of type k
abbrev pub padding_of : (left right : ℕ) → Padding
padding_of a b = record { left = max a b - a; right = max a b - b }

abbrev pub padding_in : (types widths : List ℕ) → (k : ℕ) → Padding
padding_in types widths k = padding_of (get_or widths (left_at (type_records types) k) 0) (get_or widths (right_at (type_records types) k) 0)

-- record i of a lent node table
abbrev pub record_at : (nodes : List ℕ) → (i : ℕ) → NodeRecord
record_at nodes i = get_or (node_records nodes) i no_record

-- what is done around the children of a pair (kind 2), a comp (0) or a disconnect
unfoldable pub around_by : (types widths arrows : List ℕ) → (i : ℕ) → NodeRecord → Around
around_by types widths arrows i r = elim (eqb r.kind 2) [
  | true ↦ Pairing
  | false ↦ elim (eqb r.kind 0) [
    | true ↦ Composing (target_width widths (arrow_records arrows) r.first)
    | false ↦ Disconnecting (source_width widths (arrow_records arrows) i)
        (kept_width (type_records types) widths (arrow_records arrows) i)
        (source_width widths (arrow_records arrows) r.second)
  ]
]

abbrev pub around_in : (types widths nodes arrows : List ℕ) → (i : ℕ) → Around
around_in types widths nodes arrows i = around_by types widths arrows i (record_at nodes i)
