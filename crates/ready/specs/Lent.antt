-- The program that lent tables hold: the value of a witness node stands at the node's position in the witness bits, which a lent table gives.
-- And what is shown of the tables before a run: the checks passed, and the prepared tables of widths, next records and positions are right.
use Rattle.std.specs.Prelude.{◌≡◌, List, [], ℕ, ◌-◌, ◌^◌, ◌≤◌, length, get_or, drop}
use Rattle.limits.specs.Limits.{dossier_bytes}
use Rattle.report.specs.Bits.{Bit}
use Rattle.report.specs.Types.{Ty, word_ty}
use Rattle.report.specs.Values.{Val, ⟨⟩, value, read_value}
use Rattle.report.specs.Nodes.{Node, word, witness}
use Rattle.report.specs.Canonical.{children}
use Rattle.scope.specs.Numbers.{stream_of, tabulate}
use Rattle.scope.specs.Types.{type_records, ty_at}
use Rattle.scope.specs.Nodes.{node_records, nodes_of, node_at, on_witness}
use Rattle.scope.specs.Check.{passed}
use Rattle.scope.specs.Arrows.{arrow_records, target}
use Rattle.scope.specs.Program.{Program, value_from}
use Rattle.scope.specs.Run.{program_of}
use Rattle.scope.specs.Stages.{tables_lent}
use Rattle.types.specs.Table.{check_table, type_widths, type_next}
use Rattle.common.specs.Bits.{AllBelow}

-- the nodes of a lent table, with its program's bits and its hash bytes
abbrev pub program_nodes : (nodes program hashes : List ℕ) → List Node
program_nodes nodes program hashes = nodes_of (stream_of program) hashes (node_records nodes)

-- the value at the position of node i, where it is a witness
unfoldable pub value_of : (types nodes arrows program hashes witnesses positions : List ℕ) → (i : ℕ) → Val
unfolding on_witness value_from ty_at target stream_of
value_of types nodes arrows program hashes witnesses positions i =
    on_witness (node_at (program_nodes nodes program hashes) i)
    (value_from (ty_at (type_records types) (target (arrow_records arrows) i)) (drop (get_or positions i 0) (stream_of witnesses)))
    ⟨⟩

-- the program of the lent tables
unfoldable pub program_at : (types nodes arrows program hashes given witnesses positions : List ℕ) → Program
unfolding program_of tables_lent tabulate value_of
program_at types nodes arrows program hashes given witnesses positions =
    program_of (tables_lent types nodes arrows program hashes given witnesses 0 [] 0)
    (tabulate (length (program_nodes nodes program hashes)) (value_of types nodes arrows program hashes witnesses positions))

-- a value of the type stands at the front of the bits
abbrev pub Reads : Ty → List Bit → Type 0
Reads A bits = (v : Val) × (rest : List Bit) × (read_value A bits ≡ value v rest)

-- what is shown of a lent type table: it passed its check, and the tables beside it are those of its widths and of its entries
pub record TypesShown (types widths next : List ℕ) : Type 0 where
  pub count : ℕ
  pub passes : check_table types ≡ passed count
  pub widths_are : widths ≡ type_widths types
  pub next_are : next ≡ type_next types

-- what is shown of the lent tables before a run
pub record Shown (types widths next nodes arrows program hashes given witnesses positions : List ℕ) : Type 0 where
  -- children stand below their node
  pub below : (i : ℕ) → AllBelow i (children (node_at (program_nodes nodes program hashes) i))
  pub typed : TypesShown types widths next
  -- a word has the type of words of its length, and all its bits
  pub program_fits : length program ≤ dossier_bytes
  pub word_typed : (i n : ℕ) (bits : List Bit) → node_at (program_nodes nodes program hashes) i ≡ word n bits
      → ty_at (type_records types) (target (arrow_records arrows) i) ≡ word_ty (n - 1)
  pub word_whole : (i n : ℕ) (bits : List Bit) → node_at (program_nodes nodes program hashes) i ≡ word n bits → length bits ≡ 2 ^ (n - 1)
  -- the value of a witness stands at its position
  pub witness_held : (i : ℕ) → node_at (program_nodes nodes program hashes) i ≡ witness
      → Reads (ty_at (type_records types) (target (arrow_records arrows) i)) (drop (get_or positions i 0) (stream_of witnesses))
