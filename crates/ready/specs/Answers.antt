-- What the calls of this crate answer, made of what the requirements' checks say.
use Rattle.std.specs.Prelude.{List, Option, Some, None, Result, Ok, Err, ℕ, ◌+◌, ◌-◌, ◌/◌, leb, length}
use Rattle.limits.specs.Limits.{frame_numbers}
use Rattle.refusal.specs.declared.Refusal.{Refusal}
use Rattle.refusal.specs.declared.Refusal.TheVariants.{StoreShort}
use Rattle.report.specs.Types.{width}
use Rattle.report.specs.Values.{compact, Read, value, short}
use Rattle.report.specs.Nodes.{Node}
use Rattle.scope.specs.Check.{Check, passed, refused, ◌>>=◌, require}
use Rattle.scope.specs.Numbers.{bytes_for}
use Rattle.scope.specs.Types.{TypeRecord, type_records, ty_at}
use Rattle.scope.specs.Arrows.{Arrow, arrow_records, source, target}
use Rattle.scope.specs.Bounds.{whole_cells, whole_frames}
use Rattle.scope.specs.Witness.{check_witness}
use Rattle.scope.specs.Input.{check_input}
use Rattle.scope.specs.Run.{check_ready}
use Rattle.scope.specs.Stages.{tables_lent, hash_stage}
use Rattle.types.specs.Table.{type_widths, type_next}
use Rattle.ready.specs.Positions.{positions_of}
use Rattle.ready.specs.declared.Prepared.{Prepared}

-- whether a check passed, without what it passed with
unfoldable pub verdict : {X : Type 0} → Check X → Result (Unit {0}) Refusal
verdict (passed x) = Ok tt
verdict (refused why) = Err why

-- where a value that is read from p on ends
unfoldable pub end_of : (p : ℕ) → Read → Option ℕ
unfolding compact
end_of p (value v rest) = Some (p + length (compact v))
end_of p short = None

-- the positions of the nodes where the witness bits passed, or why they did not
unfoldable pub witness_table : (types : List TypeRecord) → List Node → List Arrow → (bytes : List ℕ) → (count : ℕ) → Result (List ℕ) Refusal
unfolding check_witness positions_of
witness_table types nodes arrows bytes count = elim (check_witness types nodes arrows bytes count) [
  | passed values ↦ Ok (positions_of types nodes arrows bytes count)
  | refused why ↦ Err why
]

-- stores of these sizes, for these bounds and an answer of this width
unfoldable pub stores_rule : (cell_bound frame_bound width cells frames answer : ℕ) → Check (Unit {0})
unfolding ◌>>=◌ require
stores_rule cell_bound frame_bound width cells frames answer = do
  first ← require (leb (bytes_for cell_bound) cells) (StoreShort 0)
  second ← require (leb frame_bound (frames / frame_numbers)) (StoreShort 1)
  require (leb (bytes_for width) answer) (StoreShort 2)

-- what a run is supplied with, after its bounds: witness bits, input bits, stores of these sizes
unfoldable pub supplied : (types : List TypeRecord) → List Node → List Arrow → (witness : List ℕ) → (witness_bits : ℕ) → (input : List ℕ) → (input_bits : ℕ)
    → (cell_bound frame_bound cells frames answer : ℕ) → Check (Unit {0})
unfolding ◌>>=◌ check_witness check_input ty_at source target width stores_rule
supplied types nodes arrows witness witness_bits input input_bits cell_bound frame_bound cells frames answer = do
  values ← check_witness types nodes arrows witness witness_bits
  v ← check_input (ty_at types (source arrows (length nodes - 1))) input input_bits
  stores_rule cell_bound frame_bound (width (ty_at types (target arrows (length nodes - 1)))) cells frames answer

-- the positions of the nodes where it passed, or why it did not
unfoldable pub supplied_table : (types : List TypeRecord) → List Node → List Arrow → (witness : List ℕ) → (witness_bits : ℕ) → (input : List ℕ) → (input_bits : ℕ)
    → (cell_bound frame_bound cells frames answer : ℕ) → Result (List ℕ) Refusal
unfolding supplied positions_of
supplied_table types nodes arrows witness witness_bits input input_bits cell_bound frame_bound cells frames answer =
    elim (supplied types nodes arrows witness witness_bits input input_bits cell_bound frame_bound cells frames answer) [
      | passed x ↦ Ok (positions_of types nodes arrows witness witness_bits)
      | refused why ↦ Err why
    ]

-- a run over lent tables, into stores of these lengths: its bounds and the tables beside the lent ones, or the first refusal of its checks
unfoldable pub prepared : (types nodes arrows program hashes given witness : List ℕ) → (witness_bits : ℕ) → (input : List ℕ) → (input_bits : ℕ)
    → (cells frames answer : List ℕ) → Result Prepared Refusal
unfolding ◌>>=◌ hash_stage check_ready tables_lent whole_cells whole_frames type_widths type_next positions_of type_records arrow_records
prepared types nodes arrows program hashes given witness witness_bits input input_bits cells frames answer =
    let T = tables_lent types nodes arrows program hashes given witness witness_bits input input_bits in
    elim (hash_stage types nodes arrows program hashes given >>= λ tables. check_ready T cells frames answer) [
      | passed R ↦ Ok (record {
        cells = whole_cells R.program;
        frames = whole_frames R.program;
        widths = type_widths types;
        next = type_next types;
        positions = positions_of T.types T.nodes T.arrows witness witness_bits;
      })
      | refused why ↦ Err why
    ]
