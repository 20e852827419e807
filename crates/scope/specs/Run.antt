-- The whole job: from what is lent (a dossier and five stores, of any contents and any size) to the answer and what is left in each store.
-- Checks go in number order, 21 beside 4 and 9 of equal nodes beside 12. Refusals 1 to 17 and 21 leave cells, frames and answer untouched;
-- 1 to 13 and 21, and 17 at 3 or 4, zero the node and hash stores; every other end leaves the decoded table in them, the rest zero.
--
-- In the order of a job:
--   NodeTable  what decoding gives: node records, the bytes of the hash store, the position after the last node (Reading)
--   Tables     everything that is checked and run: types, nodes, arrows, supplied hashes, witness and input bits with their counts
--   Program    the tables once they passed, with a value for each witness node and a hash for each branch (Program)
--   Ready      a program and its input, all checked: what the machine starts from
--   Step       how the machine comes to its end: done, failed, pruned or stuck (Machine)
--   Left       the answer, with cells, frames and answer store as they are left; `left_with` makes one
--   Ended      the answer, with all five stores; `ended_with` makes one
use Rattle.std.specs.Prelude.{List, [], ◌++◌, ℕ, ◌*◌, ◌/◌, length, get_or, drop}
use Rattle.limits.specs.Limits.{node_numbers, frame_numbers}
use Rattle.refusal.specs.declared.Refusal.TheVariants.{FailReached, PrunedReached, StoreShort}
use Rattle.refusal.specs.Answers.{Answer}
use Rattle.std.specs.Prelude.{Ok as Value, Err as Refused}
use Rattle.report.specs.Bits.{Bit, bits_of, bytes_of}
use Rattle.report.specs.Types.{width, word_ty}
use Rattle.report.specs.Values.{Val, Cells, compact, value_at}
use Rattle.report.specs.Nodes.{Node}
use Rattle.report.specs.Meaning.{done, failed, pruned, stuck}
use Rattle.scope.specs.Check.{Check, passed, refused, ◌>>=◌}
use Rattle.scope.specs.Numbers.{zeros, filled, bytes_for, stream_of, tabulate}
use Rattle.scope.specs.Header.{check_header, section, count, s_types, s_program, s_arrows, s_witness, s_input, s_hashes}
use Rattle.scope.specs.Types.{TypeRecord, type_records, check_types}
use Rattle.scope.specs.Nodes.{node_numbers_of, nodes_of}
use Rattle.scope.specs.Reading.{NodeTable}
use Rattle.scope.specs.Closing.{decode}
use Rattle.scope.specs.Arrows.{Arrow, arrow_records, check_arrows}
use Rattle.scope.specs.Hashes.{check_hashes, branch_hash}
use Rattle.scope.specs.Program.{Program, value_from, whole, whole_source, whole_target}
use Rattle.scope.specs.Bounds.{check_bounds, whole_cells, whole_frames}
use Rattle.scope.specs.Witness.{check_witness}
use Rattle.scope.specs.Input.{check_input}
use Rattle.scope.specs.Stores.{check_stores}
use Rattle.scope.specs.Machine.{Step, machine}

-- the tables of a program, and the bits that it is run on
pub record Tables : Type 0 where
  pub types : List TypeRecord
  pub nodes : List Node
  pub arrows : List Arrow
  pub given : List ℕ
  pub witness : List ℕ
  pub witness_bits : ℕ
  pub input : List ℕ
  pub input_bits : ℕ

-- the program of the tables, with the values of its witness nodes
unfoldable pub program_of : Tables → List Val → Program
unfolding value_from branch_hash bits_of word_ty
program_of T values = record {
  types = T.types;
  nodes = T.nodes;
  arrows = T.arrows;
  witnesses = values;
  hash = λ j. value_from (word_ty 8) (bits_of (branch_hash T.nodes T.given j));
}

-- what a run is made of: the program and its input
pub record Ready : Type 0 where
  pub program : Program
  pub input : Val

-- 11, 12 with 9 of equal nodes, and 13
unfoldable pub check_tables : Tables → Check (Unit {0})
unfolding ◌>>=◌ check_arrows check_hashes
check_tables T = do
  arrows ← check_arrows T.types T.nodes T.arrows
  check_hashes T.nodes T.given

-- 14 to 17
unfoldable pub check_ready : Tables → (cells frames answer : List ℕ) → Check Ready
unfolding ◌>>=◌ program_of check_bounds check_witness check_input check_stores whole_source
check_ready T cells frames answer = do
  bounded ← check_bounds (program_of T [])
  values ← check_witness T.types T.nodes T.arrows T.witness T.witness_bits
  v ← check_input (whole_source (program_of T [])) T.input T.input_bits
  stored ← check_stores (program_of T []) cells frames answer
  passed (record { program = program_of T values; input = v })

-- what an end leaves in cells, frames and answer, and what it says
pub record Left : Type 0 where
  pub says : Answer
  pub cells : List ℕ
  pub frames : List ℕ
  pub answer : List ℕ

-- an end as a call meets it: what it says, and the three stores with it
unfoldable pub left_with : Answer → (cells frames answer : List ℕ) → Left
left_with says cells frames answer = record { says = says; cells = cells; frames = frames; answer = answer }

-- the cells of a store of bytes, and a store of as many bytes with these cells
unfoldable pub cells_of : List ℕ → Cells
unfolding bits_of
cells_of bytes = λ p. get_or (bits_of bytes) p 0

unfoldable pub packed : (bytes : ℕ) → Cells → List ℕ
unfolding bytes_of tabulate
packed bytes c = bytes_of bytes (tabulate (8 * bytes) c)

-- frame records within the bound are zero, those beyond it are kept
unfoldable pub cleared : (bound : ℕ) → List ℕ → List ℕ
cleared bound frames = zeros (frame_numbers * bound) ++ drop (frame_numbers * bound) frames

-- the output's compact bits, the last byte filled with zeros, later bytes kept
unfoldable pub written : List Bit → List ℕ → List ℕ
unfolding bytes_of
written bits answer = bytes_of (bytes_for (length bits)) (bits ++ zeros 7) ++ drop (bytes_for (length bits)) answer

-- how a run ends; it is never stuck
unfoldable pub ends : Program → Step → (cells frames answer : List ℕ) → Left
unfolding packed cleared written compact value_at whole_source whole_target width whole_frames left_with
ends P (done s) cells frames answer =
    let bits = compact (value_at (whole_target P) s.cells (width (whole_source P))) in
    record { says = Value (length bits); cells = packed (length cells) s.cells; frames = cleared (whole_frames P) frames; answer = written bits answer }
ends P (failed place s) cells frames answer =
    record { says = Refused (FailReached place); cells = packed (length cells) s.cells; frames = cleared (whole_frames P) frames; answer = answer }
ends P (pruned place s) cells frames answer =
    record { says = Refused (PrunedReached place); cells = packed (length cells) s.cells; frames = cleared (whole_frames P) frames; answer = answer }
ends P stuck cells frames answer = left_with (Refused (StoreShort 0)) cells frames answer

-- the run itself, in the cells and frames of the bounds
unfoldable pub ran : Ready → (cells frames answer : List ℕ) → Left
unfolding ends machine whole_cells whole_frames whole whole_source whole_target cells_of
ran R cells frames answer =
    let P = R.program in
    ends P (machine (whole_cells P) (whole_frames P) (whole P) (whole_source P) (whole_target P) R.input (cells_of cells)) cells frames answer

-- 14 to 17, and the run
unfoldable pub run_tables : Tables → (cells frames answer : List ℕ) → Left
unfolding check_ready ran left_with
run_tables T cells frames answer = elim (check_ready T cells frames answer) [
  | passed R ↦ ran R cells frames answer
  | refused r ↦ left_with (Refused r) cells frames answer
]

-- what the whole job leaves, and what it says
pub record Ended : Type 0 where
  pub says : Answer
  pub nodes : List ℕ
  pub hashes : List ℕ
  pub cells : List ℕ
  pub frames : List ℕ
  pub answer : List ℕ

-- an end as a call meets it: its answer, and the stores as they are left
unfoldable pub ended_with : Answer → (nodes hashes cells frames answer : List ℕ) → Ended
ended_with says nodes hashes cells frames answer =
    record { says = says; nodes = nodes; hashes = hashes; cells = cells; frames = frames; answer = answer }

-- the tables that a dossier's sections hold, of which the node table was decoded
unfoldable pub tables_of : (dossier : List ℕ) → NodeTable → Tables
unfolding section count type_records arrow_records nodes_of stream_of
tables_of d t = record {
  types = type_records (section d s_types);
  nodes = nodes_of (stream_of (section d s_program)) t.hashes t.records;
  arrows = arrow_records (section d s_arrows);
  given = section d s_hashes;
  witness = section d s_witness;
  witness_bits = count d s_witness;
  input = section d s_input;
  input_bits = count d s_input;
}

-- 1 to 13: the decoded table, of which the tables are made
unfoldable pub check_dossier : (dossier nodes hashes : List ℕ) → Check NodeTable
unfolding ◌>>=◌ check_header check_types type_records section decode check_tables tables_of
check_dossier d nodes hashes = do
  header ← check_header d
  types ← check_types (type_records (section d s_types))
  t ← decode (section d s_program) (length nodes / node_numbers) (length hashes)
  tables ← check_tables (tables_of d t)
  passed t

-- THE WHOLE JOB
unfoldable pub run : (dossier nodes hashes cells frames answer : List ℕ) → Ended
unfolding check_dossier run_tables tables_of ended_with filled node_numbers_of
run d nodes hashes cells frames answer = elim (check_dossier d nodes hashes) [
  | passed t ↦ (
      let left = run_tables (tables_of d t) cells frames answer in
      ended_with left.says (filled (node_numbers_of t.records) nodes) (filled t.hashes hashes) left.cells left.frames left.answer)
  | refused r ↦ ended_with (Refused r) (zeros (length nodes)) (zeros (length hashes)) cells frames answer
]
