-- Stages over lent tables test them again: no record or too many (4), then each node record (26), then a program over the limit (1),
-- then every earlier check that can be made from what the stage takes, with the same numbers and places. The tables are left as they were.
use Rattle.std.specs.Prelude.{Bool, true, false, List, [], ◌∷◌, ℕ, ◌+◌, ◌*◌, ◌-◌, ◌^◌, leb, ltb, eqb, length, get_or}
use Rattle.limits.specs.Limits.{node_count, type_count, dossier_bytes, word_most, hash_bytes, fail_bytes}
use Rattle.refusal.specs.declared.Refusal.TheVariants.{Natural, NodeRecord as BadNodeRecord, Header}
use Rattle.std.specs.Prelude.{Err as Refused}
use Rattle.scope.specs.Check.{Check, passed, refused, ◌>>=◌, require, each}
use Rattle.scope.specs.Numbers.{every, stream_of}
use Rattle.scope.specs.Types.{type_records, check_types}
use Rattle.scope.specs.Nodes.{Kind, k_comp, k_case, k_pair, k_disconnect, k_injl, k_injr, k_take, k_drop, k_iden, k_unit, k_fail, k_disconnect1, k_witness, k_hidden, k_word, k_unknown, kind_of, NodeRecord, node_records, nodes_of}
use Rattle.scope.specs.Walk.{check_walk}
use Rattle.scope.specs.Arrows.{arrow_records, check_arrows}
use Rattle.scope.specs.Bounds.{check_bounds}
use Rattle.scope.specs.Run.{Tables, program_of, check_tables, Left, left_with, run_tables}

-- a table has a record, and not too many
unfoldable pub counted : (records most : ℕ) → Check (Unit {0})
unfolding require every
counted records most = require (every (leb 1 records ∷ leb records most ∷ [])) (Natural 0)

-- the numbers of a record of each kind, where the program has `bits` bits and the hash store `bytes` bytes: children below it, data within
-- its bytes, unused ones 0
unfoldable pub numbers_rule : (bits bytes i : ℕ) → Kind → (a b c : ℕ) → Bool
unfolding every
numbers_rule bits bytes i k_comp a b c = every (ltb a i ∷ ltb b i ∷ eqb c 0 ∷ [])
numbers_rule bits bytes i k_case a b c = every (ltb a i ∷ ltb b i ∷ eqb c 0 ∷ [])
numbers_rule bits bytes i k_pair a b c = every (ltb a i ∷ ltb b i ∷ eqb c 0 ∷ [])
numbers_rule bits bytes i k_disconnect a b c = every (ltb a i ∷ ltb b i ∷ eqb c 0 ∷ [])
numbers_rule bits bytes i k_injl a b c = every (ltb a i ∷ eqb b 0 ∷ eqb c 0 ∷ [])
numbers_rule bits bytes i k_injr a b c = every (ltb a i ∷ eqb b 0 ∷ eqb c 0 ∷ [])
numbers_rule bits bytes i k_take a b c = every (ltb a i ∷ eqb b 0 ∷ eqb c 0 ∷ [])
numbers_rule bits bytes i k_drop a b c = every (ltb a i ∷ eqb b 0 ∷ eqb c 0 ∷ [])
numbers_rule bits bytes i k_iden a b c = every (eqb a 0 ∷ eqb b 0 ∷ eqb c 0 ∷ [])
numbers_rule bits bytes i k_unit a b c = every (eqb a 0 ∷ eqb b 0 ∷ eqb c 0 ∷ [])
numbers_rule bits bytes i k_fail a b c = every (leb (a + fail_bytes) bytes ∷ eqb b 0 ∷ eqb c 0 ∷ [])
numbers_rule bits bytes i k_disconnect1 a b c = every (ltb a i ∷ eqb b 0 ∷ eqb c 0 ∷ [])
numbers_rule bits bytes i k_witness a b c = every (eqb a 0 ∷ eqb b 0 ∷ eqb c 0 ∷ [])
numbers_rule bits bytes i k_hidden a b c = every (leb (a + hash_bytes) bytes ∷ eqb b 0 ∷ eqb c 0 ∷ [])
numbers_rule bits bytes i k_word a b c = elim (every (leb 1 a ∷ leb a word_most ∷ eqb c 0 ∷ [])) [ true ↦ leb (b + 2 ^ (a - 1)) bits | false ↦ false ]
numbers_rule bits bytes i k_unknown a b c = false

abbrev pub no_record : NodeRecord
no_record = record { kind = 15; first = 0; second = 0; third = 0 }

-- record i keeps the rule of its kind
unfoldable pub record_rule : (bits bytes : ℕ) → List NodeRecord → (i : ℕ) → Bool
unfolding numbers_rule kind_of
record_rule bits bytes records i =
    let r = get_or records i no_record in
    numbers_rule bits bytes i (kind_of r.kind) r.first r.second r.third

-- the first record of a lent node table that breaks a rule (26)
unfoldable pub check_records : (program hashes : List ℕ) → List NodeRecord → Check (Unit {0})
unfolding each record_rule
check_records program hashes records = each (length records) (record_rule (8 * length program) (length hashes) records) BadNodeRecord

-- a lent node table with its bytes: 4, 26, 1 and the walk
unfoldable pub walk_stage : (program hashes nodes : List ℕ) → Check (Unit {0})
unfolding ◌>>=◌ require counted node_records check_records nodes_of stream_of check_walk
walk_stage program hashes nodes = do
  some ← counted (length (node_records nodes)) node_count
  records ← check_records program hashes (node_records nodes)
  fits ← require (leb (length program) dossier_bytes) (Header 0)
  check_walk (nodes_of (stream_of program) hashes (node_records nodes))

-- lent tables: 4 of nodes and types, 26, 1, 2, 6 to 9
unfoldable pub lent_tables : (types nodes program hashes : List ℕ) → Check (Unit {0})
unfolding ◌>>=◌ require counted node_records type_records check_records check_types nodes_of stream_of check_walk
lent_tables types nodes program hashes = do
  some ← counted (length (node_records nodes)) node_count
  some ← counted (length (type_records types)) type_count
  records ← check_records program hashes (node_records nodes)
  fits ← require (leb (length program) dossier_bytes) (Header 0)
  types ← check_types (type_records types)
  check_walk (nodes_of (stream_of program) hashes (node_records nodes))

-- the tables as a stage is lent them; what a stage does not take is empty
unfoldable pub tables_lent : (types nodes arrows program hashes given witness : List ℕ) → (witness_bits : ℕ) → (input : List ℕ) → (input_bits : ℕ) → Tables
unfolding type_records node_records nodes_of stream_of arrow_records
tables_lent types nodes arrows program hashes given witness witness_bits input input_bits = record {
  types = type_records types;
  nodes = nodes_of (stream_of program) hashes (node_records nodes);
  arrows = arrow_records arrows;
  given = given;
  witness = witness;
  witness_bits = witness_bits;
  input = input;
  input_bits = input_bits;
}

-- up to 12
unfoldable pub arrow_stage : (types nodes arrows program hashes : List ℕ) → Check (Unit {0})
unfolding ◌>>=◌ lent_tables tables_lent check_arrows
arrow_stage types nodes arrows program hashes = do
  tables ← lent_tables types nodes program hashes
  let T = tables_lent types nodes arrows program hashes [] [] 0 [] 0 in check_arrows T.types T.nodes T.arrows

-- up to 13
unfoldable pub hash_stage : (types nodes arrows program hashes given : List ℕ) → Check (Unit {0})
unfolding ◌>>=◌ lent_tables tables_lent check_tables
hash_stage types nodes arrows program hashes given = do
  tables ← lent_tables types nodes program hashes
  check_tables (tables_lent types nodes arrows program hashes given [] 0 [] 0)

-- up to 12, then 14
unfoldable pub bounds_stage : (types nodes arrows program hashes : List ℕ) → Check (Unit {0})
unfolding ◌>>=◌ arrow_stage tables_lent program_of check_bounds
bounds_stage types nodes arrows program hashes = do
  arrowed ← arrow_stage types nodes arrows program hashes
  check_bounds (program_of (tables_lent types nodes arrows program hashes [] [] 0 [] 0) [])

-- all of it, and the run
unfoldable pub run_stage : (types nodes arrows program hashes given witness : List ℕ) → (witness_bits : ℕ) → (input : List ℕ) → (input_bits : ℕ)
    → (cells frames answer : List ℕ) → Left
unfolding hash_stage tables_lent run_tables left_with
run_stage types nodes arrows program hashes given witness witness_bits input input_bits cells frames answer =
    elim (hash_stage types nodes arrows program hashes given) [
      | passed x ↦ run_tables (tables_lent types nodes arrows program hashes given witness witness_bits input input_bits) cells frames answer
      | refused r ↦ left_with (Refused r) cells frames answer
    ]
