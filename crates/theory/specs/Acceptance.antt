-- The rules of a dossier that is run: it holds the report's code of a table in canonical order, types and hashes that keep their rules,
-- arrows that are the report's typing, a program within the limits, bits of values of the right types, and it is lent stores which fit.
-- And the answers that come from a run. That just such dossiers are answered by one is shown in proofs/Acceptance.
use Rattle.std.specs.Prelude.{ℕ, ◌/◌, ◌≤◌, length}
use mathlib.Core.List.{List}
use Rattle.limits.specs.Limits.{node_numbers}
use Rattle.refusal.specs.declared.Refusal.{Refusal}
use Rattle.refusal.specs.Answers.{Answer}
use Rattle.std.specs.Prelude.{Ok as Value, Err as Refused}
use Rattle.refusal.specs.Numbers.{number_of}
use Rattle.report.specs.Bits.{bits_of}
use Rattle.report.specs.Types.{word_ty}
use Rattle.report.specs.Values.{Val}
use Rattle.report.specs.Nodes.{Node}
use Rattle.scope.specs.Header.{section, count, s_types, s_program, s_arrows, s_witness, s_input, s_hashes}
use Rattle.scope.specs.Types.{type_records}
use Rattle.scope.specs.Arrows.{arrow_records}
use Rattle.scope.specs.Hashes.{branch_hash}
use Rattle.scope.specs.Program.{Program, value_from, whole_source}
use Rattle.scope.specs.Run.{Tables}
use Rattle.exactness.specs.Types.{TypesPass}
use Rattle.exactness.specs.NodeTyping.{ArrowsTyped}
use Rattle.exactness.specs.Equal.{NoneEqual}
use Rattle.exactness.specs.Programs.{IsProgram}
use Rattle.theory.specs.Supply.{HeaderFits, LimitsFit, StoresFit, HashesFit, InputFits, WitnessFits}

-- the tables of a dossier's sections, with a table of nodes
abbrev pub tables_with : (d : List ℕ) → List Node → Tables
tables_with d ns = record {
  types = type_records (section d s_types);
  nodes = ns;
  arrows = arrow_records (section d s_arrows);
  given = section d s_hashes;
  witness = section d s_witness;
  witness_bits = count d s_witness;
  input = section d s_input;
  input_bits = count d s_input;
}

-- the program of those tables, with values for its witness nodes
abbrev pub program_with : (d : List ℕ) → List Node → List Val → Program
program_with d ns values = record {
  types = type_records (section d s_types);
  nodes = ns;
  arrows = arrow_records (section d s_arrows);
  witnesses = values;
  hash = λ j. value_from (word_ty 8) (bits_of (branch_hash ns (section d s_hashes) j));
}

-- THE RULES: dossier d holds the table ns, the witness values and the input v, and the stores that are lent fit
pub record RulesKept (d nodes hashes cells frames answer : List ℕ) (ns : List Node) (values : List Val) (v : Val) : Type 0 where
  -- its header and its types keep their rules
  pub header : HeaderFits d
  pub types : TypesPass (type_records (section d s_types))
  -- its program section is the report's code of the table, which is canonical and fits the node and hash stores
  pub program : IsProgram (section d s_program) (length nodes / node_numbers) (length hashes) ns
  -- its arrows are the report's typing, no two of its nodes are equal, and its hashes are as many as they have to be and do not clash
  pub arrows : ArrowsTyped (type_records (section d s_types)) ns (arrow_records (section d s_arrows))
  pub apart : NoneEqual ns (arrow_records (section d s_arrows))
  pub supplied : HashesFit ns (section d s_hashes)
  -- the program is within the limits
  pub limits : LimitsFit (program_with d ns values)
  -- the witness bits and the input bits are those of the values
  pub witness : WitnessFits (type_records (section d s_types)) ns (arrow_records (section d s_arrows)) (section d s_witness) (count d s_witness) values
  pub input : InputFits (whole_source (program_with d ns values)) (section d s_input) (count d s_input) v
  -- cells, frames and answer have room
  pub stores : StoresFit (program_with d ns values) cells frames answer

-- 18 or 19, the refusals of a run
pub record RunRefusal (r : Refusal) : Type 0 where
  pub least : 18 ≤ number_of r
  pub most : number_of r ≤ 19

-- an answer that comes from a run: an output, or one of these
abbrev pub FromRun : Answer → Type 0
FromRun (Value n) = Unit {0}
FromRun (Refused why) = RunRefusal why

module _ (d nodes hashes cells frames answer : List ℕ) where
  -- a dossier that holds a table, values and an input by the rules
  abbrev pub Acceptable : Type 0
  Acceptable = (ns : List Node) × (values : List Val) × (v : Val) × RulesKept d nodes hashes cells frames answer ns values v
