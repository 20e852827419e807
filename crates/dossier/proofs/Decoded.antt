-- A dossier whose header, types and program pass holds tables that pass the tests of lent tables (4, 26, 1, 2, 6 to 9).
-- So the run stage, lent what was decoded, begins with 11, and is the run of the dossier's own tables.
use mathlib.Core.Path.{◌≡◌, refl, sym, ap, ap₂, ◌∙◌, subst}
use mathlib.Core.Bool.{true}
use mathlib.Core.List.{List, [], ◌∷◌}
use Prim.Native.Nat.{ℕ, suc, ◌*◌, ◌/◌, ◌≤◌, ◌<◌}
use native.Mathlib.Nat.{zero-add}
use native.Mathlib.Omega.{arith}
use lib.Dec.{leb}
use lib.ListN.{length, drop, length-drop}
use lib.Seq.{length-take-le}
use borrow.Author.Tests.{le-leb, leb-true}
use Rattle.common.specs.Nodes.{records_back}
use Rattle.limits.specs.Limits.{node_count, type_count, type_bytes, dossier_bytes}
use Rattle.refusal.specs.declared.Refusal.TheVariants.{NodeRecord as BadNodeRecord, Header}
use Rattle.std.specs.Prelude.{Err as Refused}
use Rattle.report.specs.Bits.{Bit}
use Rattle.report.specs.Naturals.{code_natural}
use Rattle.report.specs.Nodes.{Node, code_nodes, code_program}
use Rattle.scope.specs.Check.{Check, passed, refused, ◌>>=◌, require}
use Rattle.scope.specs.Numbers.{stream_of}
use Rattle.scope.specs.Header.{count, size, start, count_rule, type_count_rule, header_rule, check_header, section, s_types, s_program, s_arrows, s_witness, s_input, s_hashes}
use Rattle.scope.specs.Types.{type_records, type_record, check_types}
use Rattle.scope.specs.Nodes.{nodes_of, node_numbers_of}
use Rattle.scope.specs.Reading.{NodeTable}
use Rattle.scope.specs.Walk.{check_walk}
use Rattle.scope.specs.Closing.{decode}
use Rattle.scope.specs.Arrows.{arrow_records}
use Rattle.scope.specs.Run.{Tables, check_tables, tables_of, Left, left_with, run_tables}
use Rattle.scope.specs.Stages.{counted, record_rule, check_records, lent_tables, tables_lent, hash_stage, run_stage}
use Rattle.common.specs.Checks.{every_all, holds_require, then_passes, holds_each, counted_fine}
use Rattle.exactness.specs.Nodes.{records_from, hashes_of, layout}
use Rattle.exactness.proofs.Stream.{Stands, stands_split}
use Rattle.exactness.proofs.Decoding.{decoded_is_program, program_table}
use Rattle.theory.proofs.Job.{decoded}
use Rattle.common.specs.Bits.{length_within}
use Rattle.header.proofs.Rules.{passes_all, section_end}
use Rattle.common.specs.Tables.{length-tabulate}
use Rattle.dossier.proofs.Records.{records_kept}

-- as many records as nodes
pub length_records : (i held at : ℕ) (ns : List Node) → length (records_from i held at ns) ≡ length ns
unfolding records_from
length_records i held at [] = refl
length_records i held at (n ∷ ns) = ap suc (length_records (suc i) _ _ ns)

-- a section that stands within the dossier has its size
module _ (d : List ℕ) (header : check_header d ≡ passed tt) where
  section-size : (k : ℕ) → k < 6 → length (section d k) ≡ size d k
  unfolding section
  section-size k l =
      let end = section_end d header k l in
      length-take-le (size d k) (drop (start d k) d) (omega (arith, length-drop (start d k) d))

  -- 4, of the types
  pub types_counted : counted (length (type_records (section d s_types))) type_count ≡ passed tt
  unfolding type_records size type_count_rule header_rule
  types_counted =
      let n = length-tabulate (type_record (section d s_types)) (length (section d s_types) / type_bytes) in
      let bytes : length (section d s_types) ≡ type_bytes * count d 0 = section-size 0 (omega arith) in
      let rules = every_all (leb 1 (count d 0) ∷ leb (count d 0) type_count ∷ count_rule d 0 ∷ []) (passes_all d header 1 (omega arith)) in
      let some = leb-true 1 (count d 0) rules.0 in
      let few = leb-true (count d 0) type_count rules.1.0 in
      counted_fine (length (type_records (section d s_types))) type_count (omega arith) (omega arith)

-- a program that decodes, with its table
module _ (program : List ℕ) (records bytes : ℕ) (t : NodeTable) (read : decode program records bytes ≡ passed t) where
  -- its records keep their rules
  decoded_kept : (i : ℕ) → i < length t.records → record_rule (8 * length program) (length t.hashes) t.records i ≡ true
  unfolding record_rule layout code_program
  decoded_kept i l =
      let p = decoded_is_program program records bytes t read in
      let ns : List Node = p.0 in
      let h = program_table program records bytes ns p.1 in
      let bits : List Bit = stream_of program in
      let long : length bits ≡ 8 * length program = length_within program p.1.within in
      let s = stands_split bits 0 (length (code_program ns)) (code_natural (length ns)) (code_nodes 0 ns) h.stands in
      let front : Stands bits (length (code_natural (length ns))) (length (code_program ns)) (code_nodes 0 ns) =
      subst (λ (k : ℕ). Stands bits k (length (code_program ns)) (code_nodes 0 ns)) (zero-add (length (code_natural (length ns)))) s.1 in
      let same : t ≡ layout ns = p.2 in
      let n : length t.records ≡ length ns = ap (λ (u : NodeTable). length u.records) same ∙ length_records 0 0 (length (code_natural (length ns))) ns in
      let kept : record_rule (length bits) (length (layout ns).hashes) (layout ns).records i ≡ true =
      records_kept bits (length (hashes_of ns)) (length (code_natural (length ns))) (length (code_program ns)) ns p.1.formed.fit front
      (omega arith) i (omega arith) in
      ap₂ (λ (m : ℕ) (u : NodeTable). record_rule m (length u.hashes) u.records i) (sym long) same ∙ kept

  decoded_length : (1 ≤ length t.records) × (length t.records ≤ node_count)
  unfolding layout
  decoded_length =
      let p = decoded_is_program program records bytes t read in
      let ns : List Node = p.0 in
      let n : length t.records ≡ length ns = ap (λ (u : NodeTable). length u.records) p.2 ∙ length_records 0 0 (length (code_natural (length ns))) ns in
      (omega (arith, p.1.formed.some), omega (arith, p.1.formed.most))

  -- 4, 26 and 1 of the nodes, and the walk
  nodes_counted : counted (length t.records) node_count ≡ passed tt
  nodes_counted = counted_fine (length t.records) node_count decoded_length.0 decoded_length.1

  records_hold : check_records program t.hashes t.records ≡ passed tt
  unfolding check_records
  records_hold = holds_each (length t.records) (record_rule (8 * length program) (length t.hashes) t.records) BadNodeRecord decoded_kept

  program_fits_lem : require (leb (length program) dossier_bytes) (Header 0) ≡ passed tt
  program_fits_lem =
      holds_require (leb (length program) dossier_bytes) (Header 0)
      (le-leb (length program) dossier_bytes (decoded_is_program program records bytes t read).1.within)

  walk_holds : check_walk (nodes_of (stream_of program) t.hashes t.records) ≡ passed tt
  walk_holds = (decoded program records bytes t read).3

-- how the run stage ends on tables that pass the tests of lent tables: with a refusal of their arrows or hashes, or as their run does
abbrev pub stage : Check (Unit {0}) → Tables → (cells frames answer : List ℕ) → Left
stage c T cells frames answer = elim c [ passed x ↦ run_tables T cells frames answer | refused r ↦ left_with (Refused r) cells frames answer ]

-- the tables of a dossier that passed 1 to 10
module _ (d : List ℕ) (records bytes : ℕ) (t : NodeTable) (header : check_header d ≡ passed tt) (typed : check_types (type_records (section d s_types)) ≡ passed tt)
    (read : decode (section d s_program) records bytes ≡ passed t) where
  -- they pass the tests of lent tables
  decoded_lent : lent_tables (section d s_types) (node_numbers_of t.records) (section d s_program) t.hashes ≡ passed tt
  unfolding lent_tables
  decoded_lent =
      let program : List ℕ = section d s_program in
      let types : List ℕ = section d s_types in
      let walk : Check (Unit {0}) = check_walk (nodes_of (stream_of program) t.hashes t.records) in
      let fits : Check (Unit {0}) = require (leb (length program) dossier_bytes) (Header 0) in
      rw (records_back t.records)
      (then_passes (counted (length t.records) node_count)
      (λ some. counted (length (type_records types)) type_count >>= λ some. check_records program t.hashes t.records
      >>= λ kept. fits >>= λ fitting. check_types (type_records types) >>= λ typed. walk) tt (nodes_counted program records bytes t read)
      ∙ then_passes (counted (length (type_records types)) type_count) (λ some. check_records program t.hashes t.records
      >>= λ kept. fits >>= λ fitting. check_types (type_records types) >>= λ typed. walk) tt (types_counted d header)
      ∙ then_passes (check_records program t.hashes t.records)
      (λ kept. fits >>= λ fitting. check_types (type_records types) >>= λ typed. walk) tt (records_hold program records bytes t read)
      ∙ then_passes fits (λ fitting. check_types (type_records types) >>= λ typed. walk) tt (program_fits_lem program records bytes t read)
      ∙ then_passes (check_types (type_records types)) (λ typed. walk) tt typed
      ∙ walk_holds program records bytes t read)

  -- lent, they are the dossier's own
  pub lent_own : (given witness : List ℕ) (witness_bits : ℕ) (input : List ℕ) (input_bits : ℕ)
      → tables_lent (section d s_types) (node_numbers_of t.records) (section d s_arrows) (section d s_program)
      t.hashes given witness witness_bits input input_bits
      ≡ record {
        types = type_records (section d s_types);
        nodes = nodes_of (stream_of (section d s_program)) t.hashes t.records;
        arrows = arrow_records (section d s_arrows);
        given = given;
        witness = witness;
        witness_bits = witness_bits;
        input = input;
        input_bits = input_bits;
      }
  unfolding tables_lent
  lent_own given witness witness_bits input input_bits = rw (records_back t.records)

  -- arrows and hashes are those of the dossier's tables
  pub stage_hashes : hash_stage (section d s_types) (node_numbers_of t.records) (section d s_arrows) (section d s_program) t.hashes (section d s_hashes)
      ≡ check_tables (tables_of d t)
  unfolding hash_stage tables_of check_tables
  stage_hashes =
      then_passes (lent_tables (section d s_types) (node_numbers_of t.records) (section d s_program) t.hashes)
      (λ tables. check_tables (tables_lent (section d s_types) (node_numbers_of t.records) (section d s_arrows) (section d s_program)
      t.hashes (section d s_hashes) [] 0 [] 0)) tt decoded_lent
      ∙ ap check_tables (lent_own (section d s_hashes) [] 0 [] 0)

  pub stage_own : (cells frames answer : List ℕ)
      → run_stage (section d s_types) (node_numbers_of t.records) (section d s_arrows) (section d s_program) t.hashes (section d s_hashes)
      (section d s_witness) (count d s_witness)
      (section d s_input) (count d s_input) cells frames answer
      ≡ stage (check_tables (tables_of d t)) (tables_of d t) cells frames answer
  unfolding run_stage tables_of
  stage_own cells frames answer =
      ap₂ (λ (c : Check (Unit {0})) (T : Tables). stage c T cells frames answer) stage_hashes
      (lent_own (section d s_hashes) (section d s_witness) (count d s_witness) (section d s_input) (count d s_input))
