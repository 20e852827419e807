-- The run over lent tables: where its checks pass the tables are checked ones, so it says what the program of the tables means.
-- Here the node records were tested by 26, where a dossier's come from decoding.
use Rattle.std.specs.Prelude.{◌≡◌, ℕ, ◌*◌, ◌<◌}
use Rattle.std.proofs.Common.{sym, arith}
use Rattle.std.proofs.Math.Path.{subst}
use Rattle.std.proofs.Math.Bool.{true}
use mathlib.Core.List.{List, [], ◌∷◌}
use Rattle.std.proofs.Math.Dec.{leb}
use borrow.Author.Tests.{leb-true}
use Rattle.std.proofs.Math.ListN.{length}
use Rattle.limits.specs.Limits.{node_count, type_count, dossier_bytes}
use Rattle.refusal.specs.declared.Refusal.TheVariants.{Natural, NodeRecord as BadNodeRecord, Header}
use Rattle.report.specs.Bits.{Bit}
use Rattle.report.specs.Meaning.{eval}
use Rattle.scope.specs.Check.{Check, passed, ◌>>=◌, require}
use Rattle.scope.specs.Numbers.{every, stream_of}
use Rattle.scope.specs.Types.{type_records, check_types}
use Rattle.scope.specs.Nodes.{NodeRecord, node_records, nodes_of}
use Rattle.scope.specs.Walk.{check_walk}
use Rattle.scope.specs.Program.{whole}
use Rattle.scope.specs.Run.{Tables, Ready, check_tables, check_ready}
use Rattle.scope.specs.Stages.{counted, record_rule, check_records, lent_tables, tables_lent, hash_stage, run_stage}
use Rattle.common.specs.Checks.{every_all, both_passed, require_holds, each_holds}
use Rattle.common.specs.Bits.{length_within}
use Rattle.common.specs.Nodes.{length_nodes}
use Rattle.theory.proofs.Records.{records_below, records_word}
use Rattle.theory.specs.Answers.{told, output}
use Rattle.theory.proofs.Accepted.{Checked, tables_say, tables_output}

module _ (types nodes arrows program hashes given witness : List ℕ) (witness_bits : ℕ) (input : List ℕ) (input_bits : ℕ)
    (e : hash_stage types nodes arrows program hashes given ≡ passed tt) where
  -- the tables
  abbrev T : Tables
  T = tables_lent types nodes arrows program hashes given witness witness_bits input input_bits

  -- LENT TABLES THAT PASSED ARE CHECKED ONES
  pub lent_checked : Checked T
  unfolding hash_stage lent_tables tables_lent check_tables counted
  lent_checked =
      let bits : List Bit = stream_of program in
      let records : List NodeRecord = node_records nodes in
      let walk : Check (Unit {0}) = check_walk (nodes_of bits hashes records) in
      let types' : Check (Unit {0}) = check_types (type_records types) in
      let fits : Check (Unit {0}) = require (leb (length program) dossier_bytes) (Header 0) in
      let a = both_passed (lent_tables types nodes program hashes) (λ tables. check_tables (tables_lent types nodes arrows program hashes given [] 0 [] 0)) tt e in
      let b = both_passed (counted (length records) node_count) (λ some. counted (length (type_records types)) type_count >>= λ some.
      check_records program hashes records >>= λ kept. fits >>= λ fitting. types' >>= λ typed. walk) tt a.1 in
      let c = both_passed (counted (length (type_records types)) type_count)
      (λ some. check_records program hashes records >>= λ kept. fits >>= λ fitting. types' >>= λ typed. walk) tt b.2 in
      let d = both_passed (check_records program hashes records) (λ kept. fits >>= λ fitting. types' >>= λ typed. walk) tt c.2 in
      let f = both_passed fits (λ fitting. types' >>= λ typed. walk) tt d.2 in
      let g = both_passed types' (λ typed. walk) tt f.2 in
      let some = every_all (leb 1 (length records) ∷ leb (length records) node_count ∷ [])
      (require_holds (every (leb 1 (length records) ∷ leb (length records) node_count ∷ [])) (Natural 0) _ b.1) in
      let l : length bits ≡ 8 * length program = length_within program
      (leb-true (length program) dossier_bytes (require_holds (leb (length program) dossier_bytes) (Header 0) _ f.1)) in
      let kept : (i : ℕ) → i < length records → record_rule (length bits) (length hashes) records i ≡ true =
      λ i h. subst (λ (n : ℕ). record_rule n (length hashes) records i ≡ true) (sym l) (records_kept d.1 i h) in
      let same : length (nodes_of bits hashes records) ≡ length records = length_nodes bits hashes records in
      record {
        types = g.1;
        some = omega (arith, leb-true 1 (length records) some.0);
        below = λ i h. records_below bits hashes (length hashes) records kept i (omega arith);
        words = records_word bits hashes (length hashes) records kept;
        walk = g.2;
        tables = a.2;
      }
    where
      records_kept : check_records program hashes (node_records nodes) ≡ passed tt → (i : ℕ) → i < length (node_records nodes)
          → record_rule (8 * length program) (length hashes) (node_records nodes) i ≡ true
      records_kept q i h = each_holds (length (node_records nodes)) (record_rule (8 * length program) (length hashes) (node_records nodes)) BadNodeRecord _ q i h

  module _ (cells frames answer : List ℕ) (R : Ready) (p : check_ready T cells frames answer ≡ passed R) where
    -- THE RUN OVER LENT TABLES SAYS WHAT THEIR PROGRAM MEANS, and leaves that value's bits in the answer store
    pub stage_says : (run_stage types nodes arrows program hashes given witness witness_bits input input_bits cells frames answer).says
        ≡ told (eval (whole R.program) R.input)
    unfolding run_stage
    stage_says = rw (e, run_stage) (tables_say T lent_checked cells frames answer R p)

    -- the answer store
    pub stage_output : (run_stage types nodes arrows program hashes given witness witness_bits input input_bits cells frames answer).answer
        ≡ output (eval (whole R.program) R.input) answer
    unfolding run_stage
    stage_output = rw (e, run_stage) (tables_output T lent_checked cells frames answer R p)
