-- Lent tables that passed: what each of their checks found, so that no one needs to open the stage again, and that the children of every
-- node stand below it.
use mathlib.Core.Path.{◌≡◌, sym, ◌∙◌, subst}
use mathlib.Core.Bool.{true}
use mathlib.Core.List.{List}
use Prim.Native.Nat.{ℕ, ◌*◌, ◌<◌, ◌≤◌}
use native.Mathlib.Omega.{arith}
use lib.Dec.{leb}
use lib.ListN.{length}
use borrow.Author.Tests.{leb-true}
use Rattle.limits.specs.Limits.{type_count, node_count, dossier_bytes}
use Rattle.refusal.specs.declared.Refusal.TheVariants.{Header, NodeRecord as BadNodeRecord}
use Rattle.report.specs.Nodes.{Node}
use Rattle.report.specs.Canonical.{children}
use Rattle.scope.specs.Check.{Check, passed, ◌>>=◌, require}
use Rattle.scope.specs.Numbers.{stream_of}
use Rattle.scope.specs.Types.{type_records, check_types}
use Rattle.scope.specs.Nodes.{node_records, nodes_of, node_at}
use Rattle.scope.specs.Walk.{check_walk}
use Rattle.scope.specs.Arrows.{arrow_records, arrow_rule, check_arrows}
use Rattle.scope.specs.Hashes.{check_hashes}
use Rattle.scope.specs.Stages.{counted, record_rule, check_records, lent_tables, tables_lent, arrow_stage, hash_stage}
use Rattle.common.specs.Checks.{both_passed, require_holds, each_holds}
use Rattle.common.specs.Bits.{AllBelow, length_within}
use Rattle.exactness.proofs.Arrows.{arrows_pass}
use Rattle.theory.proofs.Records.{records_below}
use Rattle.common.specs.Nodes.{length_nodes}
use Rattle.stages.proofs.Lent.{hash_stage_by}

-- the nodes that lent tables stand for
abbrev pub nodes_in : (nodes program hashes : List ℕ) → List Node
nodes_in nodes program hashes = nodes_of (stream_of program) hashes (node_records nodes)

pub record LentPassed (types nodes program hashes : List ℕ) : Type 0 where
  pub nodes_counted : counted (length (node_records nodes)) node_count ≡ passed tt
  pub types_counted : counted (length (type_records types)) type_count ≡ passed tt
  pub records_kept : check_records program hashes (node_records nodes) ≡ passed tt
  pub program_fits : length program ≤ dossier_bytes
  pub types_kept : check_types (type_records types) ≡ passed tt
  pub walked : check_walk (nodes_in nodes program hashes) ≡ passed tt

module _ (types nodes program hashes : List ℕ) where
  -- what is left of the checks after the types' rules, the program's length, the records, the types' count
  abbrev after_length : Check (Unit {0})
  after_length = check_types (type_records types) >>= λ held. check_walk (nodes_in nodes program hashes)

  abbrev after_records : Check (Unit {0})
  after_records = require (leb (length program) dossier_bytes) (Header 0) >>= λ fits. after_length

  abbrev after_types : Check (Unit {0})
  after_types = check_records program hashes (node_records nodes) >>= λ records. after_records

  abbrev after_nodes : Check (Unit {0})
  after_nodes = counted (length (type_records types)) type_count >>= λ some. after_types

  pub lent_passed : lent_tables types nodes program hashes ≡ passed tt → LentPassed types nodes program hashes
  unfolding lent_tables
  lent_passed e =
      let a = both_passed (counted (length (node_records nodes)) node_count) (λ some. after_nodes) tt e in
      let b = both_passed (counted (length (type_records types)) type_count) (λ some. after_types) tt a.2 in
      let c = both_passed (check_records program hashes (node_records nodes)) (λ kept. after_records) tt b.2 in
      let d = both_passed (require (leb (length program) dossier_bytes) (Header 0)) (λ fits. after_length) tt c.2 in
      let f = both_passed (check_types (type_records types)) (λ held. check_walk (nodes_in nodes program hashes)) tt d.2 in
      record {
        nodes_counted = a.1;
        types_counted = b.1;
        records_kept = c.1;
        program_fits = leb-true (length program) dossier_bytes (require_holds (leb (length program) dossier_bytes) (Header 0) _ d.1);
        types_kept = f.1;
        walked = f.2;
      }

  -- children stand below their parents
  pub lent_below : LentPassed types nodes program hashes → (i : ℕ) → i < length (node_records nodes) → AllBelow i
      (children (node_at (nodes_in nodes program hashes) i))
  unfolding check_records
  lent_below p i h =
      let kept : (j : ℕ) → j < length (node_records nodes) → record_rule (8 * length program) (length hashes) (node_records nodes) j ≡ true =
      λ j m. each_holds (length (node_records nodes)) (record_rule (8 * length program) (length hashes) (node_records nodes)) BadNodeRecord _
      p.records_kept j m in
      records_below (stream_of program) hashes (length hashes) (node_records nodes)
      (λ j m. subst (λ (n : ℕ). record_rule n (length hashes) (node_records nodes) j ≡ true) (sym (length_within program p.program_fits)) (kept j m))
      i h

  -- tables that passed up to the arrows: the tables, and the arrow of each node keeps its rule
  module _ (arrows : List ℕ) where
    pub stage_passed : arrow_stage types nodes arrows program hashes ≡ passed tt
        → (lent_tables types nodes program hashes ≡ passed tt) ×
        (check_arrows (type_records types) (nodes_in nodes program hashes) (arrow_records arrows) ≡ passed tt)
    unfolding arrow_stage tables_lent
    stage_passed e =
        let a = both_passed (lent_tables types nodes program hashes)
        (λ tables. check_arrows (type_records types) (nodes_in nodes program hashes) (arrow_records arrows)) tt e in
        (a.1, a.2)

    pub stage_arrows : arrow_stage types nodes arrows program hashes ≡ passed tt
        → (i : ℕ) → i < length (node_records nodes) → arrow_rule (type_records types) (nodes_in nodes program hashes) (arrow_records arrows) i ≡ true
    stage_arrows e i h =
        (arrows_pass (type_records types) (nodes_in nodes program hashes) (arrow_records arrows) (stage_passed e).1).0.1 i
        (omega (arith, length_nodes (stream_of program) hashes (node_records nodes)))

    -- and up to the hashes: the arrows, and the hashes
    pub hashes_passed : (given : List ℕ) → hash_stage types nodes arrows program hashes given ≡ passed tt
        → (arrow_stage types nodes arrows program hashes ≡ passed tt) × (check_hashes (nodes_in nodes program hashes) given ≡ passed tt)
    hashes_passed given e =
        let a = both_passed (arrow_stage types nodes arrows program hashes) (λ arrowed. check_hashes (nodes_in nodes program hashes) given) tt
        (hash_stage_by types nodes program hashes arrows given ∙ e) in
        (a.1, a.2)
