-- The stages over lent tables, in the pieces in which the code goes through them: each check in its turn, and the first refusal is the answer.
-- A pass tests the node count again, which by then is known to be fine. That of the walk leaves out the bits of words, which it does not look
-- at, and that of the arrows answers for the nodes, since the records are known to keep their rules.
use mathlib.Core.Path.{◌≡◌, refl, sym, ap, ◌∙◌}
use mathlib.Core.Bool.{true}
use mathlib.Core.List.{List, []}
use Prim.Native.Nat.{ℕ, ◌*◌, ◌<◌, ◌≤◌}
use lib.Dec.{leb}
use lib.ListN.{length}
use borrow.Author.Tests.{leb-true, le-leb, lt-leb}
use Rattle.limits.specs.Limits.{type_count, node_count, dossier_bytes}
use Rattle.refusal.specs.declared.Refusal.{Refusal}
use Rattle.refusal.specs.declared.Refusal.TheVariants.{Header, NodeRecord as BadNodeRecord}
use Rattle.scope.specs.Check.{Check, passed, refused, ◌>>=◌, require}
use Rattle.scope.specs.Numbers.{stream_of}
use Rattle.scope.specs.Types.{type_records, check_types}
use Rattle.scope.specs.Nodes.{node_records, nodes_of}
use Rattle.scope.specs.Walk.{check_walk}
use Rattle.scope.specs.Arrows.{arrow_records, check_arrows}
use Rattle.scope.specs.Hashes.{check_hashes}
use Rattle.scope.specs.Run.{check_tables}
use Rattle.scope.specs.Stages.{counted, record_rule, check_records, lent_tables, tables_lent, arrow_stage, hash_stage}
use Rattle.common.specs.Checks.{both_passed, require_holds, each_holds, then_then, stops, passes}
use Rattle.common.specs.Answers.{check_of}
use Rattle.std.specs.Prelude.{Result, Ok, Err, IsErrAnd}
use Rattle.std.proofs.lemmas.Result.{err_from_is_err_and}
use Rattle.types.specs.Table.{without_count, counted_types, type_table}
use Rattle.types.specs.declared.TypeTable.{TypeTable}
use Rattle.types.proofs.Check.{answer_says}
use Rattle.table.specs.Lent.{lent_nodes}
use Rattle.table.specs.Stage.{counted_records, counted_walk}
use Rattle.table.proofs.AnyBits.{walk_any_bits}
use Rattle.arrow.specs.Stage.{counted_arrows}
use Rattle.arrow.proofs.Stages.{arrows_counted}
use Rattle.arrow.proofs.Alike.{arrows_alike}
use Rattle.hashes.specs.Hashes.{counted_hashes}
use Rattle.hashes.proofs.Entries.{hashes_alike}

-- a refusal that `?` hands on is the verdict
pub verdict_stands : {m : Check (Unit {0})} {why : Refusal} (handed : Result (Unit {0}) Refusal)
    → refused why ≡ m → IsErrAnd handed (λ other. other ≡ why) → check_of handed ≡ m
verdict_stands handed e said = let p = err_from_is_err_and handed said in ap check_of p.1 ∙ ap refused p.2 ∙ e

module _ (types nodes program hashes : List ℕ) where
  -- what is left of the checks from the types' rules on, from the program's length, from the records, from the types' count
  abbrev nodes_walk : Check (Unit {0})
  nodes_walk = check_walk (nodes_of (stream_of program) hashes (node_records nodes))

  abbrev from_types : Check (Unit {0})
  from_types = check_types (type_records types) >>= λ held. nodes_walk

  abbrev from_length : Check (Unit {0})
  from_length = require (leb (length program) dossier_bytes) (Header 0) >>= λ fits. from_types

  abbrev from_records : Check (Unit {0})
  from_records = check_records program hashes (node_records nodes) >>= λ records. from_length

  abbrev from_count : Check (Unit {0})
  from_count = counted (length (type_records types)) type_count >>= λ some. from_records

  abbrev pub tables : Check (Unit {0})
  tables = lent_tables types nodes program hashes

  tables_by : (counted (length (node_records nodes)) node_count >>= λ some. from_count) ≡ tables
  unfolding lent_tables
  tables_by = refl

  pub nodes_stop : {why : Refusal} → refused why ≡ counted (length (node_records nodes)) node_count → refused why ≡ tables
  nodes_stop e = e ∙ stops (sym e) (λ x. from_count) ∙ tables_by

  -- once the nodes are counted
  module _ (some : passed tt ≡ counted (length (node_records nodes)) node_count) where
    from_count_lem : from_count ≡ tables
    from_count_lem = passes (sym some) (λ x. from_count) ∙ tables_by

    pub types_stop : {why : Refusal} → refused why ≡ counted (length (type_records types)) type_count → refused why ≡ tables
    types_stop e = e ∙ stops (sym e) (λ x. from_records) ∙ from_count_lem

    records_are : counted_records program hashes nodes ≡ check_records program hashes (node_records nodes)
    unfolding counted_records
    records_are = sym (passes (sym some) (λ x. check_records program hashes (node_records nodes)))

    -- and the types
    module _ (typed : passed tt ≡ counted (length (type_records types)) type_count) where
      from_records_lem : from_records ≡ tables
      from_records_lem = passes (sym typed) (λ x. from_records) ∙ from_count_lem

      pub records_stop : {why : Refusal} → refused why ≡ counted_records program hashes nodes → refused why ≡ tables
      records_stop e = e ∙ records_are ∙ stops (sym (e ∙ records_are)) (λ x. from_length) ∙ from_records_lem

      -- and the records keep their rules
      module _ (records : passed tt ≡ counted_records program hashes nodes) where
        from_length_lem : from_length ≡ tables
        from_length_lem = passes (sym (records ∙ records_are)) (λ x. from_length) ∙ from_records_lem

        pub too_long_lem : dossier_bytes < length program → refused (Header 0) ≡ tables
        unfolding require ◌>>=◌
        too_long_lem h = rw (lt-leb (length program) dossier_bytes h) at from_length_lem

        -- and the program fits
        module _ (fits : length program ≤ dossier_bytes) where
          from_types_lem : from_types ≡ tables
          unfolding require ◌>>=◌
          from_types_lem = rw (le-leb (length program) dossier_bytes fits) at from_length_lem

          -- the check of the types counts them again
          module _ (table : TypeTable) (made : table ≡ type_table types) where
            rules_are : without_count table.answer ≡ check_types (type_records types)
            unfolding counted_types
            rules_are = answer_says types table made ∙ sym (passes (sym typed) (λ x. check_types (type_records types)))

            pub rules_stop : {why : Refusal} → table.answer ≡ Err why → refused why ≡ tables
            rules_stop was =
                let e = sym rules_are ∙ ap without_count was in
                sym e ∙ stops e (λ x. nodes_walk) ∙ from_types_lem

            pub walk_last : {n : ℕ} → table.answer ≡ Ok n → counted_walk hashes nodes ≡ tables
            unfolding counted_walk
            walk_last was =
                sym (passes (sym some) (λ x. check_walk (lent_nodes hashes nodes))) ∙ sym (walk_any_bits (stream_of program) hashes (node_records nodes))
                ∙ passes (sym rules_are ∙ ap without_count was) (λ x. nodes_walk) ∙ from_types_lem

  -- tables that passed have a fine count of nodes
  tables-counted : tables ≡ passed tt → counted (length (node_records nodes)) node_count ≡ passed tt
  tables-counted e = (both_passed (counted (length (node_records nodes)) node_count) (λ x. from_count) tt (tables_by ∙ e)).1

  -- a program within the limit, and records that keep their rules
  tables_kept : tables ≡ passed tt → (length program ≤ dossier_bytes)
      × ((i : ℕ) → i < length (node_records nodes) → record_rule (8 * length program) (length hashes) (node_records nodes) i ≡ true)
  unfolding check_records
  tables_kept e =
      let a = both_passed (counted (length (node_records nodes)) node_count) (λ x. from_count) tt (tables_by ∙ e) in
      let b = both_passed (counted (length (type_records types)) type_count) (λ x. from_records) tt a.2 in
      let c = both_passed (check_records program hashes (node_records nodes)) (λ x. from_length) tt b.2 in
      let d = both_passed (require (leb (length program) dossier_bytes) (Header 0)) (λ x. from_types) tt c.2 in (
        leb-true (length program) dossier_bytes (require_holds (leb (length program) dossier_bytes) (Header 0) _ d.1),
        each_holds (length (node_records nodes)) (record_rule (8 * length program) (length hashes) (node_records nodes)) BadNodeRecord _ c.1,
      )

  -- their arrows, and their hashes
  module _ (arrows : List ℕ) where
    pub arrows_stop : {why : Refusal} → refused why ≡ tables → refused why ≡ arrow_stage types nodes arrows program hashes
    unfolding arrow_stage tables_lent
    arrows_stop e = e ∙ stops (sym e) _

    pub arrows_last : passed tt ≡ tables → counted_arrows types nodes arrows program hashes ≡ arrow_stage types nodes arrows program hashes
    unfolding arrow_stage tables_lent
    arrows_last e =
        sym (arrows_counted types nodes arrows program hashes (tables-counted (sym e)))
        ∙ arrows_alike types nodes arrows program hashes (tables_kept (sym e)).0 (tables_kept (sym e)).1
        ∙ passes (sym e) (λ x. check_arrows (type_records types) (nodes_of (stream_of program) hashes (node_records nodes)) (arrow_records arrows))

    -- arrows that passed have a fine count of nodes
    arrows_some : arrow_stage types nodes arrows program hashes ≡ passed tt → counted (length (node_records nodes)) node_count ≡ passed tt
    unfolding arrow_stage tables_lent
    arrows_some e =
        tables-counted
        (both_passed tables (λ x. check_arrows (type_records types) (nodes_of (stream_of program) hashes (node_records nodes)) (arrow_records arrows)) tt
        e).1

    module _ (given : List ℕ) where
      -- the stage of the hashes goes on where that of the arrows passed
      pub hash_stage_by : (arrow_stage types nodes arrows program hashes >>= λ arrowed. check_hashes (nodes_of (stream_of program) hashes (node_records nodes)) given)
          ≡ hash_stage types nodes arrows program hashes given
      unfolding arrow_stage hash_stage check_tables tables_lent
      hash_stage_by =
          then_then (lent_tables types nodes program hashes)
          (λ x. check_arrows (type_records types) (nodes_of (stream_of program) hashes (node_records nodes)) (arrow_records arrows))
          (λ arrowed. check_hashes (nodes_of (stream_of program) hashes (node_records nodes)) given)

      pub hashes_stop : {why : Refusal} → refused why ≡ arrow_stage types nodes arrows program hashes → refused why ≡ hash_stage types nodes arrows program hashes given
      hashes_stop e = e ∙ stops (sym e) _ ∙ hash_stage_by

      pub hashes_last : passed tt ≡ arrow_stage types nodes arrows program hashes → counted_hashes nodes given ≡ hash_stage types nodes arrows program hashes given
      unfolding counted_hashes
      hashes_last e =
          sym (passes (arrows_some (sym e)) (λ x. check_hashes (lent_nodes [] nodes) given))
          ∙ sym (hashes_alike (stream_of program) hashes (node_records nodes) given)
          ∙ passes (sym e) (λ arrowed. check_hashes (nodes_of (stream_of program) hashes (node_records nodes)) given)
          ∙ hash_stage_by
