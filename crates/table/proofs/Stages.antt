-- The passes and the stage over a lent table, in the order in which the code finds their answers.
use mathlib.Core.Path.{◌≡◌, sym, ap, ◌∙◌}
use mathlib.Core.Bool.{Bool, not}
use mathlib.Core.List.{List, []}
use Prim.Native.Nat.{ℕ, ◌*◌, ◌-◌, ◌/◌, ◌<◌, ◌≤◌}
use lib.Dec.{leb}
use lib.ListN.{length, get_or}
use borrow.Author.Tests.{le-leb, lt-leb}
use Rattle.limits.specs.Limits.{node_count, node_numbers, dossier_bytes}
use Rattle.std.specs.Prelude.{Result, IsErrAnd}
use Rattle.refusal.specs.declared.Refusal.{Refusal}
use Rattle.refusal.specs.declared.Refusal.TheVariants.{Header, HiddenElsewhere, NodeRecord as BadNodeRecord}
use Rattle.scope.specs.Check.{Check, passed, refused, ◌>>=◌, require, each}
use Rattle.scope.specs.Numbers.{stream_of}
use Rattle.scope.specs.Nodes.{kind_of, NodeRecord, node_records, nodes_of}
use Rattle.scope.specs.Walk.{hidden_at, check_walk}
use Rattle.scope.specs.Stages.{counted, numbers_rule, no_record, record_rule, check_records, walk_stage}
use Rattle.common.specs.Checks.{both_passed, then_then, then_passes, then_refuses}
use Rattle.exactness.specs.Walk.{walk_count}
use Rattle.exactness.proofs.Walk.{check_walk_count}
use Rattle.std.proofs.lemmas.Result.{err_from_is_err_and}
use Rattle.common.specs.Answers.{check_of}
use Rattle.table.specs.Lent.{lent_nodes}
use Rattle.table.specs.Stage.{counted_records, counted_walk}
use Rattle.common.specs.Nodes.{length_records, length_nodes}
use Rattle.table.proofs.Hashes.{hidden_alike}
use Rattle.table.proofs.AnyBits.{walk_any_bits}

-- a refusal that `?` hands on is the answer of all that follows the check
pub refusal_stands : {m : Check (Unit {0})} {why : Refusal} (handed : Result (Unit {0}) Refusal)
    → refused why ≡ m → IsErrAnd handed (λ other. other ≡ why) → (f : Unit {0} → Check (Unit {0})) → check_of handed ≡ (m >>= f)
refusal_stands {m = m} {why = why} handed e said f =
    let p = err_from_is_err_and handed said in ap check_of p.1 ∙ ap refused p.2 ∙ sym (then_refuses m f why (sym e))

-- what a table's records are held to
abbrev pub rule_of : (program hashes nodes : List ℕ) → ℕ → Bool
rule_of program hashes nodes = record_rule (8 * length program) (length hashes) (node_records nodes)

pub rule_is : (program hashes nodes : List ℕ) (i : ℕ) (r : NodeRecord) → r ≡ get_or (node_records nodes) i no_record
    → numbers_rule (8 * length program) (length hashes) i (kind_of r.kind) r.first r.second r.third ≡ rule_of program hashes nodes i
unfolding record_rule
rule_is program hashes nodes i r e =
    ap (λ (x : NodeRecord). numbers_rule (8 * length program) (length hashes) i (kind_of x.kind) x.first x.second x.third) e

module _ (program hashes nodes : List ℕ) (fine : counted (length (node_records nodes)) node_count ≡ passed tt) where
  -- 26 after a count that is fine
  pub records_then : each (length nodes / node_numbers) (rule_of program hashes nodes) BadNodeRecord ≡ counted_records program hashes nodes
  unfolding counted_records check_records
  records_then =
      ap (λ (n : ℕ). each n (rule_of program hashes nodes) BadNodeRecord) (sym (length_records nodes))
      ∙ sym (then_passes _ (λ some. check_records program hashes (node_records nodes)) tt fine)

module _ (hashes nodes : List ℕ) (fine : counted (length (node_records nodes)) node_count ≡ passed tt) where
  -- the walk after a count that is fine
  pub walk_then : counted_walk hashes nodes ≡ check_walk (lent_nodes hashes nodes)
  unfolding counted_walk
  walk_then = then_passes _ (λ some. check_walk (lent_nodes hashes nodes)) tt fine

  by_count : counted_walk hashes nodes
      ≡ (walk_count (lent_nodes hashes nodes) (length nodes / node_numbers - 1) 0
      >>= λ all. require (not (hidden_at (lent_nodes hashes nodes) (length nodes / node_numbers - 1))) (HiddenElsewhere (length nodes / node_numbers - 1)))
  by_count =
      walk_then ∙ check_walk_count (lent_nodes hashes nodes)
      ∙ ap (λ (n : ℕ). walk_count (lent_nodes hashes nodes) (n - 1) 0
      >>= λ all. require (not (hidden_at (lent_nodes hashes nodes) (n - 1))) (HiddenElsewhere (n - 1)))
      (length_nodes [] hashes (node_records nodes) ∙ length_records nodes)

  -- it stops on its way, or its last node is hidden, or it passes
  pub walk_stops : (why : Refusal) → walk_count (lent_nodes hashes nodes) (length nodes / node_numbers - 1) 0 ≡ refused why
      → refused why ≡ counted_walk hashes nodes
  walk_stops why e = sym (by_count ∙ then_refuses _ _ why e)

  pub walk_ends : (k : ℕ) (b : Bool) → walk_count (lent_nodes hashes nodes) (length nodes / node_numbers - 1) 0 ≡ passed k
      → b ≡ hidden_at (lent_nodes [] nodes) (length nodes / node_numbers - 1)
      → require (not b) (HiddenElsewhere (length nodes / node_numbers - 1)) ≡ counted_walk hashes nodes
  walk_ends k b e h =
      let last = length nodes / node_numbers - 1 in
      sym (by_count ∙ then_passes _ (λ all. require (not (hidden_at (lent_nodes hashes nodes) last)) (HiddenElsewhere last)) k e
      ∙ ap (λ (x : Bool). require (not x) (HiddenElsewhere last)) (hidden_alike [] hashes (node_records nodes) last ∙ sym h))

-- the stage: 4 and 26 refuse, or the program is too long, or the walk answers
module _ (program hashes nodes : List ℕ) where
  pub stage_by : walk_stage program hashes nodes
      ≡ (counted_records program hashes nodes >>= λ records. require (leb (length program) dossier_bytes) (Header 0)
      >>= λ fits. check_walk (nodes_of (stream_of program) hashes (node_records nodes)))
  unfolding walk_stage counted_records
  stage_by = sym (then_then (counted (length (node_records nodes)) node_count) (λ some. check_records program hashes (node_records nodes))
      (λ records. require (leb (length program) dossier_bytes) (Header 0) >>= λ fits. check_walk (nodes_of (stream_of program) hashes (node_records nodes))))

  pub stage_too_long : counted_records program hashes nodes ≡ passed tt → dossier_bytes < length program → refused (Header 0) ≡ walk_stage program hashes nodes
  unfolding require ◌>>=◌
  stage_too_long e h = sym (stage_by ∙ (rw (e, lt-leb (length program) dossier_bytes h)))

  pub stage_walks : counted_records program hashes nodes ≡ passed tt → length program ≤ dossier_bytes → counted_walk hashes nodes ≡ walk_stage program hashes nodes
  unfolding require ◌>>=◌ counted_records
  stage_walks e h =
      let p = both_passed (counted (length (node_records nodes)) node_count) (λ some. check_records program hashes (node_records nodes)) tt e in
      walk_then hashes nodes p.1
      ∙ sym (stage_by ∙ (rw (e, le-leb (length program) dossier_bytes h)) ∙ walk_any_bits (stream_of program) hashes (node_records nodes))
