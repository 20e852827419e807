-- `table::hides` meets its contract: a hidden record's bytes are compared, and no other's.
use Rattle.table.proofs.Hashes.{hides-kind}
use Rattle.table.specs.Lent.{hidden_kind, hash_is, node_is}
use Rattle.scope.specs.Stages.{no_record}
use Rattle.scope.specs.Nodes.{NodeRecord, node_records}
use Rattle.scope.specs.Numbers.{same}
use lib.ListN.{get_or}
use Prim.Native.Nat.{ℕ}
use mathlib.Core.List.{List}
use mathlib.Core.Bool.{true, false}
use mathlib.Core.Path.{sym, ap, ◌∙◌, ◌≡◌}
use Rattle.table.proofs.hides.Goals as goal

pub returns-then-not-is_hidden : goal.returns-then-not-is_hidden
returns-then-not-is_hidden c =
    let e : hidden_kind (get_or (node_records c.args.nodes.now)
    c.args.j no_record).kind ≡ false =
    sym (c.is_hidden.ensures ∙ ap (λ (x : NodeRecord). hidden_kind x.kind) c.record_at-r.ensures) ∙ c.if-not-is_hidden.true in
    rw (hides-kind, e)

pub returns : goal.returns
returns c =
    let record-at-call = c.record_at-r in
    let e : hidden_kind (get_or (node_records c.args.nodes.now) c.args.j no_record).kind ≡ true =
    sym (c.is_hidden.ensures ∙ ap (λ (x : NodeRecord). hidden_kind x.kind) record-at-call.ensures)
    ∙ c.if-not-is_hidden.false in
    rw (hides-kind, e)
    (c.same_bytes.ensures ∙ ap (λ (x : List ℕ). same x c.args.hash.now)
    (c.hash_of.ensures ∙ ap (λ (x : NodeRecord). hash_is (node_is c.args.hashes.now x)) record-at-call.ensures))
