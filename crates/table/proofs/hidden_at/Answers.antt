-- `table::hidden_at` meets its contract: a node is hidden where its record's kind is.
use Rattle.table.proofs.Hashes.{hidden_kind_lem}
use Rattle.table.specs.Lent.{hidden_kind}
use Rattle.scope.specs.Nodes.{NodeRecord, node_records}
use mathlib.Core.List.{[]}
use mathlib.Core.Path.{sym, ap, ◌∙◌}
use Rattle.table.proofs.hidden_at.Goals as goal

pub returns : goal.returns
returns c =
    c.is_hidden.ensures ∙ ap (λ (x : NodeRecord). hidden_kind x.kind) c.record_at-r.ensures
    ∙ sym (hidden_kind_lem [] [] (node_records c.args.nodes.now) c.args.j)
