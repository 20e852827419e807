-- `ready::witness_at` meets its contract: the test of its kind is that of its kind's number.
use mathlib.Core.Path.{◌∙◌}
use Rattle.table.specs.Answers.{record_of}
use Rattle.table.proofs.KindNumbers.{is_kind}
use Rattle.scope.specs.Nodes.{node_records}
use Rattle.ready.proofs.Ends.{witness_is_lem}
use Rattle.ready.proofs.witness_at.Goals as goal

pub returns : goal.returns
returns c =
    λ bits hashes. c.eq.ensures ∙ is_kind _ _ _ c.kind_of.ensures.number
    ∙ witness_is_lem bits hashes (node_records c.args.nodes.now) c.args.i
    (record_of c.record_at-r.result) c.record_at-r.ensures
