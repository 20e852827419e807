-- `ready::node_end` meets its contract: a node that is no witness ends where it begins, a witness where its value does.
use mathlib.Core.Path.{sym, ◌∙◌}
use lib.ListN.{take}
use Rattle.arrow.specs.Answers.{arrow_of}
use Rattle.scope.specs.Arrows.{arrow_records}
use Rattle.scope.specs.Nodes.{node_records, nodes_of}
use Rattle.scope.specs.Types.{type_records}
use Rattle.scope.specs.Numbers.{stream_of}
use Rattle.ready.proofs.Ends.{ends_here, ends_there}
use Rattle.ready.proofs.node_end.Goals as goal

pub returns-then-not-witness_at : goal.returns-then-not-witness_at
returns-then-not-witness_at c =
    λ bits hashes. (let a = c.args in
    ends_here (type_records a.shapes.now.shapes.types.now) (nodes_of bits hashes (node_records a.nodes.now)) (arrow_records a.arrows.now)
    (take a.count (stream_of a.witness.now)) a.i a.p
    (sym (c.witness_at.ensures bits hashes) ∙ c.if-not-witness_at.true))

pub returns : goal.returns
returns c =
    λ bits hashes. (let a = c.args in
    c.value_end.ensures
    ∙ ends_there (type_records a.shapes.now.shapes.types.now) (nodes_of bits hashes (node_records a.nodes.now)) (arrow_records a.arrows.now)
    (take a.count (stream_of a.witness.now)) a.i a.p
    (sym (c.witness_at.ensures bits hashes) ∙ c.if-not-witness_at.false)
    (arrow_of c.arrow_at-own.result) c.arrow_at-own.ensures)
