-- `hashes::rights_of` meets its contract.
use mathlib.Core.Path.{refl, ◌∙◌}
use native.Mathlib.Omega.{arith}
use Prim.Native.Nat.{◌<◌}
use lib.ListN.{length}
use Rattle.scope.specs.Nodes.{node_records}
use Rattle.scope.specs.Hashes.{rights}
use Rattle.table.specs.Answers.{record_of}
use Rattle.table.proofs.KindNumbers.{of_kind, not_of_kind}
use Rattle.common.specs.Nodes.{length_records}
use Rattle.hashes.proofs.Rights.{found_few, found_put, found_kept, found_end}
use Rattle.hashes.proofs.rights_of.Goals as goal
use Rattle.hashes.proofs.rights_of.Goals.{then-eq, else-eq}

pub loop-i-init : goal.loop-i-init
unfolding rights
loop-i-init c = (refl, refl)

pub offset_bounds-children-count : goal.offset_bounds-children-count
offset_bounds-children-count c =
    let nodes = c.args.table.now.nodes.now in omega (arith, found_few nodes c.loop-i.i (omega (arith, length_records nodes)), length_records nodes, c.args.table.now.few)

pub bounds-children-count : goal.bounds-children-count
bounds-children-count c =
    let nodes = c.args.table.now.nodes.now in omega (arith, found_few nodes c.loop-i.i (omega (arith, length_records nodes)), length_records nodes, c.args.table.now.few)

pub loop-i-preserved : goal.loop-i-preserved
loop-i-preserved c =
    let nodes = c.args.table.now.nodes.now in
    let turn = c.loop-i in
    let within : turn.i < length (node_records nodes) = omega (arith, length_records nodes) in
    elim c.if-eq.branch [
      | then-eq w ↦
          let put = found_put nodes c.args.children.now turn.children turn.i turn.count (record_of c.record_at-r.result) within (omega arith)
          c.record_at-r.ensures turn.invariant.0 turn.invariant.1 (of_kind _ _ _ c.eq.ensures c.kind_of.ensures.number w.if-eq.true) in
          (w.count-is ∙ put.0, w.children-is ∙ put.1)
      | else-eq w ↦
          let kept = found_kept nodes c.args.children.now turn.children turn.i turn.count (record_of c.record_at-r.result) within (omega arith)
          c.record_at-r.ensures turn.invariant.0 turn.invariant.1 (not_of_kind _ _ _ c.eq.ensures c.kind_of.ensures.number w.if-eq.false) in
          (w.count-is ∙ kept.0, w.children-is ∙ kept.1)
    ]

pub returns : goal.returns
returns c =
    let nodes = c.args.table.now.nodes.now in
    let turn = c.loop-i in
    found_end nodes c.args.children.now turn.i turn.count turn.children (omega (arith, length_records nodes)) turn.invariant.0 turn.invariant.1
