-- `ready::check_witness` meets its contract: the walk has come to node i with p bits passed, and the array holds the positions of the nodes before.
use mathlib.Core.List.{List, []}
use mathlib.Core.Path.{sym, subst, ◌∙◌}
use Prim.Native.Nat.{ℕ, ◌+◌, ◌≤◌}
use native.Mathlib.Omega.{arith}
use lib.ListN.{set, length-set, length-replicate}
use borrow.Author.Rules.{rules}
use Rattle.common.specs.Nodes.{length_nodes}
use Rattle.scope.specs.Arrows.{arrow_records}
use Rattle.scope.specs.Nodes.{node_records, nodes_of}
use Rattle.scope.specs.Types.{type_records}
use Rattle.limits.specs.Limits.{node_count}
use Rattle.ready.proofs.Walks.{end_held, Come, come_start, come_on, come_short, come_unused, come_used, come_inside}
use Rattle.ready.proofs.check_witness.Goals as goal

pub loop-i-init : goal.loop-i-init
loop-i-init c =
    let a = c.args in (
      λ bits hashes. come_start (type_records a.shapes.now.shapes.types.now) (nodes_of bits hashes (node_records a.table.now.nodes.now))
          (arrow_records a.arrows.now) a.witness.now a.count,
      omega arith,
      c.count-n.ensures,
      omega arith,
      length-replicate {A = ℕ} node_count 0,
    )

pub returns-in_default : goal.returns-in_default
returns-in_default c =
    let held-call = c.held-bits in
    let a = c.args in
    λ bits hashes. (let l = length_nodes bits hashes (node_records a.table.now.nodes.now) in
    come_short (type_records a.shapes.now.shapes.types.now) (nodes_of bits hashes (node_records a.table.now.nodes.now)) (arrow_records a.arrows.now)
    a.witness.now a.count c.loop-i.i
    c.loop-i.p c.loop-i.positions
    (c.loop-i.invariant.0 bits hashes) (omega arith)
    (end_held (type_records a.shapes.now.shapes.types.now) (nodes_of bits hashes (node_records a.table.now.nodes.now)) (arrow_records a.arrows.now)
    a.witness.now a.count held-call.result.now held-call.ensures c.loop-i.i
    c.loop-i.p _
    (sym c.in_default.is ∙ c.node_end.ensures bits hashes)))

pub overflow_cast-positions : goal.overflow_cast-positions
overflow_cast-positions c =
    let h : c.loop-i.p
    ≤ c.args.count =
    c.loop-i.invariant.3 in search rules

pub bounds-positions-place : goal.bounds-positions-place
bounds-positions-place c =
    omega (arith, c.place.ensures.0, c.args.table.now.few)

pub loop-i-preserved : goal.loop-i-preserved
loop-i-preserved c =
    let held-call = c.held-bits in
    let node-end-call = c.node_end in
    let a = c.args in
    let l = c.loop-i in (
      (λ bits hashes. (let n = length_nodes bits hashes (node_records a.table.now.nodes.now) in
          subst
          (λ (k : ℕ). Come (type_records a.shapes.now.shapes.types.now) (nodes_of bits hashes (node_records a.table.now.nodes.now)) (arrow_records a.arrows.now)
          a.witness.now a.count (l.i + 1) c.in-Some.end (set l.positions k l.p))
          (sym c.place.ensures.0)
          (come_on (type_records a.shapes.now.shapes.types.now) (nodes_of bits hashes (node_records a.table.now.nodes.now)) (arrow_records a.arrows.now)
          a.witness.now a.count c.loop-i.i
          c.loop-i.p c.loop-i.positions
          (c.loop-i.invariant.0 bits hashes) c.in-Some.end
          (omega arith) (omega arith) (end_held (type_records a.shapes.now.shapes.types.now) (nodes_of bits hashes (node_records a.table.now.nodes.now))
          (arrow_records a.arrows.now) a.witness.now a.count held-call.result.now held-call.ensures l.i l.p _
          (sym c.in-Some.is ∙ node-end-call.ensures bits hashes))))),
      omega arith,
      l.invariant.2,
      (let bits : List ℕ = [] in let hashes : List ℕ = [] in
          come_inside (type_records a.shapes.now.shapes.types.now) (nodes_of bits hashes (node_records a.table.now.nodes.now)) (arrow_records a.arrows.now)
          a.witness.now a.count c.loop-i.i
          c.loop-i.p c.loop-i.positions
          (c.loop-i.invariant.0 bits hashes) c.in-Some.end l.invariant.3
          (end_held (type_records a.shapes.now.shapes.types.now) (nodes_of [] [] (node_records a.table.now.nodes.now)) (arrow_records a.arrows.now)
          a.witness.now a.count held-call.result.now held-call.ensures l.i l.p _
          (sym c.in-Some.is ∙ node-end-call.ensures [] []))),
      length-set l.positions c.place.result l.p ∙ l.invariant.4,
    )

pub returns-then-not-all_used : goal.returns-then-not-all_used
returns-then-not-all_used c =
    let a = c.args in
    λ bits hashes. (let l = length_nodes bits hashes (node_records a.table.now.nodes.now) in
    come_unused (type_records a.shapes.now.shapes.types.now) (nodes_of bits hashes (node_records a.table.now.nodes.now)) (arrow_records a.arrows.now)
    a.witness.now a.count c.loop-i.i c.loop-i.p
    c.loop-i.positions (c.loop-i.invariant.0 bits hashes) _ (omega arith)
    (omega arith) (sym c.all_used.ensures ∙ c.if-not-all_used.true))

pub returns : goal.returns
returns c =
    let a = c.args in
    λ bits hashes. (let l = length_nodes bits hashes (node_records a.table.now.nodes.now) in
    come_used (type_records a.shapes.now.shapes.types.now) (nodes_of bits hashes (node_records a.table.now.nodes.now)) (arrow_records a.arrows.now) a.witness.now
    a.count c.loop-i.i c.loop-i.p c.loop-i.positions
    (c.loop-i.invariant.0 bits hashes) (omega arith) (sym c.all_used.ensures ∙ c.if-not-all_used.false))
