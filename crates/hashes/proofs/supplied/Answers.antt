-- `hashes::supplied` meets its contract. The loop's invariant: wherever the supplied hashes lie, the entry that is looked for is the first
-- for node j from entry e on, among the disconnects from node i on.
use mathlib.Core.Path.{refl, sym, ap, ◌∙◌}
use Prim.Native.Nat.{◌+◌}
use native.Mathlib.Omega.{arith}
use borrow.Author.Rules.{rules}
use Rattle.promise.specs.Parts.{part_of}
use Rattle.table.specs.Answers.{record_of}
use Rattle.table.proofs.KindNumbers.{of_kind, not_of_kind}
use Rattle.hashes.proofs.Branch.{from_node, found_here, passed_child, passed_kind, at_end}
use Rattle.hashes.proofs.supplied.Invariants.{lying}
use Rattle.hashes.proofs.supplied.Goals as goal
use Rattle.hashes.proofs.supplied.Goals.{then-eq+else-place-j, else-eq}

pub loop-i-init : goal.loop-i-init
loop-i-init c = (λ place. refl, search rules)

pub returns-then-place-j : goal.returns-then-place-j
returns-then-place-j c =
    let a = c.args in
    let turn = c.loop-i in
    let own = c.record_in-r in
    c.entry_at.ensures
    ∙ sym (turn.invariant.0 a.given.ref_ptr
    ∙ found_here a.nodes.now (part_of a.given) a.j turn.i turn.e (record_of own.result)
    c.loop-i-test.true own.ensures (of_kind _ _ _ c.eq.ensures c.kind_of.ensures.number c.if-eq.true)
    (sym c.place.ensures.0 ∙ c.if-place-j.true))

pub loop-i-preserved : goal.loop-i-preserved
loop-i-preserved c =
    let a = c.args in
    let turn = c.loop-i in
    let own = c.record_in-r in
    elim c.if-eq.branch [
      | then-eq+else-place-j w ↦ (
        λ place. turn.invariant.0 place
            ∙ passed_child a.nodes.now (lying place a.given.now) a.j turn.i turn.e (record_of own.result)
            c.loop-i-test.true own.ensures (of_kind _ _ _ c.eq.ensures c.kind_of.ensures.number w.if-eq.true)
            (λ q. w.if-place-j.false (w.place.ensures.0 ∙ q))
            ∙ ap (from_node a.nodes.now (lying place a.given.now) a.j (turn.i + 1)) (sym w.e-is),
        omega arith,
      )
      | else-eq w ↦ (
        λ place. turn.invariant.0 place
            ∙ passed_kind a.nodes.now (lying place a.given.now) a.j turn.i turn.e (record_of own.result)
            c.loop-i-test.true own.ensures (not_of_kind _ _ _ c.eq.ensures c.kind_of.ensures.number w.if-eq.false)
            ∙ ap (from_node a.nodes.now (lying place a.given.now) a.j (turn.i + 1)) (sym w.e-is),
        omega arith,
      )
    ]

pub returns : goal.returns
returns c =
    let a = c.args in
    let turn = c.loop-i in
    c.part.ensures ∙ at_end a.nodes.now (part_of a.given) a.j turn.i turn.e c.loop-i-test.false ∙ sym (turn.invariant.0 a.given.ref_ptr)
