use native.Mathlib.Omega.{arith}
use mathlib.Core.Path.{sym, ap, ◌∙◌}
use mathlib.Core.List.{[]}
use Rattle.report.specs.Bits.{bits_of}
use Rattle.scope.specs.Nodes.{node_records, nodes_of}
use Rattle.scope.specs.Hashes.{branch_hash}
use Rattle.layout.specs.Exec.{run_term}
use Rattle.layout.proofs.Safe.{back_over}
use Rattle.table.specs.Answers.{record_of}
use Rattle.bit_machine.proofs.ByKind
use Rattle.bit_machine.proofs.Needs.{within_fed, within_kept, second_any, third_any}
use Rattle.bit_machine.proofs.Cycle.{handed_on, ran_done, planned_as, safe_as, one_ran, one_stops, one_ends, left_ends, right_ends, both_end}
use Rattle.bit_machine.proofs.engine.+both_node.Goals as goal

pub both-first-h1-requires : goal.both-first-h1-requires
both-first-h1-requires t c =
    let around-at-call = c.around_at-around in record {
      fed = within_fed c.requires.within;
      first_ok = (ByKind.two_is c.requires.shown c.args.i (record_of c.record_at-record.result) c.record_at-record.ensures _
          c.requires.safe c.requires.two_kind around-at-call.result around-at-call.ensures).ok.first;
    }

pub both-node-requires : goal.both-node-requires
both-node-requires t c =
    let around-at-call = c.around_at-around in
    let record-at-call = c.record_at-record in
    let first-call = c.first-h1 in
    let two =
    (ByKind.two_is c.requires.shown c.args.i (record_of record-at-call.result) record-at-call.ensures _
    c.requires.safe c.requires.two_kind around-at-call.result around-at-call.ensures) in (
      omega (arith, c.requires.shown, two.left_below),
      (
        c.requires.shown,
        (
          within_kept c.requires.within first-call.auto.cells first-call.auto.frames,
          safe_as _ first-call.ensures two.ok.left,
        ),
      ),
    )

pub both-returns-in_err-h2 : goal.both-returns-in_err-h2
both-returns-in_err-h2 t c =
    let first-call = c.first-h1 in
    let around-at-call = c.around_at-around in
    let record-at-call = c.record_at-record in
    handed_on c.from_residual.result _ _ c.in_err-h2.was c.from_residual.ensures.1
    ∙ left_ends (ByKind.two_is c.requires.shown c.args.i (record_of record-at-call.result) record-at-call.ensures _
    c.requires.safe c.requires.two_kind around-at-call.result around-at-call.ensures) _ _ _
    c.node.ensures first-call.ensures _ c.in_err-h2.was

pub both-second-h3-requires : goal.both-second-h3-requires
both-second-h3-requires t c =
    let around-at-call = c.around_at-around in
    let record-at-call = c.record_at-record in
    let first-call = c.first-h1 in
    let Node-call = c.node in
    let two =
    (ByKind.two_is c.requires.shown c.args.i (record_of record-at-call.result) record-at-call.ensures _
    c.requires.safe c.requires.two_kind around-at-call.result around-at-call.ensures) in
    let d2 = (ran_done _ _ _ _ Node-call.ensures first-call.ensures _ c.in_ok-h2.was) in record {
      fed = within_fed
          (within_kept c.requires.within (Node-call.auto.cells ∙ first-call.auto.cells)
          (Node-call.auto.frames ∙ first-call.auto.frames));
      second_ok = second_any around-at-call.result (bits_of (branch_hash (nodes_of [] c.args.tables.now.hashes.now (node_records c.args.tables.now.nodes.now))
          c.args.tables.now.given.now record-at-call.result.second)) [] _ (two.ok.then _ d2).second;
    }

pub both-node-requires-2 : goal.both-node-requires-2
both-node-requires-2 t c =
    let around-at-call = c.around_at-around in
    let record-at-call = c.record_at-record in
    let first-call = c.first-h1 in
    let Node-call = c.node in
    let second_call = c.second-h3 in
    let two =
    (ByKind.two_is c.requires.shown c.args.i (record_of record-at-call.result) record-at-call.ensures _
    c.requires.safe c.requires.two_kind around-at-call.result around-at-call.ensures) in
    let d2 = (ran_done _ _ _ _ Node-call.ensures first-call.ensures _ c.in_ok-h2.was) in (
      omega (arith, c.requires.shown, two.right_below),
      (
        c.requires.shown,
        (
          within_kept c.requires.within
              (second_call.auto.cells ∙ Node-call.auto.cells ∙ first-call.auto.cells)
              (second_call.auto.frames ∙ Node-call.auto.frames ∙ first-call.auto.frames),
          safe_as _ (second_call.ensures (bits_of (branch_hash (nodes_of [] c.args.tables.now.hashes.now (node_records c.args.tables.now.nodes.now))
              c.args.tables.now.given.now record-at-call.result.second))) (two.ok.then _ d2).right,
        ),
      ),
    )

pub both-returns-in_err-h4 : goal.both-returns-in_err-h4
both-returns-in_err-h4 t c =
    let first-call = c.first-h1 in
    let Node-call = c.node in
    let second_call = c.second-h3 in
    let around-at-call = c.around_at-around in
    let record-at-call = c.record_at-record in
    let two =
    (ByKind.two_is c.requires.shown c.args.i (record_of record-at-call.result) record-at-call.ensures _
    c.requires.safe c.requires.two_kind around-at-call.result around-at-call.ensures) in
    handed_on c.from_residual-in_err-h4.result _ _ c.in_err-h4.was c.from_residual-in_err-h4.ensures.1
    ∙ right_ends two _ (ran_done _ _ _ _ Node-call.ensures first-call.ensures _ c.in_ok-h2.was) _ _ _
    c.node-2.ensures
    (second_call.ensures (bits_of (branch_hash (nodes_of [] c.args.tables.now.hashes.now (node_records c.args.tables.now.nodes.now))
    c.args.tables.now.given.now record-at-call.result.second))) _ c.in_err-h4.was

pub both-third-requires : goal.both-third-requires
both-third-requires t c =
    let first-call = c.first-h1 in
    let Node-call = c.node in
    let second_call = c.second-h3 in
    let node2-call = c.node-2 in
    let around-at-call = c.around_at-around in
    let record-at-call = c.record_at-record in
    let two =
    (ByKind.two_is c.requires.shown c.args.i (record_of record-at-call.result) record-at-call.ensures _
    c.requires.safe c.requires.two_kind around-at-call.result around-at-call.ensures) in
    let d2 = (ran_done _ _ _ _ Node-call.ensures first-call.ensures _ c.in_ok-h2.was) in
    third_any around-at-call.result (bits_of (branch_hash (nodes_of [] c.args.tables.now.hashes.now (node_records c.args.tables.now.nodes.now))
    c.args.tables.now.given.now record-at-call.result.second)) [] _ _ _
    ((two.ok.then _ d2).third _ (ran_done _ _ _ _ node2-call.ensures (second_call.ensures (bits_of (branch_hash (nodes_of []
    c.args.tables.now.hashes.now (node_records c.args.tables.now.nodes.now)) c.args.tables.now.given.now record-at-call.result.second))) _
    c.in_ok-h4.was))

pub both-returns : goal.both-returns
both-returns t c =
    let first-call = c.first-h1 in
    let Node-call = c.node in
    let second_call = c.second-h3 in
    let node2-call = c.node-2 in
    let around-at-call = c.around_at-around in
    let record-at-call = c.record_at-record in
    let two =
    (ByKind.two_is c.requires.shown c.args.i (record_of record-at-call.result) record-at-call.ensures _
    c.requires.safe c.requires.two_kind around-at-call.result around-at-call.ensures) in
    both_end two _ (ran_done _ _ _ _ Node-call.ensures first-call.ensures _ c.in_ok-h2.was) _
    (ran_done _ _ _ _ node2-call.ensures
    (second_call.ensures (bits_of (branch_hash (nodes_of [] c.args.tables.now.hashes.now (node_records c.args.tables.now.nodes.now))
    c.args.tables.now.given.now record-at-call.result.second))) _ c.in_ok-h4.was) _
    (c.third.ensures (bits_of (branch_hash (nodes_of [] c.args.tables.now.hashes.now (node_records c.args.tables.now.nodes.now))
    c.args.tables.now.given.now record-at-call.result.second)) _)

pub node-prepare-plan-requires : goal.node-prepare-plan-requires
node-prepare-plan-requires t c =
    record {
      shown = c.requires.shown;
      within = c.requires.within;
      safe = c.requires.safe;
    }

pub node-both-requires : goal.node-both-requires
node-both-requires t c =
    let prepare-call = c.prepare-plan in
    let two = (planned_as _ _ _ _ _ c.in-Two.is prepare-call.ensures) in (
      omega (arith, c.requires.shown),
      (
        c.requires.shown,
        (
          (within_kept c.requires.within prepare-call.auto.cells
              prepare-call.auto.frames),
          (two.1, safe_as _ two.0 c.requires.safe),
        ),
      ),
    )

pub node-node-requires : goal.node-node-requires
node-node-requires t c =
    let prepare-call = c.prepare-plan in
    let one = (planned_as _ _ _ _ _ c.in-One.is prepare-call.ensures) in (
      omega (arith, c.requires.shown, one.below),
      (
        c.requires.shown,
        (
          (within_kept c.requires.within prepare-call.auto.cells
              prepare-call.auto.frames),
          one.child.body,
        ),
      ),
    )

pub node-returns-in_err-after-in-One : goal.node-returns-in_err-after-in-One
node-returns-in_err-after-in-One t c =
    let prepare-call = c.prepare-plan in
    handed_on c.from_residual.result _ _ c.in_err-after-in-One.was c.from_residual.ensures.1
    ∙ one_stops (planned_as _ _ _ _ _ c.in-One.is prepare-call.ensures) _ _ _
    c.node.ensures _ c.in_err-after-in-One.was

pub node-back-requires : goal.node-back-requires
node-back-requires t c =
    let prepare-call = c.prepare-plan in
    let Node-call = c.node in
    λ pos.
    let one = (planned_as _ _ _ _ _ c.in-One.is prepare-call.ensures) in
    back_over [] (one.child.home _ (one_ran one _ _ _ Node-call.ensures _ c.in_ok-after-in-One.was) pos)

pub node-returns-in-Rest : goal.node-returns-in-Rest
node-returns-in-Rest t c = sym (planned_as _ _ _ _ _ c.in-Rest.is c.prepare-plan.ensures)

pub node-returns-in-Stop : goal.node-returns-in-Stop
node-returns-in-Stop t c = sym (planned_as _ _ _ _ _ c.in-Stop.is c.prepare-plan.ensures)

pub node-returns-in-Two : goal.node-returns-in-Two
node-returns-in-Two t c =
    let prepare-call = c.prepare-plan in
    c.both.ensures
    ∙ ap (run_term _)
    (planned_as _ _ _ _ _ c.in-Two.is prepare-call.ensures).0

pub node-returns-in_ok-after-in-One : goal.node-returns-in_ok-after-in-One
node-returns-in_ok-after-in-One t c =
    let prepare-call = c.prepare-plan in
    let Node-call = c.node in
    one_ends (planned_as _ _ _ _ _ c.in-One.is prepare-call.ensures) _ _ _ Node-call.ensures _
    c.in_ok-after-in-One.was _ (c.back.ensures _)
