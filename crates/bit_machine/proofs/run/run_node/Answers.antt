use Rattle.bit_machine.proofs.Whole as Whole
use Rattle.bit_machine.proofs.Cycle.{safe_as}
use Rattle.bit_machine.proofs.Needs.{within_fed, within_kept, push_need}
use Rattle.layout.proofs.Safe.{fed_bits}
use Rattle.layout.specs.Exec.{with_input, with_output}
use Rattle.scope.specs.Numbers.{zeros}
use Rattle.common.specs.Stores.{all_cleared}
use lib.ListN.{length}
use mathlib.Core.Path.{refl, ap, ◌∙◌}
use Rattle.ready.proofs.Checked.{types_counted}
use Rattle.bit_machine.proofs.run.run_node.Goals as goal

pub invariant_of-shapes-clause-types_pass : goal.invariant_of-shapes-clause-types_pass
invariant_of-shapes-clause-types_pass c = types_counted _ _ _ c.requires.shown.typed

pub open_input-read-requires : goal.open_input-read-requires
open_input-read-requires c =
    let fill-call = c.fill_from in record {
      within = within_kept c.requires.within refl fill-call.auto.store;
      reads = Whole.input_reads c.requires.shown c.args.i _ _ _ c.source_at-k.ensures c.requires.node_ok;
      input_ok = λ some. Whole.input_as
          (Whole.none_open _ _ (length c.args.frames.now) (fill-call.ensures ∙ all_cleared c.args.frames.now))
          (Whole.input_need c.requires.shown c.args.i _ _ _ c.source_at-k.ensures c.requires.node_ok some);
    }

pub open_output-h-requires : goal.open_output-h-requires
open_output-h-requires c =
    let fill-call = c.fill_from in
    let source-at-call = c.source_at-k in
    λ some. push_need
    (Whole.input_is c.requires.shown c.args.i _ _ _ source-at-call.ensures _
    (c.open_input-read.ensures ∙ ap (with_input _ _)
    (Whole.none_open _ _ (length c.args.frames.now) (fill-call.ensures ∙ all_cleared c.args.frames.now))))
    (fed_bits (within_fed c.requires.within))
    (Whole.output_need c.requires.shown c.args.i _ _ _ c.target_width-n.ensures c.requires.node_ok some)

pub node-ran-requires : goal.node-ran-requires
node-ran-requires c =
    let source-at-call = c.source_at-k in
    let fill-call = c.fill_from in
    let open-input-call = c.open_input-read in
    let open-output-call = c.open_output-h in record {
      shown = c.requires.shown;
      within = within_kept c.requires.within open-input-call.auto.cells
          (open-output-call.auto.frames ∙ open-input-call.auto.frames ∙ fill-call.auto.store);
      safe = safe_as _
          (Whole.output_is c.requires.shown c.args.i _ _ _ c.target_width-n.ensures _
          (open-output-call.ensures _ ∙ ap (with_output _)
          (Whole.input_is c.requires.shown c.args.i _ _ _ source-at-call.ensures _ (open-input-call.ensures ∙ ap (with_input _ _)
          (Whole.none_open _ _ (length c.args.frames.now) (fill-call.ensures ∙ all_cleared c.args.frames.now))))))
          c.requires.node_ok.safe.term;
    }

pub shape_of-frames : goal.shape_of-frames
shape_of-frames c =
    let fill-call = c.fill_from in
    let open-input-call = c.open_input-read in
    let open-output-call = c.open_output-h in
    let Node-call = c.node-ran in
    c.fill_from-2.auto.store
    ∙ Node-call.auto.frames
    ∙ open-output-call.auto.frames
    ∙ open-input-call.auto.frames
    ∙ fill-call.auto.store

pub returns : goal.returns
returns c =
    let source-at-call = c.source_at-k in
    let target-width-call = c.target_width-n in
    let fill-call = c.fill_from in
    let open-input-call = c.open_input-read in
    let open-output-call = c.open_output-h in
    let Node-call = c.node-ran in (
      Whole.whole_end c.requires.shown c.args.i _ _ Node-call.result _ _ _
          (Whole.output_is c.requires.shown c.args.i _ _ _ target-width-call.ensures _ (open-output-call.ensures _ ∙ ap (with_output _)
          (Whole.input_is c.requires.shown c.args.i _ _ _ source-at-call.ensures _ (open-input-call.ensures ∙ ap (with_input _ _)
          (Whole.none_open _ _ (length c.args.frames.now) (fill-call.ensures ∙ all_cleared c.args.frames.now))))))
          Node-call.ensures,
      c.fill_from-2.ensures
          ∙ all_cleared Node-call.new.frames
          ∙ ap zeros
          (Node-call.auto.frames ∙ open-output-call.auto.frames ∙ open-input-call.auto.frames
          ∙ fill-call.auto.store),
    )
