-- `bit_machine::run_stage` meets its contract: a refusal leaves all stores, and a run that may begin is run.
use Rattle.bit_machine.proofs.Stage.{not_begun, begun_shown, begun_ok, begun_ran}
use mathlib.Core.Path.{ap, ◌∙◌}
use Rattle.common.specs.Answers.{handed_on}
use Rattle.refusal.specs.Answers.{Answer}
use Rattle.scope.specs.Run.{left_with}
use Rattle.bit_machine.proofs.run_stage.Goals as goal

pub run_ready-requires : goal.run_ready-requires
run_ready-requires c =
    let t = c.args.tables.now in
    record {
      shown = begun_shown t.types.now t.nodes.now t.arrows.now t.program.now
          t.hashes.now c.args.given.now c.args.witness.now _ c.args.input.now _
          c.args.cells.now c.args.frames.now c.args.answer.now c.check_run.result
          c.check_run.ensures _ c.in_ok-prepared.was;
      run_ok = begun_ok t.types.now t.nodes.now t.arrows.now t.program.now
          t.hashes.now c.args.given.now c.args.witness.now _ c.args.input.now _
          c.args.cells.now c.args.frames.now c.args.answer.now c.check_run.result
          c.check_run.ensures _ c.in_ok-prepared.was;
    }

pub returns-in_err-prepared : goal.returns-in_err-prepared
returns-in_err-prepared c =
    let t = c.args.tables.now in
    ap (λ (said : Answer). left_with said c.args.cells.now c.args.frames.now c.args.answer.now)
    (handed_on c.from_residual.result c.in_err-prepared.was c.from_residual.ensures.1)
    ∙ not_begun t.types.now t.nodes.now t.arrows.now t.program.now
    t.hashes.now c.args.given.now c.args.witness.now _ c.args.input.now _
    c.args.cells.now c.args.frames.now c.args.answer.now c.check_run.result c.check_run.ensures _
    c.in_err-prepared.was

pub returns : goal.returns
returns c =
    let t = c.args.tables.now in
    begun_ran t.types.now t.nodes.now t.arrows.now t.program.now
    t.hashes.now c.args.given.now c.args.witness.now _ c.args.input.now _
    c.args.cells.now c.args.frames.now c.args.answer.now c.check_run.result
    c.check_run.ensures _ c.in_ok-prepared.was _ c.run_ready.ensures
