-- `dossier::run_decoded` meets its contract.
use Rattle.dossier.proofs.Steps.{sections_run_lem}
use mathlib.Core.Path.{◌∙◌}
use Rattle.header.specs.Sections.{section_holds}
use Rattle.dossier.proofs.run_decoded.Goals as goal

pub returns : goal.returns
returns c =
    let section-call = c.of in
    let section2-call = c.of-2 in
    let section3-call = c.of-3 in
    let section4-call = c.of-4 in
    let section5-call = c.of-5 in
    let count-call = c.count in
    let section6-call = c.of-6 in
    let count2-call = c.count-2 in
    c.run_stage.ensures
    ∙ sections_run_lem c.args.dossier.now c.args.nodes.now c.args.hashes.now c.args.cells.now
    c.args.frames.now c.args.answer.now _ _ _ _ _ _ _ _ (section_holds _ _ _ section-call.ensures)
    (section_holds _ _ _ section2-call.ensures) (section_holds _ _ _ section3-call.ensures)
    (section_holds _ _ _ section4-call.ensures) (section_holds _ _ _ section5-call.ensures) count-call.ensures
    (section_holds _ _ _ section6-call.ensures) count2-call.ensures
