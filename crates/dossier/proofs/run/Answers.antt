-- `dossier::run` meets its contract.
use Rattle.dossier.proofs.Steps.{ends_front, ends_undecoded, nodes_within, hashes_within, ends_settled}
use lib.Seq.{length-take-le}
use mathlib.Core.Path.{sym}
use Rattle.header.specs.Sections.{section_holds}
use Rattle.common.specs.Answers.{handed_on}
use Rattle.dossier.proofs.run.Goals as goal

pub returns-in_default : goal.returns-in_default
returns-in_default c =
    let check-front-call = c.check_front-front in
    let fill-nodes-call = c.fill_from in
    let fill-hashes-call = c.fill_from-in_default in
    ends_front c.args.dossier.now c.args.nodes.now c.args.hashes.now c.args.cells.now
    c.args.frames.now c.args.answer.now check-front-call.result check-front-call.ensures _
    c.in_default.is c.answer_of.result c.answer_of.ensures fill-nodes-call.new.store
    fill-hashes-call.new.store fill-nodes-call.ensures fill-hashes-call.ensures

pub returns-in_err-sizes : goal.returns-in_err-sizes
returns-in_err-sizes c =
    let check-front-call = c.check_front-front in
    let section-call = c.of in
    let decode-Call = c.decode in
    ends_undecoded c.args.dossier.now c.args.nodes.now c.args.hashes.now c.args.cells.now
    c.args.frames.now c.args.answer.now check-front-call.result check-front-call.ensures c.in-Ok.is
    section-call.result.now (section_holds _ _ _ section-call.ensures) decode-Call.result decode-Call.new.nodes
    decode-Call.new.hashes decode-Call.ensures _ c.in_err-sizes.was c.from_residual.result
    (handed_on c.from_residual.result c.in_err-sizes.was c.from_residual.ensures.1)

pub slice_bounds-records-end : goal.slice_bounds-records-end
slice_bounds-records-end c =
    let check-front-call = c.check_front-front in
    let section-call = c.of in
    let decode-Call = c.decode in
    nodes_within c.args.dossier.now c.args.nodes.now c.args.hashes.now c.args.cells.now
    c.args.frames.now c.args.answer.now check-front-call.result check-front-call.ensures c.in-Ok.is
    section-call.result.now (section_holds _ _ _ section-call.ensures) decode-Call.result decode-Call.new.nodes
    decode-Call.new.hashes decode-Call.ensures c.in_ok-sizes.sizes c.in_ok-sizes.was

pub slice_bounds-records-end-2 : goal.slice_bounds-records-end-2
slice_bounds-records-end-2 c =
    let check-front-call = c.check_front-front in
    let section-call = c.of in
    let decode-Call = c.decode in
    sym (length-take-le _ _ (nodes_within c.args.dossier.now c.args.nodes.now c.args.hashes.now
    c.args.cells.now c.args.frames.now c.args.answer.now check-front-call.result check-front-call.ensures
    c.in-Ok.is section-call.result.now (section_holds _ _ _ section-call.ensures) decode-Call.result
    decode-Call.new.nodes decode-Call.new.hashes decode-Call.ensures c.in_ok-sizes.sizes c.in_ok-sizes.was))

pub slice_bounds-run_decoded-end : goal.slice_bounds-run_decoded-end
slice_bounds-run_decoded-end c =
    let check-front-call = c.check_front-front in
    let section-call = c.of in
    let decode-Call = c.decode in
    hashes_within c.args.dossier.now c.args.nodes.now c.args.hashes.now c.args.cells.now
    c.args.frames.now c.args.answer.now check-front-call.result check-front-call.ensures
    c.in-Ok.is section-call.result.now (section_holds _ _ _ section-call.ensures) decode-Call.result
    decode-Call.new.nodes decode-Call.new.hashes decode-Call.ensures c.in_ok-sizes.sizes c.in_ok-sizes.was

pub slice_bounds-run_decoded-end-2 : goal.slice_bounds-run_decoded-end-2
slice_bounds-run_decoded-end-2 c =
    let check-front-call = c.check_front-front in
    let section-call = c.of in
    let decode-Call = c.decode in
    sym (length-take-le _ _ (hashes_within c.args.dossier.now c.args.nodes.now c.args.hashes.now
    c.args.cells.now c.args.frames.now c.args.answer.now check-front-call.result check-front-call.ensures
    c.in-Ok.is section-call.result.now (section_holds _ _ _ section-call.ensures) decode-Call.result
    decode-Call.new.nodes decode-Call.new.hashes decode-Call.ensures c.in_ok-sizes.sizes c.in_ok-sizes.was))

pub returns : goal.returns
returns c =
    let check-front-call = c.check_front-front in
    let section-call = c.of in
    let decode-Call = c.decode in
    let run-decoded-call = c.run_decoded-said in
    let settle-call = c.settle in
    ends_settled c.args.dossier.now c.args.nodes.now c.args.hashes.now c.args.cells.now
    c.args.frames.now c.args.answer.now check-front-call.result check-front-call.ensures c.in-Ok.is
    section-call.result.now (section_holds _ _ _ section-call.ensures) decode-Call.result decode-Call.new.nodes
    decode-Call.new.hashes decode-Call.ensures c.in_ok-sizes.sizes c.in_ok-sizes.was run-decoded-call.result
    run-decoded-call.new.cells run-decoded-call.new.frames run-decoded-call.new.answer
    run-decoded-call.ensures settle-call.new.nodes settle-call.new.hashes settle-call.ensures.nodes_after settle-call.ensures.hashes_after
