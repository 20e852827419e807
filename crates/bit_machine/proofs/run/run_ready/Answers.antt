-- as many records, as many numbers
use Rattle.bit_machine.proofs.Ends.{nodes_many, last_is, source_size, target_is, target_size, cells_inside, frames_inside, part_within, output_fits, node_ok, ends_done, ends_stopped}
use lib.Seq.{length-take-le, length_front}
use native.Mathlib.Omega.{arith}
use Prim.Native.Nat.{ℕ, ◌*◌}
use mathlib.Core.Path.{◌≡◌, refl, sym, ap}
use Rattle.std.proofs.lemmas.Result.{err_from_is_err_and}
use Rattle.limits.specs.Limits.{frame_numbers}
use Rattle.ready.proofs.Checked.{types_counted}
use Rattle.bit_machine.proofs.run.run_ready.Goals as goal

records-sized : {a b : ℕ} → a ≡ b → frame_numbers * a ≡ frame_numbers * b
records-sized e = ap (λ (n : ℕ). frame_numbers * n) e

pub overflow_sub-last : goal.overflow_sub-last
overflow_sub-last c =
    omega (
      arith,
      c.requires.run_ok.some,
      nodes_many c.args.tables.now.types.now c.args.tables.now.nodes.now c.args.tables.now.arrows.now c.args.tables.now.program.now
          c.args.tables.now.hashes.now c.args.tables.now.given.now c.args.tables.now.witness.now c.args.tables.now.positions.now,
    )

pub overflow_cast-last : goal.overflow_cast-last
overflow_cast-last c =
    omega (
      arith,
      c.requires.run_ok.few,
      nodes_many c.args.tables.now.types.now c.args.tables.now.nodes.now c.args.tables.now.arrows.now c.args.tables.now.program.now
          c.args.tables.now.hashes.now c.args.tables.now.given.now c.args.tables.now.witness.now c.args.tables.now.positions.now,
    )

pub slice_bounds-run_node-end-2 : goal.slice_bounds-run_node-end-2
slice_bounds-run_node-end-2 c = sym (length-take-le _ _ (cells_inside c.requires.run_ok _ c.bytes_for-bytes.ensures.0 _ (records-sized c.place-numbers.ensures.0)))

pub slice_bounds-run_node-end-4 : goal.slice_bounds-run_node-end-4
slice_bounds-run_node-end-4 c =
    sym (length-take-le _ _ (frames_inside c.requires.run_ok _ c.bytes_for-bytes.ensures.0 _
    (records-sized c.place-numbers.ensures.0)))

pub run_node-requires : goal.run_node-requires
run_node-requires c =
    let bytes-for-there = c.bytes_for-bytes in record {
      shown = c.requires.shown;
      within = part_within c.requires.run_ok _ bytes-for-there.ensures.0 _ (records-sized c.place-numbers.ensures.0);
      node_ok = node_ok c.requires.run_ok _ bytes-for-there.ensures.0 _ (records-sized c.place-numbers.ensures.0) _
          (last_is c.args.tables.now.types.now c.args.tables.now.nodes.now c.args.tables.now.arrows.now c.args.tables.now.program.now
          c.args.tables.now.hashes.now c.args.tables.now.given.now c.args.tables.now.witness.now c.args.tables.now.positions.now);
    }

pub invariant_of-shapes-clause-types_pass : goal.invariant_of-shapes-clause-types_pass
invariant_of-shapes-clause-types_pass c = types_counted _ _ _ c.requires.shown.typed

pub write_output-requires : goal.write_output-requires
write_output-requires c =
    let place-call = c.place-numbers in
    let bytes-for-there = c.bytes_for-bytes in
    let run-node-call = c.run_node in
    let f = output_fits c.requires.run_ok _ bytes-for-there.ensures.0 _ (records-sized place-call.ensures.0) _ _
    (source_size c.requires.shown _
    (last_is c.args.tables.now.types.now c.args.tables.now.nodes.now c.args.tables.now.arrows.now c.args.tables.now.program.now
    c.args.tables.now.hashes.now c.args.tables.now.given.now c.args.tables.now.witness.now c.args.tables.now.positions.now) _
    c.source_width-at.ensures) (target_size c.requires.shown _ (last_is c.args.tables.now.types.now
    c.args.tables.now.nodes.now c.args.tables.now.arrows.now c.args.tables.now.program.now c.args.tables.now.hashes.now c.args.tables.now.given.now
    c.args.tables.now.witness.now c.args.tables.now.positions.now) _ c.target_at-k.ensures) _
    (length_front c.args.cells.now run-node-call.new.cells bytes-for-there.result
    run-node-call.auto.cells) in
    record {
      k_in_bounds = f.0;
      k_in_bounds_2 = f.1;
    }

pub returns : goal.returns
returns c =
    let bytes-for-call = c.bytes_for-bytes in
    let place-call = c.place-numbers in
    let slice-known4-found = c.slice_known-4-1 in
    let run-node-call = c.run_node in
    ends_done c.requires.run_ok _ bytes-for-call.ensures.0 _ (records-sized place-call.ensures.0) _
    (last_is c.args.tables.now.types.now c.args.tables.now.nodes.now c.args.tables.now.arrows.now c.args.tables.now.program.now
    c.args.tables.now.hashes.now c.args.tables.now.given.now c.args.tables.now.witness.now c.args.tables.now.positions.now) _ _ refl
    (λ j. omega (arith, slice-known4-found.given j)) _ run-node-call.ensures.1 run-node-call.result _
    c.in_ok-run_node.was run-node-call.ensures.0
    _ _ (target_is c.requires.shown _ (last_is c.args.tables.now.types.now c.args.tables.now.nodes.now c.args.tables.now.arrows.now
    c.args.tables.now.program.now c.args.tables.now.hashes.now c.args.tables.now.given.now c.args.tables.now.witness.now
    c.args.tables.now.positions.now) _ c.target_at-k.ensures)
    (source_size c.requires.shown _
    (last_is c.args.tables.now.types.now c.args.tables.now.nodes.now c.args.tables.now.arrows.now c.args.tables.now.program.now
    c.args.tables.now.hashes.now c.args.tables.now.given.now c.args.tables.now.witness.now c.args.tables.now.positions.now) _
    c.source_width-at.ensures) _ _ c.write_output.ensures.0
    c.write_output.ensures.1

pub returns-in_err-run_node : goal.returns-in_err-run_node
returns-in_err-run_node c =
    let stopped = err_from_is_err_and c.from_residual.result c.from_residual.ensures.1 in
    ends_stopped c.requires.run_ok _ c.bytes_for-bytes.ensures.0 _ (records-sized c.place-numbers.ensures.0) _
    (last_is c.args.tables.now.types.now c.args.tables.now.nodes.now c.args.tables.now.arrows.now c.args.tables.now.program.now
    c.args.tables.now.hashes.now c.args.tables.now.given.now c.args.tables.now.witness.now c.args.tables.now.positions.now) _ _ refl
    (λ j. omega (arith, c.slice_known-4-1.given j)) _ c.run_node.ensures.1
    c.run_node.result _ c.in_err-run_node.was c.run_node.ensures.0 _ _ stopped.1 stopped.2
