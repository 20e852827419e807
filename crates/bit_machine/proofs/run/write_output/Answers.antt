use Rattle.bit_machine.proofs.Output.{output_short, output_not_short, output_count, output-written}
use native.Mathlib.Omega.{arith}
use Prim.Native.Nat.{ℕ, ◌*◌, ◌-◌}
use mathlib.Core.Path.{ap, ◌∙◌}
use Rattle.ready.proofs.Checked.{shapes_shown}
use Rattle.bit_machine.proofs.run.write_output.Goals as goal

pub returns-in_default : goal.returns-in_default
returns-in_default c =
    let unpad-call = c.unpad in
    output_not_short (shapes_shown c.args.shapes.now) c.args.k c.args.cells.now c.args.at c.args.answer.now
    c.requires.k_in_bounds.0 c.requires.k_in_bounds.1 c.requires.k_in_bounds_2 unpad-call.result _ unpad-call.ensures c.in_default.is

pub overflow_mul-filled : goal.overflow_mul-filled
overflow_mul-filled c =
    let unpad-call = c.unpad in
    let n = output_count (shapes_shown c.args.shapes.now) c.args.k c.args.cells.now c.args.at c.args.answer.now
    c.requires.k_in_bounds.0 c.requires.k_in_bounds.1 c.requires.k_in_bounds_2 unpad-call.result _ unpad-call.ensures _
    c.in-Some.is in
    let few = output_short (shapes_shown c.args.shapes.now) c.args.k c.args.cells.now c.args.at c.args.answer.now
    c.requires.k_in_bounds.0 c.requires.k_in_bounds.1 c.requires.k_in_bounds_2 in
    omega (arith, c.bytes_for.ensures, c.requires.k_in_bounds.1)

pub returns : goal.returns
returns c =
    let slice-known-found = c.slice_known-1 in
    let unpad-call = c.unpad in (
      output_count (shapes_shown c.args.shapes.now) c.args.k c.args.cells.now c.args.at c.args.answer.now
          c.requires.k_in_bounds.0 c.requires.k_in_bounds.1 c.requires.k_in_bounds_2 unpad-call.result _ unpad-call.ensures _ c.in-Some.is,
      output-written (shapes_shown c.args.shapes.now) c.args.k c.args.cells.now c.args.at c.args.answer.now
          c.requires.k_in_bounds.0 c.requires.k_in_bounds.1 c.requires.k_in_bounds_2 unpad-call.result _ unpad-call.ensures _
          c.in-Some.is _ _ (ap (λ (b : ℕ). b * 8 - c.in-Some.n) c.bytes_for.ensures.0)
          c.zero_cells.ensures (λ j. omega (arith, slice-known-found.given j))
          (λ j. omega (arith, c.slice_known-3-1.given j)) (c.zero_cells.auto.cells ∙ unpad-call.auto.answer),
    )
