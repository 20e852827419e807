-- `ready::check_ready` meets its contract: bounds that are refused, supplies that are refused, and all that passed, each by one law of the whole answer.
use mathlib.Core.Path.{sym, ap, ◌∙◌}
use Rattle.std.specs.Prelude.{Ok}
use Rattle.types.specs.declared.TypeTable.{TypeTable}
use Rattle.types.specs.Table.{type_table}
use Rattle.analysis.specs.Limits.{bounded_of, counted_bounds}
use Rattle.common.specs.Answers.{handed_on}
use Rattle.scope.specs.Numbers.{stream_of}
use Rattle.ready.proofs.Answered.{bounds_stop, supplies_stop, run_ready}
use Rattle.ready.proofs.check_ready.Goals as goal

pub invariant_of-shapes : goal.invariant_of-shapes
unfolding type_table
invariant_of-shapes c = record {
  types_pass = c.requires.1;
  widths_are = ap (λ (t : TypeTable). t.widths) c.requires.0;
  next_are = ap (λ (t : TypeTable). t.next) c.requires.0;
}

pub returns-in_err-bounds : goal.returns-in_err-bounds
unfolding type_table
returns-in_err-bounds c =
    λ program hashes given held. (let a = c.args in
    handed_on c.from_residual.result c.in_err-bounds.was c.from_residual.ensures.1
    ∙ bounds_stop a.types.now a.table.now.nodes.now a.arrows.now program hashes given a.witness.now
    a.witness_bits a.input.now a.input_bits a.cells a.frames a.answer held _
    (sym (ap bounded_of c.in_err-bounds.was) ∙ c.bounds.ensures
    ∙ ap (λ (t : TypeTable). counted_bounds a.types.now t.widths a.table.now.nodes.now a.arrows.now) c.requires.0))

pub returns-in_err-positions : goal.returns-in_err-positions
unfolding type_table
returns-in_err-positions c =
    λ program hashes given held. (let a = c.args in
    handed_on c.from_residual-in_err-positions.result c.in_err-positions.was c.from_residual-in_err-positions.ensures.1
    ∙ supplies_stop a.types.now a.table.now.nodes.now a.arrows.now program hashes given a.witness.now a.witness_bits
    a.input.now a.input_bits a.cells a.frames a.answer held c.in_ok-bounds.bounds
    (sym (ap bounded_of c.in_ok-bounds.was) ∙ c.bounds.ensures
    ∙ ap (λ (t : TypeTable). counted_bounds a.types.now t.widths a.table.now.nodes.now a.arrows.now) c.requires.0)
    c.check_supplied.result (c.check_supplied.ensures (stream_of program) hashes) _ c.in_err-positions.was)

pub returns : goal.returns
unfolding type_table
returns c =
    λ program hashes given held. (let a = c.args in
    ap (λ (t : TypeTable). Ok (record {
      cells = c.in_ok-bounds.bounds.cells;
      frames = c.in_ok-bounds.bounds.frames;
      widths = t.widths;
      next = t.next;
      positions = c.in_ok-positions.positions;
    })) c.requires.0
    ∙ run_ready a.types.now a.table.now.nodes.now a.arrows.now program hashes given a.witness.now a.witness_bits a.input.now
    a.input_bits a.cells a.frames a.answer held c.in_ok-bounds.bounds
    (sym (ap bounded_of c.in_ok-bounds.was) ∙ c.bounds.ensures
    ∙ ap (λ (t : TypeTable). counted_bounds a.types.now t.widths a.table.now.nodes.now a.arrows.now) c.requires.0)
    c.check_supplied.result (c.check_supplied.ensures (stream_of program) hashes) _ c.in_ok-positions.was)
