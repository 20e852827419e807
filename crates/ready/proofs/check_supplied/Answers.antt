-- `ready::check_supplied` meets its contract: witness bits, input bits and stores, the first that is refused.
use mathlib.Core.Path.{◌≡◌, sym, ap, ◌∙◌}
use Prim.Native.Nat.{ℕ, ◌-◌}
use lib.ListN.{length, get_or}
use Rattle.common.specs.Nodes.{length_nodes}
use Rattle.arrow.specs.Answers.{arrow_of}
use Rattle.scope.specs.Arrows.{no_arrow, arrow_records}
use Rattle.scope.specs.Nodes.{node_records, nodes_of}
use Rattle.scope.specs.Types.{type_records}
use Rattle.common.specs.Answers.{handed_on}
use Rattle.ready.proofs.Supplied.{read_refused, input_refused, stores_refused, all_passed}
use Rattle.ready.proofs.Checked.{shapes_shown}
use Rattle.ready.proofs.Ends.{width_shown}
use Rattle.ready.proofs.check_supplied.Goals as goal

pub returns-in_err-positions : goal.returns-in_err-positions
returns-in_err-positions c =
    λ bits hashes. (let a = c.args in
    let N = nodes_of bits hashes (node_records a.table.now.nodes.now) in
    handed_on c.from_residual.result c.in_err-positions.was c.from_residual.ensures.1 ∙ sym c.in_err-positions.was
    ∙ read_refused (type_records a.shapes.now.shapes.types.now) N (arrow_records a.arrows.now) a.witness.now a.witness_bits a.input.now
    a.input_bits a.cell_bound a.frame_bound a.cells a.frames a.answer c.check_witness.result
    (c.check_witness.ensures bits hashes) _ c.in_err-positions.was)

pub returns-in_err-check_input : goal.returns-in_err-check_input
returns-in_err-check_input c =
    let check-witness-call = c.check_witness in
    let arrow-at-call = c.arrow_at-whole in
    λ bits hashes.
    (let a = c.args in
    let N = nodes_of bits hashes (node_records a.table.now.nodes.now) in
    let own : arrow_of arrow-at-call.result ≡ get_or (arrow_records a.arrows.now) (length N - 1) no_arrow =
    arrow-at-call.ensures
    ∙ ap (λ (k : ℕ). get_or (arrow_records a.arrows.now) k no_arrow)
    (c.last_node.ensures
    ∙ ap (λ (n : ℕ). n - 1) (sym (length_nodes bits hashes (node_records a.table.now.nodes.now)))) in
    handed_on c.from_residual-in_err-check_input.result c.in_err-check_input.was c.from_residual-in_err-check_input.ensures.1
    ∙ input_refused (type_records a.shapes.now.shapes.types.now) N (arrow_records a.arrows.now) a.witness.now a.witness_bits a.input.now
    a.input_bits a.cell_bound a.frame_bound a.cells a.frames a.answer check-witness-call.result
    (check-witness-call.ensures bits hashes) _ c.in_ok-positions.was
    (arrow_of arrow-at-call.result) own _ (sym c.in_err-check_input.was ∙ c.check_input.ensures))

pub returns-in_err-check_stores : goal.returns-in_err-check_stores
returns-in_err-check_stores c =
    let check-witness-call = c.check_witness in
    let last-node-call = c.last_node in
    let arrow-at-call = c.arrow_at-whole in
    let width-call = c.entry_or-width in
    λ bits hashes.
    (let a = c.args in
    let N = nodes_of bits hashes (node_records a.table.now.nodes.now) in
    let own : arrow_of arrow-at-call.result ≡ get_or (arrow_records a.arrows.now) (length N - 1) no_arrow =
    arrow-at-call.ensures
    ∙ ap (λ (k : ℕ). get_or (arrow_records a.arrows.now) k no_arrow)
    (last-node-call.ensures ∙ ap (λ (n : ℕ). n - 1) (sym (length_nodes bits hashes (node_records a.table.now.nodes.now)))) in
    handed_on c.from_residual-in_err-check_stores.result c.in_err-check_stores.was c.from_residual-in_err-check_stores.ensures.1
    ∙ stores_refused (type_records a.shapes.now.shapes.types.now) N
    (arrow_records a.arrows.now) a.witness.now a.witness_bits a.input.now a.input_bits a.cell_bound a.frame_bound
    a.cells a.frames a.answer check-witness-call.result (check-witness-call.ensures bits hashes) _ c.in_ok-positions.was
    (arrow_of arrow-at-call.result) own (sym c.in_ok-check_input.was
    ∙ c.check_input.ensures) width-call.result
    (width-call.ensures ∙ width_shown _ _ _ (shapes_shown a.shapes.now) arrow-at-call.result.target) _
    (sym c.in_err-check_stores.was ∙ c.check_stores.ensures))

pub returns : goal.returns
returns c =
    let check-witness-call = c.check_witness in
    let last-node-call = c.last_node in
    let arrow-at-call = c.arrow_at-whole in
    let width-call = c.entry_or-width in
    λ bits hashes.
    (let a = c.args in
    let N = nodes_of bits hashes (node_records a.table.now.nodes.now) in
    let own : arrow_of arrow-at-call.result ≡ get_or (arrow_records a.arrows.now) (length N - 1) no_arrow =
    arrow-at-call.ensures
    ∙ ap (λ (k : ℕ). get_or (arrow_records a.arrows.now) k no_arrow)
    (last-node-call.ensures ∙ ap (λ (n : ℕ). n - 1) (sym (length_nodes bits hashes (node_records a.table.now.nodes.now)))) in
    sym c.in_ok-positions.was
    ∙ all_passed (type_records a.shapes.now.shapes.types.now) N (arrow_records a.arrows.now) a.witness.now a.witness_bits a.input.now
    a.input_bits a.cell_bound a.frame_bound a.cells a.frames a.answer check-witness-call.result
    (check-witness-call.ensures bits hashes) _ c.in_ok-positions.was (arrow_of arrow-at-call.result) own
    (sym c.in_ok-check_input.was ∙ c.check_input.ensures)
    width-call.result (width-call.ensures ∙ width_shown _ _ _ (shapes_shown a.shapes.now) arrow-at-call.result.target)
    (sym c.in_ok-check_stores.was ∙ c.check_stores.ensures))
