-- `ready::check_run` meets its contract: tables that are refused, and else what follows them.
use mathlib.Core.Path.{refl, sym, ap, ◌∙◌}
use Rattle.common.specs.Answers.{handed_on}
use Rattle.stages.specs.Answers.{verdict_of}
use Rattle.types.specs.Table.{type_widths, type_next}
use Rattle.types.specs.declared.TypeTable.{TypeTable}
use Rattle.ready.proofs.Checked.{types_counted}
use Rattle.ready.proofs.Answered.{tables-refused}
use Rattle.ready.proofs.Shown.{types_shown, nodes_counted}
use Rattle.ready.proofs.check_run.Goals as goal

pub returns-in_err-checked : goal.returns-in_err-checked
returns-in_err-checked c =
    let a = c.args in
    let t = a.tables.now in
    handed_on {X = TypeTable} c.from_residual.result refl c.from_residual.ensures.1
    ∙ tables-refused t.types.now t.nodes.now t.arrows.now t.program.now t.hashes.now a.given.now a.witness.now a.witness_bits
    a.input.now a.input_bits a.cells a.frames a.answer _
    (sym c.hash_tables.ensures.verdict ∙ ap verdict_of c.in_err-checked.was)

pub invariant_of-table : goal.invariant_of-table
invariant_of-table c =
    let a = c.args in
    let t = a.tables.now in
    let held = sym c.hash_tables.ensures.verdict ∙ ap verdict_of c.in_ok-checked.was in record {
      few = (nodes_counted t.types.now t.nodes.now t.arrows.now t.program.now t.hashes.now a.given.now a.witness.now a.witness_bits
          a.input.now a.input_bits held).1;
    }

pub check_ready-requires : goal.check_ready-requires
check_ready-requires c =
    let a = c.args in
    let t = a.tables.now in
    let held = sym c.hash_tables.ensures.verdict ∙ ap verdict_of c.in_ok-checked.was in (
      c.in_ok-checked.ensures.made,
      types_counted t.types.now (type_widths t.types.now) (type_next t.types.now) (types_shown t.types.now t.nodes.now t.arrows.now t.program.now
          t.hashes.now a.given.now a.witness.now a.witness_bits a.input.now a.input_bits held),
    )

pub returns : goal.returns
returns c = c.check_ready.ensures _ _ _ (sym c.hash_tables.ensures.verdict ∙ ap verdict_of c.in_ok-checked.was)
