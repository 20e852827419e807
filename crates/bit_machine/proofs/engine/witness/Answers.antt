use mathlib.Core.Path.{refl}
use Rattle.bit_machine.proofs.ByKind
use Rattle.lookup.specs.Lookup.{record_at}
use Rattle.ready.proofs.Checked.{types_counted}
use Rattle.bit_machine.proofs.engine.witness.Goals as goal

pub invariant_of-shapes-clause-types_pass : goal.invariant_of-shapes-clause-types_pass
invariant_of-shapes-clause-types_pass c = types_counted _ _ _ c.requires.shown.typed

pub write_value-requires-clause-reads : goal.write_value-requires-clause-reads
write_value-requires-clause-reads c =
    ByKind.witness_reads c.requires.shown c.args.i (record_at c.args.tables.now.nodes.now c.args.i) refl _ c.requires.safe
    c.requires.i_value _ c.target_at-k.ensures _ c.position_at-p.ensures

pub write_value-requires-clause-write_ok : goal.write_value-requires-clause-write_ok
write_value-requires-clause-write_ok c =
    ByKind.witness_need c.requires.shown c.args.i (record_at c.args.tables.now.nodes.now c.args.i) refl _ c.requires.safe
    c.requires.i_value _ c.target_at-k.ensures _ c.position_at-p.ensures

pub returns : goal.returns
returns c =
    ByKind.witness_run c.requires.shown c.args.i (record_at c.args.tables.now.nodes.now c.args.i) refl _ c.requires.safe
    c.requires.i_value _ c.target_at-k.ensures _ c.position_at-p.ensures _
    c.write_value.ensures
