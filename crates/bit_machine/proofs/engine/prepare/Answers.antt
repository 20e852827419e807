use mathlib.Core.Path.{sym, ap, ◌∙◌}
use mathlib.Core.List.{[]}
use Rattle.scope.specs.Nodes.{NodeRecord, kind_number}
use Rattle.table.specs.Answers.{record_of, kind_meant}
use Rattle.layout.proofs.Safe.{read_over, write_over, fed_bits}
use Rattle.lookup.specs.declared.Padding.{Padding}
use Rattle.bit_machine.proofs.ByKind
use Rattle.bit_machine.proofs.Needs.{within_fed}
use Rattle.bit_machine.proofs.engine.prepare.Goals as goal

pub write_bit-requires-clause-write_ok : goal.write_bit-requires-clause-write_ok
write_bit-requires-clause-write_ok c =
    ByKind.injl_need c.requires.shown c.args.i (record_of c.record_at-record.result) c.record_at-record.ensures _ c.requires.safe
    (c.in-Some.ensures.number ∙ ap (λ k. kind_number (kind_meant k)) c.in-Injl.is)

pub skip-requires : goal.skip-requires
skip-requires c =
    λ pos.
    write_over [] (fed_bits (within_fed c.requires.within))
    (ByKind.injl_skip c.requires.shown c.args.i (record_of c.record_at-record.result) c.record_at-record.ensures _ c.requires.safe
    (c.in-Some.ensures.number ∙ ap (λ k. kind_number (kind_meant k)) c.in-Injl.is) _
    (rw c.target_at-target.ensures at (ap (λ (p : Padding). p.left) c.padding_at-padding.ensures)) _
    c.write_bit.ensures pos)

pub returns-in-Injl : goal.returns-in-Injl
returns-in-Injl c =
    ByKind.injl_one c.requires.shown c.args.i (record_of c.record_at-record.result) c.record_at-record.ensures _ c.requires.safe
    (c.in-Some.ensures.number ∙ ap (λ k. kind_number (kind_meant k)) c.in-Injl.is) _
    (rw c.target_at-target.ensures at (ap (λ (p : Padding). p.left) c.padding_at-padding.ensures)) _
    c.write_bit.ensures _ (c.skip.ensures _)

pub write_bit-requires-in-Injr-clause-write_ok : goal.write_bit-requires-in-Injr-clause-write_ok
write_bit-requires-in-Injr-clause-write_ok c =
    ByKind.injr_need c.requires.shown c.args.i (record_of c.record_at-record.result) c.record_at-record.ensures _ c.requires.safe
    (c.in-Some.ensures.number ∙ ap (λ k. kind_number (kind_meant k)) c.in-Injr.is)

pub skip-requires-in-Injr : goal.skip-requires-in-Injr
skip-requires-in-Injr c =
    λ pos.
    write_over [] (fed_bits (within_fed c.requires.within))
    (ByKind.injr_skip c.requires.shown c.args.i (record_of c.record_at-record.result) c.record_at-record.ensures _ c.requires.safe
    (c.in-Some.ensures.number ∙ ap (λ k. kind_number (kind_meant k)) c.in-Injr.is) _
    (rw c.target_at-target-in-Injr.ensures at (ap (λ (p : Padding). p.right) c.padding_at-padding-in-Injr.ensures)) _
    c.write_bit-in-Injr.ensures pos)

pub returns-in-Injr : goal.returns-in-Injr
returns-in-Injr c =
    ByKind.injr_one c.requires.shown c.args.i (record_of c.record_at-record.result) c.record_at-record.ensures _ c.requires.safe
    (c.in-Some.ensures.number ∙ ap (λ k. kind_number (kind_meant k)) c.in-Injr.is) _
    (rw c.target_at-target-in-Injr.ensures at (ap (λ (p : Padding). p.right) c.padding_at-padding-in-Injr.ensures)) _
    c.write_bit-in-Injr.ensures _ (c.skip-in-Injr.ensures _)

pub returns-in-Take : goal.returns-in-Take
returns-in-Take c =
    ByKind.take_one c.requires.shown c.args.i (record_of c.record_at-record.result) c.record_at-record.ensures _ c.requires.safe
    (c.in-Some.ensures.number ∙ ap (λ k. kind_number (kind_meant k)) c.in-Take.is)

pub forward-requires : goal.forward-requires
forward-requires c =
    λ pos. read_over [] (fed_bits (within_fed c.requires.within))
    (ByKind.drop_need c.requires.shown c.args.i (record_of c.record_at-record.result) c.record_at-record.ensures _ c.requires.safe
    (c.in-Some.ensures.number ∙ ap (λ k. kind_number (kind_meant k)) c.in-Drop.is) _
    (rw c.source_at-source.ensures at c.left_width-n.ensures) pos)

pub returns-in-Drop : goal.returns-in-Drop
returns-in-Drop c =
    ByKind.drop_one c.requires.shown c.args.i (record_of c.record_at-record.result) c.record_at-record.ensures _ c.requires.safe
    (c.in-Some.ensures.number ∙ ap (λ k. kind_number (kind_meant k)) c.in-Drop.is) _
    (rw c.source_at-source.ensures at c.left_width-n.ensures) _
    (c.forward.ensures _)

pub returns-in-Unit : goal.returns-in-Unit
returns-in-Unit c =
    ByKind.unit_run_lem c.requires.shown c.args.i (record_of c.record_at-record.result) c.record_at-record.ensures _ c.requires.safe
    (c.in-Some.ensures.number ∙ ap (λ k. kind_number (kind_meant k)) c.in-Unit.is)

pub copy-requires-clause-copy_ok : goal.copy-requires-clause-copy_ok
copy-requires-clause-copy_ok c =
    ByKind.iden_need c.requires.shown c.args.i (record_of c.record_at-record.result) c.record_at-record.ensures _ c.requires.safe
    (c.in-Some.ensures.number ∙ ap (λ k. kind_number (kind_meant k)) c.in-Iden.is) _ c.source_width-n.ensures

pub returns-in-Iden : goal.returns-in-Iden
returns-in-Iden c =
    ByKind.iden_run c.requires.shown c.args.i (record_of c.record_at-record.result) c.record_at-record.ensures _ c.requires.safe
    (c.in-Some.ensures.number ∙ ap (λ k. kind_number (kind_meant k)) c.in-Iden.is) _ c.source_width-n.ensures _
    c.copy.ensures

pub witness-requires-clause-i_value : goal.witness-requires-clause-i_value
witness-requires-clause-i_value c =
    sym (ap (λ (r : NodeRecord). r.kind) c.record_at-record.ensures)
    ∙ c.in-Some.ensures.number ∙ ap (λ k. kind_number (kind_meant k)) c.in-Witness.is

pub write_bits-requires-clause-n_in_bounds : goal.write_bits-requires-clause-n_in_bounds
write_bits-requires-clause-n_in_bounds c =
    ByKind.word_inside c.requires.shown c.args.i (record_of c.record_at-record.result) c.record_at-record.ensures _ c.requires.safe
    (c.in-Some.ensures.number ∙ ap (λ k. kind_number (kind_meant k)) c.in-Word.is) _ c.target_width-n.ensures

pub write_bits-requires-clause-write_ok : goal.write_bits-requires-clause-write_ok
write_bits-requires-clause-write_ok c =
    ByKind.word_need c.requires.shown c.args.i (record_of c.record_at-record.result) c.record_at-record.ensures _ c.requires.safe
    (c.in-Some.ensures.number ∙ ap (λ k. kind_number (kind_meant k)) c.in-Word.is) _ c.target_width-n.ensures

pub returns-in-Word : goal.returns-in-Word
returns-in-Word c =
    ByKind.word_run c.requires.shown c.args.i (record_of c.record_at-record.result) c.record_at-record.ensures _ c.requires.safe
    (c.in-Some.ensures.number ∙ ap (λ k. kind_number (kind_meant k)) c.in-Word.is) _ c.target_width-n.ensures _
    c.write_bits.ensures

pub returns-in_default : goal.returns-in_default
returns-in_default c =
    ByKind.unknown_run c.requires.shown c.args.i (record_of c.record_at-record.result) c.record_at-record.ensures _ c.requires.safe
    c.in_default.ensures.number

pub returns-in-Fail : goal.returns-in-Fail
returns-in-Fail c =
    ByKind.no_run c.requires.shown c.args.i (record_of c.record_at-record.result) c.record_at-record.ensures _ c.requires.safe
    c.in-Some.kind c.in-Some.ensures.number c.in-Fail.is
