use native.Mathlib.Omega.{arith}
use mathlib.Core.Path.{sym, ap, ◌∙◌}
use mathlib.Core.List.{[]}
use Rattle.bit_machine.proofs.ByKind
use Rattle.table.specs.Answers.{record_of}
use Rattle.scope.specs.Nodes.{NodeRecord}
use Rattle.layout.proofs.Safe.{read_over, fed_bits}
use Rattle.bit_machine.proofs.Needs.{within_fed}
use Rattle.lookup.specs.declared.Padding.{Padding}
use Rattle.bit_machine.proofs.engine.branch.Goals as goal

pub peek-bit-requires : goal.peek-bit-requires
peek-bit-requires c =
    let record-at-call = c.record_at-record in
    ByKind.case_look c.requires.shown c.args.i (record_of record-at-call.result) record-at-call.ensures _ c.requires.safe
    ((ap (λ (r : NodeRecord). r.kind) record-at-call.ensures) ∙ c.requires.i_value)

pub returns-then-hidden_at : goal.returns-then-hidden_at
returns-then-hidden_at c =
    let record-at-call = c.record_at-record in
    ByKind.left_pruned c.requires.shown c.args.i (record_of record-at-call.result) record-at-call.ensures _
    c.requires.safe ((ap (λ (r : NodeRecord). r.kind) record-at-call.ensures) ∙ c.requires.i_value)
    (sym c.peek-bit.ensures ∙ c.if-bit-eq0.true) _ c.hidden_at.ensures c.if-hidden_at.true

pub overflow_add-n : goal.overflow_add-n
overflow_add-n c =
    let source-at-call = c.source_at in
    let left-of-call = c.left_of-sum in
    let record-at-call = c.record_at-record in
    let h = (ByKind.left_need c.requires.shown c.args.i (record_of record-at-call.result) record-at-call.ensures _
    c.requires.safe ((ap (λ (r : NodeRecord). r.kind) record-at-call.ensures) ∙ c.requires.i_value)
    (sym c.peek-bit.ensures ∙ c.if-bit-eq0.true) _
    c.hidden_at.ensures c.if-hidden_at.false _ (rw (left-of-call.ensures, source-at-call.ensures) at (ap
    (λ (p : Padding). p.left) c.padding_at-padding.ensures)) (omega arith)).fits in
    omega (arith, fed_bits (within_fed c.requires.within))

pub forward-requires : goal.forward-requires
forward-requires c =
    let source-at-call = c.source_at in
    let left-of-call = c.left_of-sum in
    let padding-at-call = c.padding_at-padding in
    let record-at-call = c.record_at-record in
    λ pos. read_over [] (fed_bits (within_fed c.requires.within))
    (ByKind.left_need c.requires.shown c.args.i (record_of record-at-call.result) record-at-call.ensures _
    c.requires.safe ((ap (λ (r : NodeRecord). r.kind) record-at-call.ensures) ∙ c.requires.i_value)
    (sym c.peek-bit.ensures ∙ c.if-bit-eq0.true) _
    c.hidden_at.ensures c.if-hidden_at.false _
    (rw (left-of-call.ensures, source-at-call.ensures) at (ap (λ (p : Padding). p.left) padding-at-call.ensures)) pos)

pub returns-then-bit-eq0 : goal.returns-then-bit-eq0
returns-then-bit-eq0 c =
    let source-at-call = c.source_at in
    let left-of-call = c.left_of-sum in
    let padding-at-call = c.padding_at-padding in
    let peek-call = c.peek-bit in
    let record-at-call = c.record_at-record in
    ByKind.left_one c.requires.shown c.args.i (record_of record-at-call.result) record-at-call.ensures _ c.requires.safe
    ((ap (λ (r : NodeRecord). r.kind) record-at-call.ensures) ∙ c.requires.i_value)
    (sym peek-call.ensures ∙ c.if-bit-eq0.true) _
    c.hidden_at.ensures c.if-hidden_at.false _
    (rw (left-of-call.ensures, source-at-call.ensures) at (ap (λ (p : Padding). p.left) padding-at-call.ensures)) _
    (c.forward.ensures _)

pub returns-then-hidden_at-2 : goal.returns-then-hidden_at-2
returns-then-hidden_at-2 c =
    let record-at-call = c.record_at-record in
    ByKind.right_pruned c.requires.shown c.args.i (record_of record-at-call.result) record-at-call.ensures _
    c.requires.safe ((ap (λ (r : NodeRecord). r.kind) record-at-call.ensures) ∙ c.requires.i_value)
    (λ z. c.if-bit-eq0.false (c.peek-bit.ensures ∙ z)) _ c.hidden_at-2.ensures c.if-hidden_at-2.true

pub overflow_add-n-2 : goal.overflow_add-n-2
overflow_add-n-2 c =
    let source-at-call = c.source_at in
    let left-of-call = c.left_of-sum in
    let record-at-call = c.record_at-record in
    let h = (ByKind.right_need c.requires.shown c.args.i (record_of record-at-call.result) record-at-call.ensures _
    c.requires.safe ((ap (λ (r : NodeRecord). r.kind) record-at-call.ensures) ∙ c.requires.i_value)
    (λ z. c.if-bit-eq0.false (c.peek-bit.ensures ∙ z)) _
    c.hidden_at-2.ensures c.if-hidden_at-2.false _ (rw (left-of-call.ensures, source-at-call.ensures) at (ap
    (λ (p : Padding). p.right) c.padding_at-padding.ensures)) (omega arith)).fits in
    omega (arith, fed_bits (within_fed c.requires.within))

pub forward-requires-2 : goal.forward-requires-2
forward-requires-2 c =
    let source-at-call = c.source_at in
    let left-of-call = c.left_of-sum in
    let padding-at-call = c.padding_at-padding in
    let record-at-call = c.record_at-record in
    λ pos. read_over [] (fed_bits (within_fed c.requires.within))
    (ByKind.right_need c.requires.shown c.args.i (record_of record-at-call.result) record-at-call.ensures _
    c.requires.safe ((ap (λ (r : NodeRecord). r.kind) record-at-call.ensures) ∙ c.requires.i_value)
    (λ z. c.if-bit-eq0.false (c.peek-bit.ensures ∙ z)) _
    c.hidden_at-2.ensures c.if-hidden_at-2.false _
    (rw (left-of-call.ensures, source-at-call.ensures) at (ap (λ (p : Padding). p.right) padding-at-call.ensures)) pos)

pub returns : goal.returns
returns c =
    let source-at-call = c.source_at in
    let left-of-call = c.left_of-sum in
    let padding-at-call = c.padding_at-padding in
    let peek-call = c.peek-bit in
    let record-at-call = c.record_at-record in
    ByKind.right_one c.requires.shown c.args.i (record_of record-at-call.result) record-at-call.ensures _ c.requires.safe
    ((ap (λ (r : NodeRecord). r.kind) record-at-call.ensures) ∙ c.requires.i_value)
    (λ z. c.if-bit-eq0.false (peek-call.ensures ∙ z)) _
    c.hidden_at-2.ensures c.if-hidden_at-2.false _
    (rw (left-of-call.ensures, source-at-call.ensures) at (ap (λ (p : Padding). p.right) padding-at-call.ensures)) _
    (c.forward-2.ensures _)
