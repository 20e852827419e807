-- `ready::check_input` meets its contract: the value that is read from the front, and whether it is all.
use mathlib.Core.Path.{sym, ◌∙◌}
use Rattle.scope.specs.Types.{type_records, ty_at}
use Rattle.ready.proofs.Verdicts.{input_held, input_short, input_left, input_whole}
use Rattle.ready.proofs.check_input.Goals as goal

pub returns-in_default : goal.returns-in_default
returns-in_default c =
    let held-call = c.held-bits in
    let a = c.args in
    input_short (ty_at (type_records a.shapes.now.shapes.types.now) a.source) a.input.now a.count
    (input_held (ty_at (type_records a.shapes.now.shapes.types.now) a.source) a.input.now a.count held-call.result.now
    held-call.ensures _ (sym c.in_default.is ∙ c.value_end.ensures))

pub returns-then-not-all_used : goal.returns-then-not-all_used
returns-then-not-all_used c =
    let held-call = c.held-bits in
    let a = c.args in
    input_left (ty_at (type_records a.shapes.now.shapes.types.now) a.source) a.input.now a.count c.in-Some.end
    (input_held (ty_at (type_records a.shapes.now.shapes.types.now) a.source) a.input.now a.count held-call.result.now held-call.ensures _
    (sym c.in-Some.is ∙ c.value_end.ensures))
    (sym c.all_used.ensures ∙ c.if-not-all_used.true)

pub returns : goal.returns
returns c =
    let held-call = c.held-bits in
    let a = c.args in
    input_whole (ty_at (type_records a.shapes.now.shapes.types.now) a.source) a.input.now a.count c.in-Some.end
    (input_held (ty_at (type_records a.shapes.now.shapes.types.now) a.source) a.input.now a.count held-call.result.now held-call.ensures _
    (sym c.in-Some.is ∙ c.value_end.ensures))
    (sym c.all_used.ensures ∙ c.if-not-all_used.false)
