-- `ready::value_end` meets its contract: the end in all bits, if the first ones reach so far.
use mathlib.Core.Path.{sym, ◌∙◌}
use native.Mathlib.Omega.{arith}
use lib.ListN.{drop}
use Rattle.scope.specs.Types.{type_records, ty_at}
use Rattle.scope.specs.Numbers.{stream_of}
use Rattle.ready.proofs.Checked.{shapes_shown}
use Rattle.ready.proofs.Ends.{skip_ends}
use Rattle.ready.proofs.FirstBits.{ends_nowhere, ends_past, ends_within}
use Rattle.ready.proofs.value_end.Goals as goal

pub returns-in_err-end : goal.returns-in_err-end
returns-in_err-end c =
    let a = c.args in
    c.from_residual.ensures
    ∙ ends_nowhere (ty_at (type_records a.shapes.now.shapes.types.now) a.i) a.p a.count (stream_of a.s.now)
    (sym c.in_err-end.was ∙ c.skip.ensures ∙ skip_ends _ _ _ (shapes_shown a.shapes.now) a.i a.p (drop a.p (stream_of a.s.now)))

pub returns-then-place-end : goal.returns-then-place-end
returns-then-place-end c =
    let a = c.args in
    ends_past (ty_at (type_records a.shapes.now.shapes.types.now) a.i) a.p a.count (stream_of a.s.now) c.in_ok-end.end
    (sym c.in_ok-end.was ∙ c.skip.ensures
    ∙ skip_ends _ _ _ (shapes_shown a.shapes.now) a.i a.p (drop a.p (stream_of a.s.now)))
    c.requires (omega arith)

pub returns : goal.returns
returns c =
    let a = c.args in
    ends_within (ty_at (type_records a.shapes.now.shapes.types.now) a.i) a.p a.count (stream_of a.s.now) c.in_ok-end.end
    (sym c.in_ok-end.was ∙ c.skip.ensures
    ∙ skip_ends _ _ _ (shapes_shown a.shapes.now) a.i a.p (drop a.p (stream_of a.s.now)))
    c.requires (omega arith)
