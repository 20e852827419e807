-- `arrow::arrow_at` meets its contract.
use mathlib.Core.Path.{sym, ap, ap₂, ◌∙◌}
use Prim.Native.Nat.{◌/◌}
use lib.ListN.{length, get_or}
use Rattle.limits.specs.Limits.{arrow_bytes}
use Rattle.scope.specs.Arrows.{no_arrow, arrow_record, arrow_records}
use Rattle.common.specs.Tables.{tabulate_at, tabulate_past}
use Rattle.arrow.proofs.arrow_at.Goals as goal

pub returns-then-k-arrows : goal.returns-then-k-arrows
unfolding arrow_records arrow_record
returns-then-k-arrows c =
    let bytes = c.args.arrows.now in
    ap₂ (λ s t. record { source = s; target = t }) (c.from.ensures ∙ c.half_at.ensures) (c.from-then-k-arrows.ensures ∙ c.half_at-then-k-arrows.ensures)
    ∙ sym (tabulate_at (arrow_record bytes) (length bytes / arrow_bytes) c.place-k.result no_arrow c.if-k-arrows.true)
    ∙ ap (λ k. get_or (arrow_records bytes) k no_arrow) c.place-k.ensures.0

pub returns : goal.returns
unfolding arrow_records arrow_record
returns c =
    let bytes = c.args.arrows.now in
    sym (tabulate_past (arrow_record bytes) (length bytes / arrow_bytes) c.place-k.result no_arrow c.if-k-arrows.false)
    ∙ ap (λ k. get_or (arrow_records bytes) k no_arrow) c.place-k.ensures.0
