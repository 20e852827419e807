-- `table::allowed` meets its contract: a hidden node, a case, any other node.
use Rattle.table.proofs.KindNumbers.{of_kind, not_of_kind}
use Rattle.table.proofs.Steps.{asks_hidden, asks_case, asks_other}
use mathlib.Core.Path.{sym, ◌∙◌}
use Rattle.table.proofs.allowed.Goals as goal

pub returns-then-is_hidden : goal.returns-then-is_hidden
returns-then-is_hidden c =
    c.not_repeated.ensures
    ∙ sym (asks_hidden _ _ _ _ c.record_at-r.ensures (sym c.is_hidden.ensures ∙ c.if-is_hidden.true))

pub returns-then-eq : goal.returns-then-eq
returns-then-eq c =
    c.one_hidden.ensures
    ∙ sym (asks_case _ _ _ _ c.record_at-r.ensures _ _ _ _ c.left_child.ensures
    c.right_child.ensures c.hidden_at-left.ensures c.hidden_at-right.ensures
    (of_kind _ _ _ c.eq.ensures c.kind_of.ensures.number c.if-eq.true))

pub returns : goal.returns
returns c =
    c.none_hidden.ensures
    ∙ sym (asks_other _ _ _ _ c.record_at-r.ensures _ _ _ _ c.left_child.ensures
    c.right_child.ensures c.hidden_at-left.ensures c.hidden_at-right.ensures
    (not_of_kind _ _ _ c.eq.ensures c.kind_of.ensures.number c.if-eq.false)
    (sym c.is_hidden.ensures ∙ c.if-is_hidden.false))
