-- `table::is_hidden` meets its contract: the kind hidden, and no other.
use Rattle.table.proofs.Groups.{hidden_by}
use Rattle.table.proofs.KindNumbers.{is_kind}
use mathlib.Core.Path.{sym, ◌∙◌}
use Rattle.table.proofs.is_hidden.Goals as goal

pub returns : goal.returns
returns c = c.eq.ensures ∙ is_kind _ _ _ c.kind_of.ensures.number ∙ sym (hidden_by c.args.r.kind)
