-- `table::hash_of` meets its contract: the bytes from the position on, as far as the store has them.
use borrow.Author.Tests.{eqb-true, eqb-false}
use Rattle.table.proofs.Hashes.{hash_at}
use Rattle.table.proofs.Groups.{hidden_by, no_hash}
use Rattle.promise.specs.Parts.{Part}
use mathlib.Core.Path.{sym, ap, ◌∙◌}
use Rattle.table.proofs.hash_of.Goals as goal

pub returns-then-not-is_hidden : goal.returns-then-not-is_hidden
returns-then-not-is_hidden c = sym (no_hash _ _ _ _ (eqb-false _ _ (sym (c.is_hidden.ensures ∙ hidden_by _) ∙ c.if-not-is_hidden.true)))

pub returns : goal.returns
returns c =
    ap (λ (p : Part). p.bytes) c.part.ensures
    ∙ hash_at _ _ _ _ _ (eqb-true _ _ (sym (c.is_hidden.ensures ∙ hidden_by _) ∙ c.if-not-is_hidden.false)) c.place.ensures.0
