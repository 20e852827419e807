-- `table::kind_of` meets its contract: the kind with the record's number, where there is one.
use Rattle.table.proofs.KindNumbers.{told, said}
use Rattle.table.proofs.kind_of.Goals as goal

pub returns-clause-number : goal.returns-clause-number
returns-clause-number c = rw c.ok.ensures.value (told _ _ c.try_from.ensures)

pub returns-clause-meant : goal.returns-clause-meant
returns-clause-meant c = rw c.ok.ensures.value (said _ _ (told _ _ c.try_from.ensures))
