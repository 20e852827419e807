-- `dossier::settle` meets its contract.
use Rattle.dossier.proofs.Settled.{settled_kept, settled-cleared}
use mathlib.Core.Path.{sym, ◌∙◌}
use Rattle.dossier.proofs.settle.Goals as goal

pub returns-then-keeps : goal.returns-then-keeps
returns-then-keeps c =
    record {
      nodes_after = settled_kept _ _ (sym c.if-keeps.true ∙ c.keeps.ensures);
      hashes_after = settled_kept _ _ (sym c.if-keeps.true ∙ c.keeps.ensures);
    }

pub returns : goal.returns
returns c =
    let keeps-call = c.keeps in
    let if1-found = c.if-keeps in record {
      nodes_after = c.fill_from.ensures
          ∙ settled-cleared _ _ (sym if1-found.false ∙ keeps-call.ensures);
      hashes_after = c.fill_from-2.ensures ∙ settled-cleared _ _ (sym if1-found.false ∙ keeps-call.ensures);
    }
