-- `table::hidden_before` meets its contract: the nodes below i are tried one by one.
use borrow.Author.Rules.{rules}
use borrow.Author.Tests.{tests}
use native.Mathlib.Omega.{arith}
use mathlib.Core.Path.{refl, ◌∙◌}
use Rattle.std.proofs.lemmas.Iterator.{YieldsList-from_range}
use Rattle.std.proofs.lemmas.Iterator.Search.{any_from_yields_List}
use Rattle.scope.specs.Walk.{hides}
use Rattle.table.specs.Lent.{lent_nodes}
use Rattle.table.proofs.Tests.{any_tried}
use Rattle.table.proofs.hidden_before.Goals as goal

pub returns : goal.returns
returns c =
    let test = hides (lent_nodes c.args.hashes.now c.args.nodes.now) c.args.hash.now in
    any_from_yields_List test _ _ c.any.result c.any.ensures.ran (YieldsList-from_range 0 c.args.i c.args.i refl (omega arith)) (λ x b q k. search (rules, tests))
    ∙ any_tried test c.args.i
