-- `hashes::clashes` meets its contract: the entries below e are tried one by one.
use borrow.Author.Rules.{rules}
use borrow.Author.Tests.{tests}
use mathlib.Core.Path.{refl, ◌∙◌}
use native.Mathlib.Omega.{arith}
use Rattle.std.proofs.lemmas.Iterator.{YieldsList-from_range}
use Rattle.std.proofs.lemmas.Iterator.Search.{any_from_yields_List}
use Rattle.table.proofs.Tests.{any_tried}
use Rattle.hashes.specs.Hashes.{unlike_at}
use Rattle.hashes.proofs.clashes.Goals as goal

pub returns : goal.returns
returns c =
    let test = unlike_at c.args.children.now c.args.given.now c.args.e in
    any_from_yields_List test _ _ c.any.result c.any.ensures.ran (YieldsList-from_range 0 c.args.e c.args.e refl (omega arith)) (λ x b q k. search (rules, tests))
    ∙ any_tried test c.args.e
