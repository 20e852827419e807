-- `header::start` meets its contract: the loop carries where section j has to start.
use mathlib.Core.Path.{refl}
use borrow.Author.Rules.{rules}
use Rattle.scope.specs.Header as Header
use Rattle.header.proofs.Rules.{next_start}
use Rattle.header.proofs.start.Goals as goal

pub loop-j-init : goal.loop-j-init
unfolding Header.start
loop-j-init c = (refl, search rules)

pub loop-j-preserved : goal.loop-j-preserved
loop-j-preserved c =
    let l = c.loop-j in
    (next_start c.args.dossier.now l.j l.place c.size-place.result l.invariant.0 c.size-place.ensures.0, search rules)
