-- `common::part` meets its contract: the part stands where its place is cut off at the end.
use borrow.Author.Rules.{rules}
use Rattle.promise.specs.Parts.{part_of, cut_past, cut_rest, cut_within}
use Rattle.common.proofs.part.Goals as goal

pub returns-then-all-at : goal.returns-then-all-at
returns-then-all-at c =
    let g = c.args in
    cut_past (part_of g.bytes) g.at g.n c.if-all-at.true

pub returns-then-all-at-2 : goal.returns-then-all-at-2
returns-then-all-at-2 c = cut_rest _ _ _ (search rules) c.if-all-at-2.true

pub returns : goal.returns
returns c = cut_within _ _ _ (search rules)
