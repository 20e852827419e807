-- `arrow::kind_fits` meets its contract: the kinds without children, whose rules are told here.
use borrow.Author.Rules.{rules}
use Rattle.scope.specs.Numbers.{every}
use Rattle.scope.specs.Nodes.{node_of}
use Rattle.scope.specs.Arrows.{kind_rule}
use Rattle.arrow.proofs.kind_fits.Goals as goal

pub returns-in_default : goal.returns-in_default
unfolding kind_rule node_of every
returns-in_default c = search rules

pub returns-in-Iden : goal.returns-in-Iden
unfolding kind_rule node_of every
returns-in-Iden c = search rules

pub returns-in-Unit : goal.returns-in-Unit
unfolding kind_rule node_of every
returns-in-Unit c = search rules

pub returns-in-Fail : goal.returns-in-Fail
unfolding kind_rule node_of every
returns-in-Fail c = search rules

pub returns-in-Disconnect1 : goal.returns-in-Disconnect1
unfolding kind_rule node_of every
returns-in-Disconnect1 c = search rules

pub returns-then-from-eq0 : goal.returns-then-from-eq0
unfolding kind_rule node_of every
returns-then-from-eq0 c = search rules

pub returns-else-from-eq0 : goal.returns-else-from-eq0
unfolding kind_rule node_of every
returns-else-from-eq0 c = search rules
