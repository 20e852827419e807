-- `decode::Reader::number` meets its contract: a natural that the table tells of is within its bound or not, and any other is read length by length.
use mathlib.Core.Path.{sym, ap}
use Rattle.scope.specs.Numbers.{stream_of}
use Rattle.scope.specs.Reading.{refusal_at}
use Rattle.bititer.proofs.Naturals.{up_to_over, up_to_read}
use Rattle.decode.specs.Heads.{at_node}
use Rattle.decode.proofs.Reader.number.Goals as goal

pub returns-then-most-n : goal.returns-then-most-n
unfolding at_node refusal_at
returns-then-most-n c =
    let a = c.args in
    let bits = stream_of a.self.now.program.now in
    let told = c.in-Some.ensures in
    ap (at_node a.i) (sym (up_to_over bits a.most a.at c.in-Some.n _ told.0 c.if-most-n.true))

pub returns : goal.returns
unfolding at_node refusal_at
returns c =
    let a = c.args in
    let bits = stream_of a.self.now.program.now in
    let told = c.in-Some.ensures in
    ap (at_node a.i) (sym (up_to_read bits a.most a.at c.in-Some.n c.in-Some.next told.0 told.1 told.2 c.if-most-n.false))
