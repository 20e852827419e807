-- `decode::Reader::two_children` meets its contract: the first child is refused, or the second, or both are read.
use mathlib.Core.Path.{ap, sym, ◌∙◌}
use Rattle.std.specs.Prelude.{Ok}
use Rattle.scope.specs.Nodes.{kind_number}
use Rattle.scope.specs.Reading.{child}
use Rattle.scope.specs.Numbers.{stream_of}
use Rattle.common.specs.Answers.{handed_on}
use Rattle.table.specs.Answers.{kind_meant}
use Rattle.decode.specs.declared.NodeHead.{NodeHead}
use Rattle.decode.specs.Heads.{head_of}
use Rattle.decode.proofs.Heads.{was_read, first_stops, second_stops, both_read}
use Rattle.decode.proofs.Reader.two_children.Goals as goal

pub returns-in_err-left : goal.returns-in_err-left
returns-in_err-left c =
    let bits = stream_of c.args.self.now.program.now in
    ap (head_of bits c.args.i) (handed_on c.from_residual.result c.in_err-left.was c.from_residual.ensures.1)
    ∙ first_stops bits c.args.i c.args.at (kind_number (kind_meant c.args.kind)) _ (sym c.in_err-left.ensures)

pub returns-in_err-right : goal.returns-in_err-right
returns-in_err-right c =
    let bits = stream_of c.args.self.now.program.now in
    let i = c.args.i in
    let at = c.args.at in
    let handed = c.from_residual-in_err-right in
    ap (head_of bits i) (handed_on handed.result c.in_err-right.was handed.ensures.1)
    ∙ second_stops bits i at (kind_number (kind_meant c.args.kind)) _ _ _ (was_read i (child bits i at) c.in_ok-left.ensures) (sym c.in_err-right.ensures)

pub returns : goal.returns
returns c =
    let bits = stream_of c.args.self.now.program.now in
    let i = c.args.i in
    let at = c.args.at in
    let m = c.in_ok-left.middle in
    let n = c.in_ok-right.next in
    ap (λ (h : NodeHead). head_of bits i (Ok (h, n))) c.head.ensures
    ∙ both_read bits i at (kind_number (kind_meant c.args.kind)) _ m _ n (was_read i (child bits i at) c.in_ok-left.ensures) (was_read i (child bits i m) c.in_ok-right.ensures)
