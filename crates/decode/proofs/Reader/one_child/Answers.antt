-- `decode::Reader::one_child` meets its contract: the child is refused, or read.
use mathlib.Core.Path.{ap, sym, ◌∙◌}
use Rattle.std.specs.Prelude.{Ok}
use Rattle.scope.specs.Nodes.{kind_number}
use Rattle.scope.specs.Reading.{child}
use Rattle.scope.specs.Numbers.{stream_of}
use Rattle.common.specs.Answers.{handed_on}
use Rattle.table.specs.Answers.{kind_meant}
use Rattle.decode.specs.declared.NodeHead.{NodeHead}
use Rattle.decode.specs.Heads.{head_of}
use Rattle.decode.proofs.Heads.{was_read, only_stops, only_read}
use Rattle.decode.proofs.Reader.one_child.Goals as goal

pub returns-in_err-only : goal.returns-in_err-only
returns-in_err-only c =
    let bits = stream_of c.args.self.now.program.now in
    ap (head_of bits c.args.i) (handed_on c.from_residual.result c.in_err-only.was c.from_residual.ensures.1)
    ∙ only_stops bits c.args.i c.args.at (kind_number (kind_meant c.args.kind)) _ (sym c.in_err-only.ensures)

pub returns : goal.returns
returns c =
    let bits = stream_of c.args.self.now.program.now in
    let i = c.args.i in
    let n = c.in_ok-only.next in
    ap (λ (h : NodeHead). head_of bits i (Ok (h, n))) c.head.ensures
    ∙ only_read bits i c.args.at (kind_number (kind_meant c.args.kind)) _ n (was_read i (child bits i c.args.at) c.in_ok-only.ensures)
