-- `decode::Reader::last_group` meets its contract: one bit tells a witness from a hidden node.
use mathlib.Core.Path.{ap, sym, ◌∙◌}
use Rattle.std.specs.Prelude.{Ok}
use Rattle.scope.specs.Numbers.{stream_of}
use Rattle.scope.specs.Reading.{code}
use Rattle.common.specs.Answers.{handed_on}
use Rattle.decode.specs.declared.NodeHead.{NodeHead}
use Rattle.decode.specs.Heads.{at_node, head_of}
use Rattle.decode.proofs.Heads.{was_read, last_stops, last_witness, last_hidden}
use Rattle.decode.proofs.Reader.last_group.Goals as goal

pub returns-in_err-sub : goal.returns-in_err-sub
returns-in_err-sub c =
    let bits = stream_of c.args.self.now.program.now in
    let a = c.args in
    ap (head_of bits a.i) (handed_on c.from_residual.result c.in_err-sub.was c.from_residual.ensures.1)
    ∙ last_stops bits a.i a.at a.held _ (sym c.in_err-sub.ensures)

pub returns-then-sub-eq1 : goal.returns-then-sub-eq1
returns-then-sub-eq1 c =
    let bits = stream_of c.args.self.now.program.now in
    let a = c.args in
    let sub = c.in_ok-sub in
    ap (λ (h : NodeHead). head_of bits a.i (Ok (h, sub.next))) c.head.ensures
    ∙ ap (at_node a.i) (last_witness bits a.i a.at a.held sub.sub sub.next (was_read a.i (code bits 1 a.at) sub.ensures) c.if-sub-eq1.true)

pub returns : goal.returns
returns c =
    let bits = stream_of c.args.self.now.program.now in
    let a = c.args in
    let sub = c.in_ok-sub in
    ap (λ (h : NodeHead). head_of bits a.i (Ok (h, sub.next))) c.head-2.ensures
    ∙ ap (at_node a.i) (last_hidden bits a.i a.at a.held sub.sub sub.next (was_read a.i (code bits 1 a.at) sub.ensures) c.if-sub-eq1.false)
