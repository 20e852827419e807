-- `decode::Reader::third_group` meets its contract, subcode by subcode.
use mathlib.Core.Path.{sym, ap, ◌∙◌}
use native.Mathlib.Omega.{arith}
use Rattle.std.specs.Prelude.{Ok}
use Rattle.scope.specs.Numbers.{stream_of}
use Rattle.decode.specs.declared.NodeHead.{NodeHead}
use Rattle.decode.specs.Heads.{at_node, head_of}
use Rattle.decode.proofs.Heads.{third_child, third_fail, third_leaf}
use Rattle.decode.proofs.Reader.third_group.Goals as goal

pub returns-in-0 : goal.returns-in-0
returns-in-0 c =
    let a = c.args in
    let bits = stream_of a.self.now.program.now in
    ap (λ (h : NodeHead). head_of bits a.i (Ok (h, a.at))) c.head.ensures
    ∙ ap (at_node a.i) (third_leaf bits a.i a.at a.held a.sub _ (omega arith) (omega arith))

pub returns-in-1 : goal.returns-in-1
returns-in-1 c =
    let a = c.args in
    let bits = stream_of a.self.now.program.now in
    ap (λ (h : NodeHead). head_of bits a.i (Ok (h, a.at))) c.head-in-1.ensures
    ∙ ap (at_node a.i) (third_leaf bits a.i a.at a.held a.sub _ (omega arith) (omega arith))

pub returns-in-2 : goal.returns-in-2
returns-in-2 c =
    let a = c.args in
    let bits = stream_of a.self.now.program.now in
    ap (λ (h : NodeHead). head_of bits a.i (Ok (h, a.at))) c.head-in-2.ensures
    ∙ ap (at_node a.i) (third_fail bits a.i a.at a.held a.sub c.in-2.is)

pub returns-in_default : goal.returns-in_default
returns-in_default c =
    let a = c.args in
    let bits = stream_of a.self.now.program.now in
    c.one_child.ensures ∙ ap (at_node a.i) (sym (third_child bits a.i a.at a.held a.sub (omega arith)))
