-- `decode::Reader::combinator` meets its contract, code by code.
use mathlib.Core.Path.{◌≡◌, sym, ap, ◌∙◌}
use Prim.Native.Nat.{ℕ}
use native.Mathlib.Omega.{arith}
use Rattle.scope.specs.Numbers.{stream_of}
use Rattle.scope.specs.Reading.{code}
use Rattle.common.specs.Answers.{handed_on}
use Rattle.decode.specs.Heads.{at_node, head_of, two_children, one_child}
use Rattle.decode.proofs.Heads.{was_read, subcode, combinator-last, combinator_stops, combinator_two, combinator_one, combinator-third}
use Rattle.decode.proofs.Reader.combinator.Goals as goal

pub returns-then-code-ge3 : goal.returns-then-code-ge3
returns-then-code-ge3 c =
    let bits = stream_of c.args.self.now.program.now in
    let a = c.args in
    c.last_group.ensures ∙ ap (at_node a.i) (sym (combinator-last bits a.i a.at a.held a.code c.if-code-ge3.true))

pub returns-in_err-sub : goal.returns-in_err-sub
returns-in_err-sub c =
    let bits = stream_of c.args.self.now.program.now in
    let a = c.args in
    ap (head_of bits a.i) (handed_on c.from_residual.result c.in_err-sub.was c.from_residual.ensures.1)
    ∙ combinator_stops bits a.i a.at a.held a.code _ c.if-code-ge3.false (sym c.in_err-sub.ensures)

pub returns-in-0 : goal.returns-in-0
returns-in-0 c =
    let bits = stream_of c.args.self.now.program.now in
    let a = c.args in
    let sub = c.in_ok-sub in
    let e = was_read a.i (code bits 2 a.at) sub.ensures in
    c.two_children.ensures ∙ ap (λ (k : ℕ). at_node a.i (two_children bits k a.i sub.next)) c.kind_of_two.ensures
    ∙ ap (at_node a.i) (sym (combinator_two bits a.i a.at a.held a.code sub.sub sub.next c.in-0.is e))

pub returns-in-1 : goal.returns-in-1
returns-in-1 c =
    let bits = stream_of c.args.self.now.program.now in
    let a = c.args in
    let sub = c.in_ok-sub in
    let e = was_read a.i (code bits 2 a.at) sub.ensures in
    c.one_child.ensures ∙ ap (λ (k : ℕ). at_node a.i (one_child bits k a.i sub.next)) c.kind_of_one.ensures
    ∙ ap (at_node a.i) (sym (combinator_one bits a.i a.at a.held a.code sub.sub sub.next c.in-1.is e))

pub returns-in_default : goal.returns-in_default
returns-in_default c =
    let bits = stream_of c.args.self.now.program.now in
    let a = c.args in
    let sub = c.in_ok-sub in
    let e = was_read a.i (code bits 2 a.at) sub.ensures in
    let q : a.code ≡ 2 = omega arith in
    c.third_group.ensures ∙ ap (at_node a.i) (sym (combinator-third bits a.i a.at a.held a.code sub.sub sub.next q e))

pub kind_of_two-requires : goal.kind_of_two-requires
kind_of_two-requires c =
    let a = c.args in
    let sub = c.in_ok-sub in
    let e = was_read a.i (code (stream_of a.self.now.program.now) 2 a.at) sub.ensures in
    omega (arith, subcode a.self.now.program.now a.at sub.sub sub.next e)

pub kind_of_one-requires : goal.kind_of_one-requires
kind_of_one-requires c =
    let a = c.args in
    let sub = c.in_ok-sub in
    let e = was_read a.i (code (stream_of a.self.now.program.now) 2 a.at) sub.ensures in
    omega (arith, subcode a.self.now.program.now a.at sub.sub sub.next e)

pub third_group-requires : goal.third_group-requires
third_group-requires c =
    let a = c.args in
    let sub = c.in_ok-sub in
    let e = was_read a.i (code (stream_of a.self.now.program.now) 2 a.at) sub.ensures in
    subcode a.self.now.program.now a.at sub.sub sub.next e
