-- `decode::Reader::node_head` meets its contract: by the five bits of its code, or bit by bit.
use mathlib.Core.Path.{◌≡◌, sym, ap, ◌∙◌}
use borrow.Author.Rules.{rules}
use Prim.Native.Nat.{ℕ, ◌+◌, ◌<◌, ◌≤◌}
use native.Mathlib.Omega.{arith}
use Rattle.std.specs.Prelude.{Ok}
use Rattle.scope.specs.Nodes.{kind_number}
use Rattle.scope.specs.Numbers.{stream_of}
use Rattle.scope.specs.Reading.{got, code}
use Rattle.bititer.specs.Windows.{window_bits}
use Rattle.bititer.proofs.Streams.{length_stream, code_got}
use Rattle.table.specs.Answers.{kind_meant}
use Rattle.decode.specs.declared.NodeHead.{NodeHead}
use Rattle.decode.specs.declared.Follows.{Follows}
use Rattle.decode.specs.Heads.{at_node, head_of, plain, two_children, one_child}
use Rattle.decode.proofs.Heads.{kind_two, kind_one, kind_none}
use Rattle.decode.proofs.Reader.node_head.Goals as goal

pub overflow_add-next : goal.overflow_add-next
overflow_add-next c =
    let a = c.args in
    let program = a.self.now.program.now in
    let w = c.in-Some.w in
    let read : code (stream_of program) window_bits a.at ≡ got w (a.at + window_bits) =
    sym c.in-Some.ensures in
    omega (arith, code_got (stream_of program) window_bits a.at w _ read, length_stream program)

pub returns-in-Comp : goal.returns-in-Comp
returns-in-Comp c =
    let a = c.args in
    let program = a.self.now.program.now in
    let w = c.in-Some.w in
    let number = c.in-Ok.ensures in
    let small : kind_number (kind_meant c.in-Ok.kind) < 4 = search rules in
    c.two_children.ensures
    ∙ ap (λ (k : ℕ). at_node a.i (two_children (stream_of program) k a.i (a.at + 5))) number
    ∙ ap (at_node a.i) (sym (kind_two program a.i a.at a.held w (sym c.in-Some.ensures) (omega (arith, number)) (omega (arith, number))))

pub returns-in-Injl : goal.returns-in-Injl
returns-in-Injl c =
    let a = c.args in
    let program = a.self.now.program.now in
    let w = c.in-Some.w in
    let number = c.in-Ok.ensures in
    let large : 4 ≤ kind_number (kind_meant c.in-Ok.kind) = search rules in
    let small : kind_number (kind_meant c.in-Ok.kind) < 8 = search rules in
    c.one_child.ensures
    ∙ ap (λ (k : ℕ). at_node a.i (one_child (stream_of program) k a.i (a.at + 5))) number
    ∙ ap (at_node a.i) (sym (kind_one program a.i a.at a.held w (sym c.in-Some.ensures)
    (omega (arith, number)) (omega (arith, number)) (omega (arith, number))))

pub returns-in-Iden : goal.returns-in-Iden
returns-in-Iden c =
    let a = c.args in
    let program = a.self.now.program.now in
    let w = c.in-Some.w in
    let number = c.in-Ok.ensures in
    let large : 8 ≤ kind_number (kind_meant c.in-Ok.kind) = search rules in
    let small : kind_number (kind_meant c.in-Ok.kind) < 10 = search rules in
    ap (λ (h : NodeHead). head_of (stream_of program) a.i (Ok (h, a.at + 5)))
    (c.head.ensures ∙ ap (λ (k : ℕ). plain k 0 0 Follows.Nothing) number)
    ∙ ap (at_node a.i) (kind_none program a.i a.at a.held w (sym c.in-Some.ensures)
    (omega (arith, number)) (omega (arith, number)) (omega (arith, number)))
