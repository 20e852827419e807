-- `decode::Reader::head_by_bits` meets its contract: the first bits tell a combinator, a jet and a word apart.
use mathlib.Core.Path.{sym, ap, ◌∙◌}
use Rattle.scope.specs.Numbers.{stream_of}
use Rattle.scope.specs.Reading.{code}
use Rattle.common.specs.Answers.{handed_on}
use Rattle.decode.specs.Heads.{at_node, head_of}
use Rattle.decode.proofs.Heads.{was_read, node_stops, code_stops, code_read, jet_stops, jet_read, no_jet}
use Rattle.decode.proofs.Reader.head_by_bits.Goals as goal

pub returns-in_err-other : goal.returns-in_err-other
returns-in_err-other c =
    let bits = stream_of c.args.self.now.program.now in
    let a = c.args in
    ap (head_of bits a.i) (handed_on c.from_residual.result c.in_err-other.was c.from_residual.ensures.1)
    ∙ node_stops bits a.i a.at a.held _ (sym c.in_err-other.ensures)

pub returns-in_err-code : goal.returns-in_err-code
returns-in_err-code c =
    let bits = stream_of c.args.self.now.program.now in
    let a = c.args in
    let first = c.in_ok-other in
    let handed = c.from_residual-in_err-code in
    let e = was_read a.i (code bits 1 a.at) first.ensures in
    ap (head_of bits a.i) (handed_on handed.result c.in_err-code.was handed.ensures.1)
    ∙ code_stops bits a.i a.at a.held first.other first.second _ e c.if-other-eq0.true (sym c.in_err-code.ensures)

pub returns-then-other-eq0 : goal.returns-then-other-eq0
returns-then-other-eq0 c =
    let bits = stream_of c.args.self.now.program.now in
    let a = c.args in
    let first = c.in_ok-other in
    let e = was_read a.i (code bits 1 a.at) first.ensures in
    let f = was_read a.i (code bits 2 first.second) c.in_ok-code.ensures in
    c.combinator.ensures ∙ ap (at_node a.i) (sym (code_read bits a.i a.at a.held first.other first.second _ _ e c.if-other-eq0.true f))

pub returns-in_err-jet : goal.returns-in_err-jet
returns-in_err-jet c =
    let bits = stream_of c.args.self.now.program.now in
    let a = c.args in
    let first = c.in_ok-other in
    let handed = c.from_residual-in_err-jet in
    let e = was_read a.i (code bits 1 a.at) first.ensures in
    ap (head_of bits a.i) (handed_on handed.result c.in_err-jet.was handed.ensures.1)
    ∙ jet_stops bits a.i a.at a.held first.other first.second _ e c.if-other-eq0.false (sym c.in_err-jet.ensures)

pub returns-then-jet-eq1 : goal.returns-then-jet-eq1
returns-then-jet-eq1 c =
    let bits = stream_of c.args.self.now.program.now in
    let a = c.args in
    let first = c.in_ok-other in
    let e = was_read a.i (code bits 1 a.at) first.ensures in
    let f = was_read a.i (code bits 1 first.second) c.in_ok-jet.ensures in
    jet_read bits a.i a.at a.held first.other first.second _ _ e c.if-other-eq0.false f c.if-jet-eq1.true

pub returns : goal.returns
returns c =
    let bits = stream_of c.args.self.now.program.now in
    let a = c.args in
    let first = c.in_ok-other in
    let e = was_read a.i (code bits 1 a.at) first.ensures in
    let f = was_read a.i (code bits 1 first.second) c.in_ok-jet.ensures in
    c.word.ensures ∙ ap (at_node a.i) (sym (no_jet bits a.i a.at a.held first.other first.second _ _ e c.if-other-eq0.false f c.if-jet-eq1.false))
