-- `decode::Reader::word` meets its contract: its natural is refused, or its bits follow; a natural that was read shows that the program is within the limit.
use mathlib.Core.Path.{sym, ap, ◌∙◌}
use native.Mathlib.Omega.{arith}
use Rattle.limits.specs.Limits.{word_most}
use Rattle.scope.specs.Reading.{natural_up_to}
use Rattle.scope.specs.Numbers.{stream_of}
use Rattle.common.specs.Answers.{handed_on}
use Rattle.bititer.proofs.Streams.{length_stream, stream_some}
use Rattle.bititer.proofs.Naturals.{up_to_got}
use Rattle.decode.specs.Heads.{at_node, head_of}
use Rattle.decode.proofs.Heads.{was_read, word_stops, word_read}
use Rattle.decode.proofs.Reader.word.Goals as goal

pub returns-in_err-n : goal.returns-in_err-n
returns-in_err-n c =
    let bits = stream_of c.args.self.now.program.now in
    ap (head_of bits c.args.i) (handed_on c.from_residual.result c.in_err-n.was c.from_residual.ensures.1)
    ∙ word_stops bits c.args.i c.args.at _ (sym c.in_err-n.ensures)

pub word_from-requires : goal.word_from-requires
word_from-requires c =
    let program = c.args.self.now.program.now in
    let bits = stream_of program in
    let at = c.args.at in
    let g = up_to_got bits word_most at _ _ (was_read c.args.i (natural_up_to bits word_most at) c.in_ok-n.ensures) in
    (g.0, g.1, omega (arith, length_stream program), stream_some program at (omega arith))

pub returns : goal.returns
returns c =
    let bits = stream_of c.args.self.now.program.now in
    let i = c.args.i in
    let at = c.args.at in
    let e = was_read i (natural_up_to bits word_most at) c.in_ok-n.ensures in
    c.word_from.ensures ∙ ap (at_node i) (sym (word_read bits i at _ _ e))
