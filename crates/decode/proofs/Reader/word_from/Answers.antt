-- `decode::Reader::word_from` meets its contract: whole bytes tell whether all bits of a word are there.
use mathlib.Core.Path.{ap, ◌∙◌, subst}
use Prim.Native.Nat.{ℕ, ◌+◌, ◌/◌, ◌<◌, ◌≤◌}
use lib.ListN.{length}
use Rattle.std.specs.Prelude.{Ok}
use Rattle.scope.specs.Numbers.{stream_of}
use Rattle.common.specs.Words.{word_has}
use Rattle.decode.specs.declared.Follows.{Follows}
use Rattle.decode.specs.Heads.{followed, at_node, head_of}
use Rattle.decode.specs.declared.NodeHead.{NodeHead}
use Rattle.decode.proofs.Heads.{word_ended, word_whole_lem}
use Rattle.decode.proofs.Reader.word_from.Goals as goal

pub returns-then-self-end : goal.returns-then-self-end
returns-then-self-end c =
    let word-bits = c.word_bits in
    let program = c.args.self.now.program.now in
    let i = c.args.i in
    let n = c.args.n in
    let first = c.args.first in
    let bits = word-bits.ensures.0 ∙ word_has n c.requires.0 c.requires.1 in
    word_ended program i n first c.requires.3 (subst (λ (w : ℕ). length program < (first + w + 7) / 8) bits c.if-self-end.true)

pub returns : goal.returns
returns c =
    let word-bits = c.word_bits in
    let program = c.args.self.now.program.now in
    let i = c.args.i in
    let n = c.args.n in
    let first = c.args.first in
    let w = word-bits.result in
    let bits = word-bits.ensures.0 ∙ word_has n c.requires.0 c.requires.1 in
    ap (λ (h : NodeHead). head_of (stream_of program) i (Ok (h, first + w))) c.head.ensures
    ∙ ap (λ (w : ℕ). at_node i (followed (stream_of program) (record { kind = 14; first = n; second = first; third = 0 }) Follows.Nothing (first + w))) bits
    ∙ word_whole_lem program i n first c.requires.3 (subst (λ (w : ℕ). (first + w + 7) / 8 ≤ length program) bits c.if-self-end.false)
