-- `equal::same_word` meets its contract.
use mathlib.Core.Path.{sym, ap, ◌∙◌}
use Rattle.report.specs.Bits.{bits_of}
use Rattle.scope.specs.Numbers.{same}
use Rattle.common.specs.Words.{word_bits}
use Rattle.common.specs.Cells.{bits_from}
use borrow.Author.Tests.{ne_eqb}
use Rattle.equal.proofs.KindKeys.{same_next, same_unlike}
use Rattle.equal.proofs.same_word.Goals as goal

pub returns-then-r-s : goal.returns-then-r-s
returns-then-r-s c =
    let bits = bits_of c.args.program.now in
    let own = c.word_bits.ensures.0 in
    let other = own ∙ ap word_bits c.if-r-s.true in
    c.same_bits.ensures
    ∙ (λ i. same (bits_from bits (c.place.ensures.0 i) (own i)) (bits_from bits (c.place-then-r-s.ensures.0 i) (other i)))
    ∙ sym (same_next c.args.r.first c.args.s.first _ _ c.if-r-s.true)

pub returns-else-r-s : goal.returns-else-r-s
returns-else-r-s c = ne_eqb _ _ c.if-r-s.false ∙ sym (same_unlike c.args.r.first c.args.s.first _ _ c.if-r-s.false)
