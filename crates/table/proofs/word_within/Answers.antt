-- `table::word_within` meets its contract: a word's last bit is told by whole bytes, so that no sum passes 2^34.
use Rattle.common.specs.Words.{word_has}
use Rattle.table.proofs.Tests.{word_end}
use lib.Dec.{leb}
use Prim.Native.Nat.{ℕ, ◌+◌, ◌/◌}
use mathlib.Core.Path.{◌∙◌, ap₂}
use Rattle.table.proofs.word_within.Goals as goal

pub returns-then-r-eq0 : goal.returns-then-r-eq0
returns-then-r-eq0 c =
    let tests = c.if-r-eq0.true in
    ap₂ (λ (x y : ℕ). leb ((x + y + 7) / 8) c.args.bytes) c.place.ensures.0 (c.word_bits.ensures.0 ∙ word_has _ tests.0 tests.1)
    ∙ word_end _ _ _ _ tests.0 tests.1 tests.2
