-- `common::word_bits` meets its contract: the shift loses nothing.
use mathlib.Core.Path.{sym}
use lib.Dec.{lit<}
use Rattle.common.specs.Words.{word_none, word_over, word_exact, word_small}
use Rattle.common.proofs.word_bits.Goals as goal

pub returns-then-n-lt1 : goal.returns-then-n-lt1
returns-then-n-lt1 c = (sym (word_none _ c.if-n-lt1.true), lit< tt)

pub returns-then-n-gt-WORD_MOST : goal.returns-then-n-gt-WORD_MOST
returns-then-n-gt-WORD_MOST c = (sym (word_over _ c.if-n-gt-WORD_MOST.true), lit< tt)

pub returns : goal.returns
returns c = (word_exact _ c.if-n-lt1.false c.if-n-gt-WORD_MOST.false, word_small _ c.if-n-lt1.false c.if-n-gt-WORD_MOST.false)
