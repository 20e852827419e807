-- The record's index falls: the parts of a type stand before it.
use Rattle.value.proofs.+skip.Given as goal

abbrev pub decreases-skip : goal.decreases-skip
decreases-skip l = l.i
