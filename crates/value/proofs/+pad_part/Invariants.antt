-- The record's index falls: the parts of a type stand before it.
use Rattle.value.proofs.+pad_part.Given as goal

abbrev pub decreases-pad_part : goal.decreases-pad_part
decreases-pad_part l = l.i
