-- The record's index falls: the parts of a type stand before it.
use Rattle.value.proofs.+unpad_part.Given as goal

abbrev pub decreases-unpad_part : goal.decreases-unpad_part
decreases-unpad_part l = l.i
