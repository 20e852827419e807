-- `frame::forward` meets its contract: what is left in the borrow is the frame with the cursor moved.
use Rattle.frame.proofs.Moves.{moved_on}
use Rattle.frame.proofs.forward.Goals as goal

pub returns : goal.returns
returns c = moved_on c.args.f.now _ _ c.saturating_add-f.ensures
