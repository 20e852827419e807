-- `frame::backward` meets its contract: what is left in the borrow is the frame with the cursor moved.
use Rattle.frame.proofs.Moves.{moved_back}
use Rattle.frame.proofs.backward.Goals as goal

pub returns : goal.returns
returns c = moved_back c.args.f.now _ _ c.saturating_sub-f.ensures
