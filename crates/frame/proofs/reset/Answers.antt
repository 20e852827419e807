-- `frame::reset` meets its contract: what is left in the borrow is the frame with its cursor at its start.
use Rattle.frame.proofs.Moves.{moved_to_start}
use Rattle.frame.proofs.reset.Goals as goal

pub returns : goal.returns
returns c = moved_to_start c.args.f.now
