-- `bit_machine::rules::advance` meets its contract.
use Rattle.bit_machine.proofs.Frames.{put_on}
use Rattle.bit_machine.proofs.rules.advance.Goals as goal

pub returns : goal.returns
returns c = put_on _ _ _ c.requires.f_value c.requires.n_bound c.forwarded.ensures c.put_record.ensures
