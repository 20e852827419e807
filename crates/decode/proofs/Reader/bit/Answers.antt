-- `decode::Reader::bit` meets its contract: the bits are there, or the stream has ended.
use mathlib.Core.Path.{ap, ◌∙◌}
use Rattle.decode.specs.Answers.{number_of}
use Rattle.decode.proofs.Heads.{code_told}
use Rattle.decode.proofs.Reader.bit.Goals as goal

pub returns : goal.returns
returns c = ap number_of c.ok_or.ensures.value ∙ code_told c.args.i c.bit.result c.bit.ensures
