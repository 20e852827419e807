-- `decode::Reader::two_bits` meets its contract: the bits are there, or the stream has ended.
use mathlib.Core.Path.{ap, ◌∙◌}
use Rattle.decode.specs.Answers.{number_of}
use Rattle.decode.proofs.Heads.{code_told}
use Rattle.decode.proofs.Reader.two_bits.Goals as goal

pub returns : goal.returns
returns c = ap number_of c.ok_or.ensures.value ∙ code_told c.args.i c.two_bits.result c.two_bits.ensures
