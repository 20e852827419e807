use mathlib.Core.Path.{sym}
use Rattle.layout.proofs.Mach.{length-records_of}
use Rattle.bit_machine.proofs.rules.records.Goals as goal

pub returns : goal.returns
returns c = sym (length-records_of _)
