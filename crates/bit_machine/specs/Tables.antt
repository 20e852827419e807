-- The program that the lent tables of a run hold, and what is shown of them.
use Rattle.scope.specs.Program.{Program}
use Rattle.ready.specs.Lent.{program_at, Shown}
use Rattle.bit_machine.specs.declared.Tables.{Tables}

abbrev pub program_in : Tables → Program
program_in t = program_at t.types.now t.nodes.now t.arrows.now t.program.now t.hashes.now t.given.now t.witness.now t.positions.now

abbrev pub ShownIn : Tables → Type 0
ShownIn t = Shown t.types.now t.widths.now t.next.now t.nodes.now t.arrows.now t.program.now t.hashes.now t.given.now t.witness.now t.positions.now
