use Rattle.bit_machine.proofs.rules.peek.Goals as goal

pub returns : goal.returns
returns c = rw (c.read_cell.ensures, c.cursor_at-cursor.ensures, c.records.ensures)
