-- The table's rule, computed over all 256 bytes: each entry is what the reader gives on the bits of its byte.
use mathlib.Core.Path.{refl}
use Rattle.scope.specs.Numbers.{tabulate_from, tabulate}
use Rattle.scope.specs.Naturals.{more_bits, of_length, read_natural}
use Rattle.bititer.specs.Windows.{entry_of, natural_entries}
use Rattle.bititer.proofs.natural_table.Goals as goal

pub returns : goal.returns
unfolding natural_entries tabulate tabulate_from entry_of read_natural of_length more_bits
returns c = refl
