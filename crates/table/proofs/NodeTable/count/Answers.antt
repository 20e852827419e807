-- `table::NodeTable::count` meets its contract: the records are a fourth of the numbers.
use mathlib.Core.Path.{sym}
use native.Mathlib.Omega.{arith}
use Rattle.common.specs.Nodes.{length_records}
use Rattle.table.proofs.NodeTable.count.Goals as goal

pub overflow_cast-result : goal.overflow_cast-result
overflow_cast-result c = record { fits = omega (arith, length_records c.args.self.now.nodes.now, c.args.self.now.few) }

pub returns : goal.returns
returns c = sym (length_records c.args.self.now.nodes.now)
