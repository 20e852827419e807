-- `table::record_in` meets its contract: the four numbers of record k are where its definition reads them.
use Rattle.common.specs.Nodes.{record_in, record_past}
use Rattle.scope.specs.Nodes.{node_record}
use native.Mathlib.Omega.{arith}
use mathlib.Core.Path.{sym}
use Rattle.table.proofs.record_in.Goals as goal

pub returns-then-k-nodes : goal.returns-then-k-nodes
unfolding node_record
returns-then-k-nodes c = sym (record_in c.args.nodes.now c.args.k (omega arith))

pub returns : goal.returns
returns c = sym (record_past c.args.nodes.now c.args.k (omega arith))
