-- `table::check_records` meets its contract. The loop's invariant: the first record that breaks its rule is the first from place i on.
use Rattle.common.specs.Passes.{Passing}
use Rattle.table.proofs.Stages.{rule_of}
use Rattle.limits.specs.Limits.{node_numbers}
use lib.ListN.{length}
use Prim.Native.Nat.{◌/◌}
use Rattle.table.proofs.check_records.Given as goal

abbrev pub invariant-loop-i : goal.invariant-loop-i
invariant-loop-i l = Passing (rule_of l.program l.hashes l.nodes) (length l.nodes / node_numbers) l.i
