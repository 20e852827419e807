-- `types::check_types` meets its contract. The loop goes up: what is found from the first record on is what is found from record i on,
-- and both arrays hold the numbers of the records before i. Each end is one law of the whole table.
use mathlib.Core.Path.{◌≡◌}
use Prim.Native.Nat.{◌≤◌}
use lib.ListN.{length}
use Rattle.limits.specs.Limits.{type_count}
use Rattle.scope.specs.Types.{type_records, type_rule}
use Rattle.common.specs.Passes.{Passing}
use Rattle.types.specs.Records.{next_at}
use Rattle.types.specs.Table.{array_of}
use Rattle.types.proofs.Check.{width_for}
use Rattle.types.proofs.check_types.Given as goal

abbrev pub invariant-loop-i : goal.invariant-loop-i
invariant-loop-i l =
    Passing (type_rule (type_records l.types)) l.count l.i
    × (l.widths ≡ array_of l.i (width_for (type_records l.types)))
    × (l.next ≡ array_of l.i (next_at (type_records l.types)))
    × (l.count ≤ type_count)
    × (length l.widths ≡ type_count)
    × (length l.next ≡ type_count)
