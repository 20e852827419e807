-- `packed::laid` meets its contract. The loop's invariant: the numbers left are to be laid from place k on.
use Rattle.std.proofs.Common.{◌≡◌}
use Rattle.packed.specs.Lists.{unpacked, laid}
use Rattle.packed.proofs.Lists.{laid_from}
use Rattle.packed.proofs.laid.Given as goal

abbrev pub invariant-loop-k : goal.invariant-loop-k
invariant-loop-k l = laid (unpacked l.list) l.initial.store ≡ laid_from l.k (unpacked l.left) l.store
