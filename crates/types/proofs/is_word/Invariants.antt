-- `types::is_word` meets its contract. The loop's invariant: type j is a word of k exactly if type `at` is one of what is left.
use mathlib.Core.Path.{◌≡◌}
use Prim.Native.Nat.{◌-◌}
use Rattle.scope.specs.Types.{type_records, is_word}
use Rattle.types.proofs.is_word.Given as goal

abbrev pub invariant-loop : goal.invariant-loop
invariant-loop l = is_word (type_records l.types) l.k l.j ≡ is_word (type_records l.types) (l.k - l.counter) l.at
