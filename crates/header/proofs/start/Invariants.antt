-- `header::start` meets its contract: the loop carries where section j has to start.
use mathlib.Core.Path.{◌≡◌}
use Prim.Native.Nat.{◌+◌, ◌*◌, ◌^◌, ◌≤◌}
use Rattle.scope.specs.Header as Header
use Rattle.header.proofs.start.Given as goal

abbrev pub invariant-loop-j : goal.invariant-loop-j
invariant-loop-j l = (l.place ≡ Header.start l.dossier l.j) × (l.place ≤ 2 ^ 40 * (l.j + 1))
