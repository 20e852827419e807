-- `header::first_wrong` meets its contract.
-- The loop's invariant: the first wrong number of all is the first from the count of section k on, and section k has to start at `place`.
use mathlib.Core.Path.{◌≡◌}
use Prim.Native.Nat.{◌≤◌}
use Rattle.limits.specs.Limits.{dossier_bytes}
use Rattle.scope.specs.Header.{start}
use Rattle.header.proofs.Rules.{first_wrong, wrong_from}
use Rattle.header.proofs.first_wrong.Given as goal

abbrev pub invariant-loop-k : goal.invariant-loop-k
invariant-loop-k l = (first_wrong l.dossier ≡ wrong_from l.dossier l.k) × (l.place ≡ start l.dossier l.k) × (l.place ≤ dossier_bytes)
