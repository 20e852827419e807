-- `hashes::supplied` meets its contract. The loop's invariant: wherever the supplied hashes lie, the entry that is looked for is the first
-- for node j from entry e on, among the disconnects from node i on.
use mathlib.Core.Path.{◌≡◌}
use mathlib.Core.List.{List}
use Prim.Native.Nat.{ℕ, ◌≤◌}
use Rattle.promise.specs.Parts.{Part}
use Rattle.hashes.proofs.Branch.{from_node}
use Rattle.hashes.proofs.supplied.Given as goal

-- bytes that lie at a place
abbrev pub lying : ℕ × ℕ → List ℕ → Part
lying place bytes = record { place = place; bytes = bytes }

abbrev pub invariant-loop-i : goal.invariant-loop-i
invariant-loop-i l = ((place : ℕ × ℕ) → from_node l.nodes (lying place l.given) l.j 0 0 ≡ from_node l.nodes (lying place l.given) l.j l.i l.e) × (l.e ≤ l.i)
