-- The supplied hashes: as many as disconnects with two children, in node order, each for the right child (13 at the count given);
-- one child may not get two different hashes (13 at the first entry unlike an earlier one of its child). And the hash of a branch.
use Rattle.std.specs.Prelude.{Bool, ℕ, suc, ◌*◌, ◌/◌, min, eqb, length, get_or, take, drop}
use Rattle.std.proofs.Math.Bool.{true, false, not}
use mathlib.Core.List.{List, [], ◌∷◌}
use Rattle.limits.specs.Limits.{hash_bytes}
use Rattle.refusal.specs.declared.Refusal.TheVariants.{Hash}
use Rattle.report.specs.Nodes.{Node}
use Rattle.scope.specs.Check.{Check, ◌>>=◌, require, each}
use Rattle.scope.specs.Numbers.{same, every, any_below}
use Rattle.scope.specs.Nodes.{node_at, on_hidden, on_disconnect}

-- the right children of the disconnects, in node order: entry e of the hashes is for the e-th
unfoldable pub rights : List Node → List ℕ
unfolding on_disconnect
rights [] = []
rights (n ∷ ns) = on_disconnect n (λ left right. right ∷ rights ns) (rights ns)

-- the 32 bytes at a place, or nothing where they are not all there
unfoldable pub whole_hash : List ℕ → List ℕ
whole_hash bytes = elim (eqb (length bytes) hash_bytes) [ true ↦ bytes | false ↦ [] ]

unfoldable pub entry : (given : List ℕ) → (e : ℕ) → List ℕ
entry given e = take hash_bytes (drop (hash_bytes * e) given)

-- a count as a place: places are numbers of 32 bits, and the last one stands for every count above it; no dossier comes near it
abbrev pub last_place : ℕ
last_place = 4294967295

abbrev pub count_place : ℕ → ℕ
count_place count = min count last_place

module _ (nodes : List Node) (given : List ℕ) where
  -- entry e is unlike an earlier one of its child
  unfoldable pub clash : (e : ℕ) → Bool
  unfolding any_below rights entry same every
  clash e = any_below e (λ d. every (eqb (get_or (rights nodes) d 0) (get_or (rights nodes) e 0) ∷ not (same (entry given d) (entry given e)) ∷ []))

  unfoldable pub check_hashes : Check (Unit {0})
  unfolding ◌>>=◌ require each rights clash
  check_hashes = do
    count ← require (eqb (length given / hash_bytes) (length (rights nodes))) (Hash (count_place (length given / hash_bytes)))
    each (length (rights nodes)) (λ e. not (clash e)) Hash

  -- the first entry that is for node j, from entry e on; nothing where there is none
  unfoldable pub entry_for : (j e : ℕ) → List ℕ → List ℕ
  unfolding entry whole_hash
  entry_for j e [] = []
  entry_for j e (r ∷ rs) = elim (eqb r j) [ true ↦ whole_hash (entry given e) | false ↦ entry_for j (suc e) rs ]

  -- the hash of the branch at node j: a hidden node's stands in the hash store, that of a disconnect's right child among the supplied ones;
  -- any other node has none
  unfoldable pub branch_hash : (j : ℕ) → List ℕ
  unfolding node_at on_hidden whole_hash entry_for rights
  branch_hash j = on_hidden (node_at nodes j) whole_hash (entry_for j 0 (rights nodes))
