-- A walk over a table by the count of the nodes done: `walk_count` is that walk, `walk_step` its one step, `arrive_count` what it does at a node.
-- While no refusal is met the nodes done are just 0, 1, .. below a count, so the count alone tells them: `done_below` tests a node by it.
use Rattle.std.specs.Prelude.{◌≡◌, Bool, take, get_or}
use Rattle.std.proofs.Math.Path.{refl, sym, ap}
use Rattle.std.proofs.Common.{◌∙◌}
use Rattle.std.proofs.Math.Bool.{true, false}
use mathlib.Core.List.{List, [], ◌∷◌, ◌++◌}
use Prim.Native.Nat.{ℕ, zero, suc, ◌+◌, ◌≤◌, ◌<◌}
use native.Mathlib.Omega.{arith}
use Rattle.std.proofs.Math.Decide.{dec_lt}
use Rattle.std.proofs.Math.Dec.{ltb, eqb}
use Rattle.std.proofs.Math.ListN.{length}
use borrow.Author.Tests.{lt-ltb, le-ltb, ne_eqb, eqb-false}
use Rattle.refusal.specs.declared.Refusal.{Refusal}
use Rattle.refusal.specs.declared.Refusal.TheVariants.{CanonicalOrder}
use Rattle.report.specs.Table.{entries}
use Rattle.report.specs.Nodes.{Node}
use Rattle.report.specs.Canonical.{children, is_done, up_from}
use Rattle.scope.specs.Check.{Check, passed, refused, ◌>>=◌, require}
use Rattle.scope.specs.Nodes.{node_at}
use Rattle.scope.specs.Walk.{allowed, walk_each, walk_make, walk_from}

-- n numbers from i on
pub length-up_from : (i n : ℕ) → length (up_from i n) ≡ n
unfolding up_from
length-up_from i zero = refl
length-up_from i (suc n) = ap suc (length-up_from (suc i) n)

-- and one more
pub up_from_more : (i n : ℕ) → up_from i n ++ (i + n) ∷ [] ≡ up_from i (suc n)
unfolding up_from
up_from_more i zero = ap (λ (k : ℕ). k ∷ []) (let e : i + 0 ≡ i = omega arith in e)
up_from_more i (suc n) =
    ap (λ (l : List ℕ). i ∷ l) (ap (λ (k : ℕ). up_from (suc i) n ++ k ∷ []) (let e : i + suc n ≡ suc i + n = omega arith in e) ∙ up_from_more (suc i) n)

done_in : (a n i : ℕ) → a ≤ i → i < a + n → is_done i (up_from a n) ≡ true
unfolding is_done up_from
done_in a zero i h l = absurd (omega arith)
done_in a (suc n) i h l = go (eqb i a) refl (done_in (suc a) n i)
  where
    go : (b : Bool) → eqb i a ≡ b → (suc a ≤ i → i < suc a + n → is_done i (up_from (suc a) n) ≡ true)
        → elim b [ true ↦ true | false ↦ is_done i (up_from (suc a) n) ] ≡ true
    go true p ih = refl
    go false p ih = ih (let m : (i ≡ a → ⊥) = eqb-false i a p in omega arith) (omega arith)

done_out : (a n i : ℕ) → a + n ≤ i → is_done i (up_from a n) ≡ false
unfolding is_done up_from
done_out a zero i h = refl
done_out a (suc n) i h = rw (ne_eqb i a (omega arith), is_done) (done_out (suc a) n i (omega arith))

-- a node is one of those below k exactly if it is below k
pub done_below : (i k : ℕ) → is_done i (up_from 0 k) ≡ ltb i k
done_below i k =
    elim (dec_lt i k) [
      | yes l ↦ done_in 0 k i (omega arith) (omega arith) ∙ sym (lt-ltb i k l)
      | no m ↦ done_out 0 k i (omega arith) ∙ sym (le-ltb i k (omega arith))
    ]

-- an answer of a walk that began with the nodes below k: a refusal, or the nodes below a count that is no smaller
pub data Counted (k : ℕ) : Check (List ℕ) → Type 0 where
  of_upto : (m : ℕ) → k ≤ m → Counted k (passed (up_from 0 m))
  of_stopped : (r : Refusal) → Counted k (refused r)

-- what a walk does at node i, once these are done: i must be the next and allowed, and is done
unfoldable pub arrive : (nodes : List Node) → (i : ℕ) → Node → List ℕ → Check (List ℕ)
unfolding ◌>>=◌ require allowed
arrive nodes i n d = do
  next ← require (eqb i (length d)) (CanonicalOrder (length d))
  fine ← allowed nodes i n
  passed (d ++ i ∷ [])

-- the same by the count
unfoldable pub arrive_count : (nodes : List Node) → (i : ℕ) → Node → (k : ℕ) → Check ℕ
unfolding ◌>>=◌ require allowed
arrive_count nodes i n k = do
  next ← require (eqb i k) (CanonicalOrder k)
  fine ← allowed nodes i n
  passed (suc k)

-- how many nodes are done
unfoldable pub count : Check (List ℕ) → Check ℕ
count (passed d) = passed (length d)
count (refused r) = refused r

-- the walk from node i with the nodes below k done: how many are done after it
unfoldable pub walk_count : (nodes : List Node) → (i k : ℕ) → Check ℕ
unfolding count walk_from
walk_count nodes i k = count (walk_from nodes i (up_from 0 k))

-- the walks from some nodes, one after the other
unfoldable pub count_each : (nodes : List Node) → List ℕ → (k : ℕ) → Check ℕ
unfolding walk_count ◌>>=◌
count_each nodes [] k = passed k
count_each nodes (j ∷ js) k = walk_count nodes j k >>= λ m. count_each nodes js m

-- the walk from node i, by the counts of its children's walks
unfoldable pub walk_step : (nodes : List Node) → (i k : ℕ) → Check ℕ
unfolding count_each arrive_count children node_at ◌>>=◌
walk_step nodes i k = elim (ltb i k) [
  | true ↦ passed k
  | false ↦ count_each nodes (children (node_at nodes i)) k >>= λ m. arrive_count nodes i (node_at nodes i) m
]

-- walks, by the node that they start from
abbrev pub Walks : Type 0
Walks = List (List ℕ → Check (List ℕ))

-- the walk from node j among these; past them there is nothing to do
abbrev pub walk_in : Walks → (j : ℕ) → List ℕ → Check (List ℕ)
walk_in walks j = get_or walks j (λ d. passed d)

module _ (nodes : List Node) where
  -- the walks before node i
  unfoldable pub walks_before : (i : ℕ) → Walks
  walks_before i = take i (entries (walk_make nodes) nodes)

  -- the walk from node i: nothing where it is done, else its children's walks, and then i itself
  unfoldable pub walk_node : (is_done : Bool) → (i : ℕ) → Walks → Node → List ℕ → Check (List ℕ)
  walk_node true i walks n d = passed d
  walk_node false i walks n d = walk_each nodes walks (children n) d >>= arrive nodes i n
