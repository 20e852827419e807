-- The walk over a table keeps the nodes done, and while no refusal is met they are just 0, 1, .. below a count:
-- so a walk can keep the count alone. `walk_count` is that walk, `count_step` its one step, and `check_walk_count` the whole walk by it.
use Rattle.std.specs.Prelude.{◌≡◌, Bool, not}
use Rattle.std.proofs.Math.Path.{refl, sym, ap, subst}
use Rattle.std.proofs.Common.{◌∙◌, not-suc-le-zero, zero-add}
use Rattle.std.proofs.Math.Bool.{true, false}
use mathlib.Core.List.{List, [], ◌∷◌, ◌++◌}
use Prim.Native.Nat.{ℕ, zero, suc, ◌-◌, ◌≤◌, ◌<◌, max}
use native.Mathlib.Omega.{arith}
use Rattle.std.proofs.Math.Decide.{dec_lt}
use Rattle.std.proofs.Math.Dec.{ltb, eqb}
use Rattle.std.proofs.Math.ListN.{length, length-append, get_or-eq_default}
use Rattle.std.proofs.Math.Seq.{length-take-le, get_or-take}
use borrow.Author.Tests.{ltb-true, ltb-false, eq-eqb, eqb-true}
use Rattle.refusal.specs.declared.Refusal.TheVariants.{CanonicalOrder, HiddenElsewhere}
use Rattle.report.specs.Table.{entries}
use Rattle.report.specs.Nodes.{Node}
use Rattle.report.specs.Canonical.{children, is_done, up_from}
use Rattle.scope.specs.Check.{Check, passed, refused, ◌>>=◌, require}
use Rattle.scope.specs.Nodes.{no_node, node_at}
use Rattle.scope.specs.Walk.{hidden_at, allowed, walk_each, walk_make, walk_from, check_walk}
use Rattle.common.specs.Tables.{length-entries, entries_at, before_at}
use Rattle.common.specs.Checks.{clash, require_holds, both_passed}
use Rattle.common.specs.Bits.{AllBelow}
use Rattle.exactness.specs.Walk.{length-up_from, up_from_more, done_below, Counted, of_upto, of_stopped, arrive, arrive_count, count, walk_count, count_each, walk_step, Walks, walk_in, walks_before, walk_node}

-- one counted walk after the other
counted_then : (k : ℕ) (c : Check (List ℕ)) (f : List ℕ → Check (List ℕ)) → Counted k c
    → ((m : ℕ) → k ≤ m → Counted m (f (up_from 0 m))) → Counted k (c >>= f)
unfolding ◌>>=◌
counted_then k c f (of_upto m h) g = later m h (f (up_from 0 m)) (g m h)
  where
    later : (m : ℕ) → k ≤ m → (c : Check (List ℕ)) → Counted m c → Counted k c
    later m h c (of_upto n l) = of_upto n (omega arith)
    later m h c (of_stopped r) = of_stopped r
counted_then k c f (of_stopped r) g = of_stopped r

count_then : (k : ℕ) (c : Check (List ℕ)) (f : List ℕ → Check (List ℕ)) (g : ℕ → Check ℕ) → Counted k c
    → ((m : ℕ) → k ≤ m → count (f (up_from 0 m)) ≡ g m) → count (c >>= f) ≡ (count c >>= g)
unfolding ◌>>=◌ count
count_then k c f g (of_upto m h) e = e m h ∙ ap g (sym (length-up_from 0 m))
count_then k c f g (of_stopped r) e = refl

module _ (nodes : List Node) where
  pub arrive_counted : (i : ℕ) (n : Node) (m : ℕ) → Counted m (arrive nodes i n (up_from 0 m))
  unfolding arrive require
  arrive_counted i n m = go (eqb i (length (up_from 0 m))) (allowed nodes i n) refl
    where
      go : (b : Bool) (c : Check (Unit {0})) → eqb i (length (up_from 0 m)) ≡ b
          → Counted m (require b (CanonicalOrder (length (up_from 0 m))) >>= λ next. c >>= λ fine. passed (up_from 0 m ++ i ∷ []))
      go true (passed x) e =
          let p : i ≡ m = eqb-true i (length (up_from 0 m)) e ∙ length-up_from 0 m in
          let q : up_from 0 m ++ i ∷ [] ≡ up_from 0 (suc m) = ap (λ (j : ℕ). up_from 0 m ++ j ∷ []) (p ∙ sym (zero-add m)) ∙ up_from_more 0 m in
          subst (λ (l : List ℕ). Counted m (passed l)) (sym q) (of_upto (suc m) (omega arith))
      go true (refused r) e = of_stopped r
      go false c e = of_stopped _

  arrive-count : (i : ℕ) (n : Node) (m : ℕ) → count (arrive nodes i n (up_from 0 m)) ≡ arrive_count nodes i n m
  unfolding arrive arrive_count require count
  arrive-count i n m = rw (length-up_from 0 m, arrive) (go (eqb i m) (allowed nodes i n))
    where
      go : (b : Bool) (c : Check (Unit {0}))
          → count (require b (CanonicalOrder m) >>= λ next. c >>= λ fine. passed (up_from 0 m ++ i ∷ []))
          ≡ (require b (CanonicalOrder m) >>= λ next. c >>= λ fine. passed (suc m))
      go true (passed x) = ap {B = Check ℕ} passed (omega (arith, length-append (up_from 0 m) (i ∷ []), length-up_from 0 m))
      go true (refused r) = refl
      go false c = refl

  pub each_counted : (walks : Walks) → ((j k : ℕ) → Counted k (walk_in walks j (up_from 0 k))) → (js : List ℕ) (k : ℕ)
      → Counted k (walk_each nodes walks js (up_from 0 k))
  unfolding walk_each
  each_counted walks h [] k = of_upto k (omega arith)
  each_counted walks h (j ∷ js) k = counted_then k _ (walk_each nodes walks js) (h j k) (λ m l. each_counted walks h js m)

  pub walk_node_counted : (b : Bool) (i : ℕ) (walks : Walks) → ((j k : ℕ) → Counted k (walk_in walks j (up_from 0 k))) → (n : Node) (k : ℕ)
      → Counted k (walk_node nodes b i walks n (up_from 0 k))
  unfolding walk_node
  walk_node_counted true i walks h n k = of_upto k (omega arith)
  walk_node_counted false i walks h n k = counted_then k _ (arrive nodes i n) (each_counted walks h (children n) k) (λ m l. arrive_counted i n m)

  length_before : (i : ℕ) → i ≤ length nodes → length (walks_before nodes i) ≡ i
  unfolding walks_before
  length_before i h = length-take-le i (entries (walk_make nodes) nodes) (omega (arith, length-entries (walk_make nodes) nodes))

  make_is_node : (walks : Walks) (n : Node) (d : List ℕ)
      → walk_make nodes walks n d ≡ walk_node nodes (is_done (length walks) d) (length walks) walks n d
  unfolding walk_make walk_node arrive
  make_is_node walks n d = go (is_done (length walks) d)
    where
      go : (b : Bool) → elim b [ true ↦ passed d | false ↦ walk_each nodes walks (children n) d >>= arrive nodes (length walks) n ]
          ≡ walk_node nodes b (length walks) walks n d
      go true = refl
      go false = refl

  -- the walk from node i, of the walks before it; past the end there is nothing to do
  pub walk_at : (i : ℕ) → i < length nodes → (d : List ℕ) → walk_from nodes i d ≡ walk_node nodes (is_done i d) i (walks_before nodes i) (node_at nodes i) d
  unfolding walk_from node_at walks_before
  walk_at i h d =
      ap (λ (w : List ℕ → Check (List ℕ)). w d) (entries_at (walk_make nodes) nodes i (λ d. passed d) no_node h)
      ∙ make_is_node (walks_before nodes i) (node_at nodes i) d
      ∙ ap (λ (l : ℕ). walk_node nodes (is_done l d) l (walks_before nodes i) (node_at nodes i) d) (length_before i (omega arith))

  pub walk_past : (i : ℕ) → length nodes ≤ i → (d : List ℕ) → walk_from nodes i d ≡ passed d
  unfolding walk_from
  walk_past i h d =
      ap (λ (w : List ℕ → Check (List ℕ)). w d)
      (get_or-eq_default (entries (walk_make nodes) nodes) (λ d. passed d) (omega (arith, length-entries (walk_make nodes) nodes)))

  -- a walk that counts on, from whatever count
  abbrev Counting : (List ℕ → Check (List ℕ)) → Type 0
  Counting walk = (k : ℕ) → Counted k (walk (up_from 0 k))

  counting_upto : (n i : ℕ) → i < n → Counting (walk_from nodes i)
  unfolding walk_from walks_before
  counting_upto zero i l k = absurd (not-suc-le-zero l)
  counting_upto (suc n) i l k =
      elim (dec_lt i (length nodes)) [
        | yes h ↦ subst (Counted k) (sym (walk_at i h (up_from 0 k)))
            (walk_node_counted (is_done i (up_from 0 k)) i (walks_before nodes i)
            (before_at (walk_make nodes) Counting nodes i (λ d. passed d) (omega arith) (λ k. of_upto k (omega arith))
            (λ j m. counting_upto n j (omega arith)))
            (node_at nodes i) k)
        | no m ↦ subst (Counted k) (sym (walk_past i (omega arith) (up_from 0 k))) (of_upto k (omega arith))
      ]

  -- with the nodes below k done, a walk refuses or does all nodes below a count that is no smaller
  pub walk_counted : (i k : ℕ) → Counted k (walk_from nodes i (up_from 0 k))
  walk_counted i k = counting_upto (suc i) i (omega arith) k

  before_counting : (i : ℕ) → i ≤ length nodes → (j k : ℕ) → Counted k (walk_in (walks_before nodes i) j (up_from 0 k))
  unfolding walks_before walk_from
  before_counting i h =
      before_at (walk_make nodes) Counting nodes i (λ d. passed d) h (λ k. of_upto k (omega arith)) (λ j m. walk_counted j)

  -- so the count tells the list
  pub walk_is_count : (i k : ℕ) → walk_from nodes i (up_from 0 k) ≡ (walk_count nodes i k >>= λ m. passed (up_from 0 m))
  unfolding walk_count count ◌>>=◌
  walk_is_count i k = go (walk_from nodes i (up_from 0 k)) (walk_counted i k)
    where
      go : (c : Check (List ℕ)) → Counted k c → c ≡ (count c >>= λ m. passed (up_from 0 m))
      go c (of_upto m h) = ap (λ (j : ℕ). passed (up_from 0 j)) (sym (length-up_from 0 m))
      go c (of_stopped r) = refl

  each_count : (i : ℕ) → i ≤ length nodes → (js : List ℕ) → AllBelow i js → (k : ℕ)
      → count (walk_each nodes (walks_before nodes i) js (up_from 0 k)) ≡ count_each nodes js k
  unfolding walk_each count_each walks_before walk_from count
  each_count i h [] b k = ap {B = Check ℕ} passed (length-up_from 0 k)
  each_count i h (j ∷ js) b k =
      let e : walk_in (walks_before nodes i) j ≡ walk_from nodes j = get_or-take i (entries (walk_make nodes) nodes) j (λ d. passed d) b.0 in
      ap (λ (w : List ℕ → Check (List ℕ)). count (w (up_from 0 k) >>= walk_each nodes (walks_before nodes i) js)) e
      ∙ count_then k (walk_from nodes j (up_from 0 k)) (walk_each nodes (walks_before nodes i) js) (count_each nodes js) (walk_counted j k)
      (λ m l. each_count i h js b.1 m)

  -- one step of the walk, by the count: a node whose children stand below it
  pub count_step : (i k : ℕ) → i < length nodes → AllBelow i (children (node_at nodes i)) → walk_count nodes i k ≡ walk_step nodes i k
  unfolding walk_count walk_step walk_node
  count_step i k h b = ap count (walk_at i h (up_from 0 k)) ∙ rw (done_below i k) (go (ltb i k))
    where
      go : (t : Bool) → count (walk_node nodes t i (walks_before nodes i) (node_at nodes i) (up_from 0 k))
          ≡ elim t [ true ↦ passed k | false ↦ count_each nodes (children (node_at nodes i)) k >>= λ m. arrive_count nodes i (node_at nodes i) m ]
      go true = ap {B = Check ℕ} passed (length-up_from 0 k)
      go false =
          count_then k (walk_each nodes (walks_before nodes i) (children (node_at nodes i)) (up_from 0 k)) (arrive nodes i (node_at nodes i))
          (arrive_count nodes i (node_at nodes i))
          (each_counted (walks_before nodes i) (before_counting i (omega arith)) (children (node_at nodes i)) k) (λ m l. arrive-count i (node_at nodes i) m)
          ∙ ap (λ (c : Check ℕ). c >>= arrive_count nodes i (node_at nodes i)) (each_count i (omega arith) (children (node_at nodes i)) b k)

  -- the whole walk, by the count
  pub check_walk_count : check_walk nodes
      ≡ (walk_count nodes (length nodes - 1) 0 >>= λ all. require (not (hidden_at nodes (length nodes - 1))) (HiddenElsewhere (length nodes - 1)))
  unfolding check_walk walk_count count ◌>>=◌ up_from
  check_walk_count = go (walk_from nodes (length nodes - 1) [])
    where
      go : (c : Check (List ℕ))
          → (c >>= λ all. require (not (hidden_at nodes (length nodes - 1))) (HiddenElsewhere (length nodes - 1)))
          ≡ (count c >>= λ all. require (not (hidden_at nodes (length nodes - 1))) (HiddenElsewhere (length nodes - 1)))
      go (passed d) = refl
      go (refused r) = refl

  arrive_count_passed : (i : ℕ) (n : Node) (k m : ℕ) → arrive_count nodes i n k ≡ passed m → (i ≡ k) × (m ≡ suc i) × (allowed nodes i n ≡ passed tt)
  unfolding arrive_count
  arrive_count_passed i n k m e =
      let p = both_passed (require (eqb i k) (CanonicalOrder k)) (λ next. allowed nodes i n >>= λ fine. passed (suc k)) m e in
      let q = both_passed (allowed nodes i n) (λ fine. passed (suc k)) m p.2 in
      let same : i ≡ k = eqb-true i k (require_holds (eqb i k) (CanonicalOrder k) p.0 p.1) in
      let last : suc k ≡ m = (let e = q.2 in cc) in
      (same, omega arith, q.1)

  -- a walk arrives at node i exactly if i is the next and allowed
  pub arrive-passed : (i : ℕ) (n : Node) (k m : ℕ) → arrive nodes i n (up_from 0 k) ≡ passed (up_from 0 m)
      → (i ≡ k) × (m ≡ suc i) × (allowed nodes i n ≡ passed tt)
  unfolding count
  arrive-passed i n k m e =
      arrive_count_passed i n k m (sym (arrive-count i n k) ∙ ap count e ∙ ap {B = Check ℕ} passed (length-up_from 0 m))

  pub arrive_passes : (n : Node) (k : ℕ) → allowed nodes k n ≡ passed tt → arrive nodes k n (up_from 0 k) ≡ passed (up_from 0 (suc k))
  unfolding arrive require
  arrive_passes n k e =
      rw (length-up_from 0 k, eq-eqb k k refl, e)
      (ap {B = Check (List ℕ)} passed (ap (λ (j : ℕ). up_from 0 k ++ j ∷ []) (sym (zero-add k)) ∙ up_from_more 0 k))

  -- a walk that passed has done some nodes below a count
  pub upto_count : (k : ℕ) (c : Check (List ℕ)) (d : List ℕ) → Counted k c → c ≡ passed d → (m : ℕ) × (k ≤ m) × (d ≡ up_from 0 m)
  upto_count k c d (of_upto m h) e = (m, h, (let p : d ≡ up_from 0 m = cc in p))
  upto_count k c d (of_stopped r) e = clash (cc)

  -- those below the larger of k and i + 1
  pub walk_passed : (i k m : ℕ) → i < length nodes → walk_from nodes i (up_from 0 k) ≡ passed (up_from 0 m) → m ≡ max k (suc i)
  unfolding walk_node
  walk_passed i k m h e =
      let tested = ap (λ (b : Bool). walk_node nodes b i (walks_before nodes i) (node_at nodes i) (up_from 0 k)) (sym (done_below i k)) in
      go (ltb i k) refl (tested ∙ sym (walk_at i h (up_from 0 k)) ∙ e)
    where
      go : (t : Bool) → ltb i k ≡ t → walk_node nodes t i (walks_before nodes i) (node_at nodes i) (up_from 0 k) ≡ passed (up_from 0 m) → m ≡ max k (suc i)
      go true p e =
          let l : i < k = ltb-true i k p in
          let q : up_from 0 k ≡ up_from 0 m = cc in
          omega (arith, ap length q, length-up_from 0 k, length-up_from 0 m)
      go false p e =
          let l : k ≤ i = ltb-false i k p in
          let q = both_passed (walk_each nodes (walks_before nodes i) (children (node_at nodes i)) (up_from 0 k)) (arrive nodes i (node_at nodes i))
          (up_from 0 m) e in
          let c = upto_count k _ q.0 (each_counted (walks_before nodes i) (before_counting i (omega arith)) (children (node_at nodes i)) k) q.1 in
          let r = arrive-passed i (node_at nodes i) c.0 m (ap (arrive nodes i (node_at nodes i)) (sym c.2) ∙ q.2) in
          omega arith
