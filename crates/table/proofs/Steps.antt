-- The walk in the code's steps: what a node asks, by its kind, and one step of the walk over any table, by the count of the nodes done.
-- A child that is not below its parent is not walked. And no step sees a word's bits.
use mathlib.Core.Path.{◌≡◌, refl, sym, ap, ap₂, ◌∙◌}
use mathlib.Core.Bool.{Bool, true, false, not}
use mathlib.Core.List.{List, [], ◌∷◌, ◌++◌}
use Prim.Native.Nat.{ℕ, suc, ◌+◌, ◌<◌, ◌≤◌}
use native.Mathlib.Nat.{zero-add}
use native.Mathlib.Omega.{arith}
use native.Mathlib.Decide.{dec_lt}
use lib.Dec.{eqb, ltb}
use lib.ListN.{length, get_or}
use lib.Seq.{get_or-take}
use borrow.Author.Tests.{lt-ltb, le-ltb, eqb-true}
use Rattle.refusal.specs.declared.Refusal.{Refusal}
use Rattle.refusal.specs.declared.Refusal.TheVariants.{CanonicalOrder, HiddenElsewhere, BothHidden}
use Rattle.report.specs.Nodes.{Node}
use Rattle.report.specs.Table.{entries}
use Rattle.report.specs.Canonical.{children, up_from}
use Rattle.scope.specs.Check.{Check, passed, refused, ◌>>=◌, require}
use Rattle.scope.specs.Numbers.{every}
use Rattle.scope.specs.Nodes.{Kind, kind_of, NodeRecord, node_records, node_of, node_at, on_hidden}
use Rattle.scope.specs.Walk.{hidden_at, none_hidden, allowed, walk_each, walk_make, walk_from}
use Rattle.scope.specs.Stages.{no_record}
use Rattle.common.specs.Checks.{clash, require_holds, then_same, then_nothing, then_passes, then_refuses, then_then, both_passed}
use Rattle.common.specs.Tables.{before_none}
use Rattle.exactness.specs.Walk.{length-up_from, up_from_more, done_below, arrive, arrive_count, count, walk_count, walks_before, walk_node}
use Rattle.exactness.proofs.Walk.{walk_at, walk_is_count}
use Rattle.table.specs.Lent.{lent_nodes, node_is, hidden_kind, left_of, right_of}
use Rattle.table.specs.Walking.{children_rule, repeat_rule, child_walk}
use Rattle.common.specs.Nodes.{length_nodes, node_at_lem}
use Rattle.table.proofs.Groups.{by_kind, unknown, same_children, few_children}
use Rattle.table.proofs.Hashes.{hidden_alike}

module _ (nodes : List Node) (i : ℕ) where
  two_shown : (a b : ℕ) → none_hidden nodes i (a ∷ b ∷ []) ≡ children_rule false (hidden_at nodes a) (hidden_at nodes b) i
  unfolding none_hidden children_rule
  two_shown a b =
      then_same (require (not (hidden_at nodes a)) (HiddenElsewhere i)) _ (λ x. require (not (hidden_at nodes b)) (HiddenElsewhere i))
      (λ x. then_nothing (require (not (hidden_at nodes b)) (HiddenElsewhere i)))

  one_shown : (a : ℕ) → hidden_at nodes i ≡ false → none_hidden nodes i (a ∷ []) ≡ children_rule false (hidden_at nodes a) (hidden_at nodes i) i
  unfolding none_hidden children_rule require
  one_shown a own = rw own

  none_shown : hidden_at nodes i ≡ false → passed tt ≡ children_rule false (hidden_at nodes i) (hidden_at nodes i) i
  unfolding children_rule require ◌>>=◌
  none_shown own = rw own

  own_shown : (n : Node) → node_at nodes i ≡ n → on_hidden n (λ hash. true) false ≡ false → hidden_at nodes i ≡ false
  unfolding hidden_at
  own_shown n e p = ap (λ (x : Node). on_hidden x (λ hash. true) false) e ∙ p

  -- what a node that is not hidden and no case asks of its children
  pub allowed_other : (hashes : List ℕ) (a b k : ℕ) → node_at nodes i ≡ node_of [] hashes (kind_of k) a b → (k ≡ 1 → ⊥) → hidden_kind k ≡ false
      → allowed nodes i (node_of [] hashes (kind_of k) a b)
      ≡ children_rule false (hidden_at nodes (left_of (node_of [] [] (kind_of k) a b) i)) (hidden_at nodes (right_of (node_of [] [] (kind_of k) a b) i)) i
  unfolding allowed children node_of kind_of hidden_kind on_hidden
  allowed_other hashes a b =
      by_kind (λ k. node_at nodes i ≡ node_of [] hashes (kind_of k) a b → (k ≡ 1 → ⊥) → hidden_kind k ≡ false
      → allowed nodes i (node_of [] hashes (kind_of k) a b)
      ≡ children_rule false (hidden_at nodes (left_of (node_of [] [] (kind_of k) a b) i)) (hidden_at nodes (right_of (node_of [] [] (kind_of k) a b) i)) i)
      (λ e n p. two_shown a b) (λ e n p. absurd (n refl)) (λ e n p. two_shown a b) (λ e n p. two_shown a b)
      (λ e n p. one_shown a (own_shown _ e refl)) (λ e n p. one_shown a (own_shown _ e refl)) (λ e n p. one_shown a (own_shown _ e refl))
      (λ e n p. one_shown a (own_shown _ e refl))
      (λ e n p. none_shown (own_shown _ e refl)) (λ e n p. none_shown (own_shown _ e refl)) (λ e n p. none_shown (own_shown _ e refl))
      (λ e n p. one_shown a (own_shown _ e refl))
      (λ e n p. none_shown (own_shown _ e refl)) (λ e n p. clash (cc)) (λ e n p. none_shown (own_shown _ e refl))
      (λ k h e n p. rw (unknown k h) (none_shown (own_shown _ (e ∙ ap (λ (x : Kind). node_of [] hashes x a b) (unknown k h)) refl)))

  -- what a case asks of them, and what a hidden node asks of those before it
  pub allowed_case : (hashes : List ℕ) (a b k : ℕ) → k ≡ 1 → allowed nodes i (node_of [] hashes (kind_of k) a b)
      ≡ children_rule true (hidden_at nodes (left_of (node_of [] [] (kind_of k) a b) i)) (hidden_at nodes (right_of (node_of [] [] (kind_of k) a b) i)) i
  unfolding allowed children node_of kind_of children_rule
  allowed_case hashes a b k e = rw e

  pub allowed_hidden : (hashes : List ℕ) (a b k : ℕ) → hidden_kind k ≡ true → allowed nodes i (node_of [] hashes (kind_of k) a b)
      ≡ repeat_rule nodes (node_of [] hashes (kind_of k) a b) i
  unfolding allowed repeat_rule node_of kind_of hidden_kind on_hidden
  allowed_hidden hashes a b =
      by_kind (λ k. hidden_kind k ≡ true → allowed nodes i (node_of [] hashes (kind_of k) a b) ≡ repeat_rule nodes (node_of [] hashes (kind_of k) a b) i)
      (λ p. clash (cc)) (λ p. clash (cc)) (λ p. clash (cc)) (λ p. clash (cc)) (λ p. clash (cc)) (λ p. clash (cc)) (λ p. clash (cc)) (λ p. clash (cc))
      (λ p. clash (cc)) (λ p. clash (cc)) (λ p. clash (cc)) (λ p. clash (cc)) (λ p. clash (cc)) (λ p. refl) (λ p. clash (cc))
      (λ k h p. clash (let q = sym (ap (λ (x : Kind). on_hidden (node_of [] [] x 0 0) (λ hash. true) false) (unknown k h)) ∙ p in cc))

-- a count as the list of the nodes done
abbrev listed : Check ℕ → Check (List ℕ)
listed c = c >>= λ m. passed (up_from 0 m)

count-listed : (c : Check ℕ) → count (listed c) ≡ c
unfolding count ◌>>=◌
count-listed (passed m) = ap {B = Check ℕ} passed (length-up_from 0 m)
count-listed (refused r) = refl

then_listed : (c : Check ℕ) (f : List ℕ → Check (List ℕ)) (g : ℕ → Check ℕ) → ((m : ℕ) → f (up_from 0 m) ≡ listed (g m)) → (listed c >>= f) ≡ listed (c >>= g)
unfolding ◌>>=◌
then_listed (passed m) f g e = e m
then_listed (refused r) f g e = refl

-- the walk from node i, which is done or has these children: nothing, or the walks from the children and then i itself
abbrev pub walk_by : List Node → (i a b : ℕ) → Node → (done : Bool) → (k : ℕ) → Check ℕ
walk_by nodes i a b n true k = passed k
walk_by nodes i a b n false k = child_walk nodes i a k >>= (λ m. child_walk nodes i b m) >>= λ m. arrive_count nodes i n m

-- the walk from a child: that from the node below, or none
pub child_below : (nodes : List Node) (i j k : ℕ) → j < i → child_walk nodes i j k ≡ walk_count nodes j k
unfolding child_walk
child_below nodes i j k h = ap (λ (b : Bool). elim b [ true ↦ walk_count nodes j k | false ↦ passed k ]) (lt-ltb j i h)

pub child_not_below : (nodes : List Node) (i j k : ℕ) → i ≤ j → child_walk nodes i j k ≡ passed k
unfolding child_walk
child_not_below nodes i j k h = ap (λ (b : Bool). elim b [ true ↦ walk_count nodes j k | false ↦ passed k ]) (le-ltb j i h)

module _ (nodes : List Node) (i : ℕ) where
  -- the walks from some children, one after the other
  unfoldable pub child_walks : List ℕ → (k : ℕ) → Check ℕ
  child_walks [] k = passed k
  child_walks (j ∷ js) k = child_walk nodes i j k >>= child_walks js

  one_walk : i ≤ length nodes → (j k : ℕ) → (get_or (walks_before nodes i) j (λ d. passed d)) (up_from 0 k) ≡ listed (child_walk nodes i j k)
  unfolding walks_before walk_from ◌>>=◌
  one_walk h j k =
      elim (dec_lt j i) [
        | yes l ↦ ap (λ (w : List ℕ → Check (List ℕ)). w (up_from 0 k)) (get_or-take i (entries (walk_make nodes) nodes) j (λ d. passed d) l)
            ∙ walk_is_count nodes j k ∙ ap listed (sym (child_below nodes i j k l))
        | no m ↦ ap (λ (w : List ℕ → Check (List ℕ)). w (up_from 0 k)) (before_none (walk_make nodes) nodes i j (λ d. passed d) h (omega arith))
            ∙ ap listed (sym (child_not_below nodes i j k (omega arith)))
      ]

  each_walk : i ≤ length nodes → (js : List ℕ) (k : ℕ) → walk_each nodes (walks_before nodes i) js (up_from 0 k) ≡ listed (child_walks js k)
  unfolding walk_each child_walks ◌>>=◌
  each_walk h [] k = refl
  each_walk h (j ∷ js) k =
      ap (λ (c : Check (List ℕ)). c >>= walk_each nodes (walks_before nodes i) js) (one_walk h j k)
      ∙ then_listed (child_walk nodes i j k) (walk_each nodes (walks_before nodes i) js) (child_walks js) (each_walk h js)

  arrive-listed : (n : Node) (m : ℕ) → arrive nodes i n (up_from 0 m) ≡ listed (arrive_count nodes i n m)
  unfolding arrive arrive_count require ◌>>=◌
  arrive-listed n m = rw (length-up_from 0 m, arrive) (go (eqb i m) (allowed nodes i n) refl)
    where
      go : (b : Bool) (c : Check (Unit {0})) → eqb i m ≡ b
          → (require b (CanonicalOrder m) >>= λ next. c >>= λ fine. passed (up_from 0 m ++ i ∷ []))
          ≡ listed (require b (CanonicalOrder m) >>= λ next. c >>= λ fine. passed (suc m))
      go true (passed x) e =
          ap (λ (l : List ℕ). passed l) (ap (λ (j : ℕ). up_from 0 m ++ j ∷ []) (eqb-true i m e ∙ sym (zero-add m)) ∙ up_from_more 0 m)
      go true (refused r) e = refl
      go false c e = refl

  -- at most two children: the walk from the left one, then that from the right one
  both_walks : (js : List ℕ) (k : ℕ) → length js ≤ 2 → child_walks js k ≡ (child_walk nodes i (get_or js 0 i) k >>= λ m. child_walk nodes i (get_or js 1 i) m)
  unfolding child_walks ◌>>=◌
  both_walks [] k h =
      sym (ap (λ (c : Check ℕ). c >>= λ m. child_walk nodes i i m) (child_not_below nodes i i k (omega arith)) ∙ child_not_below nodes i i k (omega arith))
  both_walks (a ∷ []) k h =
      then_same (child_walk nodes i a k) (child_walks []) (λ m. child_walk nodes i i m) (λ m. sym (child_not_below nodes i i m (omega arith)))
  both_walks (a ∷ b ∷ []) k h = then_same (child_walk nodes i a k) (child_walks (b ∷ [])) (λ m. child_walk nodes i b m) (λ m. then_passed (child_walk nodes i b m))
    where
      then_passed : (c : Check ℕ) → (c >>= passed) ≡ c
      then_passed (passed m) = refl
      then_passed (refused r) = refl
  both_walks (a ∷ b ∷ d ∷ js) k h = absurd (omega arith)

  -- one step of the walk over any table
  pub step_any : (n : Node) (k : ℕ) → i < length nodes → node_at nodes i ≡ n → length (children n) ≤ 2
      → walk_count nodes i k ≡ walk_by nodes i (left_of n i) (right_of n i) n (ltb i k) k
  unfolding walk_count walk_node
  step_any n k h e two =
      ap count (walk_at nodes i h (up_from 0 k) ∙ ap (λ (b : Bool). walk_node nodes b i (walks_before nodes i) (node_at nodes i) (up_from 0 k)) (done_below i k)
      ∙ ap (λ (x : Node). walk_node nodes (ltb i k) i (walks_before nodes i) x (up_from 0 k)) e) ∙ go (ltb i k)
    where
      go : (t : Bool) → count (walk_node nodes t i (walks_before nodes i) n (up_from 0 k)) ≡ walk_by nodes i (left_of n i) (right_of n i) n t k
      go true = ap {B = Check ℕ} passed (length-up_from 0 k)
      go false =
          ap (λ (c : Check (List ℕ)). count (c >>= arrive nodes i n)) (each_walk (omega arith) (children n) k)
          ∙ ap count (then_listed (child_walks (children n) k) (arrive nodes i n) (arrive_count nodes i n) (arrive-listed n))
          ∙ count-listed (child_walks (children n) k >>= arrive_count nodes i n)
          ∙ ap (λ (c : Check ℕ). c >>= arrive_count nodes i n) (both_walks (children n) k two)

-- the children asked for, hidden or not, under a case
pub one_hidden_by : (left right : Bool) (i : ℕ) → children_rule true left right i
    ≡ elim left [ true ↦ elim right [ true ↦ refused (BothHidden i) | false ↦ passed tt ] | false ↦ passed tt ]
unfolding children_rule every require
one_hidden_by true true i = refl
one_hidden_by true false i = refl
one_hidden_by false right i = refl

-- and elsewhere
pub none_hidden_by : (left right : Bool) (i : ℕ) → children_rule false left right i
    ≡ elim left [ true ↦ refused (HiddenElsewhere i) | false ↦ elim right [ true ↦ refused (HiddenElsewhere i) | false ↦ passed tt ] ]
unfolding children_rule require ◌>>=◌
none_hidden_by true right i = refl
none_hidden_by false true i = refl
none_hidden_by false false i = refl

-- record r of a lent table, at place i
module _ (hashes nodes : List ℕ) (i : ℕ) (r : NodeRecord) (is : r ≡ get_or (node_records nodes) i no_record) where
  node_is_lem : node_at (lent_nodes hashes nodes) i ≡ node_is hashes r
  node_is_lem = node_at_lem [] hashes (node_records nodes) i ∙ ap (node_is hashes) (sym is)

  -- what a hidden node asks
  pub asks_hidden : hidden_kind r.kind ≡ true
      → allowed (lent_nodes hashes nodes) i (node_at (lent_nodes hashes nodes) i) ≡ repeat_rule (lent_nodes hashes nodes) (node_is hashes r) i
  asks_hidden h = ap (allowed (lent_nodes hashes nodes) i) node_is_lem ∙ allowed_hidden (lent_nodes hashes nodes) i hashes r.first r.second r.kind h

  module _ (a b : ℕ) (left right : Bool) (at_a : a ≡ left_of (node_is [] r) i) (at_b : b ≡ right_of (node_is [] r) i)
      (on-a : left ≡ hidden_at (lent_nodes [] nodes) a) (on-b : right ≡ hidden_at (lent_nodes [] nodes) b) where
    both_told : (t : Bool) → children_rule t (hidden_at (lent_nodes hashes nodes) (left_of (node_is [] r) i))
        (hidden_at (lent_nodes hashes nodes) (right_of (node_is [] r) i)) i
        ≡ children_rule t left right i
    both_told t =
        sym (ap₂ (λ (x y : Bool). children_rule t x y i)
        (on-a ∙ ap (hidden_at (lent_nodes [] nodes)) at_a ∙ hidden_same (left_of (node_is [] r) i))
        (on-b ∙ ap (hidden_at (lent_nodes [] nodes)) at_b ∙ hidden_same (right_of (node_is [] r) i)))
      where
        hidden_same : (j : ℕ) → hidden_at (lent_nodes [] nodes) j ≡ hidden_at (lent_nodes hashes nodes) j
        hidden_same j = sym (hidden_alike [] hashes (node_records nodes) j)

    -- what a case asks, and what any other node asks
    pub asks_case : r.kind ≡ 1 → allowed (lent_nodes hashes nodes) i (node_at (lent_nodes hashes nodes) i) ≡ children_rule true left right i
    asks_case e =
        ap (allowed (lent_nodes hashes nodes) i) node_is_lem
        ∙ allowed_case (lent_nodes hashes nodes) i hashes r.first r.second r.kind e
        ∙ both_told true

    pub asks_other : (r.kind ≡ 1 → ⊥) → hidden_kind r.kind ≡ false
        → allowed (lent_nodes hashes nodes) i (node_at (lent_nodes hashes nodes) i) ≡ children_rule false left right i
    asks_other n h =
        ap (allowed (lent_nodes hashes nodes) i) node_is_lem
        ∙ allowed_other (lent_nodes hashes nodes) i hashes r.first r.second r.kind node_is_lem n h
        ∙ both_told false

  module _ (k : ℕ) (within : i < length (node_records nodes)) where
    step : walk_count (lent_nodes hashes nodes) i k
        ≡ walk_by (lent_nodes hashes nodes) i (left_of (node_is [] r) i) (right_of (node_is [] r) i) (node_is hashes r) (ltb i k) k
    step =
        step_any (lent_nodes hashes nodes) i (node_is hashes r) k (omega (arith, length_nodes [] hashes (node_records nodes))) node_is_lem
        (few_children [] hashes (kind_of r.kind) r.first r.second)
        ∙ ap (λ (js : List ℕ). walk_by (lent_nodes hashes nodes) i (get_or js 0 i) (get_or js 1 i) (node_is hashes r) (ltb i k) k)
        (same_children [] hashes (kind_of r.kind) r.first r.second)

    -- node i is done already
    pub walk_done : i < k → passed k ≡ walk_count (lent_nodes hashes nodes) i k
    walk_done h = sym (step ∙ (rw (lt-ltb i k h)))

    module _ (later : k ≤ i) where
      step_on : walk_count (lent_nodes hashes nodes) i k
          ≡ walk_by (lent_nodes hashes nodes) i (left_of (node_is [] r) i) (right_of (node_is [] r) i) (node_is hashes r) false k
      step_on = step ∙ (rw (le-ltb i k later))

      -- the walk from the left child stops, or that from the right child, or both pass
      pub left_stops : (j : ℕ) (why : Refusal) → j ≡ left_of (node_is [] r) i → child_walk (lent_nodes hashes nodes) i j k ≡ refused why
          → refused why ≡ walk_count (lent_nodes hashes nodes) i k
      unfolding ◌>>=◌
      left_stops j why e p = sym (step_on ∙ (rw (← e, p)))

      pub right_stops : (a b m : ℕ) (why : Refusal) → a ≡ left_of (node_is [] r) i → child_walk (lent_nodes hashes nodes) i a k ≡ passed m
          → b ≡ right_of (node_is [] r) i → child_walk (lent_nodes hashes nodes) i b m ≡ refused why → refused why ≡ walk_count (lent_nodes hashes nodes) i k
      unfolding ◌>>=◌
      right_stops a b m why e p f q = sym (step_on ∙ (rw (← e, p, ← f, q)))

      pub both_pass : (a b m d : ℕ) → a ≡ left_of (node_is [] r) i → child_walk (lent_nodes hashes nodes) i a k ≡ passed m
          → b ≡ right_of (node_is [] r) i → child_walk (lent_nodes hashes nodes) i b m ≡ passed d
          → arrive_count (lent_nodes hashes nodes) i (node_at (lent_nodes hashes nodes) i) d ≡ walk_count (lent_nodes hashes nodes) i k
      unfolding ◌>>=◌
      both_pass a b m d e p f q = sym (step_on ∙ (rw (← e, p, ← f, q) (ap (λ (n : Node). arrive_count (lent_nodes hashes nodes) i n d) (sym node_is_lem))))

-- what is said of node i when its turn comes: its order is judged, then what it asks
module _ (nodes : List Node) (i : ℕ) (n : Node) (k : ℕ) where
  turn : Check (Unit {0})
  turn = require (eqb i k) (CanonicalOrder k) >>= λ x. allowed nodes i n

  arrive_by : arrive_count nodes i n k ≡ (turn >>= λ x. passed (suc k))
  unfolding arrive_count turn
  arrive_by = sym (then_then (require (eqb i k) (CanonicalOrder k)) (λ x. allowed nodes i n) (λ x. passed (suc k)))

  pub turn_refused : (why : Refusal) → (require (eqb i k) (CanonicalOrder k) >>= λ x. allowed nodes i n) ≡ refused why → refused why ≡ arrive_count nodes i n k
  unfolding turn
  turn_refused why e = sym (arrive_by ∙ then_refuses turn (λ x. passed (suc k)) why e)

  pub turn_passed : (require (eqb i k) (CanonicalOrder k) >>= λ x. allowed nodes i n) ≡ passed tt → passed (i + 1) ≡ arrive_count nodes i n k
  unfolding turn
  turn_passed e =
      let p = both_passed (require (eqb i k) (CanonicalOrder k)) (λ x. allowed nodes i n) tt e in
      let next = eqb-true i k (require_holds (eqb i k) (CanonicalOrder k) p.0 p.1) in
      let m : suc k ≡ i + 1 = omega arith in
      sym (arrive_by ∙ then_passes turn (λ x. passed (suc k)) tt e ∙ ap {B = Check ℕ} passed m)
