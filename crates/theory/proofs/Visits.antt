-- How many terms a run evaluates, a failing one included, and that the cost bounds it.
-- A part that ends with a value has paid for each of its visits; one that stops owes at most the price of one node.
use Rattle.std.specs.Prelude.{◌≡◌, refl, ℕ, ◌+◌, ◌*◌, ◌/◌, ◌≤◌, max}
use Rattle.std.proofs.Common.{arith}
use Rattle.limits.specs.Limits.{node_cost}
use Rattle.report.specs.Values.{Val, ⟨⟩, inl, inr, ◌&◌}
use Rattle.report.specs.Terms.{Term, iden, comp, unit, injl, injr, case, pair, take, drop, assertl, assertr, fail, witness, word, disconnect, bad}
use Rattle.report.specs.Meaning.{done, failed, pruned, stuck, ◌>>=◌, Means, split, branch, eval, after, in_pair, in_sum, visits}
use Rattle.scope.specs.Bounds.{bounds}

-- what a part that stopped may owe
unfoldable pub owed : Means → ℕ
owed (done v) = 0
owed (failed p y) = node_cost
owed (pruned p y) = node_cost
owed stuck = node_cost

-- at most the price of one node
owed_most : (o : Means) → owed o ≤ node_cost
unfolding owed
owed_most (done v) = omega arith
owed_most (failed p y) = omega arith
owed_most (pruned p y) = omega arith
owed_most stuck = omega arith

-- a first part of n visits and price k, and a second
paid_both : (o : Means) (f : Val → Means) (g : Val → ℕ) (n k k' : ℕ) → node_cost * n ≤ k + owed o → ((v : Val) → node_cost * g v ≤ k' + owed (f v))
    → node_cost * (n + after o g) ≤ (k + k') + owed (o >>= f)
unfolding after owed ◌>>=◌
paid_both (done v) f g n k k' h h' = omega (arith, h' v)
paid_both (failed p y) f g n k k' h h' = omega arith
paid_both (pruned p y) f g n k k' h h' = omega arith
paid_both stuck f g n k k' h h' = omega arith

-- a change of the value alone owes nothing more
owed_map : (o : Means) (f : Val → Val) → owed (o >>= λ v. done (f v)) ≡ owed o
unfolding owed ◌>>=◌
owed_map (done v) f = refl
owed_map (failed p y) f = refl
owed_map (pruned p y) f = refl
owed_map stuck f = refl

-- a part that takes a pair apart
paid_split : (v : Val) (f : Val → Val → Means) (g : Val → Val → ℕ) (k : ℕ) → ((a b : Val) → node_cost * g a b ≤ k + owed (f a b))
    → node_cost * in_pair v g ≤ k + owed (split v f)
unfolding in_pair split owed
paid_split ⟨⟩ f g k h = omega arith
paid_split (inl v) f g k h = omega arith
paid_split (inr v) f g k h = omega arith
paid_split (v & w) f g k h = h v w

-- a part that takes a sum apart
paid_branch : (v : Val) (f f' : Val → Means) (g g' : Val → ℕ) (k : ℕ) → ((a : Val) → node_cost * g a ≤ k + owed (f a))
    → ((a : Val) → node_cost * g' a ≤ k + owed (f' a)) → node_cost * in_sum v g g' ≤ k + owed (branch v f f')
unfolding in_sum branch owed
paid_branch ⟨⟩ f f' g g' k h h' = omega arith
paid_branch (inl v) f f' g g' k h h' = h v
paid_branch (inr v) f f' g g' k h h' = h' v
paid_branch (v & w) f f' g g' k h h' = omega arith

-- the cost of a term
abbrev cost : Term → ℕ
cost t = (bounds t).cost

-- each visit is paid for, but for one where the term stops
visits_paid : (t : Term) (v : Val) → node_cost * visits t v ≤ cost t + owed (eval t v)
unfolding visits bounds eval owed
visits_paid (iden A) v = omega arith
visits_paid (comp B s t) v =
    omega (arith, paid_both (eval s v) (λ w. eval t w) (λ w. visits t w) (visits s v) (cost s) (cost t) (visits_paid s v) (λ w. visits_paid t w))
visits_paid unit v = omega arith
visits_paid (injl B C t) v = omega (arith, visits_paid t v, owed_map (eval t v) inl)
visits_paid (injr B C t) v = omega (arith, visits_paid t v, owed_map (eval t v) inr)
visits_paid (case A B s t) v = omega (
  arith,
  paid_split v (λ x c. branch x (λ a. eval s (a & c)) (λ b. eval t (b & c)))
      (λ x c. in_sum x (λ a. visits s (a & c)) (λ b. visits t (b & c))) (max (cost s) (cost t))
      (λ x c. paid_branch x (λ a. eval s (a & c)) (λ b. eval t (b & c)) (λ a. visits s (a & c)) (λ b. visits t (b & c)) (max (cost s) (cost t))
      (λ a. omega (arith, visits_paid s (a & c))) (λ b. omega (arith, visits_paid t (b & c)))),
)
visits_paid (pair B s t) v = omega (
  arith,
  paid_both (eval s v) (λ x. eval t v >>= λ y. done (x & y)) (λ w. visits t v) (visits s v) (cost s) (cost t) (visits_paid s v)
      (λ x. omega (arith, visits_paid t v, owed_map (eval t v) (x &◌))),
)
visits_paid (take t) v = omega (arith, paid_split v (λ a b. eval t a) (λ a b. visits t a) (cost t) (λ a b. visits_paid t a))
visits_paid (drop A t) v = omega (arith, paid_split v (λ a b. eval t b) (λ a b. visits t b) (cost t) (λ a b. visits_paid t b))
visits_paid (assertl p A B s) v = omega (
  arith,
  paid_split v (λ x c. branch x (λ a. eval s (a & c)) (λ b. pruned p tt)) (λ x c. in_sum x (λ a. visits s (a & c)) (λ b. 0)) (cost s)
      (λ x c. paid_branch x (λ a. eval s (a & c)) (λ b. pruned p tt) (λ a. visits s (a & c)) (λ b. 0) (cost s) (λ a. visits_paid s (a & c)) (λ b. omega arith)),
)
visits_paid (assertr p A B t) v = omega (
  arith,
  paid_split v (λ x c. branch x (λ a. pruned p tt) (λ b. eval t (b & c))) (λ x c. in_sum x (λ a. 0) (λ b. visits t (b & c))) (cost t)
      (λ x c. paid_branch x (λ a. pruned p tt) (λ b. eval t (b & c)) (λ a. 0) (λ b. visits t (b & c)) (cost t) (λ a. omega arith) (λ b. visits_paid t (b & c))),
)
visits_paid (fail p) v = omega arith
visits_paid (witness A w) v = omega arith
visits_paid (word A w) v = omega arith
visits_paid (disconnect A B C h s t) v = omega (
  arith,
  paid_both (eval s (h & v)) (λ bc. split bc λ b c. eval t c >>= λ d. done (b & d)) (λ bc. in_pair bc λ b c. visits t c) (visits s (h & v)) (cost s) (cost t)
      (visits_paid s (h & v))
      (λ bc. paid_split bc (λ b c. eval t c >>= λ d. done (b & d)) (λ b c. visits t c) (cost t)
      (λ b c. omega (arith, visits_paid t c, owed_map (eval t c) (b &◌)))),
)
visits_paid bad v = omega arith

-- VISITS ARE AT MOST COST / 100, AND ONE, of every term and every value, typed or not
pub visits_bound : (t : Term) (v : Val) → visits t v ≤ (bounds t).cost / node_cost + 1
visits_bound t v = omega (arith, visits_paid t v, owed_most (eval t v))
