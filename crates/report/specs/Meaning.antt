-- The report's meaning of a term: a function from values to values that may fail, its left child first, with the place where it fails.
-- And how many terms are evaluated on the way, a failing one included.
use Rattle.std.specs.Prelude.{ℕ, ◌+◌}
use Rattle.report.specs.Values.{Val, ⟨⟩, inl, inr, ◌&◌}
use Rattle.report.specs.Terms.{Term, iden, comp, unit, injl, injr, case, pair, take, drop, assertl, assertr, fail, witness, word, disconnect, bad}

-- How a computation ends: with a result; at a fail node or a pruned branch, with what is left there (Y);
-- or stuck, where no rule applies. That a typed term is never stuck is a theorem.
pub data Out (Y X : Type 0) : Type 0 where
  done : X → Out Y X
  failed pruned : (place : ℕ) → Y → Out Y X
  stuck : Out Y X

infixl 40 ◌>>=◌
unfoldable pub ◌>>=◌ : {Y X Z : Type 0} → Out Y X → (X → Out Y Z) → Out Y Z
◌>>=◌ (done x) f = f x
◌>>=◌ (failed p y) f = failed p y
◌>>=◌ (pruned p y) f = pruned p y
◌>>=◌ stuck f = stuck

abbrev pub Means : Type 0
Means = Out (Unit {0}) Val

-- a pair taken apart
unfoldable pub split : Val → (Val → Val → Means) → Means
split ⟨⟩ f = stuck
split (inl v) f = stuck
split (inr v) f = stuck
split (v & w) f = f v w

-- a sum taken apart
unfoldable pub branch : Val → (Val → Means) → (Val → Means) → Means
branch ⟨⟩ f g = stuck
branch (inl v) f g = f v
branch (inr v) f g = g v
branch (v & w) f g = stuck

-- what a term makes of a value
unfoldable pub eval : Term → Val → Means
unfolding ◌>>=◌ split branch
eval (iden A) v = done v
eval (comp B s t) v = do
  w ← eval s v
  eval t w
eval unit v = done ⟨⟩
eval (injl B C t) v = do
  w ← eval t v
  done (inl w)
eval (injr B C t) v = do
  w ← eval t v
  done (inr w)
eval (case A B s t) v = split v λ x c. branch x (λ a. eval s (a & c)) (λ b. eval t (b & c))
eval (pair B s t) v = do
  x ← eval s v
  y ← eval t v
  done (x & y)
eval (take t) v = split v λ a b. eval t a
eval (drop A t) v = split v λ a b. eval t b
eval (assertl p A B s) v = split v λ x c. branch x (λ a. eval s (a & c)) (λ b. pruned p tt)
eval (assertr p A B t) v = split v λ x c. branch x (λ a. pruned p tt) (λ b. eval t (b & c))
eval (fail p) v = failed p tt
eval (witness A w) v = done w
eval (word A w) v = done w
eval (disconnect A B C h s t) v = do
  bc ← eval s (h & v)
  split bc λ b c. do
    d ← eval t c
    done (b & d)
eval bad v = stuck

-- the evaluations that follow a result, a pair, a sum
unfoldable pub after : Means → (Val → ℕ) → ℕ
after (done v) f = f v
after (failed p y) f = 0
after (pruned p y) f = 0
after stuck f = 0

unfoldable pub in_pair : Val → (Val → Val → ℕ) → ℕ
in_pair ⟨⟩ f = 0
in_pair (inl v) f = 0
in_pair (inr v) f = 0
in_pair (v & w) f = f v w

unfoldable pub in_sum : Val → (Val → ℕ) → (Val → ℕ) → ℕ
in_sum ⟨⟩ f g = 0
in_sum (inl v) f g = f v
in_sum (inr v) f g = g v
in_sum (v & w) f g = 0

-- how many terms are evaluated; a pruned branch that is reached is none, its assertion is one
unfoldable pub visits : Term → Val → ℕ
unfolding after in_pair in_sum eval
visits (iden A) v = 1
visits (comp B s t) v = 1 + (visits s v + after (eval s v) (λ w. visits t w))
visits unit v = 1
visits (injl B C t) v = 1 + visits t v
visits (injr B C t) v = 1 + visits t v
visits (case A B s t) v = 1 + in_pair v λ x c. in_sum x (λ a. visits s (a & c)) (λ b. visits t (b & c))
visits (pair B s t) v = 1 + (visits s v + after (eval s v) (λ x. visits t v))
visits (take t) v = 1 + in_pair v λ a b. visits t a
visits (drop A t) v = 1 + in_pair v λ a b. visits t b
visits (assertl p A B s) v = 1 + in_pair v λ x c. in_sum x (λ a. visits s (a & c)) (λ b. 0)
visits (assertr p A B t) v = 1 + in_pair v λ x c. in_sum x (λ a. 0) (λ b. visits t (b & c))
visits (fail p) v = 1
visits (witness A w) v = 1
visits (word A w) v = 1
visits (disconnect A B C h s t) v = 1 + (visits s (h & v) + after (eval s (h & v)) λ bc. in_pair bc λ b c. visits t c)
visits bad v = 0
