-- Sums that are held at one above a limit: holding the parts first changes nothing, and so for each row of the table of bounds.
use mathlib.Core.Path.{◌≡◌, ap₂, ◌∙◌}
use Prim.Native.Nat.{ℕ, ◌+◌}
use native.Mathlib.Omega.{arith}
use Rattle.limits.specs.Limits.{cost_limit, node_cost}
use Rattle.analysis.specs.Held.{up_to}
use Rattle.analysis.specs.declared.Cost.{Cost}
use Rattle.analysis.specs.declared.Bound.{Bound}

-- a bound by its three numbers
pub bound_eq : {c c' f f' : ℕ} {u u' : Cost} → c ≡ c' → f ≡ f' → u.units ≡ u'.units
    → ◌≡◌ {A = Bound} (record { cells = c; frames = f; cost = u }) (record { cells = c'; frames = f'; cost = u' })
bound_eq p q r = λ i. record { cells = p i; frames = q i; cost = record { units = r i } }

-- a sum of held numbers
pub sum_held : (limit a b : ℕ) → up_to limit (up_to limit a + up_to limit b) ≡ up_to limit (a + b)
sum_held limit a b = omega arith

-- the price of a node of which x is its own, over its children's prices
pub price : (x a b : ℕ) {u v w : ℕ} → u ≡ up_to cost_limit (v + w) → v ≡ up_to cost_limit x → w ≡ up_to cost_limit (a + b) → u ≡ up_to cost_limit (x + (a + b))
price x a b p q r = p ∙ ap₂ (λ v w. up_to cost_limit (v + w)) q r ∙ sum_held cost_limit x (a + b)

-- the price of a node over its child's price
pub child_price : (a : ℕ) {u v : ℕ} → u ≡ up_to cost_limit (v + a) → v ≡ up_to cost_limit node_cost → u ≡ up_to cost_limit (node_cost + a)
child_price a p q = omega arith
