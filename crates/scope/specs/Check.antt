-- A check passes with a result or refuses; checks follow one another, and the first refusal is the answer.
use Rattle.std.specs.Prelude.{Bool, true, false, ℕ, zero, suc, eqb}
use Rattle.refusal.specs.declared.Refusal.{Refusal}

pub data Check (X : Type 0) : Type 0 where
  passed : X → Check X
  refused : Refusal → Check X

infixl 40 ◌>>=◌
unfoldable pub ◌>>=◌ : {X Y : Type 0} → Check X → (X → Check Y) → Check Y
◌>>=◌ (passed x) f = f x
◌>>=◌ (refused r) f = refused r

-- passes where the test holds
unfoldable pub require : Bool → Refusal → Check (Unit {0})
require true r = passed tt
require false r = refused r

-- the first of k numbers from i on at which the test fails, or the number after them
unfoldable pub first_failing : (test : ℕ → Bool) → (k i : ℕ) → ℕ
first_failing test zero i = i
first_failing test (suc k) i = elim (test i) [ true ↦ first_failing test k (suc i) | false ↦ i ]

-- passes where the test holds of each number below n; else the refusal names the first at which it fails
unfoldable pub each : (n : ℕ) → (test : ℕ → Bool) → (ℕ → Refusal) → Check (Unit {0})
unfolding require first_failing
each n test refusal =
    let i = first_failing test n 0 in
    require (eqb i n) (refusal i)
