-- A test that is computed over every number below a bound, and what it says of each of them.
use mathlib.Core.Path.{◌≡◌, refl}
use mathlib.Core.Bool.{Bool, true, false}
use Prim.Native.Nat.{ℕ, zero, suc, ◌<◌}
use native.Mathlib.Nat.{not-suc-le-zero}
use native.Mathlib.Omega.{arith}
use native.Mathlib.Decide.{dec_lt}
use lib.Dec.{T}

abbrev pub both : Bool → Bool → Bool
both true b = b
both false b = false

pub both_left : (a b : Bool) → T (both a b) → T a
both_left true b t = tt
both_left false b t = t

pub both_right : (a b : Bool) → T (both a b) → T b
both_right true b t = t
both_right false b t = absurd t

-- two tests have the same outcome
abbrev pub agree : Bool → Bool → Bool
agree true b = b
agree false true = false
agree false false = true

pub agree_eq : (a b : Bool) → T (agree a b) → a ≡ b
agree_eq true true t = refl
agree_eq true false t = absurd t
agree_eq false true t = absurd t
agree_eq false false t = refl

-- the test holds of every number below n
abbrev pub below : (ℕ → Bool) → ℕ → Bool
below f zero = true
below f (suc n) = both (f n) (below f n)

pub below_at : (f : ℕ → Bool) (n k : ℕ) → T (below f n) → k < n → T (f k)
below_at f zero k t h = absurd (not-suc-le-zero h)
below_at f (suc n) k t h = elim (dec_lt k n) [
  | yes l ↦ below_at f n k (both_right (f n) (below f n) t) l
  | no m ↦ last (let e : k ≡ n = omega arith in e)
]
  where
    last : k ≡ n → T (f k)
    last e = rw e (both_left (f n) (below f n) t)
