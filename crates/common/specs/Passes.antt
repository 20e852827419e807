-- A pass upwards that stops at the first number whose test fails: how far it has come, and what it answers.
use Rattle.std.specs.Prelude.{◌≡◌, refl, Bool, true, false, ℕ, suc, ◌+◌, ◌-◌, ◌<◌, ◌≤◌}
use Rattle.std.proofs.Math.Path.{sym, ap}
use Rattle.std.proofs.Common.{◌∙◌, add-one}
use native.Mathlib.Omega.{arith}
use borrow.Author.Tests.{eq-eqb, ne_eqb}
use Rattle.refusal.specs.declared.Refusal.{Refusal}
use Rattle.scope.specs.Check.{passed, refused, require, first_failing, each}
use Rattle.common.specs.Checks.{fails_here, holds_here}

module _ (test : ℕ → Bool) (n : ℕ) where
  -- the numbers below i passed the test
  abbrev pub Passing : ℕ → Type 0
  Passing i = (i ≤ n) × (first_failing test n 0 ≡ first_failing test (n - i) i)

  pub pass_start : Passing 0
  pass_start = (omega arith, ap (λ k. first_failing test k 0) (let e : n ≡ n - 0 = omega arith in e))

  -- how many are left at i, one of which is i
  left_at : (i : ℕ) → i < n → Passing i → first_failing test n 0 ≡ first_failing test (suc (n - (i + 1))) i
  left_at i h p = p.1 ∙ ap (λ k. first_failing test k i) (let e : n - i ≡ suc (n - (i + 1)) = omega arith in e)

  pub pass_more : (i : ℕ) → i < n → test i ≡ true → Passing i → Passing (i + 1)
  pass_more i h e p =
      (omega arith, left_at i h p ∙ holds_here test (n - (i + 1)) i e ∙ ap (first_failing test (n - (i + 1))) (sym (add-one i)))

  -- the first number whose test fails: i, or none
  pub first_failed : (i : ℕ) → i < n → test i ≡ false → Passing i → first_failing test n 0 ≡ i
  first_failed i h e p = left_at i h p ∙ fails_here test (n - (i + 1)) i e

  pub none_failed : (i : ℕ) → n ≤ i → Passing i → first_failing test n 0 ≡ n
  unfolding first_failing
  none_failed i h p = p.1 ∙ ap (λ k. first_failing test k i) (let e : n - i ≡ 0 = omega arith in e) ∙ (let q : i ≡ n = omega arith in q)

  module _ (refusal : ℕ → Refusal) where
    pub pass_fails : (i : ℕ) → i < n → test i ≡ false → Passing i → refused (refusal i) ≡ each n test refusal
    unfolding each require
    pass_fails i h e p = sym (rw (first_failed i h e p, ne_eqb i n (λ q. omega arith)))

    pub pass_ends : (i : ℕ) → n ≤ i → Passing i → passed tt ≡ each n test refusal
    unfolding each require
    pass_ends i h p = sym (rw (none_failed i h p, eq-eqb n n refl))
