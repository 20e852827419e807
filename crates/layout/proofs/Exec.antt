-- How a term's run goes, by what its parts do: a branch by the bit at the read cursor, and two children by how each of them ends.
-- A run that stops has nothing after it; one that is done goes on with what follows.
use Rattle.std.specs.Prelude.{◌≡◌, refl, ℕ, zero, suc, ◌+◌}
use Rattle.std.proofs.Common.{ap, ◌∙◌}
use Rattle.report.specs.Bits.{Bit}
use Rattle.report.specs.Types.{Ty, pad_l, pad_r}
use Rattle.report.specs.Terms.{Term, case, assertl, assertr}
use Rattle.report.specs.Meaning.{done, failed, pruned, stuck, ◌>>=◌}
use Rattle.layout.specs.Mach.{Mach}
use Rattle.layout.specs.Rules.{backed, peeked}
use Rattle.layout.specs.Exec.{Outcome, Around, first_of, second_of, third_of, around, returning, under, run_term, NotDone}

-- a bit that is not 0
one_more_lem : (b : Bit) → (b ≡ 0 → ⊥) → (c : ℕ) × (b ≡ suc c)
one_more_lem zero h = absurd (h refl)
one_more_lem (suc c) h = (c, refl)

-- a branch, by the bit at the read cursor
module _ (p : ℕ) (A B : Ty) (s t : Term) (m : Mach) where
  pub run_case_left : peeked m ≡ 0 → run_term (case A B s t) m ≡ under (1 + pad_l A B) (λ z. run_term s z) m
  unfolding run_term
  run_case_left e = rw (e, run_term)

  pub run_case_right : (peeked m ≡ 0 → ⊥) → run_term (case A B s t) m ≡ under (1 + pad_r A B) (λ z. run_term t z) m
  unfolding run_term
  run_case_right h = rw ((one_more_lem (peeked m) h).1, run_term)

  pub run_assertl_left : peeked m ≡ 0 → run_term (assertl p A B s) m ≡ under (1 + pad_l A B) (λ z. run_term s z) m
  unfolding run_term
  run_assertl_left e = rw (e, run_term)

  pub run_assertl_right : (peeked m ≡ 0 → ⊥) → run_term (assertl p A B s) m ≡ pruned p m
  unfolding run_term
  run_assertl_right h = rw ((one_more_lem (peeked m) h).1, run_term)

  pub run_assertr_left : peeked m ≡ 0 → run_term (assertr p A B t) m ≡ pruned p m
  unfolding run_term
  run_assertr_left e = rw (e, run_term)

  pub run_assertr_right : (peeked m ≡ 0 → ⊥) → run_term (assertr p A B t) m ≡ under (1 + pad_r A B) (λ z. run_term t z) m
  unfolding run_term
  run_assertr_right h = rw ((one_more_lem (peeked m) h).1, run_term)

-- nothing follows a stop
pub stop_stays : (o : Outcome) (f : Mach → Outcome) → NotDone o → (o >>= f) ≡ o
unfolding ◌>>=◌
stop_stays (done m) f h = absurd h
stop_stays (failed p m) f h = refl
stop_stays (pruned p m) f h = refl
stop_stays stuck f h = refl

-- what follows a run that is done
pub done_goes_on : (o : Outcome) (f : Mach → Outcome) (m : Mach) → o ≡ done m → (o >>= f) ≡ f m
unfolding ◌>>=◌
done_goes_on o f m e = ap (λ z. z >>= f) e

-- going back 0 cells is nothing
pub returning_none : (o : Outcome) → returning 0 o ≡ o
unfolding ◌>>=◌ backed
returning_none (done m) = refl
returning_none (failed p m) = refl
returning_none (pruned p m) = refl
returning_none stuck = refl

-- two children, by how they end
module _ (k : Around) (left right : Mach → Outcome) (m : Mach) where
  pub left_stops : NotDone (left (first_of k m)) → around k left right m ≡ left (first_of k m)
  left_stops h = stop_stays (left (first_of k m)) (λ m. (right (second_of k m) >>= λ m. done (third_of k m))) h

  pub right_stops : (m2 : Mach) → left (first_of k m) ≡ done m2 → NotDone (right (second_of k m2)) → around k left right m ≡ right (second_of k m2)
  right_stops m2 e h =
      done_goes_on (left (first_of k m)) (λ m. (right (second_of k m) >>= λ m. done (third_of k m))) m2 e
      ∙ stop_stays (right (second_of k m2)) (λ m. done (third_of k m)) h

  pub both_done : (m2 m4 : Mach) → left (first_of k m) ≡ done m2 → right (second_of k m2) ≡ done m4 → around k left right m ≡ done (third_of k m4)
  both_done m2 m4 e g =
      done_goes_on (left (first_of k m)) (λ m. (right (second_of k m) >>= λ m. done (third_of k m))) m2 e
      ∙ done_goes_on (right (second_of k m2)) (λ m. done (third_of k m)) m4 g
