-- How two outcomes that match go on together: a rule or a run, and what follows it, in both machines.
-- And rules one after the other, with what each of them needs.
use Rattle.std.proofs.Math.Path.{◌≡◌, refl, sym, ap, subst}
use Rattle.std.proofs.Common.{◌∙◌, arith}
use Rattle.std.specs.Prelude.{ℕ, ◌≤◌, length}
use Rattle.report.specs.Values.{Cells}
use Rattle.report.specs.Meaning.{Out, done, failed, pruned, stuck, ◌>>=◌}
use Rattle.scope.specs.Numbers.{tabulate}
use Rattle.scope.specs.Machine.{State, Step}
use Rattle.layout.specs.Mach.{Mach}
use Rattle.layout.specs.Exec.{Outcome}
use Rattle.common.specs.Tables.{length-tabulate}
use Rattle.layout.specs.Layout.{layout}
use Rattle.layout.specs.Follow.{Goes, Fits, KeptFrom, Follows}
use Rattle.layout.proofs.Follow.{Rule, unmoved}
use Rattle.layout.specs.Match.{laid_out, Reached, Ends, Matches}

-- what goes on, goes at its first step and after it
pub goes_first : {X : Type 0} (o : Out State X) (k : X → Step) → Goes (o >>= k) → Goes o
unfolding ◌>>=◌
goes_first (done s) k g = tt
goes_first (failed p s) k g = tt
goes_first (pruned p s) k g = tt
goes_first stuck k g = g

pub goes_then : {X : Type 0} (o : Out State X) (k : X → Step) (x : X) → o ≡ done x → Goes (o >>= k) → Goes (k x)
unfolding ◌>>=◌
goes_then o k x e g = subst (λ z. Goes (z >>= k)) e g

-- a run with nothing after it, and runs grouped otherwise
pub bind_done : (o : Step) → (o >>= λ s. done s) ≡ o
unfolding ◌>>=◌
bind_done (done s) = refl
bind_done (failed p s) = refl
bind_done (pruned p s) = refl
bind_done stuck = refl

pub bind-bind : {W X Y Z : Type 0} (o : Out W X) (f : X → Out W Y) (g : Y → Out W Z) → ((o >>= f) >>= g) ≡ (o >>= λ x. f x >>= g)
unfolding ◌>>=◌
bind-bind (done x) f g = refl
bind-bind (failed p y) f g = refl
bind-bind (pruned p y) f g = refl
bind-bind stuck f g = refl

-- the state that a store machine m is the layout of, where a run that ends with o is done
pub record DoneAt (lent size most : ℕ) (o : Step) (m : Mach) : Type 0 where
  pub state : State
  pub is : o ≡ done state
  pub lies : m ≡ layout lent most state
  pub fits : Fits size most state

module _ (lent size most : ℕ) where
  reached_from : (c d : Cells) (s : State) → KeptFrom size c d → Reached size most d s → Reached size most c s
  reached_from c d s k r = record { fits = r.fits; kept = λ p l. r.kept p l ∙ k p l }

  ends_from : (c d : Cells) (o : Step) → KeptFrom size c d → Ends size most d o → Ends size most c o
  ends_from c d (done s) k r = reached_from c d s k r
  ends_from c d (failed p s) k r = reached_from c d s k r
  ends_from c d (pruned p s) k r = reached_from c d s k r
  ends_from c d stuck k r = r

  -- the same from earlier cells
  pub matches_from : (c d : Cells) (o : Step) (r : Outcome) → KeptFrom size c d → Matches lent size most d o r → Matches lent size most c o r
  matches_from c d o r k h = record { same = h.same; ends = ends_from c d o k h.ends }

  -- a state as it is
  pub matches_here : (s : State) → Fits size most s → Matches lent size most s.cells (done s) (done (layout lent most s))
  unfolding laid_out
  matches_here s h = record { same = refl; ends = record { fits = h; kept = λ p l. refl } }

  -- a last rule
  pub matches_rule : {s : State} {o : Step} {m : Mach} {Ok : Type 0} → Follows lent size most s o m Ok → Matches lent size most s.cells o (done m)
  unfolding laid_out
  matches_rule {s} f = record {
    same = ap done f.same ∙ sym (ap (λ o. laid_out lent most o) f.does);
    ends = subst (λ o. Ends size most s.cells o) (sym f.does) (record { fits = f.fits; kept = f.kept });
  }

  -- a rule, and what follows it
  pub matches_after : (s : State) (o : Step) (m : Mach) (Ok : Type 0) (f : Follows lent size most s o m Ok) (k : State → Step) (K : Mach → Outcome)
      → Matches lent size most f.to.cells (k f.to) (K (layout lent most f.to)) → Matches lent size most s.cells (o >>= k) (K m)
  unfolding ◌>>=◌
  matches_after s o m Ok f k K h =
      let e : (o >>= k) ≡ k f.to = ap (λ o. o >>= k) f.does in
      let g = matches_from s.cells f.to.cells (k f.to) (K (layout lent most f.to)) f.kept h in
      record {
        same = ap K f.same ∙ g.same ∙ sym (ap (λ o. laid_out lent most o) e);
        ends = subst (λ o. Ends size most s.cells o) (sym e) g.ends;
      }

  -- a run, and what follows it
  pub matches_then : (c : Cells) (o : Step) (r : Outcome) → Matches lent size most c o r → (k : State → Step) (K : Mach → Outcome)
      → ((s : State) → o ≡ done s → Fits size most s → Matches lent size most s.cells (k s) (K (layout lent most s)))
      → Matches lent size most c (o >>= k) (r >>= K)
  unfolding ◌>>=◌ laid_out
  matches_then c (done s) r h k K f =
      let g = matches_from c s.cells (k s) (K (layout lent most s)) h.ends.kept (f s refl h.ends.fits) in
      record { same = ap (λ r. r >>= K) h.same ∙ g.same; ends = g.ends }
  matches_then c (failed p s) r h k K f = record { same = ap (λ r. r >>= K) h.same; ends = h.ends }
  matches_then c (pruned p s) r h k K f = record { same = ap (λ r. r >>= K) h.same; ends = h.ends }
  matches_then c stuck r h k K f = absurd h.ends

  -- a store machine that is done, is so with the layout of a state
  pub matches_done : (c : Cells) (o : Step) (r : Outcome) → Matches lent size most c o r → (m : Mach) → r ≡ done m → DoneAt lent size most o m
  unfolding laid_out
  matches_done c (done s) r h m e = let a = h.same in record { state = s; is = refl; lies = cc; fits = h.ends.fits }
  matches_done c (failed p s) r h m e = let a = h.same in let x : ◌≡◌ {A = ℕ} 0 1 = cc in absurd (omega arith)
  matches_done c (pruned p s) r h m e = let a = h.same in let x : ◌≡◌ {A = ℕ} 0 1 = cc in absurd (omega arith)
  matches_done c stuck r h m e = absurd h.ends

  -- a rule with its needs put otherwise
  pub needing : {s : State} {o : Step} {m : Mach} {Ok Ok' : Type 0} → Follows lent size most s o m Ok → (Ok → Ok') → Follows lent size most s o m Ok'
  needing f g = record { to = f.to; does = f.does; same = f.same; fits = f.fits; kept = f.kept; ok = g f.ok }

  -- a need of as many cells as are lent, as one of as many as the list has
  pub capped : (P : ℕ → Type 0) (c : Cells) → P lent → P (length (tabulate lent c))
  capped P c h = subst P (sym (length-tabulate c lent)) h

  -- no rule, and two rules one after the other
  pub nothing_follows : (le : size ≤ lent) → Rule lent size most le (λ s. done s) (λ m. m) (λ m. Unit {0})
  nothing_follows le s h g = unmoved lent size most le s h tt

  pub then_follows : (le : size ≤ lent) (F G : State → Step) (f g : Mach → Mach) (P Q : Mach → Type 0) → Rule lent size most le F f P
      → Rule lent size most le G g Q → Rule lent size most le (λ s. (F s >>= λ s. G s)) (λ m. g (f m)) (λ m. P m × Q (f m))
  unfolding ◌>>=◌
  then_follows le F G f g P Q a b s h go =
      let x = a s h (goes_first (F s) (λ s. G s) go) in
      let y = b x.to x.fits (goes_then (F s) (λ s. G s) x.to x.does go) in
      record {
        to = y.to;
        does = ap (λ o. o >>= λ s. G s) x.does ∙ y.does;
        same = ap g x.same ∙ y.same;
        fits = y.fits;
        kept = λ p l. y.kept p l ∙ x.kept p l;
        ok = (x.ok, subst Q (sym x.same) y.ok);
      }
