-- The meaning `eval` of a typed term is the report's typed denotation `den` with the types rubbed out.
-- By induction on the typing: each rule of the meaning gives what the denotation's rule gives.
use Rattle.std.specs.Prelude.{◌≡◌, refl, ℕ}
use Rattle.std.proofs.Common.{sym, ap, ap₂, ◌∙◌}
use Rattle.report.specs.Types.{Ty, sum, prod}
use Rattle.report.specs.Values.{Val, inl, inr, ◌&◌, HasTy, is_unit, is_left, is_right, is_pair}
use Rattle.report.specs.Terms.{Term, case, assertl, assertr}
use Rattle.report.specs.Typing.{Typed, of_iden, of_comp, of_unit, of_injl, of_injr, of_case, of_pair, of_take, of_drop, of_assertl, of_assertr, of_fail, of_witness, of_word, of_disconnect}
use Rattle.report.specs.Meaning.{done, failed, pruned, stuck, ◌>>=◌, Means, split, branch, eval}
use Rattle.theory.specs.Denotation.{left, right, El, plain, lift, either, Res, den, plainly}

-- there and back again
pub plain-lift : {v : Val} {A : Ty} (h : HasTy v A) → plain A (lift h) ≡ v
unfolding plain lift
plain-lift is_unit = refl
plain-lift (is_left h) = ap inl (plain-lift h)
plain-lift (is_right h) = ap inr (plain-lift h)
plain-lift (is_pair h k) = ap₂ ◌&◌ (plain-lift h) (plain-lift k)

-- one after the other
plainly-bind : (B C : Ty) (o : Res B) (f : Val → Means) (g : El B → Res C) → ((y : El B) → f (plain B y) ≡ plainly C (g y))
    → (plainly B o >>= f) ≡ plainly C (o >>= g)
unfolding plainly ◌>>=◌
plainly-bind B C (done y) f g h = h y
plainly-bind B C (failed p y) f g h = refl
plainly-bind B C (pruned p y) f g h = refl
plainly-bind B C stuck f g h = refl

-- a typed term means the same, typed or not
abbrev Same : {t : Term} {A B : Ty} → Typed t A B → Type 0
Same {t} {A} {B} h = (x : El A) → eval t (plain A x) ≡ plainly B (den h x)

-- a case
same_case : (s t : Term) (A B C D : Ty) (f : Typed s (prod A C) D) (g : Typed t (prod B C) D) → Same f → Same g → (u : El (sum A B)) (y : El C)
    → eval (case A B s t) (plain (prod (sum A B) C) (u, y)) ≡ plainly D (den (of_case f g) (u, y))
unfolding eval den plain split branch either
same_case s t A B C D f g hf hg (left a) y = hf (a, y)
same_case s t A B C D f g hf hg (right b) y = hg (b, y)

-- a case with its right branch pruned
same_assertl : (p : ℕ) (s : Term) (A B C D : Ty) (f : Typed s (prod A C) D) → Same f → (u : El (sum A B)) (y : El C)
    → eval (assertl p A B s) (plain (prod (sum A B) C) (u, y)) ≡ plainly D (den (of_assertl {p = p} {A = A} {B = B} f) (u, y))
unfolding eval den plain split branch either plainly ◌>>=◌
same_assertl p s A B C D f hf (left a) y = hf (a, y)
same_assertl p s A B C D f hf (right b) y = refl

-- a case with its left branch pruned
same_assertr : (p : ℕ) (s : Term) (A B C D : Ty) (f : Typed s (prod B C) D) → Same f → (u : El (sum A B)) (y : El C)
    → eval (assertr p A B s) (plain (prod (sum A B) C) (u, y)) ≡ plainly D (den (of_assertr {p = p} {A = A} {B = B} f) (u, y))
unfolding eval den plain split branch either plainly ◌>>=◌
same_assertr p s A B C D f hf (left a) y = refl
same_assertr p s A B C D f hf (right b) y = hf (b, y)

-- THE MEANING IS THE REPORT'S DENOTATION
pub eval-den : {t : Term} {A B : Ty} (h : Typed t A B) (x : El A) → eval t (plain A x) ≡ plainly B (den h x)
unfolding eval den plain plainly split branch either ◌>>=◌
eval-den of_iden x = refl
eval-den (of_comp {A = A} {B = B} {C = C} f g) x = rw (eval-den f x) (plainly-bind B C (den f x) _ _ (λ y. eval-den g y))
eval-den of_unit x = refl
eval-den (of_injl {B = B} {C = C} f) x = rw (eval-den f x) (plainly-bind B (sum B C) (den f x) _ _ (λ y. refl))
eval-den (of_injr {B = B} {C = C} f) x = rw (eval-den f x) (plainly-bind C (sum B C) (den f x) _ _ (λ y. refl))
eval-den (of_case {s} {t} {A} {B} {C} {D} f g) x = same_case s t A B C D f g (λ z. eval-den f z) (λ z. eval-den g z) x.0 x.1
eval-den (of_pair {A = A} {B = B} {C = C} f g) x =
    rw (eval-den f x) (plainly-bind B (prod B C) (den f x) _ _ (λ y. rw (eval-den g x) (plainly-bind C (prod B C) (den g x) _ _ (λ z. refl))))
eval-den (of_take f) x = eval-den f x.0
eval-den (of_drop f) x = eval-den f x.1
eval-den (of_assertl {s} {p} {A} {B} {C} {D} f) x = same_assertl p s A B C D f (λ z. eval-den f z) x.0 x.1
eval-den (of_assertr {t} {p} {A} {B} {C} {D} f) x = same_assertr p t A B C D f (λ z. eval-den f z) x.0 x.1
eval-den of_fail x = refl
eval-den (of_witness k) x = rw (plain-lift k)
eval-den (of_word n e k) x = rw (plain-lift k)
eval-den (of_disconnect {s} {t} {h} {A} {B} {C} {D} k f g) x =
    ap (λ (z : Val). eval s (z & plain A x) >>= λ bc. split bc λ b c. eval t c >>= λ d. done (b & d)) (sym (plain-lift k)) ∙ rw (eval-den f (lift k, x))
    (plainly-bind (prod B C) (prod B D) (den f (lift k, x)) _ _ (λ bc. rw (eval-den g bc.1) (plainly-bind D (prod B D) (den g bc.1) _ _ (λ d. refl))))
