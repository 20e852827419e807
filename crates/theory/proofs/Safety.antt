-- Type safety: a typed term takes a value of its source to a value of its target, or fails, or is pruned.
-- It is never stuck: no rule of the meaning is left without a case.
use Rattle.report.specs.Types.{Ty, prod}
use Rattle.report.specs.Values.{Val, ◌&◌, HasTy, is_unit, is_left, is_right, is_pair}
use Rattle.report.specs.Terms.{Term}
use Rattle.report.specs.Typing.{Typed, of_iden, of_comp, of_unit, of_injl, of_injr, of_case, of_pair, of_take, of_drop, of_assertl, of_assertr, of_fail, of_witness, of_word, of_disconnect}
use Rattle.report.specs.Meaning.{done, ◌>>=◌, Means, split, branch, eval}
use Rattle.theory.specs.Safety.{Good, good_value, good_fail, good_prune}

-- one after the other
good_bind : {B C : Ty} {o : Means} (f : Val → Means) → Good B o → ((w : Val) → HasTy w B → Good C (f w)) → Good C (o >>= f)
unfolding ◌>>=◌
good_bind f (good_value {w} h) k = k w h
good_bind f good_fail k = good_fail
good_bind f good_prune k = good_prune

-- the right half of a pair handed to a term
good_half : (t : Term) {B C D : Ty} → ((w : Val) → HasTy w C → Good D (eval t w)) → (w : Val) → HasTy w (prod B C)
    → Good (prod B D) (split w λ b c. eval t c >>= λ d. done (b & d))
unfolding split
good_half t g w (is_pair x y) = good_bind _ (g _ y) (λ d k. good_value (is_pair x k))

-- TYPE SAFETY
pub safe : {t : Term} {A B : Ty} → Typed t A B → (v : Val) → HasTy v A → Good B (eval t v)
unfolding eval split branch
safe of_iden v h = good_value h
safe (of_comp f g) v h = good_bind _ (safe f v h) (λ w k. safe g w k)
safe of_unit v h = good_value is_unit
safe (of_injl f) v h = good_bind _ (safe f v h) (λ w k. good_value (is_left k))
safe (of_injr f) v h = good_bind _ (safe f v h) (λ w k. good_value (is_right k))
safe (of_case f g) v (is_pair (is_left x) y) = safe f _ (is_pair x y)
safe (of_case f g) v (is_pair (is_right x) y) = safe g _ (is_pair x y)
safe (of_pair f g) v h = good_bind _ (safe f v h) (λ w k. good_bind _ (safe g v h) (λ w' k'. good_value (is_pair k k')))
safe (of_take f) v (is_pair x y) = safe f _ x
safe (of_drop f) v (is_pair x y) = safe f _ y
safe (of_assertl f) v (is_pair (is_left x) y) = safe f _ (is_pair x y)
safe (of_assertl f) v (is_pair (is_right x) y) = good_prune
safe (of_assertr f) v (is_pair (is_left x) y) = good_prune
safe (of_assertr f) v (is_pair (is_right x) y) = safe f _ (is_pair x y)
safe of_fail v h = good_fail
safe (of_witness k) v h = good_value k
safe (of_word n e k) v h = good_value k
safe (of_disconnect {t = t} {h = x} k f g) v h = good_bind _ (safe f (x & v) (is_pair k h)) (λ w l. good_half t (λ c m. safe g c m) w l)
