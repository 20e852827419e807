-- The report's typed denotation: a term from A to B is a function from A's values to B's, which may fail.
-- The meaning `eval` is this function with the types rubbed out (proofs/Denotation).
use Rattle.report.specs.Types.{Ty, one, sum, prod}
use Rattle.report.specs.Values.{Val, ⟨⟩, inl, inr, ◌&◌, HasTy, is_unit, is_left, is_right, is_pair}
use Rattle.report.specs.Terms.{Term}
use Rattle.report.specs.Typing.{Typed, of_iden, of_comp, of_unit, of_injl, of_injr, of_case, of_pair, of_take, of_drop, of_assertl, of_assertr, of_fail, of_witness, of_word, of_disconnect}
use Rattle.report.specs.Meaning.{Out, done, failed, pruned, ◌>>=◌, Means}

-- one of two
pub data Either (X Y : Type 0) : Type 0 where
  left : X → Either X Y
  right : Y → Either X Y

-- the values of a type
abbrev pub El : Ty → Type 0
El one = Unit {0}
El (sum A B) = Either (El A) (El B)
El (prod A B) = El A × El B

-- a value of a type without its type
unfoldable pub plain : (A : Ty) → El A → Val
plain one x = ⟨⟩
plain (sum A B) (left x) = inl (plain A x)
plain (sum A B) (right y) = inr (plain B y)
plain (prod A B) p = plain A p.0 & plain B p.1

-- a value with its type
unfoldable pub lift : {v : Val} {A : Ty} → HasTy v A → El A
lift is_unit = tt
lift (is_left h) = left (lift h)
lift (is_right h) = right (lift h)
lift (is_pair h k) = (lift h, lift k)

-- what is made of either
unfoldable pub either : {X Y Z : Type 0} → Either X Y → (X → Z) → (Y → Z) → Z
either (left x) f g = f x
either (right y) f g = g y

-- a value of B, or where it fails or is pruned
abbrev pub Res : Ty → Type 0
Res B = Out (Unit {0}) (El B)

-- the report's denotation of a typed term
unfoldable pub den : {t : Term} {A B : Ty} → Typed t A B → El A → Res B
unfolding ◌>>=◌ either lift
den of_iden x = done x
den (of_comp f g) x = den f x >>= λ y. den g y
den of_unit x = done tt
den (of_injl f) x = den f x >>= λ y. done (left y)
den (of_injr f) x = den f x >>= λ y. done (right y)
den (of_case f g) x = either x.0 (λ a. den f (a, x.1)) (λ b. den g (b, x.1))
den (of_pair f g) x = den f x >>= λ y. den g x >>= λ z. done (y, z)
den (of_take f) x = den f x.0
den (of_drop f) x = den f x.1
den (of_assertl {p = p} f) x = either x.0 (λ a. den f (a, x.1)) (λ b. pruned p tt)
den (of_assertr {p = p} f) x = either x.0 (λ a. pruned p tt) (λ b. den f (b, x.1))
den (of_fail {p = p}) x = failed p tt
den (of_witness k) x = done (lift k)
den (of_word n e k) x = done (lift k)
den (of_disconnect k f g) x = den f (lift k, x) >>= λ bc. den g bc.1 >>= λ d. done (bc.0, d)

-- a result without its type
unfoldable pub plainly : (B : Ty) → Res B → Means
unfolding ◌>>=◌ plain
plainly B o = o >>= λ y. done (plain B y)
