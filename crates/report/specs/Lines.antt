-- Tables of computed lines. A line has on its left what is computed and on its right what it is; `Hold` says that all lines of a table hold.
-- Such a table is proved by `refl`, so a definition that answers otherwise on one line is refused. And the types and values that lines are written with.
use Rattle.std.specs.Prelude.{◌≡◌, List, [], ◌∷◌}
use Rattle.report.specs.Types.{Ty, one, sum, prod}
use Rattle.report.specs.Values.{Val, ⟨⟩, inl, inr}

infix 90 ◌is◌
pub data Line (X : Type 0) : Type 0 where
  ◌is◌ : (computed stated : X) → Line X

unfoldable pub computed : {X : Type 0} → List (Line X) → List X
computed [] = []
computed ((x is y) ∷ ls) = x ∷ computed ls

unfoldable pub stated : {X : Type 0} → List (Line X) → List X
stated [] = []
stated ((x is y) ∷ ls) = y ∷ stated ls

unfoldable pub Hold : {X : Type 0} → List (Line X) → Type 0
unfolding computed stated
Hold table = computed table ≡ stated table

-- one bit, two bits and three
abbrev pub b1 : Ty
b1 = sum one one

abbrev pub b2 : Ty
b2 = prod b1 b1

abbrev pub b3 : Ty
b3 = prod b1 b2

-- a bit's two values
abbrev pub o : Val
o = inl ⟨⟩

abbrev pub i : Val
i = inr ⟨⟩
