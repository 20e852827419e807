-- When a promise leaves one outcome. A promise is a call's generated `Post`: what it says of the arguments, of the result and of the parameters at exit.
-- The kinds of the parameters and of the result, generated too, say what these are.
use Rattle.std.specs.Prelude.{◌≡◌, List, ℕ}
use borrow.Fn.Kinds.{ParamKind, ResultKind, Out, Dens, ended_of, res_t}
use contract.Lifetimes.{Lfts}
use denote.Triple.Clauses.{AtExit, Lasts, at_exit}

infixr 30 ◌&◌
module _ (n : ℕ) (ps : List (ParamKind n)) (r : ResultKind n) where
  -- two results of the same arguments are the same
  abbrev pub OneResult : Out n ps r → Type 0
  OneResult Post = (κs : Lfts n) (a : Dens κs ps) (s t : (res_t r κs).Denot) (x y : AtExit (ended_of n ps r) κs) → Post κs a s x → Post κs a t y → s ≡ t

  -- what `seen` sees of two results is the same; of a part of a slice that is handed back, all but a name that no code can see
  abbrev pub OneSeen : {X : Type 0} → (seen : (κs : Lfts n) → (res_t r κs).Denot → X) → Out n ps r → Type 0
  OneSeen seen Post =
      (κs : Lfts n) (a : Dens κs ps) (s t : (res_t r κs).Denot) (x y : AtExit (ended_of n ps r) κs) → Post κs a s x → Post κs a t y → seen κs s ≡ seen κs t

  -- two results are the same, and so is what is left of everything that was lent to be written (`Lasts`)
  abbrev pub OneOutcome : Out n ps r → Type 0
  OneOutcome Post =
      (κs : Lfts n) (a : Dens κs ps) (s t : (res_t r κs).Denot) (v w : Lasts (ended_of n ps r) κs a)
      → Post κs a s (at_exit (ended_of n ps r) κs a v) → Post κs a t (at_exit (ended_of n ps r) κs a w) → (s ≡ t) × (v ≡ w)

-- what is left of a parameter, and what is left of those after it; of one that is not lent to be written it is `tt`
abbrev pub ◌&◌ : {X Y : Type 0} → X → Y → X × Y
x & y = (x, y)
