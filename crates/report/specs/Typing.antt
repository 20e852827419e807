-- The report's typing rules, one for each kind of term. `bad` has none.
use Rattle.std.specs.Prelude.{◌≡◌, ℕ}
use Rattle.report.specs.Types.{Ty, one, sum, prod, word_ty}
use Rattle.report.specs.Values.{Val, HasTy}
use Rattle.report.specs.Terms.{Term, iden, comp, unit, injl, injr, case, pair, take, drop, assertl, assertr, fail, witness, word, disconnect}

-- the term t goes from A to B
pub data Typed : Term → Ty → Ty → Type 0 where
  of_iden : {A : Ty} → Typed (iden A) A A
  of_comp : {s t : Term} {A B C : Ty} → Typed s A B → Typed t B C → Typed (comp B s t) A C
  of_unit : {A : Ty} → Typed unit A one
  of_injl : {t : Term} {A B C : Ty} → Typed t A B → Typed (injl B C t) A (sum B C)
  of_injr : {t : Term} {A B C : Ty} → Typed t A C → Typed (injr B C t) A (sum B C)
  of_case : {s t : Term} {A B C D : Ty} → Typed s (prod A C) D → Typed t (prod B C) D → Typed (case A B s t) (prod (sum A B) C) D
  of_pair : {s t : Term} {A B C : Ty} → Typed s A B → Typed t A C → Typed (pair B s t) A (prod B C)
  of_take : {t : Term} {A B C : Ty} → Typed t A C → Typed (take t) (prod A B) C
  of_drop : {t : Term} {A B C : Ty} → Typed t B C → Typed (drop A t) (prod A B) C
  of_assertl : {s : Term} {p : ℕ} {A B C D : Ty} → Typed s (prod A C) D → Typed (assertl p A B s) (prod (sum A B) C) D
  of_assertr : {t : Term} {p : ℕ} {A B C D : Ty} → Typed t (prod B C) D → Typed (assertr p A B t) (prod (sum A B) C) D
  of_fail : {p : ℕ} {A B : Ty} → Typed (fail p) A B
  of_witness : {w : Val} {A B : Ty} → HasTy w B → Typed (witness B w) A B
  of_word : {w : Val} {B : Ty} (k : ℕ) → B ≡ word_ty k → HasTy w B → Typed (word B w) one B
  of_disconnect : {s t : Term} {h : Val} {A B C D : Ty} → HasTy h (word_ty 8) → Typed s (prod (word_ty 8) A) (prod B C) → Typed t C D
      → Typed (disconnect A B C h s t) A (prod B D)
