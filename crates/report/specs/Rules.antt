-- What the typing rule of each kind asks of a term from A to B, read from its conclusion: of its types, and of its children.
-- A term is `Typed` exactly if its kind's rule holds, so that no rule can be loosened by itself.
use Rattle.std.specs.Prelude.{◌≡◌, refl, ℕ}
use Rattle.report.specs.Types.{Ty, one, sum, prod, word_ty}
use Rattle.report.specs.Values.{HasTy}
use Rattle.report.specs.Terms.{Term, iden, comp, unit, injl, injr, case, pair, take, drop, assertl, assertr, fail, witness, word, disconnect, bad}
use Rattle.report.specs.Typing.{Typed, of_iden, of_comp, of_unit, of_injl, of_injr, of_case, of_pair, of_take, of_drop, of_assertl, of_assertr, of_fail, of_witness, of_word, of_disconnect}

unfoldable pub Rule : Term → (A B : Ty) → Type 0
Rule (iden T) A B = (A ≡ T) × (B ≡ T)
Rule (comp M s t) A B = Typed s A M × Typed t M B
Rule unit A B = B ≡ one
Rule (injl L R t) A B = (B ≡ sum L R) × Typed t A L
Rule (injr L R t) A B = (B ≡ sum L R) × Typed t A R
Rule (case L R s t) A B = (C : Ty) × (A ≡ prod (sum L R) C) × Typed s (prod L C) B × Typed t (prod R C) B
Rule (pair L s t) A B = (R : Ty) × (B ≡ prod L R) × Typed s A L × Typed t A R
Rule (take t) A B = (L : Ty) × (R : Ty) × (A ≡ prod L R) × Typed t L B
Rule (drop L t) A B = (R : Ty) × (A ≡ prod L R) × Typed t R B
Rule (assertl p L R t) A B = (C : Ty) × (A ≡ prod (sum L R) C) × Typed t (prod L C) B
Rule (assertr p L R t) A B = (C : Ty) × (A ≡ prod (sum L R) C) × Typed t (prod R C) B
Rule (fail p) A B = Unit {0}
Rule (witness T v) A B = (B ≡ T) × HasTy v T
Rule (word T v) A B = (k : ℕ) × (A ≡ one) × (B ≡ T) × (T ≡ word_ty k) × HasTy v T
Rule (disconnect S L C h s t) A B = (R : Ty) × (A ≡ S) × (B ≡ prod L R) × HasTy h (word_ty 8) × Typed s (prod (word_ty 8) S) (prod L C) × Typed t C R
Rule bad A B = ⊥

-- a typed term keeps its kind's rule
pub typed_rule : {t : Term} {A B : Ty} → Typed t A B → Rule t A B
unfolding Rule
typed_rule of_iden = (refl, refl)
typed_rule (of_comp s t) = (s, t)
typed_rule of_unit = refl
typed_rule (of_injl t) = (refl, t)
typed_rule (of_injr t) = (refl, t)
typed_rule (of_case s t) = (_, refl, s, t)
typed_rule (of_pair s t) = (_, refl, s, t)
typed_rule (of_take t) = (_, _, refl, t)
typed_rule (of_drop t) = (_, refl, t)
typed_rule (of_assertl t) = (_, refl, t)
typed_rule (of_assertr t) = (_, refl, t)
typed_rule of_fail = tt
typed_rule (of_witness v) = (refl, v)
typed_rule (of_word k of v) = (k, refl, refl, of, v)
typed_rule (of_disconnect h s t) = (_, refl, refl, h, s, t)

-- a term that keeps its kind's rule is typed
pub rule_typed : (t : Term) {A B : Ty} → Rule t A B → Typed t A B
unfolding Rule
rule_typed (iden T) r = rw (r.0, r.1) of_iden
rule_typed (comp M s t) r = of_comp r.0 r.1
rule_typed unit r = rw r of_unit
rule_typed (injl L R t) r = rw r.0 (of_injl r.1)
rule_typed (injr L R t) r = rw r.0 (of_injr r.1)
rule_typed (case L R s t) r = rw r.1 (of_case r.2 r.3)
rule_typed (pair L s t) r = rw r.1 (of_pair r.2 r.3)
rule_typed (take t) r = rw r.2 (of_take r.3)
rule_typed (drop L t) r = rw r.1 (of_drop r.2)
rule_typed (assertl p L R t) r = rw r.1 (of_assertl r.2)
rule_typed (assertr p L R t) r = rw r.1 (of_assertr r.2)
rule_typed (fail p) r = of_fail
rule_typed (witness T v) r = rw r.0 (of_witness r.1)
rule_typed (word T v) r = rw (r.1, r.2) (of_word r.0 r.3 r.4)
rule_typed (disconnect S L C h s t) r = rw (r.1, r.2) (of_disconnect r.3 r.4 r.5)
rule_typed bad r = elim r [ ]
