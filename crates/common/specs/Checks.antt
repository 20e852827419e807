-- What a test that holds or a check that passed tells, and when one holds or passes: of `every`, `any_below`, `same`, `same_key`, `require`,
-- `counted`, `each` and of checks in a row. `clash` takes two unlike constructors that are equal to any statement, `not_both` a test that holds and
-- fails.
use Rattle.std.proofs.Math.Path.{◌≡◌, refl, ap}
use Rattle.std.proofs.Common.{sym, ap₂, ◌∙◌, subst, not-suc-le-zero}
use Rattle.std.specs.Prelude.{Bool, List, [], ◌∷◌, T, leb}
use Rattle.std.proofs.Math.Bool.{true, false}
use Prim.Native.Nat.{ℕ, zero, suc, ◌+◌, ◌-◌, ◌≤◌, ◌<◌}
use native.Mathlib.Omega.{arith}
use Rattle.std.proofs.Math.Decide.{dec_lt}
use Rattle.std.proofs.Math.Dec.{eqb}
use borrow.Author.Tests.{eqb-true, eq-eqb, leb-true, le-leb, lt-leb}
use Rattle.refusal.specs.declared.Refusal.{Refusal}
use Rattle.refusal.specs.declared.Refusal.TheVariants.{Natural}
use Rattle.scope.specs.Check.{Check, passed, refused, ◌>>=◌, require, first_failing, each}
use Rattle.scope.specs.Numbers.{every, any_below, same}
use Rattle.scope.specs.Equal.{same_key}
use Rattle.scope.specs.Stages.{counted}

pub clash : {X : Type 0} → ◌≡◌ {A = ℕ} 0 1 → X
clash e = absurd (omega arith)

-- no test both holds and fails
pub not_both : {X : Type 0} {b : Bool} → b ≡ true → b ≡ false → X
not_both e f = absurd (subst T (sym e ∙ f) tt)

-- each test of a list holds
abbrev pub AllTrue : List Bool → Type 0
AllTrue [] = Unit {0}
AllTrue (b ∷ bs) = (b ≡ true) × AllTrue bs

-- all of them hold exactly if each does
pub every_all : (bs : List Bool) → every bs ≡ true → AllTrue bs
unfolding every
every_all [] e = tt
every_all (true ∷ bs) e = (refl, every_all bs e)
every_all (false ∷ bs) e = clash (cc)

pub all_every : (bs : List Bool) → AllTrue bs → every bs ≡ true
unfolding every
all_every [] h = refl
all_every (b ∷ bs) h = rw (h.0, every) (all_every bs h.1)

-- the first test that fails decides, and one that holds leaves the rest
pub every_held : (b : Bool) (bs : List Bool) → b ≡ true → every (b ∷ bs) ≡ every bs
unfolding every
every_held b bs e = rw e

pub every_failed : (b : Bool) (bs : List Bool) → b ≡ false → every (b ∷ bs) ≡ false
unfolding every
every_failed b bs e = rw e

pub every_one : (b : Bool) → every (b ∷ []) ≡ b
unfolding every
every_one true = refl
every_one false = refl

-- a number below j passes the test, sought from the largest on: it is found at once, or it is one of the others, or there is none left
module _ (j : ℕ) (test : ℕ → Bool) where
  pub any_found : 0 < j → test (j - 1) ≡ true → any_below j test ≡ true
  unfolding any_below
  any_found h e = ap (λ (k : ℕ). any_below k test) (let p : j ≡ suc (j - 1) = omega arith in p) ∙ rw (e, any_below)

  pub any_later : 0 < j → test (j - 1) ≡ false → any_below j test ≡ any_below (j - 1) test
  unfolding any_below
  any_later h e = ap (λ (k : ℕ). any_below k test) (let p : j ≡ suc (j - 1) = omega arith in p) ∙ rw (e, any_below)

  pub any_none : j ≤ 0 → any_below j test ≡ false
  unfolding any_below
  any_none h = ap (λ (k : ℕ). any_below k test) (let p : j ≡ 0 = omega arith in p)

-- no number below n passes the test, exactly if none of them does
none_at : (n : ℕ) (test : ℕ → Bool) (b : Bool) → test n ≡ b → elim b [ true ↦ true | false ↦ any_below n test ] ≡ false
    → (any_below n test ≡ false → (j : ℕ) → j < n → test j ≡ false) → (j : ℕ) → j < suc n → test j ≡ false
none_at n test true p e below j l = clash (cc)
none_at n test false p e below j l =
    elim (dec_lt j n) [ yes k ↦ below e j k | no m ↦ (let q : j ≡ n = omega arith in ap test q ∙ p) ]

pub none_below : (n : ℕ) (test : ℕ → Bool) → any_below n test ≡ false → (j : ℕ) → j < n → test j ≡ false
unfolding any_below
none_below zero test e j l = absurd (not-suc-le-zero l)
none_below (suc n) test e j l = none_at n test (test n) refl e (none_below n test) j l

pub below_none : (n : ℕ) (test : ℕ → Bool) → ((j : ℕ) → j < n → test j ≡ false) → any_below n test ≡ false
unfolding any_below
below_none zero test h = refl
below_none (suc n) test h = rw (h n (omega arith), any_below) (below_none n test (λ j l. h j (omega arith)))

-- a number below n that passes the test is one
pub some_below : (n : ℕ) (test : ℕ → Bool) (j : ℕ) → j < n → test j ≡ true → any_below n test ≡ true
some_below n test j l e = go (any_below n test) refl
  where
    go : (b : Bool) → any_below n test ≡ b → any_below n test ≡ true
    go true p = p
    go false p = not_both e (none_below n test p j l)

-- two lists of numbers pass the test exactly if they are equal
pub same_equal : (xs ys : List ℕ) → same xs ys ≡ true → xs ≡ ys
unfolding same
same_equal [] [] e = refl
same_equal [] (y ∷ ys) e = clash (cc)
same_equal (x ∷ xs) [] e = clash (cc)
same_equal (x ∷ xs) (y ∷ ys) e = go (eqb x y) refl e (same_equal xs ys)
  where
    go : (b : Bool) → eqb x y ≡ b → elim b [ true ↦ same xs ys | false ↦ false ] ≡ true → (same xs ys ≡ true → xs ≡ ys) → x ∷ xs ≡ y ∷ ys
    go true p e h = ap₂ ◌∷◌ (eqb-true x y p) (h e)
    go false p e h = clash (cc)

pub equal_same : (xs : List ℕ) → same xs xs ≡ true
unfolding same
equal_same [] = refl
equal_same (x ∷ xs) = rw (eq-eqb x x refl, same) (equal_same xs)

-- two keys pass the test exactly if they are equal and not none
pub keys_same : (xs ys : List ℕ) → same_key xs ys ≡ true → (xs ≡ ys) × (ys ≡ [] → ⊥)
unfolding same_key
keys_same [] ys e = clash (cc)
keys_same (x ∷ xs) [] e = clash (let z = same_equal (x ∷ xs) [] e in cc)
keys_same (x ∷ xs) (y ∷ ys) e = (same_equal (x ∷ xs) (y ∷ ys) e, (λ z. clash (cc)))

pub same_keys : (xs : List ℕ) → (xs ≡ [] → ⊥) → same_key xs xs ≡ true
unfolding same_key
same_keys [] h = absurd (h refl)
same_keys (x ∷ xs) h = equal_same (x ∷ xs)

-- a test that holds exactly where they are equal is that test
pub same_told : (b : Bool) (xs ys : List ℕ) → (b ≡ true → xs ≡ ys) → (xs ≡ ys → b ≡ true) → b ≡ same xs ys
same_told b xs ys h k = go b (same xs ys) (λ e. subst (λ (zs : List ℕ). same xs zs ≡ true) (h e) (equal_same xs)) (λ e. k (same_equal xs ys e))
  where
    go : (b t : Bool) → (b ≡ true → t ≡ true) → (t ≡ true → b ≡ true) → b ≡ t
    go true t h k = sym (h refl)
    go false true h k = k refl
    go false false h k = refl

-- a requirement passes exactly if its test holds
pub require_holds : (b : Bool) (r : Refusal) (x : Unit {0}) → require b r ≡ passed x → b ≡ true
unfolding require
require_holds true r x e = refl
require_holds false r x e = clash (cc)

pub holds_require : (b : Bool) (r : Refusal) → b ≡ true → require b r ≡ passed tt
unfolding require
holds_require true r e = refl
holds_require false r e = clash (cc)

-- a count from 1 to a limit passes, and no other
pub counted_none : (n most : ℕ) → n < 1 → counted n most ≡ refused (Natural 0)
unfolding counted require every
counted_none n most h = rw (lt-leb 1 n h)

pub counted_over : (n most : ℕ) → most < n → counted n most ≡ refused (Natural 0)
unfolding counted require every
counted_over n most h = rw (le-leb 1 n (omega arith), lt-leb n most h)

pub counted_fine : (n most : ℕ) → 1 ≤ n → n ≤ most → counted n most ≡ passed tt
unfolding counted require every
counted_fine n most l h = rw (le-leb 1 n l, le-leb n most h)

pub counted-passed : (n most : ℕ) → counted n most ≡ passed tt → (1 ≤ n) × (n ≤ most)
unfolding counted
counted-passed n most e =
    let p = every_all (leb 1 n ∷ leb n most ∷ []) (require_holds (every (leb 1 n ∷ leb n most ∷ [])) (Natural 0) tt e) in
    (leb-true 1 n p.0, leb-true n most p.1.0)

-- two checks in a row pass exactly if the first does and the second does with its result
pub both_passed : {X Y : Type 0} (m : Check X) (f : X → Check Y) (y : Y) → (m >>= f) ≡ passed y → (x : X) × (m ≡ passed x) × (f x ≡ passed y)
unfolding ◌>>=◌
both_passed (passed x) f y e = (x, refl, e)
both_passed (refused r) f y e = clash (cc)

pub then_passes : {X Y : Type 0} (m : Check X) (f : X → Check Y) (x : X) → m ≡ passed x → (m >>= f) ≡ f x
unfolding ◌>>=◌
then_passes m f x e = rw e

pub then_refuses : {X Y : Type 0} (m : Check X) (f : X → Check Y) (why : Refusal) → m ≡ refused why → (m >>= f) ≡ refused why
unfolding ◌>>=◌
then_refuses m f why e = rw e

-- so it is the answer of the whole row, and one that passes leaves it to those after it
pub stops : {X : Type 0} {m : Check X} {why : Refusal} → m ≡ refused why → (f : X → Check X) → m ≡ (m >>= f)
stops {m = m} {why = why} e f = e ∙ sym (then_refuses m f why e)

pub passes : {X Y : Type 0} {m : Check X} {x : X} → m ≡ passed x → (f : X → Check Y) → f x ≡ (m >>= f)
passes {m = m} {x = x} e f = sym (then_passes m f x e)

-- a check that asks nothing more
pub then_nothing : (m : Check (Unit {0})) → (m >>= λ x. passed tt) ≡ m
unfolding ◌>>=◌
then_nothing (passed x) = refl
then_nothing (refused why) = refl

-- checks in a row, grouped either way, and with an equal one for the second
pub then_then : {X Y Z : Type 0} (m : Check X) (f : X → Check Y) (g : Y → Check Z) → (m >>= f >>= g) ≡ (m >>= λ x. f x >>= g)
unfolding ◌>>=◌
then_then (passed x) f g = refl
then_then (refused why) f g = refl

pub then_same : {X Y : Type 0} (m : Check X) (f g : X → Check Y) → ((x : X) → f x ≡ g x) → (m >>= f) ≡ (m >>= g)
unfolding ◌>>=◌
then_same (passed x) f g e = e x
then_same (refused why) f g e = refl

-- the test holds of each number below n exactly if the first failing one is n
module _ (test : ℕ → Bool) where
  pub fails_here : (k i : ℕ) → test i ≡ false → first_failing test (suc k) i ≡ i
  unfolding first_failing
  fails_here k i e = rw (e, first_failing)

  pub holds_here : (k i : ℕ) → test i ≡ true → first_failing test (suc k) i ≡ first_failing test k (suc i)
  unfolding first_failing
  holds_here k i e = rw (e, first_failing)

  pub first_before : (k i : ℕ) → first_failing test k i ≤ i + k
  unfolding first_failing
  first_before zero i = omega arith
  first_before (suc k) i = go (test i) (first_before k (suc i))
    where
      go : (b : Bool) → first_failing test k (suc i) ≤ suc i + k → elim b [ true ↦ first_failing test k (suc i) | false ↦ i ] ≤ i + suc k
      go true h = omega arith
      go false h = omega arith

pub first_holds : (test : ℕ → Bool) (k i : ℕ) → first_failing test k i ≡ i + k → (j : ℕ) → i ≤ j → j < i + k → test j ≡ true
unfolding first_failing
first_holds test zero i e j l m = absurd (omega arith)
first_holds test (suc k) i e j l m = go (test i) refl e (first_holds test k (suc i))
  where
    go : (b : Bool) → test i ≡ b → elim b [ true ↦ first_failing test k (suc i) | false ↦ i ] ≡ i + suc k
        → (first_failing test k (suc i) ≡ suc i + k → (j : ℕ) → suc i ≤ j → j < suc i + k → test j ≡ true) → test j ≡ true
    go true p e h =
        elim (dec_lt i j) [ yes n ↦ h (omega arith) j n (omega arith) | no n ↦ (let q : j ≡ i = omega arith in ap test q ∙ p) ]
    go false p e h = absurd (omega arith)

holds_first : (test : ℕ → Bool) (k i : ℕ) → ((j : ℕ) → i ≤ j → j < i + k → test j ≡ true) → first_failing test k i ≡ i + k
unfolding first_failing
holds_first test zero i h = omega arith
holds_first test (suc k) i h =
    let e = holds_first test k (suc i) (λ j l m. h j (omega arith) (omega arith)) in
    rw (h i (omega arith) (omega arith), first_failing) (omega arith)

-- a test of each number passes exactly if it holds of each
pub each-passed : (n : ℕ) (test : ℕ → Bool) (refusal : ℕ → Refusal) (x : Unit {0}) → each n test refusal ≡ passed x → first_failing test n 0 ≡ n
unfolding each
each-passed n test refusal x e =
    eqb-true (first_failing test n 0) n (require_holds (eqb (first_failing test n 0) n) (refusal (first_failing test n 0)) x e)

pub each_holds : (n : ℕ) (test : ℕ → Bool) (refusal : ℕ → Refusal) (x : Unit {0}) → each n test refusal ≡ passed x → (i : ℕ) → i < n → test i ≡ true
each_holds n test refusal x e i l =
    let p = each-passed n test refusal x e in
    first_holds test n 0 (omega arith) i (omega arith) (omega arith)

pub holds_each : (n : ℕ) (test : ℕ → Bool) (refusal : ℕ → Refusal) → ((i : ℕ) → i < n → test i ≡ true) → each n test refusal ≡ passed tt
unfolding each
holds_each n test refusal h =
    let p = holds_first test n 0 (λ j l m. h j (omega arith)) in
    holds_require _ _ (eq-eqb (first_failing test n 0) n (omega arith))

-- the test holds before the first number at which it fails, and fails there
pub first_passed : (test : ℕ → Bool) (k i j : ℕ) → i ≤ j → j < first_failing test k i → test j ≡ true
unfolding first_failing
first_passed test zero i j l m = absurd (omega arith)
first_passed test (suc k) i j l m = go (test i) refl m (first_passed test k (suc i) j)
  where
    go : (b : Bool) → test i ≡ b → j < elim b [ true ↦ first_failing test k (suc i) | false ↦ i ]
        → (suc i ≤ j → j < first_failing test k (suc i) → test j ≡ true) → test j ≡ true
    go true p m h = elim (dec_lt i j) [ yes n ↦ h n m | no n ↦ (let q : j ≡ i = omega arith in ap test q ∙ p) ]
    go false p m h = absurd (omega arith)

pub first_refused : (test : ℕ → Bool) (k i : ℕ) → first_failing test k i < i + k → test (first_failing test k i) ≡ false
unfolding first_failing
first_refused test zero i m = absurd (omega arith)
first_refused test (suc k) i m = go (test i) refl m (first_refused test k (suc i))
  where
    go : (b : Bool) → test i ≡ b → elim b [ true ↦ first_failing test k (suc i) | false ↦ i ] < i + suc k
        → (first_failing test k (suc i) < suc i + k → test (first_failing test k (suc i)) ≡ false)
        → test (elim b [ true ↦ first_failing test k (suc i) | false ↦ i ]) ≡ false
    go true p m h = h (omega arith)
    go false p m h = p

-- tests that are alike below n, with refusals that are
module _ (test test' : ℕ → Bool) where
  first_alike : (k i : ℕ) → ((j : ℕ) → i ≤ j → j < i + k → test j ≡ test' j) → first_failing test k i ≡ first_failing test' k i
  unfolding first_failing
  first_alike zero i h = refl
  first_alike (suc k) i h = go (test i) (test' i) (h i (omega arith) (omega arith)) (first_alike k (suc i) (λ j l m. h j (omega arith) (omega arith)))
    where
      go : (b c : Bool) → b ≡ c → first_failing test k (suc i) ≡ first_failing test' k (suc i)
          → ◌≡◌ {A = ℕ} (elim b [ true ↦ first_failing test k (suc i) | false ↦ i ]) (elim c [ true ↦ first_failing test' k (suc i) | false ↦ i ])
      go true true e f = f
      go true false e f = not_both refl e
      go false true e f = not_both e refl
      go false false e f = refl

  pub each_alike : (n : ℕ) (refusal refusal' : ℕ → Refusal) → ((i : ℕ) → i < n → test i ≡ test' i) → ((i : ℕ) → i < n → refusal i ≡ refusal' i)
      → each n test refusal ≡ each n test' refusal'
  unfolding each require
  each_alike n refusal refusal' h k =
      let e = first_alike n 0 (λ j l m. h j (omega arith)) in
      ap (λ (i : ℕ). require (eqb i n) (refusal i)) e ∙ go (first_failing test' n 0) (first_before test' n 0)
    where
      go : (i : ℕ) → i ≤ 0 + n → require (eqb i n) (refusal i) ≡ require (eqb i n) (refusal' i)
      go i l = elim (dec_lt i n) [
        | yes m ↦ ap (require (eqb i n)) (k i m)
        | no m ↦ (let p : eqb i n ≡ true = eq-eqb i n (omega arith) in rw p)
      ]
