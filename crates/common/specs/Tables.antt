-- Lists made by a rule, number after number, and tables of which each entry is made of its record and of the entries before it.
use Rattle.std.specs.Prelude.{◌≡◌, take}
use Rattle.std.proofs.Math.Path.{refl, sym, ap, ap₂}
use Rattle.std.proofs.Common.{◌∙◌, subst, add-zero, zero-add, add-suc, suc-add, le_of_suc-le-suc, not-suc-le-zero, take-take, get_or-take, length-take-le, ext_get_or}
use mathlib.Core.List.{List, [], ◌∷◌, ◌++◌}
use Prim.Native.Nat.{ℕ, zero, suc, ◌+◌, ◌≤◌, ◌<◌}
use native.Mathlib.Omega.{arith}
use Rattle.std.proofs.Math.Decide.{dec_lt}
use Rattle.std.proofs.Math.ListN.{length, get_or, get_or-eq_default}
use Rattle.std.proofs.Math.Seq.{take-append_seam, get_or-append_seam, take-length}
use Rattle.report.specs.Table.{entries_from, entries}
use Rattle.scope.specs.Numbers.{tabulate_from, tabulate}
use Rattle.common.specs.Lists.{length_snoc}

module _ {X : Type 0} (f : ℕ → X) where
  pub length_from : (i n : ℕ) → length (tabulate_from i n f) ≡ n
  unfolding tabulate_from
  length_from i zero = refl
  length_from i (suc n) = ap suc (length_from (suc i) n)

  at_from : (i n k : ℕ) (d : X) → k < n → get_or (tabulate_from i n f) k d ≡ f (i + k)
  unfolding tabulate_from
  at_from i zero k d h = absurd (not-suc-le-zero h)
  at_from i (suc n) zero d h = ap f (sym (add-zero i))
  at_from i (suc n) (suc k) d h = at_from (suc i) n k d (le_of_suc-le-suc h) ∙ ap f (suc-add i k ∙ sym (add-suc i k))

  -- part by part
  pub append_from : (i n m : ℕ) → tabulate_from i (n + m) f ≡ tabulate_from i n f ++ tabulate_from (i + n) m f
  unfolding tabulate_from
  append_from i zero m = ap₂ (λ (k j : ℕ). tabulate_from j k f) (zero-add m) (sym (add-zero i))
  append_from i (suc n) m =
      ap (λ (k : ℕ). tabulate_from i k f) (suc-add n m)
      ∙ ap (λ (l : List X). f i ∷ l)
      (append_from (suc i) n m ∙ ap (λ (k : ℕ). tabulate_from (suc i) n f ++ tabulate_from k m f) (suc-add i n ∙ sym (add-suc i n)))

  pub later_from : (i n : ℕ) → tabulate_from (suc i) n f ≡ tabulate_from i n (λ k. f (suc k))
  unfolding tabulate_from
  later_from i zero = refl
  later_from i (suc n) = ap (λ (l : List X). f (suc i) ∷ l) (later_from (suc i) n)

  -- as many entries as numbers
  pub length-tabulate : (n : ℕ) → length (tabulate n f) ≡ n
  unfolding tabulate
  length-tabulate n = length_from 0 n

  -- entry i, and none past the last
  pub tabulate_at : (n i : ℕ) (d : X) → i < n → get_or (tabulate n f) i d ≡ f i
  unfolding tabulate
  tabulate_at n i d h = at_from 0 n i d h ∙ ap f (zero-add i)

  pub tabulate_past : (n i : ℕ) (d : X) → n ≤ i → get_or (tabulate n f) i d ≡ d
  tabulate_past n i d h = get_or-eq_default (tabulate n f) d (omega (arith, length-tabulate n))

  -- one entry more
  pub tabulate_more : (n : ℕ) → tabulate (suc n) f ≡ tabulate n f ++ (f n ∷ [])
  unfolding tabulate tabulate_from
  tabulate_more n =
      ap (λ (k : ℕ). tabulate_from 0 k f) (let e : suc n ≡ n + 1 = omega arith in e) ∙ append_from 0 n 1
      ∙ ap (λ (k : ℕ). tabulate_from 0 n f ++ (f k ∷ [])) (zero-add n)

  -- a list is made by a rule that tells its entries
  pub tabulated : (d : X) (l : List X) → ((j : ℕ) → j < length l → get_or l j d ≡ f j) → l ≡ tabulate (length l) f
  tabulated d l h = ext_get_or d l (tabulate (length l) f) (sym (length-tabulate (length l))) (λ j k. h j k ∙ sym (tabulate_at (length l) j d k))

-- two rules that agree on the entries make the same list
pub tabulate_same : {X : Type 0} (d : X) (f g : ℕ → X) (n : ℕ) → ((i : ℕ) → i < n → f i ≡ g i) → tabulate n f ≡ tabulate n g
tabulate_same d f g n h =
    tabulated g d (tabulate n f) (λ j l. let k : j < n = omega (arith, length-tabulate f n) in tabulate_at f n j d k ∙ h j k)
    ∙ ap (λ (k : ℕ). tabulate k g) (length-tabulate f n)

module _ {R X : Type 0} (make : List X → R → X) where
  -- the entries made so far stay in front
  length-entries_from : (before : List X) (rs : List R) → length (entries_from make before rs) ≡ length before + length rs
  unfolding entries_from
  length-entries_from before [] = omega arith
  length-entries_from before (r ∷ rs) =
      rw (length-entries_from (before ++ make before r ∷ []) rs, length_snoc before (make before r)) (omega arith)

  take-entries_from : (before : List X) (rs : List R) → take (length before) (entries_from make before rs) ≡ before
  unfolding entries_from
  take-entries_from before [] = take-length before
  take-entries_from before (r ∷ rs) =
      let d : List X = before ++ make before r ∷ [] in
      let l : length before ≤ length d = omega (arith, length_snoc before (make before r)) in
      sym (take-take (length before) (length d) (entries_from make d rs) l) ∙ ap (take (length before)) (take-entries_from d rs)
      ∙ take-append_seam before (make before r ∷ [])

  entries_from_at : (before : List X) (rs : List R) (k : ℕ) (x : X) (r : R) → k < length rs
      → get_or (entries_from make before rs) (length before + k) x ≡ make (take (length before + k) (entries_from make before rs)) (get_or rs k r)
  unfolding entries_from
  entries_from_at before [] k x r h = absurd (not-suc-le-zero h)
  entries_from_at before (q ∷ rs) zero x r h =
      let d : List X = before ++ make before q ∷ [] in
      let l : length before < length d = omega (arith, length_snoc before (make before q)) in
      rw (add-zero (length before))
      (sym (get_or-take (length d) (entries_from make d rs) (length before) x l) ∙ ap (λ (e : List X). get_or e (length before) x) (take-entries_from d rs)
      ∙ get_or-append_seam before (make before q) [] x ∙ ap (λ (e : List X). make e q) (sym (take-entries_from before (q ∷ rs))))
  entries_from_at before (q ∷ rs) (suc k) x r h =
      let d : List X = before ++ make before q ∷ [] in
      let e : length d + k ≡ length before + suc k = omega (arith, length_snoc before (make before q)) in
      rw (← e) (entries_from_at d rs k x r (le_of_suc-le-suc h))

  -- as many entries as records
  pub length-entries : (rs : List R) → length (entries make rs) ≡ length rs
  unfolding entries
  length-entries rs = length-entries_from [] rs ∙ omega arith

  -- entry i is made of record i and of the entries before it
  pub entries_at : (rs : List R) (i : ℕ) (x : X) (r : R) → i < length rs → get_or (entries make rs) i x ≡ make (take i (entries make rs)) (get_or rs i r)
  unfolding entries
  entries_at rs i x r h = rw (zero-add i) at (entries_from_at [] rs i x r h)

  -- none stands past the last
  pub entries_past : (rs : List R) (i : ℕ) (x : X) → length rs ≤ i → get_or (entries make rs) i x ≡ x
  entries_past rs i x h = get_or-eq_default (entries make rs) x {n = i} (rw (length-entries rs) h)

  -- no entry stands past those before record i
  pub before_none : (rs : List R) (i j : ℕ) (x : X) → i ≤ length rs → i ≤ j → get_or (take i (entries make rs)) j x ≡ x
  before_none rs i j x h l =
      get_or-eq_default (take i (entries make rs)) x (omega (arith, length-take-le i (entries make rs) (omega (arith, length-entries rs))))

  -- what holds of the default and of each entry before record i holds of whatever is found among them
  pub before_at : (P : X → Type 0) (rs : List R) (i : ℕ) (x : X) → i ≤ length rs → P x → ((j : ℕ) → j < i → P (get_or (entries make rs) j x))
      → (j : ℕ) → P (get_or (take i (entries make rs)) j x)
  before_at P rs i x h p q j =
      elim (dec_lt j i) [
        | yes l ↦ subst P (sym (get_or-take i (entries make rs) j x l)) (q j l)
        | no m ↦ subst P (sym (before_none rs i j x h (omega arith))) p
      ]
