-- An array that a pass upwards fills by a rule: the entries of the numbers below n stand in it, and nothing yet in the rest.
use Rattle.std.specs.Prelude.{◌≡◌, List, [], ◌∷◌, ◌++◌, ℕ, suc, ◌+◌, ◌-◌, ◌<◌, ◌≤◌, length, get_or, set}
use Rattle.std.proofs.Common.{sym, ◌∙◌, append_assoc, add-one, length-append, get_or-append-add, ext_get_or}
use Rattle.std.proofs.Math.Path.{ap}
use native.Mathlib.Omega.{arith}
use Rattle.std.proofs.Math.Decide.{dec_lt}
use Rattle.std.proofs.Math.ListN.{replicate, get_or-append}
use Rattle.std.proofs.lemmas.List.{length-replicate, set_at}
use Rattle.scope.specs.Numbers.{tabulate, tabulate_from}
use Rattle.common.specs.Lists.{replicate_at}
use Rattle.common.specs.Tables.{length-tabulate, tabulate_at, tabulate_more}

module _ {X : Type 0} (f : ℕ → X) (none : X) (size : ℕ) where
  abbrev pub filled_to : (n : ℕ) → List X
  filled_to n = tabulate n f ++ replicate (size - n) none

  pub fill_start : replicate size none ≡ filled_to 0
  unfolding tabulate tabulate_from
  fill_start = ap (λ k. replicate k none) (let e : size ≡ size - 0 = omega arith in e)

  pub fill_length : (n : ℕ) → n ≤ size → length (filled_to n) ≡ size
  fill_length n h = omega (arith, length-append (tabulate n f) (replicate (size - n) none), length-tabulate f n, length-replicate (size - n) none)

  pub fill_at : (n j : ℕ) → j < n → get_or (filled_to n) j none ≡ f j
  fill_at n j h = get_or-append (tabulate n f) (replicate (size - n) none) none j (omega (arith, length-tabulate f n)) ∙ tabulate_at f n j none h

  pub fill_past : (n j : ℕ) → n ≤ j → get_or (filled_to n) j none ≡ none
  fill_past n j h =
      ap (λ k. get_or (filled_to n) k none) (let q : j ≡ length (tabulate n f) + (j - n) = omega (arith, length-tabulate f n) in q)
      ∙ get_or-append-add (tabulate n f) (replicate (size - n) none) (j - n) none
      ∙ replicate_at (size - n) (j - n) none

  pub fill_more : (n : ℕ) (v : X) → n < size → v ≡ f n → set (filled_to n) n v ≡ filled_to (n + 1)
  fill_more n v h e =
      ap (λ k. set (tabulate n f ++ replicate k none) n v) (let q : size - n ≡ suc (size - (n + 1)) = omega arith in q)
      ∙ set_at (tabulate n f) none (replicate (size - (n + 1)) none) v n (length-tabulate f n)
      ∙ ap (λ x. tabulate n f ++ (x ∷ replicate (size - (n + 1)) none)) e
      ∙ sym (append_assoc (tabulate n f) (f n ∷ []) (replicate (size - (n + 1)) none))
      ∙ ap (λ l. l ++ replicate (size - (n + 1)) none) (sym (tabulate_more f n))
      ∙ ap (λ k. tabulate k f ++ replicate (size - (n + 1)) none) (sym (add-one n))

  -- where nothing is to stand in the rest, the array is whole
  pub fill_end : (n : ℕ) → n ≤ size → ((j : ℕ) → n ≤ j → j < size → f j ≡ none) → filled_to n ≡ tabulate size f
  fill_end n h rest =
      ext_get_or none (filled_to n) (tabulate size f) (fill_length n h ∙ sym (length-tabulate f size))
      (λ j l. let m : j < size = omega (arith, fill_length n h) in entry j m (dec_lt j n) ∙ sym (tabulate_at f size j none m))
    where
      entry : (j : ℕ) → j < size → Dec (j < n) → get_or (filled_to n) j none ≡ f j
      entry j m (yes l) = fill_at n j l
      entry j m (no l) = fill_past n j (omega arith) ∙ sym (rest j (omega arith) m)
