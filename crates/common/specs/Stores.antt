-- A store with one entry from an index on, an index a turn: nothing yet, one more, all.
use Rattle.std.specs.Prelude.{◌≡◌, List, ◌++◌, ℕ, suc, ◌+◌, ◌-◌, ◌<◌, ◌≤◌, length, get_or, set, take, replicate}
use Rattle.std.proofs.Common.{sym, ap, ap₂, ◌∙◌, append-nil, arith, drop_of_length-le, take_all}
use Rattle.std.proofs.lemmas.List.{length-replicate, get_or-replicate}
use Rattle.std.proofs.Math.Seq.{paste, paste-zero, paste-suc}
use Rattle.scope.specs.Numbers.{zeros}

-- a store with one entry at every place from an index on
abbrev pub filled : {A : Type 0} → A → (store : List A) → (from : ℕ) → List A
filled entry store from = take from store ++ replicate (length store - from) entry

-- a store with zeros from an index on
abbrev pub cleared : (store : List ℕ) → (from : ℕ) → List ℕ
cleared store from = take from store ++ zeros (length store - from)

-- cleared from its start on, it holds zeros alone
pub all_cleared : (store : List ℕ) → cleared store 0 ≡ zeros (length store)
all_cleared store = ap zeros (let e : length store - 0 ≡ length store = omega arith in e)

module _ {A : Type 0} (entry : A) (store : List A) (from : ℕ) where
  -- the store with the entry from the index up to j
  abbrev pub filled_to : (j : ℕ) → List A
  filled_to j = paste store from (replicate (length store - from) entry) (j - from)

  pub fill_none : store ≡ filled_to from
  fill_none =
      paste-zero store from (replicate (length store - from) entry)
      ∙ ap (paste store from (replicate (length store - from) entry)) (let e : 0 ≡ from - from = omega arith in e)

  pub fill_more : (j : ℕ) → from ≤ j → j < length store → set (filled_to j) j entry ≡ filled_to (j + 1)
  fill_more j h l =
      let m : ℕ = j - from in
      let e : j ≡ from + m = omega arith in
      let v : entry ≡ get_or (replicate (length store - from) entry) m entry = sym (get_or-replicate {A = A} (length store - from) m entry entry (omega arith)) in
      ap₂ (λ (k : ℕ) (x : A). set (filled_to j) k x) e v
      ∙ paste-suc store from (replicate (length store - from) entry) m entry (omega arith) (omega (arith, length-replicate {A = A} (length store - from) entry))
      ∙ ap (paste store from (replicate (length store - from) entry)) (let s : suc m ≡ j + 1 - from = omega arith in s)

  pub fill_all : (j : ℕ) → from ≤ j → length store ≤ j → filled_to j ≡ filled entry store from
  fill_all j h l =
      let z : List A = replicate (length store - from) entry in
      ap₂ (λ (x y : List A). take from store ++ x ++ y) (take_all (j - from) z (omega (arith, length-replicate {A = A} (length store - from) entry)))
      (drop_of_length-le store {i = from + (j - from)} (omega arith))
      ∙ append-nil (take from store ++ z)
