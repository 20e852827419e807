-- The type of a word, walked down: a product of equal parts leads to its part.
use mathlib.Core.Path.{◌≡◌, sym, ap, ◌∙◌, subst}
use mathlib.Core.Bool.{true, false}
use mathlib.Core.List.{List, [], ◌∷◌}
use Prim.Native.Nat.{ℕ, zero, suc, ◌-◌, ◌<◌}
use native.Mathlib.Omega.{arith}
use Rattle.scope.specs.Types.{TypeRecord, is_product, left_at, is_word}
use Rattle.common.specs.Checks.{every_failed}
use Rattle.types.proofs.Records.{every_both}

module _ (types : List TypeRecord) where
  pub word_down : (k j part : ℕ) → 0 < k → part ≡ left_at types j → is_product types j part part ≡ true → is_word types k j ≡ is_word types (k - 1) part
  unfolding is_word
  word_down zero j part h e t = absurd (omega arith)
  word_down (suc k) j part h e t =
      every_both _ (is_word types k (left_at types j)) (subst (λ p. is_product types j p p ≡ true) e t) ∙ ap (is_word types k) (sym e)
      ∙ ap (λ n. is_word types n part) (let q : k ≡ suc k - 1 = omega arith in q)

  pub word_stops : (k j part : ℕ) → 0 < k → part ≡ left_at types j → is_product types j part part ≡ false → is_word types k j ≡ false
  unfolding is_word
  word_stops zero j part h e t = absurd (omega arith)
  word_stops (suc k) j part h e t = every_failed _ (is_word types k (left_at types j) ∷ []) (subst (λ p. is_product types j p p ≡ false) e t)
