-- `types::repeated` meets its contract: an earlier record equals record i exactly if `any` finds one.
use Rattle.std.proofs.Common.{◌≡◌, refl, sym, ap, ◌∙◌, ℕ, ◌<◌, arith, rules, length, get_or}
use Rattle.std.specs.Prelude.{Bool, true, false}
use Rattle.std.specs.Bool.{MatchBool}
use Rattle.std.specs.List.{range_with_len, HoldsAt, AllWithin}
use Rattle.std.proofs.lemmas.Iterator.{cases_from_any, YieldsList-from_range}
use Rattle.std.proofs.lemmas.List.FromFn.{length-range_with_len, get_or-range_with_len}
use borrow.Author.Tests.{tests}
use Rattle.scope.specs.Numbers.{every, any_below}
use Rattle.scope.specs.Types.{type_records, same_type}
use Rattle.common.specs.Checks.{some_below, below_none}
use Rattle.types.proofs.repeated.Goals as goal

-- what `any` answers over the numbers below n
module _ (test : ℕ → Bool) (n : ℕ) where
  itself : (j : ℕ) → j < n → j ≡ get_or (range_with_len 0 n) j 0
  itself j l = omega (arith, get_or-range_with_len 0 n j 0 l)

  any_told : (r : Bool)
      → MatchBool r ((j : ℕ) × (j < length (range_with_len 0 n)) × HoldsAt (λ k. test k ≡ true) (range_with_len 0 n) j)
      (AllWithin (λ k. test k ≡ false) (range_with_len 0 n) 0 (length (range_with_len 0 n)))
      → r ≡ any_below n test
  any_told true (j, h, found) =
      let l : j < n = omega (arith, length-range_with_len 0 n) in
      sym (some_below n test j l (ap test (itself j l) ∙ found 0))
  any_told false none =
      sym (below_none n test (λ j l. ap test (itself j l) ∙ none j 0 (omega arith) (omega (arith, length-range_with_len 0 n))))

pub returns : goal.returns
unfolding same_type every
returns c =
    let test = same_type (type_records c.args.types.now) c.args.i in
    any_told test c.args.i c.any.result
    (cases_from_any _ _ _ (λ j. test j ≡ true) (λ j. test j ≡ false) c.any.ensures.ran (YieldsList-from_range 0 c.args.i c.args.i refl (omega arith))
    (λ x q k. search (rules, tests)) (λ x q k. search (rules, tests)))
