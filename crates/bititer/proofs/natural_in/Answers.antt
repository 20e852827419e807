-- The natural that a window begins with: after no, one, two or three ones, each length told by the one before it.
use mathlib.Core.Path.{ap, ap₂, sym, ◌∙◌}
use Prim.Native.Nat.{ℕ, ◌+◌, ◌<◌}
use native.Mathlib.Omega.{arith}
use lib.ListN.{drop}
use Rattle.scope.specs.Naturals.{natural}
use Rattle.bititer.specs.Windows.{after_one}
use Rattle.bititer.proofs.Windows.{after_one_under, no_ones, one_one, two_ones, three_ones}
use Rattle.bititer.proofs.natural_in.Goals as goal

pub returns-then-w-lt-ONE : goal.returns-then-w-lt-ONE
returns-then-w-lt-ONE c = λ l window. (no_ones l _ window c.if-w-lt-ONE.true, omega arith)

pub returns-then-w-lt-TWO_ONES : goal.returns-then-w-lt-TWO_ONES
returns-then-w-lt-TWO_ONES c =
    λ l window. (
      one_one l _ window c.if-w-lt-ONE.false c.if-w-lt-TWO_ONES.true ∙ ap (λ (n : ℕ). natural n (drop 3 l)) (sym c.after_one.ensures),
      omega arith,
    )

pub overflow_add-result : goal.overflow_add-result
overflow_add-result c =
    let a = c.args in
    omega (arith, c.after_one-length.ensures, after_one_under a.w 3 1 1 (omega arith) (omega arith))

pub returns-then-w-lt-THREE_ONES : goal.returns-then-w-lt-THREE_ONES
returns-then-w-lt-THREE_ONES c =
    λ l window.
    let w = c.args.w in
    let two = two_ones l w window c.if-w-lt-TWO_ONES.false c.if-w-lt-THREE_ONES.true in
    let e = c.after_one-length.ensures in (
      two.0 ∙ ap₂ (λ (n m : ℕ). natural n (drop (4 + m) l)) (sym (c.after_one-then-w-lt-THREE_ONES.ensures ∙ ap (after_one w 4) e)) (sym e),
      omega (arith, two.1),
    )

pub overflow_add-first : goal.overflow_add-first
overflow_add-first c =
    let w = c.args.w in
    omega (arith, c.after_one-first.ensures, after_one_under w 4 1 1 (omega arith) (omega arith))

pub overflow_add-result-then-w-lt-FOUR_ONES : goal.overflow_add-result-then-w-lt-FOUR_ONES
overflow_add-result-then-w-lt-FOUR_ONES c =
    let w = c.args.w in
    omega (arith, c.after_one-first.ensures, after_one_under w 4 1 1 (omega arith) (omega arith))

pub overflow_add-result-then-w-lt-FOUR_ONES-2 : goal.overflow_add-result-then-w-lt-FOUR_ONES-2
overflow_add-result-then-w-lt-FOUR_ONES-2 c =
    let w = c.args.w in
    let first = c.after_one-first in
    let small : first.result < 4 = omega (arith, first.ensures, after_one_under w 4 1 1 (omega arith) (omega arith)) in
    omega (arith, c.after_one-length-then-w-lt-FOUR_ONES.ensures, after_one_under w 5 first.result 3 (omega arith) (omega arith))

pub returns-then-w-lt-FOUR_ONES : goal.returns-then-w-lt-FOUR_ONES
returns-then-w-lt-FOUR_ONES c =
    λ l window.
    let w = c.args.w in
    let first = c.after_one-first in
    let length = c.after_one-length-then-w-lt-FOUR_ONES in
    let three =
    three_ones l w window c.if-w-lt-THREE_ONES.false c.if-w-lt-FOUR_ONES.true first.result length.result
    first.ensures length.ensures in
    (three.0 ∙ ap (λ (n : ℕ). natural n (drop (5 + first.result + length.result) l)) (sym c.after_one-then-w-lt-FOUR_ONES.ensures), three.1)
