-- `arrow::disconnect_fits` meets its contract.
use mathlib.Core.Path.{◌≡◌, ◌∙◌}
use mathlib.Core.List.{[], ◌∷◌}
use lib.Dec.{eqb}
use native.Mathlib.Omega.{arith}
use Rattle.std.proofs.lemmas.Grind.{common_steps}
use Rattle.scope.specs.Numbers.{every}
use Rattle.scope.specs.Types.{type_records, is_product, is_word}
use Rattle.scope.specs.Arrows.{arrow_records}
use Rattle.arrow.proofs.KindNumbers.{disconnect_is}
use Rattle.arrow.proofs.disconnect_fits.Goals as goal

pub returns-else-b-handed : goal.returns-else-b-handed
unfolding every
returns-else-b-handed c =
    let types = type_records c.args.types.now in
    let a = c.arrow_at-a.result in
    let b = c.arrow_at-b.result in
    let word = c.left_of-word.result in
    let kept = c.left_of-kept.result in
    let handed = c.right_of-handed.result in
    let e : c.if-is_product-2.value ≡ every (is_product types a.source word c.args.from ∷ is_word types 8 word ∷ is_product types a.target kept handed
    ∷ eqb b.source handed ∷ is_product types c.args.to kept b.target ∷ []) = grind (arith, common_steps) in
    λ ns. e ∙ disconnect_is types ns (arrow_records c.args.arrows.now) c.args.from c.args.to c.args.s c.args.t _ _ _ _ _
    c.arrow_at-a.ensures c.arrow_at-b.ensures c.left_of-word.ensures c.left_of-kept.ensures c.right_of-handed.ensures
