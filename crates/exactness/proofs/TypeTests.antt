-- The test of a record of the type table for a type of words holds exactly of a record that stands for that type:
-- it asks for the records of the halves, down to two units.
use Rattle.std.specs.Prelude.{◌≡◌, true, List, [], ◌∷◌}
use Rattle.std.proofs.Math.Path.{ap₂}
use Rattle.std.proofs.Common.{◌∙◌}
use Prim.Native.Nat.{ℕ, zero, suc, ◌<◌}
use native.Mathlib.Omega.{arith}
use Rattle.std.proofs.Math.ListN.{length}
use Rattle.report.specs.Types.{one, sum, prod, word_ty}
use Rattle.scope.specs.Types.{TypeRecord, type_from, ty_at, is_unit, is_sum, is_product, left_at, right_at, is_word}
use Rattle.common.specs.Checks.{every_all, all_every}
use Rattle.exactness.specs.Types.{TypesPass}
use Rattle.exactness.specs.TypeTests.{joins_type, unit_type_lem, type_joins, joined_test, type_unit}

module _ (types : List TypeRecord) where
  module _ (pass : TypesPass types) where
    -- the test of a word type holds of that very type
    pub word_type : (k j : ℕ) → is_word types k j ≡ true → ty_at types j ≡ word_ty k
    unfolding is_word word_ty is_sum is_product left_at right_at type_from
    word_type zero j e =
        let p = every_all (is_sum types j (left_at types j) (right_at types j)
        ∷ is_unit types (left_at types j) ∷ is_unit types (right_at types j) ∷ []) e in
        joins_type types pass 1 j (left_at types j) (right_at types j) (omega arith) p.0
        ∙ ap₂ sum (unit_type_lem types pass (left_at types j) p.1.0) (unit_type_lem types pass (right_at types j) p.1.1.0)
    word_type (suc k) j e =
        let p = every_all (is_product types j (left_at types j) (left_at types j) ∷ is_word types k (left_at types j) ∷ []) e in
        let w = word_type k (left_at types j) p.1.0 in
        joins_type types pass 2 j (left_at types j) (left_at types j) (omega arith) p.0 ∙ ap₂ prod w w

    pub type_word : (k j : ℕ) → j < length types → ty_at types j ≡ word_ty k → is_word types k j ≡ true
    unfolding is_word word_ty is_sum is_product left_at right_at type_from
    type_word zero j h e =
        let p = type_joins types pass 0 j one one (omega arith) h e in
        all_every (is_sum types j (left_at types j) (right_at types j) ∷ is_unit types (left_at types j) ∷ is_unit types (right_at types j) ∷ []) (
          joined_test types pass 1 j (left_at types j) (right_at types j) one one p p.left_in p.right_in p.left_is p.right_is,
          (type_unit types pass (left_at types j) p.left_in p.left_is, (type_unit types pass (right_at types j) p.right_in p.right_is, tt)),
        )
    type_word (suc k) j h e =
        let p = type_joins types pass 1 j (word_ty k) (word_ty k) (omega arith) h e in
        all_every (is_product types j (left_at types j) (left_at types j) ∷ is_word types k (left_at types j) ∷ []) (
          joined_test types pass 2 j (left_at types j) (left_at types j) (word_ty k) (word_ty k) p p.left_in p.left_in p.left_is p.left_is,
          (type_word k (left_at types j) p.left_in p.left_is, tt),
        )
