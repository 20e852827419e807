-- The tests of a record of the type table tell types: a unit, a sum or a product of two types.
-- Each holds of a record exactly if the record stands for such a type; what holds of it is in the table.
use Rattle.std.specs.Prelude.{◌≡◌, Bool, true, List, [], ◌∷◌, eqb}
use Rattle.std.proofs.Math.Path.{refl, ap}
use Rattle.std.proofs.Common.{sym, ◌∙◌}
use Prim.Native.Nat.{ℕ, zero, suc, ◌<◌}
use native.Mathlib.Omega.{arith}
use Rattle.std.proofs.Math.Decide.{dec_lt}
use Rattle.std.proofs.Math.ListN.{length, get_or-eq_default}
use borrow.Author.Tests.{eqb-true, eq-eqb}
use Rattle.report.specs.Types.{Ty, one}
use Rattle.scope.specs.Numbers.{every}
use Rattle.scope.specs.Types.{TypeRecord, type_from, no_type, ty_at, type_at, is_unit, left_at, right_at}
use Rattle.common.specs.Checks.{clash, every_all, all_every}
use Rattle.exactness.specs.Types.{TypesPass, Parts, of_unit, of_sum, of_product, tag_at, parts_at, type_step, same_index}

module _ (types : List TypeRecord) where
  -- record j has this tag and these parts: what `is_sum` tests with the tag 1 and `is_product` with the tag 2
  abbrev pub joins : (tag j l r : ℕ) → Bool
  joins tag j l r = every (eqb (tag_at types j) tag ∷ eqb (left_at types j) l ∷ eqb (right_at types j) r ∷ [])

  -- a record with this tag whose parts are in the table and stand for these types
  pub record Joined (tag j : ℕ) (A B : Ty) : Type 0 where
    pub tagged : tag_at types j ≡ tag
    pub left_in : left_at types j < length types
    pub right_in : right_at types j < length types
    pub left_is : ty_at types (left_at types j) ≡ A
    pub right_is : ty_at types (right_at types j) ≡ B

  -- a record with a type's tag is in the table
  tagged_in : (j tag : ℕ) → tag_at types j ≡ tag → tag < 3 → j < length types
  unfolding type_at
  tagged_in j tag e l = elim (dec_lt j (length types)) [
    | yes h ↦ h
    | no m ↦ let f : tag_at types j ≡ 3 = ap (λ (r : TypeRecord). r.tag) (get_or-eq_default types no_type {n = j} (omega arith)) in absurd (omega arith)
  ]

  module _ (pass : TypesPass types) where
    -- equal types pass the test of indices
    pub same_test : (i j : ℕ) → i < length types → j < length types → ty_at types i ≡ ty_at types j → eqb i j ≡ true
    same_test i j h k e = eq-eqb i j (same_index types pass i j h k e)

    pub unit_type_lem : (j : ℕ) → is_unit types j ≡ true → ty_at types j ≡ one
    unfolding is_unit type_from
    unit_type_lem j e =
        let t : tag_at types j ≡ 0 = eqb-true (tag_at types j) 0 e in
        type_step types pass j (tagged_in j 0 t (omega arith)) ∙ rw t

    pub type_unit : (j : ℕ) → j < length types → ty_at types j ≡ one → is_unit types j ≡ true
    unfolding is_unit type_from
    type_unit j h e =
        let r = go (tag_at types j) (left_at types j) (right_at types j) (parts_at types pass j h) (sym (type_step types pass j h) ∙ e) in
        eq-eqb (tag_at types j) 0 r
      where
        go : (t l r : ℕ) → Parts j t l r → type_from t (ty_at types l) (ty_at types r) ≡ one → t ≡ 0
        go _ _ _ of_unit e = refl
        go _ _ _ (of_sum l r p q) e = clash (cc)
        go _ _ _ (of_product l r p q) e = clash (cc)

    pub joins_type : (tag j l r : ℕ) → tag < 3 → joins tag j l r ≡ true → ty_at types j ≡ type_from tag (ty_at types l) (ty_at types r)
    joins_type tag j l r b e =
        let p = every_all (eqb (tag_at types j) tag ∷ eqb (left_at types j) l ∷ eqb (right_at types j) r ∷ []) e in
        let t : tag_at types j ≡ tag = eqb-true (tag_at types j) tag p.0 in
        let m : left_at types j ≡ l = eqb-true (left_at types j) l p.1.0 in
        let n : right_at types j ≡ r = eqb-true (right_at types j) r p.1.1.0 in
        type_step types pass j (tagged_in j tag t b) ∙ rw (t, m, n)

    -- a sum's type is a sum's record, a product's a product's
    pub type_joins : (k j : ℕ) (A B : Ty) → k < 2 → j < length types → ty_at types j ≡ type_from (suc k) A B → Joined (suc k) j A B
    unfolding type_from
    type_joins k j A B b h e =
        let r = go k (tag_at types j) (left_at types j) (right_at types j) b (parts_at types pass j h) (sym (type_step types pass j h) ∙ e) in
        record { tagged = r.0; left_in = r.1; right_in = r.2; left_is = r.3; right_is = r.4 }
      where
        go : (k t l r : ℕ) → k < 2 → Parts j t l r → type_from t (ty_at types l) (ty_at types r) ≡ type_from (suc k) A B
            → (t ≡ suc k) × (l < length types) × (r < length types) × (ty_at types l ≡ A) × (ty_at types r ≡ B)
        go zero _ _ _ b of_unit e = clash (cc)
        go zero _ _ _ b (of_sum l r p q) e =
            (refl, omega arith, omega arith, (let x : ty_at types l ≡ A = cc in x), (let x : ty_at types r ≡ B = cc in x))
        go zero _ _ _ b (of_product l r p q) e = clash (cc)
        go (suc zero) _ _ _ b of_unit e = clash (cc)
        go (suc zero) _ _ _ b (of_sum l r p q) e = clash (cc)
        go (suc zero) _ _ _ b (of_product l r p q) e =
            (refl, omega arith, omega arith, (let x : ty_at types l ≡ A = cc in x), (let x : ty_at types r ≡ B = cc in x))
        go (suc (suc k)) _ _ _ b _ e = absurd (omega arith)

    -- the test holds of indices with those types
    pub joined_test : (tag j l r : ℕ) (A B : Ty) → Joined tag j A B → l < length types → r < length types → ty_at types l ≡ A
        → ty_at types r ≡ B → joins tag j l r ≡ true
    joined_test tag j l r A B h m n p q =
        all_every (eqb (tag_at types j) tag ∷ eqb (left_at types j) l ∷ eqb (right_at types j) r ∷ []) (
          eq-eqb (tag_at types j) tag h.tagged,
          (
            same_test (left_at types j) l h.left_in m (h.left_is ∙ sym p),
            (same_test (right_at types j) r h.right_in n (h.right_is ∙ sym q), tt),
          ),
        )
