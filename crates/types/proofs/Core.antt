-- What is left of a type when products with a part of width 0 are passed over.
-- The type that is left has the same width, the same compact bits and the same padded cells, and is no such product.
use mathlib.Core.Path.{◌≡◌, refl, ap, ap₂, sym, ◌∙◌}
use mathlib.Core.List.{List, [], ◌++◌, append-nil}
use Prim.Native.Nat.{ℕ, zero, suc, ◌+◌, ◌<◌}
use native.Mathlib.Omega.{arith}
use Rattle.report.specs.Bits.{Bit}
use Rattle.report.specs.Types.{Ty, one, sum, prod, width, left_of, right_of}
use Rattle.report.specs.Values.{Val, ⟨⟩, ◌&◌, compact, padded, Read, value, short, and_then, read_value, Cells, value_at}
use Rattle.types.specs.Records.{pass_over}

-- what is left of a type when products with a part of width 0 are passed over
unfoldable pub core : Ty → Ty
core one = one
core (sum A B) = sum A B
core (prod A B) = pass_over (width A) (width B) (core A) (core B) (prod A B)

-- the one value of a type of width 0
pub only : Ty → Val
only one = ⟨⟩
only (sum A B) = ⟨⟩
only (prod A B) = only A & only B

pub read_nothing : (A : Ty) (bs : List Bit) → width A ≡ 0 → read_value A bs ≡ value (only A) bs
unfolding read_value and_then width only
read_nothing one bs e = refl
read_nothing (sum A B) bs e = absurd (omega arith)
read_nothing (prod A B) bs e =
    ap (λ (r : Read). and_then r λ v bs. and_then (read_value B bs) λ w rest. value (v & w) rest) (read_nothing A bs (omega arith))
    ∙ ap (λ (r : Read). and_then r λ w rest. value (only A & w) rest) (read_nothing B bs (omega arith))

compact_nothing : (A : Ty) → width A ≡ 0 → compact (only A) ≡ []
unfolding compact width only
compact_nothing one e = refl
compact_nothing (sum A B) e = absurd (omega arith)
compact_nothing (prod A B) e = ap₂ (λ (x y : List Bit). x ++ y) (compact_nothing A (omega arith)) (compact_nothing B (omega arith))

padded_nothing : (A : Ty) → width A ≡ 0 → padded A (only A) ≡ []
unfolding padded width only left_of right_of
padded_nothing one e = refl
padded_nothing (sum A B) e = absurd (omega arith)
padded_nothing (prod A B) e = ap₂ (λ (x y : List Bit). x ++ y) (padded_nothing A (omega arith)) (padded_nothing B (omega arith))

pub value_nothing : (A : Ty) (c : Cells) (at : ℕ) → width A ≡ 0 → value_at A c at ≡ only A
unfolding value_at width only
value_nothing one c at e = refl
value_nothing (sum A B) c at e = absurd (omega arith)
value_nothing (prod A B) c at e = ap₂ ◌&◌ (value_nothing A c at (omega arith)) (value_nothing B c (at + width A) (omega arith))

-- a value that was read, as bits: its compact bits, its padded cells and the bits after it; or too few bits
pub data Spelling : Type 0 where
  spelling : (bits cells rest : List Bit) → Spelling
  none : Spelling

unfoldable pub spelled : Ty → Read → Spelling
spelled A (value v rest) = spelling (compact v) (padded A v) rest
spelled A short = none

-- two types have the same width, the same compact bits and the same padded cells
pub record Alike (A B : Ty) : Type 0 where
  pub wide : width A ≡ width B
  pub reads : (bs : List Bit) → spelled A (read_value A bs) ≡ spelled B (read_value B bs)
  pub cells : (c : Cells) (at : ℕ) → compact (value_at A c at) ≡ compact (value_at B c at)

same_type_lem : (A : Ty) → Alike A A
same_type_lem A = record { wide = refl; reads = λ bs. refl; cells = λ c at. refl }

alike_trans : {A B C : Ty} → Alike A B → Alike B C → Alike A C
alike_trans x y = record { wide = x.wide ∙ y.wide; reads = λ bs. x.reads bs ∙ y.reads bs; cells = λ c at. x.cells c at ∙ y.cells c at }

-- a product whose left part, or whose right part, has width 0 is like its other part
pub left_nothing : (A B : Ty) → width A ≡ 0 → Alike B (prod A B)
unfolding width read_value and_then spelled compact padded left_of right_of value_at
left_nothing A B e = record {
  wide = omega arith;
  reads =
      λ bs. go (read_value B bs)
      ∙ ap (λ (r : Read). spelled (prod A B) (and_then r λ v bs. and_then (read_value B bs) λ w rest. value (v & w) rest))
      (sym (read_nothing A bs e));
  cells = λ c at.
      let x : compact (value_at A c at) ≡ [] = ap compact (value_nothing A c at e) ∙ compact_nothing A e in
      let y : at ≡ at + width A = omega arith in
      ap (λ (k : ℕ). compact (value_at B c k)) y ∙ ap (λ (l : List Bit). l ++ compact (value_at B c (at + width A))) (sym x);
}
  where
    go : (r : Read) → spelled B r ≡ spelled (prod A B) (and_then r λ w rest. value (only A & w) rest)
    go (value w rest) =
        ap₂ (λ (x y : List Bit). spelling (x ++ compact w) (y ++ padded B w) rest) (sym (compact_nothing A e)) (sym (padded_nothing A e))
    go short = refl

pub right_nothing : (A B : Ty) → width B ≡ 0 → Alike A (prod A B)
unfolding width read_value and_then spelled compact padded left_of right_of value_at
right_nothing A B e = record {
  wide = omega arith;
  reads = λ bs. go (read_value A bs);
  cells = λ c at.
      let x : compact (value_at B c (at + width A)) ≡ [] = ap compact (value_nothing B c (at + width A) e) ∙ compact_nothing B e in
      sym (ap (λ (l : List Bit). compact (value_at A c at) ++ l) x ∙ append-nil (compact (value_at A c at)));
}
  where
    go : (r : Read) → spelled A r ≡ spelled (prod A B) (and_then r λ v bs. and_then (read_value B bs) λ w rest. value (v & w) rest)
    go (value v rest) =
        sym (ap (λ (r : Read). spelled (prod A B) (and_then r λ w rest. value (v & w) rest)) (read_nothing B rest e)
        ∙ ap₂ (λ (x y : List Bit). spelling (compact v ++ x) (padded A v ++ y) rest) (compact_nothing B e) (padded_nothing B e)
        ∙ ap₂ (λ (x y : List Bit). spelling x y rest) (append-nil (compact v)) (append-nil (padded A v)))
    go short = refl

-- what is left of a type has the same width, compact bits and padded cells
pub core_alike : (A : Ty) → Alike (core A) A
unfolding core
core_alike one = same_type_lem one
core_alike (sum A B) = same_type_lem (sum A B)
core_alike (prod A B) = go (width A) (width B) refl refl (core_alike A) (core_alike B)
  where
    go : (a b : ℕ) → width A ≡ a → width B ≡ b → Alike (core A) A → Alike (core B) B → Alike (pass_over a b (core A) (core B) (prod A B)) (prod A B)
    go zero b e f x y = alike_trans y (left_nothing A B e)
    go (suc a) zero e f x y = alike_trans x (right_nothing A B f)
    go (suc a) (suc b) e f x y = same_type_lem (prod A B)

-- no product with a part of width 0
pub data Matters : Ty → Type 0 where
  unit_matters : Matters one
  sum_matters : {A B : Ty} → Matters (sum A B)
  product_matters : {A B : Ty} → 0 < width A → 0 < width B → Matters (prod A B)

pub core_matters : (A : Ty) → Matters (core A)
unfolding core
core_matters one = unit_matters
core_matters (sum A B) = sum_matters
core_matters (prod A B) = go (width A) (width B) refl refl (core_matters A) (core_matters B)
  where
    go : (a b : ℕ) → width A ≡ a → width B ≡ b → Matters (core A) → Matters (core B) → Matters (pass_over a b (core A) (core B) (prod A B))
    go zero b e f x y = y
    go (suc a) zero e f x y = x
    go (suc a) (suc b) e f x y = (let l : 0 < width A = omega arith in let r : 0 < width B = omega arith in product_matters l r)
