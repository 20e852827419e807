-- The shape of a type of the report, and what skipping, padding and unpadding along it are: reading a value, its padded cells, its compact bits.
use mathlib.Core.Path.{◌≡◌, refl, ap, ap₂, sym, subst, ◌∙◌}
use mathlib.Core.Bool.{Bool, true, false}
use mathlib.Core.List.{List, [], ◌∷◌, ◌++◌}
use Prim.Native.Nat.{ℕ, zero, suc, ◌+◌}
use native.Mathlib.Decide.{dec_lt}
use native.Mathlib.Omega.{arith}
use lib.ListN.{length, take, drop, length-append, length-replicate}
use lib.Seq.{sets, drop-drop}
use Rattle.report.specs.Bits.{Bit}
use Rattle.report.specs.Types.{Ty, one, sum, prod, width, pad_l, pad_r, left_of, right_of}
use Rattle.report.specs.Values.{Val, inl, inr, ◌&◌, compact, padded, Read, value, short, and_then, read_value, Cells, value_at}
use Rattle.scope.specs.Numbers.{zeros, tabulate_from}
use Rattle.types.proofs.Core.{core, Spelling, spelling, none, spelled, left_nothing, right_nothing}
use Rattle.types.proofs.Records.{every_both, every_left}
use Rattle.types.proofs.Sound.{unpadded_nothing}
use Rattle.types.specs.Records.{pass_over, unpadded}
use Rattle.value.specs.Bits.{Used, used, short as too_short, after, tag_of, tags_of, skip_shape, pad_shape, unpad_shape}
use Rattle.value.specs.Shapes.{Shape, nothing, plain, tag, both}
use Rattle.value.proofs.Plain.{skip_enough, skip_few, pad_enough, length_first}
use Rattle.value.proofs.Unpadded.{plain_spelling, plain_reads, plain_short, plain_holds}
use Rattle.value.proofs.Ways.{both-short, both_used, pad_used, sets-append}

-- bits without padding as a shape; a type of width 0 has none
abbrev pub plain_shape : (width : ℕ) → Shape
plain_shape zero = nothing
plain_shape (suc w) = plain (suc w)

-- the shape of a type of this width, where it has no padding, and where it has
abbrev pub shape_where : (none : Bool) → (width : ℕ) → Shape → Shape
shape_where true w S = plain_shape w
shape_where false w S = S

-- the shape of a type: one without padding is its bits, and products with a part of width 0 are passed over
unfoldable pub shape_of : Ty → Shape
unfolding pad_l pad_r unpadded width
shape_of one = nothing
shape_of (sum A B) = shape_where (unpadded (sum A B)) (width (sum A B)) (tag (pad_l A B) (pad_r A B) (shape_of A) (shape_of B))
shape_of (prod A B) =
    shape_where (unpadded (prod A B)) (width (prod A B)) (pass_over (width A) (width B) (shape_of A) (shape_of B) (both (width A) (shape_of A) (shape_of B)))

pub shape_unpadded : (A : Ty) → unpadded A ≡ true → shape_of A ≡ plain_shape (width A)
unfolding shape_of
shape_unpadded one e = refl
shape_unpadded (sum A B) e = ap (λ (u : Bool). shape_where u (width (sum A B)) (tag (pad_l A B) (pad_r A B) (shape_of A) (shape_of B))) e
shape_unpadded (prod A B) e =
    ap (λ (u : Bool). shape_where u (width (prod A B)) (pass_over (width A) (width B) (shape_of A) (shape_of B) (both (width A) (shape_of A) (shape_of B)))) e

pub shape_sum : (A B : Ty) → unpadded (sum A B) ≡ false → tag (pad_l A B) (pad_r A B) (shape_of A) (shape_of B) ≡ shape_of (sum A B)
unfolding shape_of
shape_sum A B e = ap (λ (u : Bool). shape_where u (width (sum A B)) (tag (pad_l A B) (pad_r A B) (shape_of A) (shape_of B))) (sym e)

pub shape_product : (A B : Ty) → unpadded (prod A B) ≡ false
    → pass_over (width A) (width B) (shape_of A) (shape_of B) (both (width A) (shape_of A) (shape_of B)) ≡ shape_of (prod A B)
unfolding shape_of
shape_product A B e =
    ap (λ (u : Bool). shape_where u (width (prod A B)) (pass_over (width A) (width B) (shape_of A) (shape_of B) (both (width A) (shape_of A) (shape_of B)))) (sym e)

-- a type of width 0 has the shape of nothing
pub shape_none : (A : Ty) → width A ≡ 0 → shape_of A ≡ nothing
shape_none A e = shape_unpadded A (unpadded_nothing A e) ∙ ap plain_shape e

-- what is left of a type with padding has padding, and the type's shape
module _ (A B : Ty) (p : unpadded (prod A B) ≡ false) where
  right_padded : width A ≡ 0 → unpadded B ≡ false
  unfolding unpadded
  right_padded e = sym (every_both (unpadded A) (unpadded B) (unpadded_nothing A e)) ∙ p

  left_padded : width B ≡ 0 → unpadded A ≡ false
  unfolding unpadded
  left_padded e = sym (every_left (unpadded A) (unpadded B) (unpadded_nothing B e)) ∙ p

pub core_padded : (A : Ty) → unpadded A ≡ false → unpadded (core A) ≡ false
unfolding core
core_padded one p = p
core_padded (sum A B) p = p
core_padded (prod A B) p = go (width A) (width B) refl refl (core_padded A) (core_padded B)
  where
    go : (a b : ℕ) → width A ≡ a → width B ≡ b → (unpadded A ≡ false → unpadded (core A) ≡ false) → (unpadded B ≡ false → unpadded (core B) ≡ false)
        → unpadded (pass_over a b (core A) (core B) (prod A B)) ≡ false
    go zero b e f x y = y (right_padded A B p e)
    go (suc a) zero e f x y = x (left_padded A B p f)
    go (suc a) (suc b) e f x y = p

pub shape_core : (A : Ty) → unpadded A ≡ false → shape_of (core A) ≡ shape_of A
unfolding core
shape_core one p = refl
shape_core (sum A B) p = refl
shape_core (prod A B) p = go (width A) (width B) refl refl (shape_core A) (shape_core B) ∙ shape_product A B p
  where
    go : (a b : ℕ) → width A ≡ a → width B ≡ b → (unpadded A ≡ false → shape_of (core A) ≡ shape_of A) → (unpadded B ≡ false → shape_of (core B) ≡ shape_of B)
        → shape_of (pass_over a b (core A) (core B) (prod A B)) ≡ pass_over (width A) (width B) (shape_of A) (shape_of B) (both (width A) (shape_of A) (shape_of B))
    go zero b e f x y = y (right_padded A B p e) ∙ ap (λ (k : ℕ). pass_over k (width B) (shape_of A) (shape_of B) (both (width A) (shape_of A) (shape_of B))) (sym e)
    go (suc a) zero e f x y =
        x (left_padded A B p f) ∙ ap₂ (λ (k j : ℕ). pass_over k j (shape_of A) (shape_of B) (both (width A) (shape_of A) (shape_of B))) (sym e) (sym f)
    go (suc a) (suc b) e f x y = sym (shape_product A B p)

-- a value that was read leaves the bits after its compact bits, and its padded cells fill the width
pub record Fits (A : Ty) (bs : List Bit) (v : Val) (rest : List Bit) : Type 0 where
  pub after : rest ≡ drop (length (compact v)) bs
  pub wide : length (padded A v) ≡ width A

abbrev Fit : (A : Ty) → List Bit → Read → Type 0
Fit A bs (value v rest) = Fits A bs v rest
Fit A bs short = Unit {0}

read_fits : (A : Ty) (bs : List Bit) → Fit A bs (read_value A bs)
unfolding read_value and_then compact padded width left_of right_of pad_l pad_r
read_fits one bs = record { after = refl; wide = refl }
read_fits (sum A B) [] = tt
read_fits (sum A B) (zero ∷ bs) = go (read_value A bs) (read_fits A bs)
  where
    go : (r : Read) → Fit A bs r → Fit (sum A B) (0 ∷ bs) (and_then r λ v rest. value (inl v) rest)
    go (value v rest) h =
        let p = length-append (zeros (pad_l A B)) (padded A v) in
        let q = length-replicate {A = ℕ} (pad_l A B) 0 in
        let w = h.wide in
        record { after = h.after; wide = omega arith }
    go short h = tt
read_fits (sum A B) (suc b ∷ bs) = go (read_value B bs) (read_fits B bs)
  where
    go : (r : Read) → Fit B bs r → Fit (sum A B) (suc b ∷ bs) (and_then r λ v rest. value (inr v) rest)
    go (value v rest) h =
        let p = length-append (zeros (pad_r A B)) (padded B v) in
        let q = length-replicate {A = ℕ} (pad_r A B) 0 in
        let w = h.wide in
        record { after = h.after; wide = omega arith }
    go short h = tt
read_fits (prod A B) bs = go (read_value A bs) (read_fits A bs) (read_fits B)
  where
    then : (v : Val) (m : List Bit) → Fits A bs v m → (r : Read) → Fit B m r → Fit (prod A B) bs (and_then r λ w rest. value (v & w) rest)
    then v m h (value w rest) k =
        let p = length-append (compact v) (compact w) in
        let q = length-append (padded A v) (padded B w) in
        let x = h.wide in
        let y = k.wide in
        record {
          after =
              k.after
              ∙ ap (drop (length (compact w))) h.after
              ∙ drop-drop (length (compact w)) (length (compact v)) bs
              ∙ ap (λ (j : ℕ). drop j bs) (sym p);
          wide = omega arith;
        }
    then v m h short k = tt

    go : (r : Read) → Fit A bs r → ((m : List Bit) → Fit B m (read_value B m))
        → Fit (prod A B) bs (and_then r λ v bs. and_then (read_value B bs) λ w rest. value (v & w) rest)
    go (value v m) h k = then v m h (read_value B m) (k m)
    go short h k = tt

pub read_fit : (A : Ty) (bs : List Bit) (v : Val) (rest : List Bit) → read_value A bs ≡ value v rest → Fits A bs v rest
read_fit A bs v rest e = subst (Fit A bs) e (read_fits A bs)

-- how many bits a spelling takes
abbrev pub taken : Spelling → Used
taken (spelling bits cells rest) = used (length bits)
taken none = too_short

-- skipping along a type takes the bits of the value that is read
abbrev Skips : Shape → Ty → Type 0
Skips S A = (bs : List Bit) → skip_shape S bs ≡ taken (spelled A (read_value A bs))

skip_bits : (w : ℕ) (bs : List Bit) → skip_shape (plain_shape w) bs ≡ skip_shape (plain w) bs
unfolding skip_shape
skip_bits zero bs = sym (skip_enough 0 bs (omega arith))
skip_bits (suc w) bs = refl

skip_unpadded : (A : Ty) → unpadded A ≡ true → Skips (plain_shape (width A)) A
unfolding spelled
skip_unpadded A e bs = skip_bits (width A) bs ∙ elim (dec_lt (length bs) (width A)) [
  | yes l ↦ skip_few (width A) bs l ∙ sym (ap (λ (r : Read). taken (spelled A r)) (plain_short A e bs l))
  | no l ↦ skip_enough (width A) bs (omega arith)
      ∙ ap used (sym (length_first (width A) bs (omega arith)))
      ∙ ap taken (sym (plain_reads A e bs (omega arith)))
]

skip_either : (A : Ty) (S : Shape) → Skips S A → Skips (shape_where (unpadded A) (width A) S) A
skip_either A S h = go (unpadded A) refl
  where
    go : (u : Bool) → unpadded A ≡ u → Skips (shape_where u (width A) S) A
    go true e = skip_unpadded A e
    go false e = h

module _ (A B : Ty) where
  skip_sum : Skips (shape_of A) A → Skips (shape_of B) B → Skips (tag (pad_l A B) (pad_r A B) (shape_of A) (shape_of B)) (sum A B)
  unfolding skip_shape read_value and_then spelled compact
  skip_sum h k [] = refl
  skip_sum h k (zero ∷ bs) = ap (after 1) (h bs) ∙ go (read_value A bs)
    where
      go : (r : Read) → after 1 (taken (spelled A r)) ≡ taken (spelled (sum A B) (and_then r λ v rest. value (inl v) rest))
      go (value v rest) = ap used (let z : 1 + length (compact v) ≡ suc (length (compact v)) = omega arith in z)
      go short = refl
  skip_sum h k (suc b ∷ bs) = ap (after 1) (k bs) ∙ go (read_value B bs)
    where
      go : (r : Read) → after 1 (taken (spelled B r)) ≡ taken (spelled (sum A B) (and_then r λ v rest. value (inr v) rest))
      go (value v rest) = ap used (let z : 1 + length (compact v) ≡ suc (length (compact v)) = omega arith in z)
      go short = refl

  skip_pair : Skips (shape_of A) A → Skips (shape_of B) B → Skips (both (width A) (shape_of A) (shape_of B)) (prod A B)
  unfolding read_value and_then spelled compact
  skip_pair h k bs = first (read_value A bs) refl
    where
      second : (v : Val) (r : Read) → after (length (compact v)) (taken (spelled B r)) ≡ taken (spelled (prod A B) (and_then r λ w rest. value (v & w) rest))
      second v (value w rest) = ap used (sym (length-append (compact v) (compact w)))
      second v short = refl

      first : (r : Read) → read_value A bs ≡ r
          → skip_shape (both (width A) (shape_of A) (shape_of B)) bs
          ≡ taken (spelled (prod A B) (and_then r λ v bs. and_then (read_value B bs) λ w rest. value (v & w) rest))
      first (value v m) e =
          both_used (width A) (shape_of A) (shape_of B) bs (length (compact v)) (h bs ∙ ap (λ (r : Read). taken (spelled A r)) e)
          ∙ ap (λ (x : List Bit). after (length (compact v)) (skip_shape (shape_of B) x)) (sym (read_fit A bs v m e).after)
          ∙ ap (after (length (compact v))) (k m)
          ∙ second v (read_value B m)
      first short e = both-short (width A) (shape_of A) (shape_of B) bs (h bs ∙ ap (λ (r : Read). taken (spelled A r)) e)

  skip_product : Skips (shape_of A) A → Skips (shape_of B) B
      → Skips (pass_over (width A) (width B) (shape_of A) (shape_of B) (both (width A) (shape_of A) (shape_of B))) (prod A B)
  skip_product h k = pass (width A) (width B) refl refl
    where
      pass : (a b : ℕ) → width A ≡ a → width B ≡ b → Skips (pass_over a b (shape_of A) (shape_of B) (both (width A) (shape_of A) (shape_of B))) (prod A B)
      pass zero b e f = λ bs. k bs ∙ ap taken ((left_nothing A B e).reads bs)
      pass (suc a) zero e f = λ bs. h bs ∙ ap taken ((right_nothing A B f).reads bs)
      pass (suc a) (suc b) e f = skip_pair h k

pub skip_reads : (A : Ty) → Skips (shape_of A) A
unfolding shape_of skip_shape read_value spelled compact
skip_reads one = λ bs. refl
skip_reads (sum A B) =
    skip_either (sum A B) (tag (pad_l A B) (pad_r A B) (shape_of A) (shape_of B)) (skip_sum A B (skip_reads A) (skip_reads B))
skip_reads (prod A B) =
    skip_either (prod A B) (pass_over (width A) (width B) (shape_of A) (shape_of B) (both (width A) (shape_of A) (shape_of B)))
    (skip_product A B (skip_reads A) (skip_reads B))

-- padding along a type writes the padded cells of the value that is read
abbrev Pads : Shape → Ty → Type 0
Pads S A = (bs : List Bit) (bits cells rest : List Bit) → spelled A (read_value A bs) ≡ spelling bits cells rest
    → (d : List Bit) (at : ℕ) → pad_shape S bs d at ≡ sets d at cells

pad_bits : (w : ℕ) (bs d : List Bit) (at : ℕ) → pad_shape (plain_shape w) bs d at ≡ pad_shape (plain w) bs d at
unfolding pad_shape tags_of
pad_bits zero bs d at = sym (pad_enough 0 bs d at (omega arith))
pad_bits (suc w) bs d at = refl

pad_unpadded : (A : Ty) → unpadded A ≡ true → Pads (plain_shape (width A)) A
unfolding spelled
pad_unpadded A e bs bits cells rest q d at = pad_bits (width A) bs d at ∙ elim (dec_lt (length bs) (width A)) [
  | yes l ↦
      let f : none ≡ spelling bits cells rest = sym (ap (spelled A) (plain_short A e bs l)) ∙ q in
      let z : ◌≡◌ {A = ℕ} 0 1 = cc in
      absurd (omega arith)
  | no l ↦
      let f : plain_spelling (width A) bs ≡ spelling bits cells rest = sym (plain_reads A e bs (omega arith)) ∙ q in
      let c : tags_of (take (width A) bs) ≡ cells = cc in
      pad_enough (width A) bs d at (omega arith) ∙ ap (sets d at) c
]

pad_either : (A : Ty) (S : Shape) → Pads S A → Pads (shape_where (unpadded A) (width A) S) A
pad_either A S h = go (unpadded A) refl
  where
    go : (u : Bool) → unpadded A ≡ u → Pads (shape_where u (width A) S) A
    go true e = pad_unpadded A e
    go false e = h

-- a tag with its padding, and then the part
tag_then : (d : List Bit) (at b pad : ℕ) (cells : List Bit) → sets (sets d at (b ∷ zeros pad)) (at + (1 + pad)) cells ≡ sets d at (b ∷ (zeros pad ++ cells))
tag_then d at b pad cells =
    ap (λ (k : ℕ). sets (sets d at (b ∷ zeros pad)) k cells)
    (let z : at + (1 + pad) ≡ at + length (b ∷ zeros pad) = omega (arith, length-replicate {A = ℕ} pad 0) in z)
    ∙ sets-append d at (b ∷ zeros pad) cells

module _ (A B : Ty) where
  pad_left : (bs bits cells rest : List Bit) → Pads (shape_of A) A → spelled (sum A B) (read_value (sum A B) (0 ∷ bs)) ≡ spelling bits cells rest
      → (d : List Bit) (at : ℕ) → pad_shape (tag (pad_l A B) (pad_r A B) (shape_of A) (shape_of B)) (0 ∷ bs) d at ≡ sets d at cells
  unfolding pad_shape read_value and_then spelled padded left_of right_of
  pad_left bs bits cells rest h e d at = go (read_value A bs) refl e
    where
      go : (r : Read) → read_value A bs ≡ r → spelled (sum A B) (and_then r λ v rest. value (inl v) rest) ≡ spelling bits cells rest
          → pad_shape (shape_of A) bs (sets d at (0 ∷ zeros (pad_l A B))) (at + (1 + pad_l A B)) ≡ sets d at cells
      go (value v m) q e =
          let c : 0 ∷ (zeros (pad_l A B) ++ padded A v) ≡ cells = cc in
          h bs (compact v) (padded A v) m (ap (spelled A) q) (sets d at (0 ∷ zeros (pad_l A B))) (at + (1 + pad_l A B))
          ∙ tag_then d at 0 (pad_l A B) (padded A v)
          ∙ ap (sets d at) c
      go short q e = let z : ◌≡◌ {A = ℕ} 0 1 = cc in absurd (omega arith)

  pad_right : (b : ℕ) (bs bits cells rest : List Bit) → Pads (shape_of B) B → spelled (sum A B) (read_value (sum A B) (suc b ∷ bs)) ≡ spelling bits cells rest
      → (d : List Bit) (at : ℕ) → pad_shape (tag (pad_l A B) (pad_r A B) (shape_of A) (shape_of B)) (suc b ∷ bs) d at ≡ sets d at cells
  unfolding pad_shape read_value and_then spelled padded left_of right_of
  pad_right b bs bits cells rest h e d at = go (read_value B bs) refl e
    where
      go : (r : Read) → read_value B bs ≡ r → spelled (sum A B) (and_then r λ v rest. value (inr v) rest) ≡ spelling bits cells rest
          → pad_shape (shape_of B) bs (sets d at (1 ∷ zeros (pad_r A B))) (at + (1 + pad_r A B)) ≡ sets d at cells
      go (value v m) q e =
          let c : 1 ∷ (zeros (pad_r A B) ++ padded B v) ≡ cells = cc in
          h bs (compact v) (padded B v) m (ap (spelled B) q) (sets d at (1 ∷ zeros (pad_r A B))) (at + (1 + pad_r A B))
          ∙ tag_then d at 1 (pad_r A B) (padded B v)
          ∙ ap (sets d at) c
      go short q e = let z : ◌≡◌ {A = ℕ} 0 1 = cc in absurd (omega arith)

  pad_sum : Pads (shape_of A) A → Pads (shape_of B) B → Pads (tag (pad_l A B) (pad_r A B) (shape_of A) (shape_of B)) (sum A B)
  unfolding read_value spelled
  pad_sum h k [] bits cells rest e d at = let z : ◌≡◌ {A = ℕ} 0 1 = cc in absurd (omega arith)
  pad_sum h k (zero ∷ bs) bits cells rest e d at = pad_left bs bits cells rest h e d at
  pad_sum h k (suc b ∷ bs) bits cells rest e d at = pad_right b bs bits cells rest k e d at

  pad_pair : Pads (shape_of A) A → Pads (shape_of B) B → Pads (both (width A) (shape_of A) (shape_of B)) (prod A B)
  unfolding read_value and_then spelled padded left_of right_of
  pad_pair h k bs bits cells rest e d at = first (read_value A bs) refl e
    where
      second : (v : Val) (m : List Bit) → read_value A bs ≡ value v m → (r : Read) → read_value B m ≡ r
          → spelled (prod A B) (and_then r λ w rest. value (v & w) rest) ≡ spelling bits cells rest
          → pad_shape (both (width A) (shape_of A) (shape_of B)) bs d at ≡ sets d at cells
      second v m p (value w u) q e =
          let f = read_fit A bs v m p in
          let c : padded A v ++ padded B w ≡ cells = cc in
          pad_used (width A) (shape_of A) (shape_of B) bs d at (length (compact v)) (skip_reads A bs ∙ ap (λ (r : Read). taken (spelled A r)) p)
          ∙ ap (λ (x : List Bit). pad_shape (shape_of B) x (pad_shape (shape_of A) bs d at) (at + width A)) (sym f.after)
          ∙ k m (compact w) (padded B w) u (ap (spelled B) q) (pad_shape (shape_of A) bs d at) (at + width A)
          ∙ ap₂ (λ (x : List Bit) (j : ℕ). sets x (at + j) (padded B w)) (h bs (compact v) (padded A v) m (ap (spelled A) p) d at) (sym f.wide)
          ∙ sets-append d at (padded A v) (padded B w)
          ∙ ap (sets d at) c
      second v m p short q e = let z : ◌≡◌ {A = ℕ} 0 1 = cc in absurd (omega arith)

      first : (r : Read) → read_value A bs ≡ r
          → spelled (prod A B) (and_then r λ v bs. and_then (read_value B bs) λ w rest. value (v & w) rest) ≡ spelling bits cells rest
          → pad_shape (both (width A) (shape_of A) (shape_of B)) bs d at ≡ sets d at cells
      first (value v m) p e = second v m p (read_value B m) refl e
      first short p e = let z : ◌≡◌ {A = ℕ} 0 1 = cc in absurd (omega arith)

  pad_product : Pads (shape_of A) A → Pads (shape_of B) B
      → Pads (pass_over (width A) (width B) (shape_of A) (shape_of B) (both (width A) (shape_of A) (shape_of B))) (prod A B)
  pad_product h k = pass (width A) (width B) refl refl
    where
      pass : (a b : ℕ) → width A ≡ a → width B ≡ b → Pads (pass_over a b (shape_of A) (shape_of B) (both (width A) (shape_of A) (shape_of B))) (prod A B)
      pass zero b e f = λ bs bits cells rest q d at. k bs bits cells rest ((left_nothing A B e).reads bs ∙ q) d at
      pass (suc a) zero e f = λ bs bits cells rest q d at. h bs bits cells rest ((right_nothing A B f).reads bs ∙ q) d at
      pass (suc a) (suc b) e f = pad_pair h k

pad_unit : Pads nothing one
unfolding pad_shape read_value spelled padded compact
pad_unit bs bits cells rest e d at = let c : [] ≡ cells = cc in ap (sets d at) c

pub pad_writes : (A : Ty) → Pads (shape_of A) A
unfolding shape_of
pad_writes one = pad_unit
pad_writes (sum A B) =
    pad_either (sum A B) (tag (pad_l A B) (pad_r A B) (shape_of A) (shape_of B)) (pad_sum A B (pad_writes A) (pad_writes B))
pad_writes (prod A B) =
    pad_either (prod A B) (pass_over (width A) (width B) (shape_of A) (shape_of B) (both (width A) (shape_of A) (shape_of B)))
    (pad_product A B (pad_writes A) (pad_writes B))

-- unpadding along a type writes the compact bits of the value that the cells hold
abbrev Unpads : Shape → Ty → Type 0
Unpads S A = (c : Cells) (at : ℕ) → unpad_shape S c at ≡ compact (value_at A c at)

unpad_bits : (w : ℕ) (c : Cells) (at : ℕ) → unpad_shape (plain_shape w) c at ≡ tabulate_from at w (λ k. tag_of (c k))
unfolding unpad_shape tabulate_from
unpad_bits zero c at = refl
unpad_bits (suc w) c at = refl

unpad_either : (A : Ty) (S : Shape) → Unpads S A → Unpads (shape_where (unpadded A) (width A) S) A
unpad_either A S h = go (unpadded A) refl
  where
    go : (u : Bool) → unpadded A ≡ u → Unpads (shape_where u (width A) S) A
    go true e = λ c at. unpad_bits (width A) c at ∙ plain_holds A e c at
    go false e = h

module _ (A B : Ty) where
  unpad_sum : Unpads (shape_of A) A → Unpads (shape_of B) B → Unpads (tag (pad_l A B) (pad_r A B) (shape_of A) (shape_of B)) (sum A B)
  unfolding unpad_shape value_at compact
  unpad_sum h k c at = go (c at)
    where
      go : (b : ℕ) → ◌≡◌ {A = List Bit} (elim b [
        | zero ↦ 0 ∷ unpad_shape (shape_of A) c (at + (1 + pad_l A B))
        | suc j ↦ 1 ∷ unpad_shape (shape_of B) c (at + (1 + pad_r A B))
      ]) (compact (elim b [ zero ↦ inl (value_at A c (at + (1 + pad_l A B))) | suc j ↦ inr (value_at B c (at + (1 + pad_r A B))) ]))
      go zero = ap (λ (x : List Bit). 0 ∷ x) (h c (at + (1 + pad_l A B)))
      go (suc j) = ap (λ (x : List Bit). 1 ∷ x) (k c (at + (1 + pad_r A B)))

  unpad_product : Unpads (shape_of A) A → Unpads (shape_of B) B
      → Unpads (pass_over (width A) (width B) (shape_of A) (shape_of B) (both (width A) (shape_of A) (shape_of B))) (prod A B)
  unfolding unpad_shape value_at compact
  unpad_product h k = pass (width A) (width B) refl refl
    where
      pass : (a b : ℕ) → width A ≡ a → width B ≡ b → Unpads (pass_over a b (shape_of A) (shape_of B) (both (width A) (shape_of A) (shape_of B))) (prod A B)
      pass zero b e f = λ c at. k c at ∙ (left_nothing A B e).cells c at
      pass (suc a) zero e f = λ c at. h c at ∙ (right_nothing A B f).cells c at
      pass (suc a) (suc b) e f = λ c at. ap₂ (λ (x y : List Bit). x ++ y) (h c at) (k c (at + width A))

pub unpad_writes : (A : Ty) → Unpads (shape_of A) A
unfolding shape_of unpad_shape value_at compact
unpad_writes one = λ c at. refl
unpad_writes (sum A B) =
    unpad_either (sum A B) (tag (pad_l A B) (pad_r A B) (shape_of A) (shape_of B)) (unpad_sum A B (unpad_writes A) (unpad_writes B))
unpad_writes (prod A B) =
    unpad_either (prod A B) (pass_over (width A) (width B) (shape_of A) (shape_of B) (both (width A) (shape_of A) (shape_of B)))
    (unpad_product A B (unpad_writes A) (unpad_writes B))
