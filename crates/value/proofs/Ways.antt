-- Skipping, padding and unpadding along a shape: one law for each way through the code, over the step that it took.
use mathlib.Core.Path.{◌≡◌, refl, ap, ap₂, sym, ◌∙◌}
use mathlib.Core.Bool.{true, false}
use mathlib.Core.List.{List, [], ◌∷◌, ◌++◌}
use Prim.Native.Nat.{ℕ, zero, suc, ◌+◌, ◌-◌, ◌%◌, ◌≤◌, ◌<◌, max}
use native.Mathlib.Omega.{arith}
use Rattle.std.specs.Prelude.{Option, Some, None}
use lib.Dec.{leb}
use lib.ListN.{length, get_or, set, drop, length-append}
use lib.Seq.{sets, drop-drop}
use borrow.Author.Tests.{leb-true, le-leb, lt-leb}
use Rattle.limits.specs.Limits.{cell_count}
use Rattle.common.specs.Bits.{length_bits}
use Rattle.common.specs.Cells.{bits_from}
use Rattle.bititer.proofs.Streams.{bit_got, bit_ended}
use Rattle.report.specs.Bits.{Bit, bits_of}
use Rattle.report.specs.Values.{Cells}
use Rattle.scope.specs.Numbers.{zeros}
use Rattle.scope.specs.Run.{cells_of}
use Rattle.common.specs.Checks.{every_all, every_failed}
use Rattle.types.proofs.Records.{every_both}
use Rattle.value.specs.Bits.{Used, used, short, after, tag_of, skip_shape, pad_shape, unpad_shape, skipped, room, padding, pad_stage, unpadding, unpad_stage}
use Rattle.value.specs.Shapes.{Shape, nothing, plain, tag, both, part, step_at, shape_at}
use Rattle.value.specs.declared.Step.{Step}
use Rattle.value.specs.declared.Step.TheVariants.{Nothing, Plain, Tag, Both}
use Rattle.common.specs.Tables.{length_from}
use Rattle.value.proofs.Plain.{cells_plain}
use Rattle.value.proofs.Steps.{plain_told, tag_told, both_told, part_falls, part_wide, shape_nothing, shape_plain, shape_tag, shape_both}

skipped-after : (p n k : ℕ) (x : Used) → n ≡ p + k → skipped n x ≡ skipped p (after k x)
skipped-after p n k (used m) e = ap Some (let z : n + m ≡ p + (k + m) = omega arith in z)
skipped-after p n k short e = refl

-- what the answer of a part tells
skipped_next : (p m : ℕ) (x : Used) → Some m ≡ skipped p x → x ≡ used (m - p) × (p ≤ m)
skipped_next p m (used k) e = let z : m ≡ p + k = cc in (ap used (let y : k ≡ m - p = omega arith in y), omega arith)
skipped_next p m short e = let z : ◌≡◌ {A = ℕ} 0 1 = cc in absurd (omega arith)

skipped-short : (p : ℕ) (x : Used) → None ≡ skipped p x → x ≡ short
skipped-short p (used k) e = let z : ◌≡◌ {A = ℕ} 0 1 = cc in absurd (omega arith)
skipped-short p short e = refl

-- both parts, by what the left one takes
module _ (w : ℕ) (A B : Shape) (bs : List Bit) where
  pub both-short : skip_shape A bs ≡ short → skip_shape (both w A B) bs ≡ short
  unfolding skip_shape
  both-short e = rw (e, skip_shape)

  pub both_used : (k : ℕ) → skip_shape A bs ≡ used k → skip_shape (both w A B) bs ≡ after k (skip_shape B (drop k bs))
  unfolding skip_shape
  both_used k e = rw (e, skip_shape)

  pub pad_short : (d : List Bit) (at : ℕ) → skip_shape A bs ≡ short → pad_shape (both w A B) bs d at ≡ pad_shape A bs d at
  unfolding pad_shape
  pad_short d at e = rw (e, pad_shape)

  pub pad_used : (d : List Bit) (at k : ℕ) → skip_shape A bs ≡ used k → pad_shape (both w A B) bs d at ≡ pad_shape B (drop k bs) (pad_shape A bs d at) (at + w)
  unfolding pad_shape
  pad_used d at k e = rw (e, pad_shape)

-- the rest of a stream after a part that goes from p to m
rest_from : (p m : ℕ) (bits : List Bit) → p ≤ m → drop (m - p) (drop p bits) ≡ drop m bits
rest_from p m bits h = drop-drop (m - p) p bits ∙ ap (λ (k : ℕ). drop k bits) (let z : p + (m - p) ≡ m = omega arith in z)

module _ (types widths next : List ℕ) (i : ℕ) where
  abbrev Sh : ℕ → Shape
  Sh j = shape_at types widths next j

  -- nothing takes no bits
  pub skip_nothing : (p : ℕ) (bs : List Bit) → step_at types widths next i ≡ Nothing → Some p ≡ skipped p (skip_shape (Sh i) bs)
  unfolding skip_shape
  skip_nothing p bs e =
      ap Some (let z : p ≡ p + 0 = omega arith in z) ∙ ap (λ (A : Shape). skipped p (skip_shape A bs)) (sym (shape_nothing types widths next i e))

  module _ (l r pad_left pad_right : ℕ) (e : step_at types widths next i ≡ Tag l r pad_left pad_right) where
    pub skip_ended : (p : ℕ) (bs : List Bit) → bs ≡ [] → None ≡ skipped p (skip_shape (Sh i) bs)
    unfolding skip_shape
    skip_ended p bs d =
        ap₂ (λ (A : Shape) (x : List Bit). skipped p (skip_shape A x)) (sym (shape_tag types widths next i l r pad_left pad_right e)) (sym d)

    side_skips : (side : ℕ) (bs : List Bit) → after 1 (skip_shape (Sh (part side l r)) bs) ≡ skip_shape (tag pad_left pad_right (Sh l) (Sh r)) (side ∷ bs)
    unfolding skip_shape
    side_skips zero bs = refl
    side_skips (suc b) bs = refl

    -- a tag, and then the part that it names
    pub skip_tag : (side k p n : ℕ) (bits : List Bit) → k ≡ part side l r → n ≡ p + 1 → drop p bits ≡ side ∷ drop n bits
        → skipped n (skip_shape (Sh k) (drop n bits)) ≡ skipped p (skip_shape (Sh i) (drop p bits))
    skip_tag side k p n bits u m d =
        ap (λ (j : ℕ). skipped n (skip_shape (Sh j) (drop n bits))) u
        ∙ skipped-after p n 1 (skip_shape (Sh (part side l r)) (drop n bits)) m
        ∙ ap (skipped p) (side_skips side (drop n bits))
        ∙ ap₂ (λ (A : Shape) (x : List Bit). skipped p (skip_shape A x)) (sym (shape_tag types widths next i l r pad_left pad_right e)) (sym d)

  module _ (l r w : ℕ) (e : step_at types widths next i ≡ Both l r w) where
    pub skip_cut : (p : ℕ) (bs : List Bit) → None ≡ skipped p (skip_shape (Sh l) bs) → None ≡ skipped p (skip_shape (Sh i) bs)
    skip_cut p bs d =
        ap (skipped p) (sym (both-short w (Sh l) (Sh r) bs (skipped-short p (skip_shape (Sh l) bs) d)))
        ∙ ap (λ (A : Shape). skipped p (skip_shape A bs)) (sym (shape_both types widths next i l r w e))

    -- the left part up to m, and then the right part
    pub skip_both : (p m : ℕ) (bits : List Bit) → Some m ≡ skipped p (skip_shape (Sh l) (drop p bits))
        → skipped m (skip_shape (Sh r) (drop m bits)) ≡ skipped p (skip_shape (Sh i) (drop p bits))
    skip_both p m bits d =
        let x = skipped_next p m (skip_shape (Sh l) (drop p bits)) d in
        skipped-after p m (m - p) (skip_shape (Sh r) (drop m bits)) (omega arith)
        ∙ ap (λ (b : List Bit). skipped p (after (m - p) (skip_shape (Sh r) b))) (sym (rest_from p m bits x.1))
        ∙ ap (skipped p) (sym (both_used w (Sh l) (Sh r) (drop p bits) (m - p) x.0))
        ∙ ap (λ (A : Shape). skipped p (skip_shape A (drop p bits))) (sym (shape_both types widths next i l r w e))

  pub skip_along : (w p : ℕ) (r : Option ℕ) (bs : List Bit) → step_at types widths next i ≡ Plain w → r ≡ skipped p (skip_shape (plain w) bs)
      → r ≡ skipped p (skip_shape (Sh i) bs)
  skip_along w p r bs e f = f ∙ ap (λ (A : Shape). skipped p (skip_shape A bs)) (sym (shape_plain types widths next i w e))

  -- padding, along the same ways
  pub pad_along : (w at : ℕ) (bs d d₁ : List Bit) → step_at types widths next i ≡ Plain w → d₁ ≡ pad_shape (plain w) bs d at → d₁ ≡ pad_shape (Sh i) bs d at
  pad_along w at bs d d₁ e f = f ∙ ap (λ (A : Shape). pad_shape A bs d at) (sym (shape_plain types widths next i w e))

  pub pad_nothing : (bs d : List Bit) (at : ℕ) → step_at types widths next i ≡ Nothing → d ≡ pad_shape (Sh i) bs d at
  unfolding pad_shape
  pad_nothing bs d at e = ap (λ (A : Shape). pad_shape A bs d at) (sym (shape_nothing types widths next i e))

  module _ (l r pad_left pad_right : ℕ) (e : step_at types widths next i ≡ Tag l r pad_left pad_right) where
    pub pad_ended : (bs d : List Bit) (at : ℕ) → bs ≡ [] → d ≡ pad_shape (Sh i) bs d at
    unfolding pad_shape
    pad_ended bs d at f =
        ap₂ (λ (A : Shape) (x : List Bit). pad_shape A x d at) (sym (shape_tag types widths next i l r pad_left pad_right e)) (sym f)

    side_pads : (side : ℕ) (bs d : List Bit) (at : ℕ) → side < 2
        → pad_shape (Sh (part side l r)) bs (sets d at (side % 2 ∷ zeros (part side pad_left pad_right))) (at + (1 + part side pad_left pad_right))
        ≡ pad_shape (tag pad_left pad_right (Sh l) (Sh r)) (side ∷ bs) d at
    unfolding pad_shape
    side_pads zero bs d at h = refl
    side_pads (suc zero) bs d at h = refl
    side_pads (suc (suc b)) bs d at h = absurd (omega arith)

    pub pad_tag : (side k m p n at : ℕ) (bits d d₁ d₂ : List Bit) → side < 2 → k ≡ part side l r → m ≡ part side pad_left pad_right
        → drop p bits ≡ side ∷ drop n bits → d₁ ≡ sets d at (side % 2 ∷ zeros m) → d₂ ≡ pad_shape (Sh k) (drop n bits) d₁ (at + 1 + m)
        → d₂ ≡ pad_shape (Sh i) (drop p bits) d at
    pad_tag side k m p n at bits d d₁ d₂ h u v f g q =
        q
        ∙ ap₂ (λ (A : Shape) (j : ℕ). pad_shape A (drop n bits) d₁ j) (ap Sh u) (let z : at + 1 + m ≡ at + (1 + part side pad_left pad_right) = omega arith in z)
        ∙ ap (λ (x : List Bit). pad_shape (Sh (part side l r)) (drop n bits) x (at + (1 + part side pad_left pad_right)))
        (g ∙ ap (λ (j : ℕ). sets d at (side % 2 ∷ zeros j)) v)
        ∙ side_pads side (drop n bits) d at h
        ∙ ap₂ (λ (A : Shape) (x : List Bit). pad_shape A x d at) (sym (shape_tag types widths next i l r pad_left pad_right e)) (sym f)

  module _ (l r w : ℕ) (e : step_at types widths next i ≡ Both l r w) where
    pub pad_cut : (p at : ℕ) (bs d d₁ : List Bit) → None ≡ skipped p (skip_shape (Sh l) bs) → d₁ ≡ pad_shape (Sh l) bs d at → d₁ ≡ pad_shape (Sh i) bs d at
    pad_cut p at bs d d₁ f q =
        q
        ∙ sym (pad_short w (Sh l) (Sh r) bs d at (skipped-short p (skip_shape (Sh l) bs) f))
        ∙ ap (λ (A : Shape). pad_shape A bs d at) (sym (shape_both types widths next i l r w e))

    pub pad_both : (p m at : ℕ) (bits d d₁ d₂ : List Bit) → Some m ≡ skipped p (skip_shape (Sh l) (drop p bits))
        → d₁ ≡ pad_shape (Sh l) (drop p bits) d at → d₂ ≡ pad_shape (Sh r) (drop m bits) d₁ (at + w) → d₂ ≡ pad_shape (Sh i) (drop p bits) d at
    pad_both p m at bits d d₁ d₂ f q s =
        let x = skipped_next p m (skip_shape (Sh l) (drop p bits)) f in
        s
        ∙ ap₂ (λ (b c : List Bit). pad_shape (Sh r) b c (at + w)) (sym (rest_from p m bits x.1)) q
        ∙ sym (pad_used w (Sh l) (Sh r) (drop p bits) d at (m - p) x.0)
        ∙ ap (λ (A : Shape). pad_shape A (drop p bits) d at) (sym (shape_both types widths next i l r w e))

-- bits put one part after the other
pub sets-append : (d : List Bit) (q : ℕ) (xs ys : List Bit) → sets (sets d q xs) (q + length xs) ys ≡ sets d q (xs ++ ys)
sets-append d q [] ys = ap (λ (k : ℕ). sets d k ys) (let z : q + 0 ≡ q = omega arith in z)
sets-append d q (x ∷ xs) ys =
    ap (λ (k : ℕ). sets (sets d q (x ∷ xs)) k ys) (let z : q + suc (length xs) ≡ suc q + length xs = omega arith in z) ∙ sets-append (set d q x) (suc q) xs ys

-- a value takes no more bits than its type has cells
most : Shape → ℕ
most nothing = 0
most (plain w) = w
most (tag pad_left pad_right A B) = 1 + max (most A) (most B)
most (both w A B) = most A + most B

unpad_most : (A : Shape) (c : Cells) (at : ℕ) → length (unpad_shape A c at) ≤ most A
unfolding unpad_shape most
unpad_most nothing c at = omega arith
unpad_most (plain w) c at = omega (arith, length_from (λ k. tag_of (c k)) at w)
unpad_most (tag pad_left pad_right A B) c at =
    go (c at) (unpad_most A c (at + (1 + pad_left))) (unpad_most B c (at + (1 + pad_right)))
  where
    go : (b : ℕ) → length (unpad_shape A c (at + (1 + pad_left))) ≤ most A → length (unpad_shape B c (at + (1 + pad_right))) ≤ most B
        → length {A = Bit} (elim b [ zero ↦ 0 ∷ unpad_shape A c (at + (1 + pad_left)) | suc k ↦ 1 ∷ unpad_shape B c (at + (1 + pad_right)) ])
        ≤ 1 + max (most A) (most B)
    go zero h k = omega arith
    go (suc b) h k = omega arith
unpad_most (both w A B) c at =
    omega (arith, length-append (unpad_shape A c at) (unpad_shape B c (at + w)), unpad_most A c at, unpad_most B c (at + w))

module _ (types widths next : List ℕ) where
  most_below : (n i : ℕ) → i < n → most (shape_at types widths next i) ≤ get_or widths i 0
  unfolding most
  most_below zero i h = absurd (omega arith)
  most_below (suc n) i h = go (step_at types widths next i) refl (λ j l. most_below n j (omega arith))
    where
      go : (s : Step) → step_at types widths next i ≡ s → ((j : ℕ) → j < i → most (shape_at types widths next j) ≤ get_or widths j 0)
          → most (shape_at types widths next i) ≤ get_or widths i 0
      go Nothing e earlier = rw (shape_nothing types widths next i e) (omega arith)
      go (Plain w) e earlier =
          let t = (plain_told types widths next i w e).width in
          rw (shape_plain types widths next i w e) (omega arith)
      go (Tag l r pad_left pad_right) e earlier =
          let t = tag_told types widths next i l r pad_left pad_right e in
          let x = earlier l t.left_falls in
          let y = earlier r t.right_falls in
          let a = t.left-width in
          let b = t.right_width in
          rw (shape_tag types widths next i l r pad_left pad_right e) (omega arith)
      go (Both l r w) e earlier =
          let t = both_told types widths next i l r w e in
          let x = earlier l t.left_falls in
          let y = earlier r t.right_falls in
          let a = t.left-width in
          let b = t.both_width in
          rw (shape_both types widths next i l r w e) (omega arith)

  pub unpad_fits : (i : ℕ) (c : Cells) (at : ℕ) → length (unpad_shape (shape_at types widths next i) c at) ≤ get_or widths i 0
  unpad_fits i c at = omega (arith, unpad_most (shape_at types widths next i) c at, most_below (suc i) i (omega arith))

module _ (types widths next : List ℕ) (i : ℕ) where
  -- unpadding, along the same ways
  abbrev Bs : (j : ℕ) → Cells → ℕ → List Bit
  Bs j c at = unpad_shape (shape_at types widths next j) c at

  -- the bits of type i, put into a store from q on: the place after them, and the store
  abbrev Put : Cells → (at q r : ℕ) → (d e : List Bit) → Type 0
  Put c at q r d e = (r ≡ q + length (Bs i c at)) × (e ≡ sets d q (Bs i c at))

  put_as : (c : Cells) (at q r : ℕ) (d e bs : List Bit) → bs ≡ Bs i c at → r ≡ q + length bs → e ≡ sets d q bs → Put c at q r d e
  put_as c at q r d e bs f g h = (g ∙ ap (λ (x : List Bit). q + length x) f, h ∙ ap (sets d q) f)

  pub unpad_nothing : (c : Cells) (at q : ℕ) (d : List Bit) → step_at types widths next i ≡ Nothing → Put c at q q d d
  unfolding unpad_shape
  unpad_nothing c at q d e =
      put_as c at q q d d [] (ap (λ (A : Shape). unpad_shape A c at) (sym (shape_nothing types widths next i e))) (let z : q ≡ q + 0 = omega arith in z) refl

  -- all bits of a slice's cells at once
  pub unpad_plain : (w : ℕ) (s : List ℕ) (at q : ℕ) (d d₁ : List Bit) → step_at types widths next i ≡ Plain w
      → d₁ ≡ sets d q (bits_from (bits_of s) at w) → Put (cells_of s) at q (q + w) d d₁
  unfolding unpad_shape
  unpad_plain w s at q d d₁ e f =
      put_as (cells_of s) at q (q + w) d d₁ (bits_from (bits_of s) at w)
      (cells_plain s at w ∙ ap (λ (A : Shape). unpad_shape A (cells_of s) at) (sym (shape_plain types widths next i w e)))
      (ap (λ (k : ℕ). q + k) (sym (ap length (cells_plain s at w) ∙ length_from (λ k. tag_of (cells_of s k)) at w)))
      f

  module _ (l r pad_left pad_right : ℕ) (e : step_at types widths next i ≡ Tag l r pad_left pad_right) where
    side_unpads : (side : ℕ) (c : Cells) (at : ℕ) → side < 2 → c at ≡ side
        → side % 2 ∷ Bs (part side l r) c (at + (1 + part side pad_left pad_right))
        ≡ unpad_shape (tag pad_left pad_right (Sh types widths next i l) (Sh types widths next i r)) c at
    unfolding unpad_shape
    side_unpads zero c at h f = rw (f, unpad_shape)
    side_unpads (suc zero) c at h f = rw (f, unpad_shape)
    side_unpads (suc (suc b)) c at h f = absurd (omega arith)

    pub unpad_tag : (side k m : ℕ) (c : Cells) (at q res : ℕ) (d d₁ d₂ : List Bit) → side < 2 → c at ≡ side → k ≡ part side l r → m ≡ part side pad_left pad_right
        → d₁ ≡ set d q (side % 2) → res ≡ q + 1 + length (Bs k c (at + 1 + m)) → d₂ ≡ sets d₁ (q + 1) (Bs k c (at + 1 + m)) → Put c at q res d d₂
    unpad_tag side k m c at q res d d₁ d₂ h f u v g x y =
        put_as c at q res d d₂ (side % 2 ∷ Bs k c (at + 1 + m))
        (ap₂ (λ (j n : ℕ). side % 2 ∷ Bs j c n) u (let z : at + 1 + m ≡ at + (1 + part side pad_left pad_right) = omega arith in z)
        ∙ side_unpads side c at h f
        ∙ ap (λ (A : Shape). unpad_shape A c at) (sym (shape_tag types widths next i l r pad_left pad_right e)))
        (omega arith)
        (y ∙ ap₂ (λ (x : List Bit) (j : ℕ). sets x j (Bs k c (at + 1 + m))) g (let z : q + 1 ≡ suc q = omega arith in z))

  module _ (l r w : ℕ) (e : step_at types widths next i ≡ Both l r w) where
    pub unpad_both : (c : Cells) (at q mid res : ℕ) (d d₁ d₂ : List Bit) → mid ≡ q + length (Bs l c at) → d₁ ≡ sets d q (Bs l c at)
        → res ≡ mid + length (Bs r c (at + w)) → d₂ ≡ sets d₁ mid (Bs r c (at + w)) → Put c at q res d d₂
    unfolding unpad_shape
    unpad_both c at q mid res d d₁ d₂ f g x y =
        put_as c at q res d d₂ (Bs l c at ++ Bs r c (at + w)) (ap (λ (A : Shape). unpad_shape A c at) (sym (shape_both types widths next i l r w e)))
        (let z = length-append (Bs l c at) (Bs r c (at + w)) in omega arith)
        (y ∙ ap₂ (λ (x : List Bit) (j : ℕ). sets x j (Bs r c (at + w))) g f ∙ sets-append d q (Bs l c at) (Bs r c (at + w)))

-- whether so many cells from a place on lie in a store
pub room_none : (w at : ℕ) (d : List Bit) → w ≡ 0 → true ≡ room w at d
unfolding room
room_none zero at d e = refl
room_none (suc w) at d e = absurd (omega arith)

pub room_inside : (w at : ℕ) (d : List Bit) → (w ≡ 0 → ⊥) → at + w ≤ length d → room w at d ≡ leb (at + w) cell_count
unfolding room
room_inside zero at d n h = absurd (n refl)
room_inside (suc w) at d n h = every_both (leb (at + suc w) (length d)) (leb (at + suc w) cell_count) (le-leb (at + suc w) (length d) h)

pub room_outside : (w at : ℕ) (d : List Bit) → (w ≡ 0 → ⊥) → length d < at + w → room w at d ≡ false
unfolding room
room_outside zero at d n h = absurd (n refl)
room_outside (suc w) at d n h = every_failed (leb (at + suc w) (length d)) (leb (at + suc w) cell_count ∷ []) (lt-leb (at + suc w) (length d) h)

pub room_told : (w at : ℕ) (d : List Bit) → room w at d ≡ true → 0 < w → (at + w ≤ length d) × (at + w ≤ cell_count)
unfolding room
room_told zero at d e h = absurd (omega arith)
room_told (suc w) at d e h =
    let x = every_all (leb (at + suc w) (length d) ∷ leb (at + suc w) cell_count ∷ []) e in
    (leb-true (at + suc w) (length d) x.0, leb-true (at + suc w) cell_count x.1.0)

-- the ends of padding and of unpadding
module _ (A : Shape) (w : ℕ) (bits : List Bit) (p : ℕ) (cells : List Bit) (at : ℕ) where
  pub pad_too_short : None ≡ skipped p (skip_shape A (drop p bits)) → padding None cells ≡ pad_stage A w bits p cells at
  unfolding pad_stage
  pad_too_short e = rw (skipped-short p (skip_shape A (drop p bits)) e, pad_stage)

  pub pad_no_room : (m : ℕ) → Some m ≡ skipped p (skip_shape A (drop p bits)) → false ≡ room w at cells → padding None cells ≡ pad_stage A w bits p cells at
  unfolding pad_stage
  pad_no_room m e f = rw ((skipped_next p m (skip_shape A (drop p bits)) e).0, pad_stage) (rw (sym f))

  pub pad_done : (m : ℕ) (r : Option ℕ) (d : List Bit) → Some m ≡ skipped p (skip_shape A (drop p bits)) → true ≡ room w at cells
      → r ≡ skipped p (skip_shape A (drop p bits)) → d ≡ pad_shape A (drop p bits) cells at → padding r d ≡ pad_stage A w bits p cells at
  unfolding pad_stage
  pad_done m r d e f g h =
      let x = (skipped_next p m (skip_shape A (drop p bits)) e).0 in
      ap₂ padding (g ∙ ap (skipped p) x) h ∙ rw (x, pad_stage) (rw (sym f))

module _ (A : Shape) (w : ℕ) (cells : List Bit) (c : Cells) (at : ℕ) (store : List Bit) (q : ℕ) where
  pub unpad_no_cells : false ≡ room w at cells → unpadding None store ≡ unpad_stage A w cells c at store q
  unfolding unpad_stage
  unpad_no_cells e = rw (every_failed (room w at cells) (room w q store ∷ []) (sym e), unpad_stage)

  pub unpad_no_room : true ≡ room w at cells → false ≡ room w q store → unpadding None store ≡ unpad_stage A w cells c at store q
  unfolding unpad_stage
  unpad_no_room e f = rw (every_both (room w at cells) (room w q store) (sym e) ∙ sym f, unpad_stage)

  pub unpad_done : (end : ℕ) (d : List Bit) → true ≡ room w at cells → true ≡ room w q store → end ≡ q + length (unpad_shape A c at)
      → d ≡ sets store q (unpad_shape A c at)
      → unpadding (Some (end - q)) d ≡ unpad_stage A w cells c at store q
  unfolding unpad_stage
  unpad_done end d e f g h =
      ap₂ (λ (k : ℕ) (x : List Bit). unpadding (Some k) x) (let z : end - q ≡ length (unpad_shape A c at) = omega arith in z) h
      ∙ rw (every_both (room w at cells) (room w q store) (sym e) ∙ sym f, unpad_stage)

-- what the functions that read, pad and unpad along a shape, and that test for room, are proved by
pub ruleset skip_ways = (skip_nothing, skip_along, skip_ended, skip_tag, skip_cut, skip_both, tag_told, both_told, part_falls, bit_ended, bit_got)

pub ruleset pad_ways = (skip_nothing, skip_ended, pad_nothing, pad_ended, plain_told, tag_told, both_told, part_wide, bit_ended)

pub ruleset pad_ends = (pad_too_short, pad_no_room, pad_done, room_told)

pub ruleset room_ways = (room_none, room_inside, room_outside, length_bits)

pub ruleset unpad_ways = (unpad_fits, plain_told, tag_told, both_told, part_wide)

pub ruleset unpad_ends = (unpad_no_cells, unpad_no_room, room_told)
