-- Values of a type without padding: such a value is read wherever there are as many bits as the type is wide, those bits are its compact bits
-- and its padded cells, and the compact bits of the value that cells hold are the cells.
use mathlib.Core.Path.{◌≡◌, refl, ap, ap₂, sym, ◌∙◌}
use mathlib.Core.Bool.{true}
use mathlib.Core.List.{List, [], ◌∷◌, ◌++◌}
use Prim.Native.Nat.{ℕ, zero, suc, ◌+◌, ◌≤◌, ◌<◌, max}
use native.Mathlib.Decide.{dec_lt}
use native.Mathlib.Omega.{arith}
use lib.Dec.{eqb}
use lib.ListN.{length, take, drop, length-drop}
use lib.Seq.{take-add, drop-drop}
use borrow.Author.Tests.{eqb-true}
use Rattle.report.specs.Bits.{Bit}
use Rattle.report.specs.Types.{Ty, one, sum, prod, width, pad_l, pad_r, left_of, right_of}
use Rattle.report.specs.Values.{Val, inl, inr, ◌&◌, compact, padded, Read, value, short, and_then, read_value, Cells, value_at}
use Rattle.scope.specs.Numbers.{zeros, tabulate_from}
use Rattle.types.proofs.Core.{Spelling, spelling, spelled}
use Rattle.common.specs.Checks.{every_all}
use Rattle.types.specs.Records.{unpadded}
use Rattle.value.specs.Bits.{tag_of, tags_of}
use Rattle.common.specs.Tables.{append_from}
use Rattle.value.proofs.Plain.{tags_append}

-- the parts of a sum, and of a product, without padding
sum_parts : (A B : Ty) → unpadded (sum A B) ≡ true → (unpadded A ≡ true) × (unpadded B ≡ true) × (width A ≡ width B)
unfolding unpadded
sum_parts A B e =
    let x = every_all (unpadded A ∷ unpadded B ∷ eqb (width A) (width B) ∷ []) e in
    (x.0, x.1.0, eqb-true (width A) (width B) x.1.1.0)

product_parts : (A B : Ty) → unpadded (prod A B) ≡ true → (unpadded A ≡ true) × (unpadded B ≡ true)
unfolding unpadded
product_parts A B e =
    let x = every_all (unpadded A ∷ unpadded B ∷ []) e in
    (x.0, x.1.0)

-- the first n bits as a value: compact bits and padded cells are the same
abbrev pub plain_spelling : (n : ℕ) → List Bit → Spelling
plain_spelling n bs = spelling (tags_of (take n bs)) (tags_of (take n bs)) (drop n bs)

abbrev Reads : Ty → Type 0
Reads A = (bs : List Bit) → width A ≤ length bs → spelled A (read_value A bs) ≡ plain_spelling (width A) bs

no_padding : (A B : Ty) → width A ≡ width B → (pad_l A B ≡ 0) × (pad_r A B ≡ 0)
unfolding pad_l pad_r
no_padding A B w = (omega arith, omega arith)

module _ (A B : Ty) where
  reads_left : width A ≡ width B → Reads A → (bs : List Bit) → width A ≤ length bs
      → spelled (sum A B) (read_value (sum A B) (0 ∷ bs)) ≡ plain_spelling (suc (width A)) (0 ∷ bs)
  unfolding read_value and_then spelled compact padded left_of right_of tags_of
  reads_left w h bs l = go (read_value A bs) (h bs l)
    where
      go : (r : Read) → spelled A r ≡ plain_spelling (width A) bs
          → spelled (sum A B) (and_then r λ v rest. value (inl v) rest) ≡ plain_spelling (suc (width A)) (0 ∷ bs)
      go (value v rest) e =
          let x : compact v ≡ tags_of (take (width A) bs) = cc in
          let y : padded A v ≡ tags_of (take (width A) bs) = cc in
          let z : rest ≡ drop (width A) bs = cc in
          ap (λ (k : ℕ). spelling (0 ∷ compact v) (0 ∷ (zeros k ++ padded A v)) rest) (no_padding A B w).0
          ∙ (λ k. spelling (0 ∷ x k) (0 ∷ y k) (z k))
      go short e = let z : ◌≡◌ {A = ℕ} 0 1 = cc in absurd (omega arith)

  reads_right : width A ≡ width B → Reads B → (b : ℕ) (bs : List Bit) → width B ≤ length bs
      → spelled (sum A B) (read_value (sum A B) (suc b ∷ bs)) ≡ plain_spelling (suc (width B)) (suc b ∷ bs)
  unfolding read_value and_then spelled compact padded left_of right_of tags_of
  reads_right w h b bs l = go (read_value B bs) (h bs l)
    where
      go : (r : Read) → spelled B r ≡ plain_spelling (width B) bs
          → spelled (sum A B) (and_then r λ v rest. value (inr v) rest) ≡ plain_spelling (suc (width B)) (suc b ∷ bs)
      go (value v rest) e =
          let x : compact v ≡ tags_of (take (width B) bs) = cc in
          let y : padded B v ≡ tags_of (take (width B) bs) = cc in
          let z : rest ≡ drop (width B) bs = cc in
          ap (λ (k : ℕ). spelling (1 ∷ compact v) (1 ∷ (zeros k ++ padded B v)) rest) (no_padding A B w).1
          ∙ (λ k. spelling (1 ∷ x k) (1 ∷ y k) (z k))
      go short e = let z : ◌≡◌ {A = ℕ} 0 1 = cc in absurd (omega arith)

  reads_sum : width A ≡ width B → Reads A → Reads B → Reads (sum A B)
  unfolding width
  reads_sum w h k [] l = absurd (omega arith)
  reads_sum w h k (zero ∷ bs) l =
      reads_left w h bs (omega arith) ∙ ap (λ (n : ℕ). plain_spelling n (0 ∷ bs)) (let z : suc (width A) ≡ 1 + max (width A) (width B) = omega arith in z)
  reads_sum w h k (suc b ∷ bs) l =
      reads_right w k b bs (omega arith) ∙ ap (λ (n : ℕ). plain_spelling n (suc b ∷ bs)) (let z : suc (width B) ≡ 1 + max (width A) (width B) = omega arith in z)

  -- the bits of a product are those of its left part, and then those of its right part
  both_spelled : (bs : List Bit) → spelling (tags_of (take (width A) bs) ++ tags_of (take (width B) (drop (width A) bs)))
      (tags_of (take (width A) bs) ++ tags_of (take (width B) (drop (width A) bs))) (drop (width B) (drop (width A) bs)) ≡ plain_spelling (width A + width B) bs
  both_spelled bs =
      let x : tags_of (take (width A) bs) ++ tags_of (take (width B) (drop (width A) bs)) ≡ tags_of (take (width A + width B) bs) =
      sym (ap tags_of (take-add (width A) (width B) bs) ∙ tags_append (take (width A) bs) (take (width B) (drop (width A) bs))) in
      let y = drop-drop (width B) (width A) bs in
      λ k. spelling (x k) (x k) (y k)

  reads_product : Reads A → Reads B → Reads (prod A B)
  unfolding read_value and_then spelled compact padded left_of right_of width
  reads_product h k bs l = first (read_value A bs) (h bs (omega arith))
    where
      second : (v : Val) → compact v ≡ tags_of (take (width A) bs) → padded A v ≡ tags_of (take (width A) bs) → (r : Read)
          → spelled B r ≡ plain_spelling (width B) (drop (width A) bs)
          → spelled (prod A B) (and_then r λ w rest. value (v & w) rest) ≡ plain_spelling (width A + width B) bs
      second v x y (value w rest) e =
          let p : compact w ≡ tags_of (take (width B) (drop (width A) bs)) = cc in
          let q : padded B w ≡ tags_of (take (width B) (drop (width A) bs)) = cc in
          let z : rest ≡ drop (width B) (drop (width A) bs) = cc in
          (λ k. spelling (x k ++ p k) (y k ++ q k) (z k)) ∙ both_spelled bs
      second v x y short e = let z : ◌≡◌ {A = ℕ} 0 1 = cc in absurd (omega arith)

      first : (r : Read) → spelled A r ≡ plain_spelling (width A) bs
          → spelled (prod A B) (and_then r λ v bs. and_then (read_value B bs) λ w rest. value (v & w) rest) ≡ plain_spelling (width A + width B) bs
      first (value v m) e =
          let x : compact v ≡ tags_of (take (width A) bs) = cc in
          let y : padded A v ≡ tags_of (take (width A) bs) = cc in
          let z : m ≡ drop (width A) bs = cc in
          second v x y (read_value B m) (ap (λ (d : List Bit). spelled B (read_value B d)) z ∙ k (drop (width A) bs) (omega (arith, length-drop (width A) bs)))
      first short e = let z : ◌≡◌ {A = ℕ} 0 1 = cc in absurd (omega arith)

pub plain_reads : (A : Ty) → unpadded A ≡ true → Reads A
unfolding read_value spelled compact padded width tags_of
plain_reads one e bs l = refl
plain_reads (sum A B) e bs l = let p = sum_parts A B e in reads_sum A B p.2 (plain_reads A p.0) (plain_reads B p.1) bs l
plain_reads (prod A B) e bs l = let p = product_parts A B e in reads_product A B (plain_reads A p.0) (plain_reads B p.1) bs l

-- where there are fewer bits, none is read
abbrev Short : Ty → Type 0
Short A = (bs : List Bit) → length bs < width A → read_value A bs ≡ short

module _ (A B : Ty) where
  short_sum : width A ≡ width B → Short A → Short B → Short (sum A B)
  unfolding read_value and_then width
  short_sum w h k [] l = refl
  short_sum w h k (zero ∷ bs) l = ap (λ (r : Read). and_then r λ v rest. value (inl v) rest) (h bs (omega arith))
  short_sum w h k (suc b ∷ bs) l = ap (λ (r : Read). and_then r λ v rest. value (inr v) rest) (k bs (omega arith))

  short_product : Reads A → Short A → Short B → Short (prod A B)
  unfolding read_value and_then width spelled
  short_product r h k bs l = elim (dec_lt (length bs) (width A)) [
    | yes m ↦ ap (λ (r : Read). and_then r λ v bs. and_then (read_value B bs) λ w rest. value (v & w) rest) (h bs m)
    | no m ↦ go (read_value A bs) (r bs (omega arith)) (let z : width A ≤ length bs = omega arith in z)
  ]
    where
      go : (r : Read) → spelled A r ≡ plain_spelling (width A) bs → width A ≤ length bs
          → and_then r (λ v bs. and_then (read_value B bs) λ w rest. value (v & w) rest) ≡ short
      go (value v m) e n =
          let z : m ≡ drop (width A) bs = cc in
          ap (λ (d : List Bit). and_then (read_value B d) λ w rest. value (v & w) rest) z
          ∙ ap (λ (r : Read). and_then r λ w rest. value (v & w) rest) (k (drop (width A) bs) (omega (arith, length-drop (width A) bs)))
      go short e n = refl

pub plain_short : (A : Ty) → unpadded A ≡ true → Short A
unfolding width
plain_short one e bs l = absurd (omega arith)
plain_short (sum A B) e bs l = let p = sum_parts A B e in short_sum A B p.2 (plain_short A p.0) (plain_short B p.1) bs l
plain_short (prod A B) e bs l =
    let p = product_parts A B e in
    short_product A B (plain_reads A p.0) (plain_short A p.0) (plain_short B p.1) bs l

-- the compact bits of the value that cells hold are the cells
abbrev Holds : Ty → Type 0
Holds A = (c : Cells) (at : ℕ) → tabulate_from at (width A) (λ k. tag_of (c k)) ≡ compact (value_at A c at)

module _ (A B : Ty) where
  holds_sum : width A ≡ width B → Holds A → Holds B → Holds (sum A B)
  unfolding value_at compact width tabulate_from
  holds_sum w h k c at =
      ap (λ (n : ℕ). tabulate_from at n (λ k. tag_of (c k))) (let z : 1 + max (width A) (width B) ≡ suc (width A) = omega arith in z) ∙ go (c at)
    where
      left : suc at ≡ at + (1 + pad_l A B)
      left = let p = (no_padding A B w).0 in omega arith

      right : suc at ≡ at + (1 + pad_r A B)
      right = let p = (no_padding A B w).1 in omega arith

      go : (b : ℕ) → tag_of b ∷ tabulate_from (suc at) (width A) (λ k. tag_of (c k))
          ≡ compact (elim b [ zero ↦ inl (value_at A c (at + (1 + pad_l A B))) | suc j ↦ inr (value_at B c (at + (1 + pad_r A B))) ])
      go zero = ap (λ (l : List Bit). 0 ∷ l) (h c (suc at) ∙ ap (λ (n : ℕ). compact (value_at A c n)) left)
      go (suc b) =
          ap (λ (l : List Bit). 1 ∷ l)
          (ap (λ (n : ℕ). tabulate_from (suc at) n (λ k. tag_of (c k))) w ∙ k c (suc at) ∙ ap (λ (n : ℕ). compact (value_at B c n)) right)

  holds_product : Holds A → Holds B → Holds (prod A B)
  unfolding value_at compact width
  holds_product h k c at =
      append_from (λ k. tag_of (c k)) at (width A) (width B) ∙ ap₂ (λ (x y : List Bit). x ++ y) (h c at) (k c (at + width A))

pub plain_holds : (A : Ty) → unpadded A ≡ true → Holds A
unfolding value_at compact width tabulate_from
plain_holds one e c at = refl
plain_holds (sum A B) e c at = let p = sum_parts A B e in holds_sum A B p.2 (plain_holds A p.0) (plain_holds B p.1) c at
plain_holds (prod A B) e c at = let p = product_parts A B e in holds_product A B (plain_holds A p.0) (plain_holds B p.1) c at
