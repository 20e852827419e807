-- Laws of cells. Bits are written and copied one by one; where the ranges are apart this says just which places hold what, and that all
-- others are as they were. A value depends on its own cells alone, and a value's padded bits, once written, hold the value.
use Rattle.std.specs.Prelude.{◌≡◌, refl, List, [], ◌∷◌, ◌++◌, ℕ, zero, suc, ◌+◌, ◌≤◌, ◌<◌, length, get_or}
use Rattle.std.proofs.Common.{sym, ap, ap₂, ◌∙◌, arith, add_assoc, add-zero, zero-add, not-suc-le-zero}
use Rattle.report.specs.Bits.{Bit}
use Rattle.report.specs.Types.{Ty, one, sum, prod, width, pad_l, pad_r}
use Rattle.report.specs.Values.{Val, inl, inr, ◌&◌, HasTy, Cells, padded, value_at}
use Rattle.scope.specs.Machine.{set_cell, put_bits, copy_cells}
use Rattle.exactness.specs.Values.{Hold, value_held}
use Rattle.common.specs.Cells.{set_cell_other, set_cell_same}
use Rattle.theory.specs.Cells.{In, Apart, Same, Kept}

-- bits written: elsewhere the cells are as they were
pub bits_out : (c : Cells) (at : ℕ) (bs : List Bit) (j : ℕ) → (In at (length bs) j → ⊥) → put_bits c at bs j ≡ c j
unfolding put_bits
bits_out c at [] j out = refl
bits_out c at (b ∷ bs) j out = bits_out (set_cell c at b) (suc at) bs j (λ i. out (omega arith)) ∙ set_cell_other c j at b (λ e. out (omega arith))

-- and the places from `at` on hold them
pub bits_in : (c : Cells) (at : ℕ) (bs : List Bit) (k : ℕ) → k < length bs → put_bits c at bs (at + k) ≡ get_or bs k 0
unfolding put_bits
bits_in c at [] k l = absurd (not-suc-le-zero l)
bits_in c at (b ∷ bs) zero l = rw (add-zero at) (bits_out (set_cell c at b) (suc at) bs at (omega arith) ∙ set_cell_same c at at b refl)
bits_in c at (b ∷ bs) (suc k) l =
    let e : at + suc k ≡ suc at + k = omega arith in
    ap (put_bits (set_cell c at b) (suc at) bs) e ∙ bits_in (set_cell c at b) (suc at) bs k (omega arith)

-- bits written part by part
pub bits_append : (c : Cells) (at : ℕ) (xs ys : List Bit) → put_bits (put_bits c at xs) (at + length xs) ys ≡ put_bits c at (xs ++ ys)
unfolding put_bits
bits_append c at [] ys = ap (λ (i : ℕ). put_bits c i ys) (add-zero at)
bits_append c at (x ∷ xs) ys =
    let e : at + suc (length xs) ≡ suc at + length xs = omega arith in
    ap (λ (i : ℕ). put_bits (put_bits (set_cell c at x) (suc at) xs) i ys) e ∙ bits_append (set_cell c at x) (suc at) xs ys

-- cells copied: elsewhere the cells are as they were
pub copy_out : (c : Cells) (from to n j : ℕ) → (In to n j → ⊥) → copy_cells c from to n j ≡ c j
unfolding copy_cells
copy_out c from to zero j out = refl
copy_out c from to (suc n) j out =
    copy_out (set_cell c to (c from)) (suc from) (suc to) n j (λ i. out (omega arith)) ∙ set_cell_other c j to (c from) (λ e. out (omega arith))

-- and where the ranges are apart, the places from `to` on hold what stood from `from` on
pub copy_in : (c : Cells) (from to n : ℕ) → Apart from n to n → Same (copy_cells c from to n) to c from n
unfolding copy_cells
copy_in c from to zero apart k l = absurd (not-suc-le-zero l)
copy_in c from to (suc n) apart zero l =
    rw (add-zero to, add-zero from) (copy_out (set_cell c to (c from)) (suc from) (suc to) n to (omega arith) ∙ set_cell_same c to to (c from) refl)
copy_in c from to (suc n) apart (suc k) l =
    let d : Cells = set_cell c to (c from) in
    let e : to + suc k ≡ suc to + k = omega arith in
    let f : suc from + k ≡ from + suc k = omega arith in
    ap (copy_cells d (suc from) (suc to) n) e ∙ copy_in d (suc from) (suc to) n (λ j p q. apart j (omega arith) (omega arith)) k (omega arith)
    ∙ set_cell_other c (suc from + k) to (c from) (λ q. apart to (omega arith) (omega arith)) ∙ ap c f

-- cells copied part by part
pub copy_append : (c : Cells) (from to m n : ℕ) → copy_cells (copy_cells c from to m) (from + m) (to + m) n ≡ copy_cells c from to (m + n)
unfolding copy_cells
copy_append c from to zero n = rw (add-zero from, add-zero to, zero-add n)
copy_append c from to (suc m) n =
    let e : from + suc m ≡ suc from + m = omega arith in
    let f : to + suc m ≡ suc to + m = omega arith in
    let g : suc m + n ≡ suc (m + n) = omega arith in
    rw (e, f, g) (copy_append (set_cell c to (c from)) (suc from) (suc to) m n)

-- the cells hold a left value, or a right one, by their tag
pub value_left : (A B : Ty) (c : Cells) (at : ℕ) → c at ≡ 0 → value_at (sum A B) c at ≡ inl (value_at A c (at + (1 + pad_l A B)))
unfolding value_at
value_left A B c at e = rw (e, value_at)

-- a right value
pub value_right : (A B : Ty) (c : Cells) (at b : ℕ) → c at ≡ suc b → value_at (sum A B) c at ≡ inr (value_at B c (at + (1 + pad_r A B)))
unfolding value_at
value_right A B c at b e = rw (e, value_at)

-- equal tags and equal parts make equal values
value_sum : (A B : Ty) (c d : Cells) (a b : ℕ) → c a ≡ d b → value_at A c (a + (1 + pad_l A B)) ≡ value_at A d (b + (1 + pad_l A B))
    → value_at B c (a + (1 + pad_r A B)) ≡ value_at B d (b + (1 + pad_r A B)) → value_at (sum A B) c a ≡ value_at (sum A B) d b
value_sum A B c d a b tag l r = go (c a) refl
  where
    go : (x : ℕ) → c a ≡ x → value_at (sum A B) c a ≡ value_at (sum A B) d b
    go zero e = value_left A B c a e ∙ ap inl l ∙ sym (value_left A B d b (sym tag ∙ e))
    go (suc x) e = value_right A B c a x e ∙ ap inr r ∙ sym (value_right A B d b x (sym tag ∙ e))

-- a part of equal ranges is equal
pub same_part : (c d : Cells) (a b m : ℕ) → Same c a d b m → (i n : ℕ) → i + n ≤ m → Same c (a + i) d (b + i) n
same_part c d a b m h i n l k p = ap c (add_assoc a i k) ∙ h (i + k) (omega arith) ∙ ap d (sym (add_assoc b i k))

-- a value depends on its own cells alone
pub same_value : (A : Ty) (c d : Cells) (a b : ℕ) → Same c a d b (width A) → value_at A c a ≡ value_at A d b
unfolding value_at width pad_l pad_r
same_value one c d a b h = refl
same_value (sum A B) c d a b h = value_sum A B c d a b (rw (add-zero a, add-zero b) at (h 0 (omega arith)))
    (same_value A c d (a + (1 + pad_l A B)) (b + (1 + pad_l A B)) (same_part c d a b _ h (1 + pad_l A B) (width A) (omega arith)))
    (same_value B c d (a + (1 + pad_r A B)) (b + (1 + pad_r A B)) (same_part c d a b _ h (1 + pad_r A B) (width B) (omega arith)))
same_value (prod A B) c d a b h = ap₂ ◌&◌ (same_value A c d a b (λ k l. h k (omega arith)))
    (same_value B c d (a + width A) (b + width A) (same_part c d a b _ h (width A) (width B) (omega arith)))

-- a value stays where all but other places are kept
pub value_kept : (A : Ty) (c d : Cells) (rd at n nx x : ℕ) → Kept at n nx x c d → rd + width A ≤ nx → Apart rd (width A) at n → value_at A d rd ≡ value_at A c rd
value_kept A c d rd at n nx x k l apart = same_value A d c rd rd (λ i p. k (rd + i) (λ q. apart (rd + i) (omega arith) q) (omega arith))

-- where bits are written elsewhere, and where cells are copied elsewhere
pub value_bits : (A : Ty) (c : Cells) (rd at : ℕ) (bs : List Bit) → Apart rd (width A) at (length bs) → value_at A (put_bits c at bs) rd ≡ value_at A c rd
value_bits A c rd at bs apart = same_value A (put_bits c at bs) c rd rd (λ k l. bits_out c at bs (rd + k) (λ i. apart (rd + k) (omega arith) i))

-- a value stays where cells are copied elsewhere
pub value_copy : (A : Ty) (c : Cells) (rd from at n : ℕ) → Apart rd (width A) at n → value_at A (copy_cells c from at n) rd ≡ value_at A c rd
value_copy A c rd from at n apart = same_value A (copy_cells c from at n) c rd rd (λ k l. copy_out c from at n (rd + k) (λ i. apart (rd + k) (omega arith) i))

-- a value that is written is held
pub value_written : {v : Val} {A : Ty} → HasTy v A → (c : Cells) (at : ℕ) → value_at A (put_bits c at (padded A v)) at ≡ v
unfolding Hold
value_written {v} {A} h c at = value_held h _ at (λ k l. bits_in c at (padded A v) k l)
