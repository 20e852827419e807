-- Values and their two spellings. Reading along the type undoes the compact bits, and what is read is a value of the type whose compact bits were read.
-- Cells that hold a value's padded cells hold that value, whatever stands elsewhere. Padded cells fill the width, compact bits never pass it.
use Rattle.std.specs.Prelude.{◌≡◌, refl, List, [], ◌∷◌, ◌++◌, ℕ, zero, suc, ◌+◌, ◌-◌, ◌^◌, ◌≤◌, ◌<◌, max, length, get_or, drop, replicate}
use Rattle.std.proofs.Common.{sym, ap, ap₂, ◌∙◌, subst, append_assoc, arith, length-append, length-drop, drop-drop, get_or-append-add}
use Rattle.std.proofs.Math.Nat.{two-pow-succ}
use Rattle.std.proofs.lemmas.List.{length-replicate}
use Rattle.std.proofs.Math.ListN.{get_or-append}
use Rattle.report.specs.Bits.{Bit}
use Rattle.report.specs.Types.{Ty, one, sum, prod, width, pad_l, pad_r, word_ty, left_of, right_of}
use Rattle.report.specs.Values.{Val, ⟨⟩, inl, inr, ◌&◌, HasTy, is_unit, is_left, is_right, is_pair, compact, padded, Read, value, short, and_then, read_value, Cells, value_at}
use Rattle.common.specs.Checks.{clash}
use Rattle.common.specs.Bits.{AreBits}

-- reading undoes the compact bits
pub reads_compact : {v : Val} {A : Ty} → HasTy v A → (rest : List Bit) → read_value A (compact v ++ rest) ≡ value v rest
unfolding read_value compact and_then
reads_compact is_unit rest = refl
reads_compact (is_left h) rest = rw (reads_compact h rest)
reads_compact (is_right h) rest = rw (reads_compact h rest)
reads_compact (is_pair {v} {w} h k) rest =
    rw (append_assoc (compact v) (compact w) rest, reads_compact h (compact w ++ rest), reads_compact k rest)

-- an answer of reading bits along the type A: a value of A whose compact bits stand in front, or too few bits
pub data IsRead (A : Ty) (bs : List Bit) : Read → Type 0 where
  of_whole : {v : Val} {rest : List Bit} → HasTy v A → bs ≡ compact v ++ rest → AreBits rest → IsRead A bs (value v rest)
  of_short : IsRead A bs short

read_left : (A B : Ty) (bs : List Bit) (r : Read) → IsRead A bs r → IsRead (sum A B) (0 ∷ bs) (and_then r λ v rest. value (inl v) rest)
unfolding and_then compact
read_left A B bs r (of_whole h e k) = of_whole (is_left h) (ap (λ (l : List Bit). 0 ∷ l) e) k
read_left A B bs r of_short = of_short

read_right : (A B : Ty) (bs : List Bit) (r : Read) → IsRead B bs r → IsRead (sum A B) (1 ∷ bs) (and_then r λ v rest. value (inr v) rest)
unfolding and_then compact
read_right A B bs r (of_whole h e k) = of_whole (is_right h) (ap (λ (l : List Bit). 1 ∷ l) e) k
read_right A B bs r of_short = of_short

read_second : (A B : Ty) (v : Val) (bs bs' : List Bit) (r : Read) → HasTy v A → bs ≡ compact v ++ bs' → IsRead B bs' r
    → IsRead (prod A B) bs (and_then r λ w rest. value (v & w) rest)
unfolding and_then compact
read_second A B v bs bs' r h e (of_whole {v = w} {rest = rest} k e' b) =
    of_whole (is_pair h k) (e ∙ ap (λ (l : List Bit). compact v ++ l) e' ∙ sym (append_assoc (compact v) (compact w) rest)) b
read_second A B v bs bs' r h e of_short = of_short

read_pair : (A B : Ty) (bs : List Bit) (r : Read) → IsRead A bs r → ((bs : List Bit) → AreBits bs → IsRead B bs (read_value B bs))
    → IsRead (prod A B) bs (and_then r λ v bs. and_then (read_value B bs) λ w rest. value (v & w) rest)
unfolding and_then
read_pair A B bs r (of_whole {v = v} {rest = rest} h e b) k = read_second A B v bs rest (read_value B rest) h e (k rest b)
read_pair A B bs r of_short k = of_short

-- what reading along a type answers
pub is_read : (A : Ty) (bs : List Bit) → AreBits bs → IsRead A bs (read_value A bs)
unfolding read_value compact
is_read one bs b = of_whole is_unit refl b
is_read (sum A B) [] b = of_short
is_read (sum A B) (zero ∷ bs) b = read_left A B bs (read_value A bs) (is_read A bs b.1)
is_read (sum A B) (suc zero ∷ bs) b = read_right A B bs (read_value B bs) (is_read B bs b.1)
is_read (sum A B) (suc (suc n) ∷ bs) b = absurd (let l : suc (suc n) < 2 = b.0 in omega arith)
is_read (prod A B) bs b = read_pair A B bs (read_value A bs) (is_read A bs b) (λ bs b. is_read B bs b)

-- a value that was read is typed, and its compact bits are just what was read
pub read_is_compact : (A : Ty) (bs : List Bit) (v : Val) (rest : List Bit) → AreBits bs → read_value A bs ≡ value v rest
    → HasTy v A × (bs ≡ compact v ++ rest) × AreBits rest
read_is_compact A bs v rest b e = go (value v rest) refl (subst (IsRead A bs) e (is_read A bs b))
  where
    go : (r : Read) → r ≡ value v rest → IsRead A bs r → HasTy v A × (bs ≡ compact v ++ rest) × AreBits rest
    go r e (of_whole {v = w} {rest = t} h k b) =
        let p : w ≡ v = cc in
        let q : t ≡ rest = cc in
        (subst (λ (x : Val). HasTy x A) p h, k ∙ ap₂ (λ (x : Val) (l : List Bit). compact x ++ l) p q, subst AreBits q b)
    go r e of_short = clash (cc)

-- padded cells fill the width of the type
pub length-padded : {v : Val} {A : Ty} → HasTy v A → length (padded A v) ≡ width A
unfolding padded width left_of right_of pad_l pad_r
length-padded is_unit = refl
length-padded (is_left {v} {A} {B} h) =
    let n : ℕ = max (width A) (width B) - width A in
    let e = length-padded h in
    omega (arith, length-append (replicate {A = ℕ} n 0) (padded A v), length-replicate {A = ℕ} n 0)
length-padded (is_right {v} {A} {B} h) =
    let n : ℕ = max (width A) (width B) - width B in
    let e = length-padded h in
    omega (arith, length-append (replicate {A = ℕ} n 0) (padded B v), length-replicate {A = ℕ} n 0)
length-padded (is_pair {v} {w} {A} {B} h k) =
    let e = length-padded h in
    let f = length-padded k in
    omega (arith, length-append (padded A v) (padded B w))

-- compact bits never pass the width of the type
pub compact_fits : {v : Val} {A : Ty} → HasTy v A → length (compact v) ≤ width A
unfolding compact width
compact_fits is_unit = omega arith
compact_fits (is_left h) = let e = compact_fits h in omega arith
compact_fits (is_right h) = let e = compact_fits h in omega arith
compact_fits (is_pair {v} {w} h k) =
    let e = compact_fits h in
    let f = compact_fits k in
    omega (arith, length-append (compact v) (compact w))

-- the cells from a place on are these bits
unfoldable pub Hold : Cells → (at : ℕ) → List Bit → Type 0
Hold c at bs = (k : ℕ) → k < length bs → c (at + k) ≡ get_or bs k 0

-- bits that are held are held part by part
pub hold_front : (c : Cells) (at : ℕ) (xs ys : List Bit) → Hold c at (xs ++ ys) → Hold c at xs
unfolding Hold
hold_front c at xs ys h k l = h k (omega (arith, length-append xs ys)) ∙ get_or-append xs ys 0 k l

pub hold_back : (c : Cells) (at : ℕ) (xs ys : List Bit) → Hold c at (xs ++ ys) → Hold c (at + length xs) ys
unfolding Hold
hold_back c at xs ys h k l =
    ap c (let e : at + length xs + k ≡ at + (length xs + k) = omega arith in e) ∙ h (length xs + k) (omega (arith, length-append xs ys))
    ∙ get_or-append-add xs ys k 0

pub hold_first : (c : Cells) (at b : ℕ) (xs : List Bit) → Hold c at (b ∷ xs) → c at ≡ b
unfolding Hold
hold_first c at b xs h = ap c (let e : at ≡ at + 0 = omega arith in e) ∙ h 0 (omega arith)

-- the part of a tagged value, behind its tag and its padding
hold_part : (c : Cells) (at b n : ℕ) (xs : List Bit) → Hold c at (b ∷ replicate n 0 ++ xs) → Hold c (at + (1 + n)) xs
hold_part c at b n xs h =
    let zeros : List Bit = replicate n 0 in
    let e : at + length (b ∷ zeros) ≡ at + (1 + n) = omega (arith, length-replicate {A = ℕ} n 0) in
    subst (λ (p : ℕ). Hold c p xs) e (hold_back c at (b ∷ zeros) xs h)

-- cells that hold a value's padded cells hold the value
pub value_held : {v : Val} {A : Ty} → HasTy v A → (c : Cells) (at : ℕ) → Hold c at (padded A v) → value_at A c at ≡ v
unfolding padded value_at left_of right_of pad_l pad_r
value_held is_unit c at h = refl
value_held (is_left {v} {A} {B} k) c at h =
    rw (hold_first c at 0 _ h, value_at) (ap inl (value_held k c (at + (1 + pad_l A B)) (hold_part c at 0 (pad_l A B) (padded A v) h)))
value_held (is_right {v} {A} {B} k) c at h =
    rw (hold_first c at 1 _ h, value_at) (ap inr (value_held k c (at + (1 + pad_r A B)) (hold_part c at 1 (pad_r A B) (padded B v) h)))
value_held (is_pair {v} {w} {A} {B} k l) c at h =
    ap₂ ◌&◌ (value_held k c at (hold_front c at (padded A v) (padded B w) h))
    (value_held l c (at + width A) (subst (λ (n : ℕ). Hold c (at + n) (padded B w)) (length-padded k) (hold_back c at (padded A v) (padded B w) h)))

typed_side : (A B : Ty) (b : Bit) {v w : Val} → HasTy v A → HasTy w B → HasTy (elim b [ zero ↦ inl v | suc d ↦ inr w ]) (sum A B)
typed_side A B zero h k = is_left h
typed_side A B (suc d) h k = is_right k

-- any cells hold a value of the type
pub value_typed : (A : Ty) (c : Cells) (at : ℕ) → HasTy (value_at A c at) A
unfolding value_at
value_typed one c at = is_unit
value_typed (sum A B) c at = typed_side A B (c at) (value_typed A c (at + (1 + pad_l A B))) (value_typed B c (at + (1 + pad_r A B)))
value_typed (prod A B) c at = is_pair (value_typed A c at) (value_typed B c (at + width A))

-- a word of depth k takes 2 ^ k cells
pub width_word : (k : ℕ) → width (word_ty k) ≡ 2 ^ k
unfolding word_ty width
width_word zero = refl
width_word (suc k) = let e = width_word k in omega arith

-- a word has no padding: its two spellings agree
pub word_unpadded : (k : ℕ) {v : Val} → HasTy v (word_ty k) → padded (word_ty k) v ≡ compact v
unfolding word_ty padded compact left_of right_of pad_l pad_r width
word_unpadded zero (is_left is_unit) = refl
word_unpadded zero (is_right is_unit) = refl
word_unpadded (suc k) (is_pair h g) = ap₂ ◌++◌ (word_unpadded k h) (word_unpadded k g)

-- any 2 ^ k bits are a word of depth k
pub word_read : (k : ℕ) (bs : List Bit) → 2 ^ k ≤ length bs → (v : Val) × (read_value (word_ty k) bs ≡ value v (drop (2 ^ k) bs))
unfolding word_ty read_value and_then
word_read zero [] h = absurd (omega arith)
word_read zero (zero ∷ bs) h = (inl ⟨⟩, refl)
word_read zero (suc b ∷ bs) h = (inr ⟨⟩, refl)
word_read (suc k) bs h =
    let front = word_read k bs (omega (arith, two-pow-succ k)) in
    let rest : List Bit = drop (2 ^ k) bs in
    let back = word_read k rest (omega (arith, two-pow-succ k, length-drop (2 ^ k) bs)) in
    let e : drop (2 ^ k) rest ≡ drop (2 ^ suc k) bs = drop-drop (2 ^ k) (2 ^ k) bs ∙ ap (λ (n : ℕ). drop n bs) (sym (two-pow-succ k)) in
    (front.0 & back.0, rw (front.1, back.1) (ap (value (front.0 & back.0)) e))
