-- Each rule of the machine where the active frames have the room that it asks for: it is not stuck, and what it leaves.
-- Where the width is 0 there need be no frame.
use Rattle.std.specs.Prelude.{◌≡◌, refl, List, [], ◌∷◌, ℕ, zero, suc, ◌+◌, ◌-◌, ◌≤◌, ◌<◌, length}
use Rattle.std.proofs.Common.{ap, ap₂, subst, arith, add_assoc, add-zero, not-suc-le-zero, le-leb, lt-ltb, eq-eqb}
use Rattle.report.specs.Bits.{Bit}
use Rattle.report.specs.Types.{Ty, width}
use Rattle.report.specs.Values.{Val, HasTy, Cells, padded}
use Rattle.report.specs.Meaning.{done}
use Rattle.scope.specs.Machine.{Frame, frame_from, state, need, forward, backward, in_frame, put_bits, copy_cells, new_frame, drop_frame, write_bits, skip, copy, fwd, back, peek}
use Rattle.exactness.specs.Values.{length-padded}
use Rattle.theory.specs.Instructions.{At, advance}

-- twice on is once on
forward-forward : (m n : ℕ) (f : Frame) → forward n (forward m f) ≡ forward (m + n) f
unfolding forward
forward-forward m n f = rw (add_assoc f.cursor m n)

-- 0 cells on is nowhere
forward_none : (f : Frame) → forward 0 f ≡ f
unfolding forward
forward_none f = rw (add-zero f.cursor)

-- 0 cells on is nowhere
pub advance_none : (fs : List Frame) → advance 0 fs ≡ fs
unfolding advance
advance_none [] = refl
advance_none (f ∷ fs) = ap (◌∷ fs) (forward_none f)

-- twice on is once on
pub advance-advance : (m n : ℕ) (fs : List Frame) → advance n (advance m fs) ≡ advance (m + n) fs
unfolding advance
advance-advance m n [] = refl
advance-advance m n (f ∷ fs) = ap (◌∷ fs) (forward-forward m n f)

-- a cursor that moves makes no frame
pub length-advance : (n : ℕ) (fs : List Frame) → length (advance n fs) ≡ length fs
unfolding advance
length-advance n [] = refl
length-advance n (f ∷ fs) = refl

-- room for m cells is room for fewer
pub at_less : (fs : List Frame) (at m n : ℕ) → n ≤ m → At fs at m → At fs at n
unfolding At
at_less [] at m n l h = omega arith
at_less (f ∷ fs) at m n l h = (h.0, h.1, omega arith)

-- and the rest of the room is left, m cells further on
pub at_advance : (fs : List Frame) (at m n : ℕ) → At fs at (m + n) → At (advance m fs) (at + m) n
unfolding At advance forward
at_advance [] at m n h = omega arith
at_advance (f ∷ fs) at m n h = (omega arith, omega arith, omega arith)

-- a new write frame of n cells
pub new_frame_does : (size most : ℕ) (c : Cells) (rs ws : List Frame) (nx n : ℕ) → nx + n ≤ size → length rs + length ws < most
    → new_frame size most n (state c rs ws nx) ≡ done (state c rs (frame_from nx n ∷ ws) (nx + n))
unfolding new_frame need state
new_frame_does size most c rs ws nx n h k = rw (le-leb (nx + n) size h, lt-ltb (length rs + length ws) most k)

-- bits into the write frame
pub write_bits_does : (c : Cells) (rs ws : List Frame) (nx : ℕ) (bs : List Bit) (wr : ℕ) → At ws wr (length bs)
    → write_bits bs (state c rs ws nx) ≡ done (state (put_bits c wr bs) rs (advance (length bs) ws) nx)
unfolding write_bits put_bits At advance state need in_frame
write_bits_does c rs ws nx [] wr h = rw (advance_none ws)
write_bits_does c rs [] nx (b ∷ bs) wr h = absurd (not-suc-le-zero h)
write_bits_does c rs (f ∷ ws) nx (b ∷ bs) wr h = rw (h.0, le-leb (wr + length (b ∷ bs)) (f.start + f.len) h.2)

-- n cells passed over
pub skip_does : (c : Cells) (rs ws : List Frame) (nx n wr : ℕ) → At ws wr n → skip n (state c rs ws nx) ≡ done (state c rs (advance n ws) nx)
unfolding skip At advance state need in_frame
skip_does c rs ws nx zero wr h = rw (advance_none ws)
skip_does c rs [] nx (suc n) wr h = absurd (not-suc-le-zero h)
skip_does c rs (f ∷ ws) nx (suc n) wr h = rw (h.0, le-leb (wr + suc n) (f.start + f.len) h.2)

-- n cells copied
pub copy_does : (c : Cells) (rs ws : List Frame) (nx n rd wr : ℕ) → At rs rd n → At ws wr n
    → copy n (state c rs ws nx) ≡ done (state (copy_cells c rd wr n) rs (advance n ws) nx)
unfolding copy copy_cells At advance state need in_frame
copy_does c rs ws nx zero rd wr h k = rw (advance_none ws)
copy_does c [] ws nx (suc n) rd wr h k = absurd (not-suc-le-zero h)
copy_does c (f ∷ rs) [] nx (suc n) rd wr h k = absurd (not-suc-le-zero k)
copy_does c (f ∷ rs) (g ∷ ws) nx (suc n) rd wr h k =
    let l : f.cursor + suc n ≤ f.start + f.len = omega arith in
    let m : g.cursor + suc n ≤ g.start + g.len = omega arith in
    rw (le-leb (f.cursor + suc n) (f.start + f.len) l, le-leb (g.cursor + suc n) (g.start + g.len) m)
    (ap₂ (λ x y. done (state (copy_cells c x y (suc n)) (f ∷ rs) (forward (suc n) g ∷ ws) nx)) h.0 k.0)

-- the read cursor n cells on
pub fwd_does : (c : Cells) (rs ws : List Frame) (nx n rd : ℕ) → At rs rd n → fwd n (state c rs ws nx) ≡ done (state c (advance n rs) ws nx)
unfolding fwd At advance state need in_frame
fwd_does c rs ws nx zero rd h = rw (advance_none rs)
fwd_does c [] ws nx (suc n) rd h = absurd (not-suc-le-zero h)
fwd_does c (f ∷ rs) ws nx (suc n) rd h = rw (h.0, le-leb (rd + suc n) (f.start + f.len) h.2)

-- and n cells back
pub back_does : (c : Cells) (rs ws : List Frame) (nx n rd : ℕ) → At rs rd n → back n (state c (advance n rs) ws nx) ≡ done (state c rs ws nx)
unfolding back At advance state need forward backward
back_does c rs ws nx zero rd h = rw (advance_none rs)
back_does c [] ws nx (suc n) rd h = absurd (not-suc-le-zero h)
back_does c (f ∷ rs) ws nx (suc n) rd h =
    let e : f.cursor + suc n - suc n ≡ f.cursor = omega arith in
    let l : f.start + suc n ≤ f.cursor + suc n = omega arith in
    rw (le-leb (f.start + suc n) (f.cursor + suc n) l, e)

-- the bit at the read cursor
pub peek_does : (c : Cells) (rs ws : List Frame) (nx rd n : ℕ) → At rs rd (suc n) → peek (state c rs ws nx) ≡ done (c rd)
unfolding peek At state need in_frame
peek_does c [] ws nx rd n h = absurd (not-suc-le-zero h)
peek_does c (f ∷ rs) ws nx rd n h =
    let l : rd + 1 ≤ f.start + f.len = omega arith in
    rw (h.0, le-leb (rd + 1) (f.start + f.len) l)

-- the uppermost read frame goes
pub drop_frame_does : (c : Cells) (f : Frame) (rs ws : List Frame) (nx : ℕ) → nx ≡ f.start + f.len
    → drop_frame (state c (f ∷ rs) ws nx) ≡ done (state c rs ws f.start)
unfolding drop_frame state need
drop_frame_does c f rs ws nx e = rw (eq-eqb nx (f.start + f.len) e)

-- a value's padded bits into a frame with room for its width
pub value_does : (A : Ty) (v : Val) → HasTy v A → (rs ws : List Frame) (wr nx : ℕ) (c : Cells) → At ws wr (width A)
    → write_bits (padded A v) (state c rs ws nx) ≡ done (state (put_bits c wr (padded A v)) rs (advance (width A) ws) nx)
value_does A v h rs ws wr nx c hw =
    subst (λ (n : ℕ). write_bits (padded A v) (state c rs ws nx) ≡ done (state (put_bits c wr (padded A v)) rs (advance n ws) nx))
    (length-padded h) (write_bits_does c rs ws nx (padded A v) wr (rw (length-padded h) hw))
