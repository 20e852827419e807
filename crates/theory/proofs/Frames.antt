-- The machine never gets stuck within its bounds, and leaves the cells that `on_cells` leaves: frames come and go in order.
-- At its end all frames are as they were, but for the write cursor, which is on by the target's width; `next` is as before.
use Rattle.std.specs.Prelude.{◌≡◌, refl, List, [], ◌∷◌, ℕ, zero, suc, ◌+◌}
use Rattle.std.proofs.Common.{sym, ◌∙◌, arith, add_assoc}
use Rattle.report.specs.Bits.{Bit}
use Rattle.report.specs.Types.{Ty, sum, width, pad_l, pad_r, word_ty}
use Rattle.report.specs.Values.{Val, HasTy, Cells, padded}
use Rattle.report.specs.Terms.{Term, iden, comp, unit, injl, injr, case, pair, take, drop, assertl, assertr, disconnect}
use Rattle.report.specs.Typing.{Typed, of_iden, of_comp, of_unit, of_injl, of_injr, of_case, of_pair, of_take, of_drop, of_assertl, of_assertr, of_fail, of_witness, of_word, of_disconnect}
use Rattle.report.specs.Meaning.{Out, done, failed, pruned, stuck, ◌>>=◌}
use Rattle.scope.specs.Machine.{Frame, frame_from, State, state, forward, reset, put_bits, copy_cells, move_frame, write_bits, skip, fwd, back, exec}
use Rattle.scope.specs.Bounds.{bounds}
use Rattle.layout.proofs.Match.{bind-bind}
use Rattle.theory.specs.Cursors.{on_cells}
use Rattle.theory.specs.Instructions.{At, advance}
use Rattle.theory.proofs.Instructions.{advance_none, advance-advance, length-advance, at_less, at_advance, new_frame_does, write_bits_does, skip_does, copy_does, fwd_does, back_does, peek_does, drop_frame_does, value_does}
use Rattle.theory.specs.Frames.{bare, EnoughCells, EnoughFrames, Does}

-- one after the other
bind_last : {W X Y Z : Type 0} (o : Out W X) (f : X → Y) (k : Y → Out W Z) (g : X → Out W Z) → ((x : X) → k (f x) ≡ g x)
    → ((o >>= λ x. done (f x)) >>= k) ≡ (o >>= g)
unfolding ◌>>=◌
bind_last (done x) f k g h = h x
bind_last (failed p y) f k g h = refl
bind_last (pruned p y) f k g h = refl
bind_last stuck f k g h = refl

-- of two parts, the cells of each
bare-bind : {X Y : Type 0} (o : Out State X) (k : X → Out State Y) → bare (o >>= k) ≡ (bare o >>= λ x. bare (k x))
unfolding bare ◌>>=◌
bare-bind (done x) k = refl
bare-bind (failed p s) k = refl
bare-bind (pruned p s) k = refl
bare-bind stuck k = refl

-- iden
does_iden : (A : Ty) → Does (iden A) (width A) (width A)
unfolding bare exec on_cells ◌>>=◌
does_iden A size most rs ws rd wr nx c hr hw hc hf = rw (copy_does c rs ws nx (width A) rd wr hr hw)

-- a second part after a first
bind_then : {W X Y Z : Type 0} (o : Out W X) (f : X → Y) (k : Y → Out W Z) (g : X → Out W X) (j : X → Out W Z) → ((x : X) → k (f x) ≡ (g x >>= j))
    → ((o >>= λ x. done (f x)) >>= k) ≡ ((o >>= g) >>= j)
bind_then o f k g j h = bind_last o f k (λ x. g x >>= j) h ∙ sym (bind-bind o g j)

-- comp: its frame is written by the left child, read by the right one, and goes
does_comp : (s t : Term) (B : Ty) (n m : ℕ) → Does s n (width B) → Does t (width B) m → Does (comp B s t) n m
unfolding bare exec on_cells ◌>>=◌ bounds At advance forward move_frame reset state
does_comp s t B n m hs ht size most rs ws rd wr nx c hr hw hc hf =
    let fr : Frame = frame_from nx (width B) in
    rw (
      new_frame_does size most c rs ws nx (width B) (omega arith) (omega arith),
      bare-bind (exec size most s (state c rs (fr ∷ ws) (nx + width B))),
      hs size most rs (fr ∷ ws) rd nx (nx + width B) c hr (refl, omega arith, omega arith) (omega arith) (omega arith),
    )
    (bind_then (on_cells s rd nx (nx + width B) c) _ _ _ _ (λ c.
    rw (
      bare-bind (exec size most t (state c (fr ∷ rs) ws (nx + width B))),
      ht size most (fr ∷ rs) ws nx wr (nx + width B) c (refl, omega arith, omega arith) hw (omega arith) (omega arith),
    )
    (bind_last (on_cells t nx wr (nx + width B) c) _ _ _ (λ c. rw (drop_frame_does c fr rs (advance m ws) (nx + width B) refl)))))

-- unit
does_unit : (n : ℕ) → Does unit n 0
unfolding bare exec on_cells ◌>>=◌
does_unit n size most rs ws rd wr nx c hr hw hc hf = rw (advance_none ws)

-- an injection: the tag, padding passed over, and the part
does_inj : (b : Bit) (pad : ℕ) (t : Term) (n m : ℕ) → Does t n m → (size most : ℕ) (rs ws : List Frame) (rd wr nx : ℕ) (c : Cells)
    → At rs rd n → At ws wr (1 + pad + m)
    → EnoughCells size nx t → EnoughFrames most rs ws t
    → bare (write_bits (b ∷ []) (state c rs ws nx) >>= λ s. skip pad s >>= λ s. exec size most t s)
    ≡ (on_cells t rd (wr + (1 + pad)) nx (put_bits c wr (b ∷ [])) >>= λ c. done (state c rs (advance (1 + pad + m) ws) nx))
unfolding bare ◌>>=◌
does_inj b pad t n m h size most rs ws rd wr nx c hr hw hc hf =
    let c₁ : Cells = put_bits c wr (b ∷ []) in
    let hw₁ : At (advance 1 ws) (wr + 1) (pad + m) = at_advance ws wr 1 (pad + m) (rw (add_assoc 1 pad m) at hw) in
    let hw₂ : At (advance (1 + pad) ws) (wr + (1 + pad)) m = at_advance ws wr (1 + pad) m hw in
    rw (
      write_bits_does c rs ws nx (b ∷ []) wr (at_less ws wr (1 + pad + m) 1 (omega arith) hw),
      skip_does c₁ rs (advance 1 ws) nx pad (wr + 1) (at_less (advance 1 ws) (wr + 1) (pad + m) pad (omega arith) hw₁),
      advance-advance 1 pad ws,
      h size most rs (advance (1 + pad) ws) rd (wr + (1 + pad)) nx c₁ hr hw₂ hc (rw (length-advance (1 + pad) ws) hf),
      advance-advance (1 + pad) m ws,
    )
    refl

-- injl
does_injl : (t : Term) (B C : Ty) (n : ℕ) → Does t n (width B) → Does (injl B C t) n (width (sum B C))
unfolding bare exec on_cells bounds width pad_l
does_injl t B C n h size most rs ws rd wr nx c hr hw hc hf =
    let e : width (sum B C) ≡ 1 + pad_l B C + width B = omega arith in
    rw e (does_inj 0 (pad_l B C) t n (width B) h size most rs ws rd wr nx c hr (rw e at hw) hc hf)

-- injr
does_injr : (t : Term) (B C : Ty) (n : ℕ) → Does t n (width C) → Does (injr B C t) n (width (sum B C))
unfolding bare exec on_cells bounds width pad_r
does_injr t B C n h size most rs ws rd wr nx c hr hw hc hf =
    let e : width (sum B C) ≡ 1 + pad_r B C + width C = omega arith in
    rw e (does_inj 1 (pad_r B C) t n (width C) h size most rs ws rd wr nx c hr (rw e at hw) hc hf)

-- pair: left, then right
does_pair : (s t : Term) (B : Ty) (n m : ℕ) → Does s n (width B) → Does t n m → Does (pair B s t) n (width B + m)
unfolding bare exec on_cells ◌>>=◌ bounds
does_pair s t B n m hs ht size most rs ws rd wr nx c hr hw hc hf =
    rw (
      bare-bind (exec size most s (state c rs ws nx)),
      hs size most rs ws rd wr nx c hr (at_less ws wr (width B + m) (width B) (omega arith) hw) (omega arith) (omega arith),
    )
    (bind_then (on_cells s rd wr nx c) _ _ _ _ (λ c.
    rw (
      ht size most rs (advance (width B) ws) rd (wr + width B) nx c hr (at_advance ws wr (width B) m hw) (omega arith)
          (omega (arith, length-advance (width B) ws)),
      advance-advance (width B) m ws,
    )
    refl))

-- take
does_take : (t : Term) (n k m : ℕ) → Does t n m → Does (take t) (n + k) m
unfolding bare exec on_cells bounds
does_take t n k m h size most rs ws rd wr nx c hr hw hc hf = h size most rs ws rd wr nx c (at_less rs rd (n + k) n (omega arith) hr) hw hc hf

-- with the read cursor k cells further on
does_on : (t : Term) (k n m : ℕ) → Does t n m → (size most : ℕ) (rs ws : List Frame) (rd wr nx : ℕ) (c : Cells) → At rs rd (k + n) → At ws wr m
    → EnoughCells size nx t → EnoughFrames most rs ws t
    → bare (fwd k (state c rs ws nx) >>= λ s. exec size most t s >>= λ s. back k s) ≡ (on_cells t (rd + k) wr nx c >>= λ c. done (state c rs (advance m ws) nx))
unfolding bare ◌>>=◌
does_on t k n m h size most rs ws rd wr nx c hr hw hc hf =
    let hk : At rs rd k = at_less rs rd (k + n) k (omega arith) hr in
    rw (
      fwd_does c rs ws nx k rd hk,
      bare-bind (exec size most t (state c (advance k rs) ws nx)),
      h size most (advance k rs) ws (rd + k) wr nx c (at_advance rs rd k n hr) hw hc (rw (length-advance k rs) hf),
    )
    (bind_last (on_cells t (rd + k) wr nx c) _ _ _ (λ c. rw (back_does c rs (advance m ws) nx k rd hk)))

-- drop: the read cursor goes on and comes back
does_drop : (t : Term) (A : Ty) (n m : ℕ) → Does t n m → Does (drop A t) (width A + n) m
unfolding bare exec on_cells bounds
does_drop t A n m h size most rs ws rd wr nx c hr hw hc hf = does_on t (width A) n m h size most rs ws rd wr nx c hr hw hc hf

-- the branch of a case, or of an assertion
does_branch : (t : Term) (k x n y m : ℕ) → y ≡ k + x → Does t (x + n) m → (size most : ℕ) (rs ws : List Frame) (rd wr nx : ℕ) (c : Cells)
    → At rs rd (y + n) → At ws wr m
    → EnoughCells size nx t → EnoughFrames most rs ws t
    → bare (fwd k (state c rs ws nx) >>= λ s. exec size most t s >>= λ s. back k s) ≡ (on_cells t (rd + k) wr nx c >>= λ c. done (state c rs (advance m ws) nx))
does_branch t k x n y m e h size most rs ws rd wr nx c hr =
    let e' : y + n ≡ k + (x + n) = omega arith in
    does_on t k (x + n) m h size most rs ws rd wr nx c (rw e' at hr)

-- case
does_case : (s t : Term) (A B : Ty) (n m : ℕ) → Does s (width A + n) m → Does t (width B + n) m → Does (case A B s t) (width (sum A B) + n) m
unfolding bare exec on_cells ◌>>=◌ bounds width pad_l pad_r
does_case s t A B n m hs ht size most rs ws rd wr nx c hr hw hc hf =
    rw (peek_does c rs ws nx rd 0 (at_less rs rd (width (sum A B) + n) 1 (omega arith) hr)) (go (c rd) refl)
  where
    go : (b : Bit) → c rd ≡ b → bare (done b >>= λ bit. elim bit [
      | zero ↦ (fwd (1 + pad_l A B) (state c rs ws nx) >>= λ s'. exec size most s s' >>= λ s. back (1 + pad_l A B) s)
      | suc b ↦ (fwd (1 + pad_r A B) (state c rs ws nx) >>= λ s. exec size most t s >>= λ s. back (1 + pad_r A B) s)
    ])
        ≡ (on_cells (case A B s t) rd wr nx c >>= λ c. done (state c rs (advance m ws) nx))
    go zero e =
        rw (e, on_cells)
        (does_branch s (1 + pad_l A B) (width A) n (width (sum A B)) m (omega arith) hs size most rs ws rd wr nx c hr hw (omega arith) (omega arith))
    go (suc b) e =
        rw (e, on_cells)
        (does_branch t (1 + pad_r A B) (width B) n (width (sum A B)) m (omega arith) ht size most rs ws rd wr nx c hr hw (omega arith) (omega arith))

-- a case with its right branch pruned
does_assertl : (p : ℕ) (s : Term) (A B : Ty) (n m : ℕ) → Does s (width A + n) m → Does (assertl p A B s) (width (sum A B) + n) m
unfolding bare exec on_cells ◌>>=◌ bounds width pad_l pad_r
does_assertl p s A B n m hs size most rs ws rd wr nx c hr hw hc hf =
    rw (peek_does c rs ws nx rd 0 (at_less rs rd (width (sum A B) + n) 1 (omega arith) hr)) (go (c rd) refl)
  where
    go : (b : Bit) → c rd ≡ b → bare (done b >>= λ bit. elim bit [
      | zero ↦ (fwd (1 + pad_l A B) (state c rs ws nx) >>= λ s'. exec size most s s' >>= λ s. back (1 + pad_l A B) s)
      | suc b ↦ pruned p (state c rs ws nx)
    ])
        ≡ (on_cells (assertl p A B s) rd wr nx c >>= λ c. done (state c rs (advance m ws) nx))
    go zero e = rw (e, on_cells) (does_branch s (1 + pad_l A B) (width A) n (width (sum A B)) m (omega arith) hs size most rs ws rd wr nx c hr hw hc hf)
    go (suc b) e = rw (e, on_cells)

-- a case with its left branch pruned
does_assertr : (p : ℕ) (t : Term) (A B : Ty) (n m : ℕ) → Does t (width B + n) m → Does (assertr p A B t) (width (sum A B) + n) m
unfolding bare exec on_cells ◌>>=◌ bounds width pad_l pad_r
does_assertr p t A B n m ht size most rs ws rd wr nx c hr hw hc hf =
    rw (peek_does c rs ws nx rd 0 (at_less rs rd (width (sum A B) + n) 1 (omega arith) hr)) (go (c rd) refl)
  where
    go : (b : Bit) → c rd ≡ b → bare (done b >>= λ bit. elim bit [
      | zero ↦ pruned p (state c rs ws nx)
      | suc b ↦ (fwd (1 + pad_r A B) (state c rs ws nx) >>= λ s. exec size most t s >>= λ s. back (1 + pad_r A B) s)
    ])
        ≡ (on_cells (assertr p A B t) rd wr nx c >>= λ c. done (state c rs (advance m ws) nx))
    go zero e = rw (e, on_cells)
    go (suc b) e = rw (e, on_cells) (does_branch t (1 + pad_r A B) (width B) n (width (sum A B)) m (omega arith) ht size most rs ws rd wr nx c hr hw hc hf)

-- disconnect: two frames, which go in order
does_disconnect : (s t : Term) (h : Val) (A B C : Ty) (m : ℕ) → HasTy h (word_ty 8) → Does s (width (word_ty 8) + width A) (width B + width C)
    → Does t (width C) m
    → Does (disconnect A B C h s t) (width A) (width B + m)
unfolding bare exec on_cells ◌>>=◌ bounds At advance forward move_frame reset state
does_disconnect s t h A B C m hh hs ht size most rs ws rd wr nx c hr hw hc hf =
    let W : ℕ = width (word_ty 8) in
    let e₁ : ℕ = nx + (W + width A) in
    let e₂ : ℕ = e₁ + (width B + width C) in
    let f₁ : Frame = frame_from nx (W + width A) in
    let f₂ : Frame = frame_from e₁ (width B + width C) in
    let c₀ : Cells = put_bits c nx (padded (word_ty 8) h) in
    let c₁ : Cells = copy_cells c₀ rd (nx + W) (width A) in
    rw (
      new_frame_does size most c rs ws nx (W + width A) (omega arith) (omega arith),
      value_does (word_ty 8) h hh rs (f₁ ∷ ws) nx e₁ c (refl, omega arith, omega arith),
      copy_does c₀ rs (forward W f₁ ∷ ws) e₁ (width A) rd (nx + W) hr (refl, omega arith, omega arith),
      new_frame_does size most c₁ (f₁ ∷ rs) ws e₁ (width B + width C) (omega arith) (omega arith),
      bare-bind (exec size most s (state c₁ (f₁ ∷ rs) (f₂ ∷ ws) e₂)),
      hs size most (f₁ ∷ rs) (f₂ ∷ ws) nx e₁ e₂ c₁ (refl, omega arith, omega arith) (refl, omega arith, omega arith) (omega arith) (omega arith),
    )
    (bind_then (on_cells s nx e₁ e₂ c₁) _ _ _ _ (λ c.
    let c₂ : Cells = copy_cells c e₁ wr (width B) in
    rw (
      copy_does c (f₂ ∷ f₁ ∷ rs) ws e₂ (width B) e₁ wr (refl, omega arith, omega arith) (at_less ws wr (width B + m) (width B) (omega arith) hw),
      fwd_does c₂ (f₂ ∷ f₁ ∷ rs) (advance (width B) ws) e₂ (width B) e₁ (refl, omega arith, omega arith),
      bare-bind (exec size most t (state c₂ (forward (width B) f₂ ∷ f₁ ∷ rs) (advance (width B) ws) e₂)),
      ht size most (forward (width B) f₂ ∷ f₁ ∷ rs) (advance (width B) ws) (e₁ + width B) (wr + width B) e₂ c₂
          (refl, omega arith, omega arith) (at_advance ws wr (width B) m hw)
          (omega arith) (omega (arith, length-advance (width B) ws)),
      advance-advance (width B) m ws,
    )
    (bind_last (on_cells t (e₁ + width B) (wr + width B) e₂ c₂) _ _ _ (λ c.
    rw (drop_frame_does c (forward (width B) f₂) (f₁ ∷ rs) (advance (width B + m) ws) e₂ refl, drop_frame_does c f₁ rs (advance (width B + m) ws) e₁ refl)))))

-- THE MACHINE OF FRAMES DOES WHAT ITS CURSORS TELL
pub does : {t : Term} {A B : Ty} → Typed t A B → Does t (width A) (width B)
unfolding bare width exec on_cells ◌>>=◌
does (of_iden {A}) = does_iden A
does (of_comp {s} {t} {A} {B} {C} f g) = does_comp s t B (width A) (width C) (does f) (does g)
does (of_unit {A}) = does_unit (width A)
does (of_injl {t} {A} {B} {C} f) = does_injl t B C (width A) (does f)
does (of_injr {t} {A} {B} {C} f) = does_injr t B C (width A) (does f)
does (of_case {s} {t} {A} {B} {C} {D} f g) = does_case s t A B (width C) (width D) (does f) (does g)
does (of_pair {s} {t} {A} {B} {C} f g) = does_pair s t B (width A) (width C) (does f) (does g)
does (of_take {t} {A} {B} {C} f) = does_take t (width A) (width B) (width C) (does f)
does (of_drop {t} {A} {B} {C} f) = does_drop t A (width B) (width C) (does f)
does (of_assertl {s} {p} {A} {B} {C} {D} f) = does_assertl p s A B (width C) (width D) (does f)
does (of_assertr {t} {p} {A} {B} {C} {D} f) = does_assertr p t A B (width C) (width D) (does f)
does of_fail = λ size most rs ws rd wr nx c hr hw hc hf. refl
does (of_witness {w} {A} {B} h) = λ size most rs ws rd wr nx c hr hw hc hf. rw (value_does B w h rs ws wr nx c hw)
does (of_word {w} {B} k e h) = λ size most rs ws rd wr nx c hr hw hc hf. rw (value_does B w h rs ws wr nx c hw)
does (of_disconnect {s} {t} {h} {A} {B} {C} {D} hh f g) = does_disconnect s t h A B C (width D) hh (does f) (does g)
