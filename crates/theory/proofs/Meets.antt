-- What the machine leaves in its cells meets the meaning: the write range holds the value that the term's meaning gives.
-- Nothing else is changed but the write range and as many free cells as the bounds say, also where the run stops.
use Rattle.std.specs.Prelude.{◌≡◌, refl, List, [], ◌∷◌, ℕ, zero, suc, ◌+◌, ◌≤◌, max, length}
use Rattle.std.proofs.Math.Path.{ap, subst}
use Rattle.std.proofs.Common.{ap₂, ◌∙◌, arith, add-zero}
use Rattle.report.specs.Bits.{Bit}
use Rattle.report.specs.Types.{Ty, one, sum, prod, width, pad_l, pad_r, word_ty}
use Rattle.report.specs.Values.{Val, inl, inr, ◌&◌, HasTy, Cells, padded, value_at}
use Rattle.report.specs.Terms.{Term, iden, comp, unit, injl, injr, case, pair, take, drop, assertl, assertr, disconnect}
use Rattle.report.specs.Typing.{Typed, of_iden, of_comp, of_unit, of_injl, of_injr, of_case, of_pair, of_take, of_drop, of_assertl, of_assertr, of_fail, of_witness, of_word, of_disconnect}
use Rattle.report.specs.Meaning.{Out, done, failed, pruned, ◌>>=◌, Means, split, branch, eval}
use Rattle.scope.specs.Machine.{put_bits, copy_cells}
use Rattle.scope.specs.Bounds.{bounds}
use Rattle.exactness.specs.Values.{length-padded}
use Rattle.theory.specs.Cursors.{on_cells}
use Rattle.theory.specs.Cells.{Apart, Kept}
use Rattle.theory.proofs.Cells.{bits_in, bits_out, copy_in, copy_out, same_value, value_kept, value_bits, value_copy, value_left, value_right, value_written}

-- A meaning and a run from the cells c agree: the value is left at `wr`, or both stop, in the same way and place;
-- and nothing but the write range and x free cells is changed.
pub data Agrees (B : Ty) (wr nx x : ℕ) (c : Cells) : Means → Out Cells Cells → Type 0 where
  of_done : {v : Val} {d : Cells} → value_at B d wr ≡ v → Kept wr (width B) nx x c d → Agrees B wr nx x c (done v) (done d)
  of_failed : {p : ℕ} {d : Cells} → Kept wr (width B) nx x c d → Agrees B wr nx x c (failed p tt) (failed p d)
  of_pruned : {p : ℕ} {d : Cells} → Kept wr (width B) nx x c d → Agrees B wr nx x c (pruned p tt) (pruned p d)

module _ {B B' : Ty} {wr wr' nx nx' x x' : ℕ} {c c' : Cells} where
  -- one after the other
  agrees_bind : {o : Means} {r : Out Cells Cells} (f : Val → Means) (g : Cells → Out Cells Cells) → Agrees B wr nx x c o r
      → ((d : Cells) → Kept wr (width B) nx x c d → Kept wr' (width B') nx' x' c' d)
      → ((d : Cells) → Kept wr (width B) nx x c d → Agrees B' wr' nx' x' c' (f (value_at B d wr)) (g d))
      → Agrees B' wr' nx' x' c' (o >>= f) (r >>= g)
  unfolding ◌>>=◌
  agrees_bind f g (of_done {d = d} e k) keep h = subst (λ (v : Val). Agrees B' wr' nx' x' c' (f v) (g d)) e (h d k)
  agrees_bind f g (of_failed {d = d} k) keep h = of_failed (keep d k)
  agrees_bind f g (of_pruned {d = d} k) keep h = of_pruned (keep d k)

  -- a change of the value alone
  agrees_map : {o : Means} {r : Out Cells Cells} (f : Val → Val) → Agrees B wr nx x c o r
      → ((d : Cells) → Kept wr (width B) nx x c d → Kept wr' (width B') nx' x' c' d)
      → ((d : Cells) → Kept wr (width B) nx x c d → value_at B' d wr' ≡ f (value_at B d wr))
      → Agrees B' wr' nx' x' c' (o >>= λ v. done (f v)) r
  unfolding ◌>>=◌
  agrees_map f (of_done {d = d} e k) keep h = of_done (h d k ∙ ap f e) (keep d k)
  agrees_map f (of_failed {d = d} k) keep h = of_failed (keep d k)
  agrees_map f (of_pruned {d = d} k) keep h = of_pruned (keep d k)

-- a change of what it is compared with
pub agrees_from : {B : Ty} {wr nx nx' x x' : ℕ} {c c' : Cells} {o : Means} {r : Out Cells Cells} → Agrees B wr nx x c o r
    → ((d : Cells) → Kept wr (width B) nx x c d → Kept wr (width B) nx' x' c' d)
    → Agrees B wr nx' x' c' o r
agrees_from (of_done {d = d} e k) keep = of_done e (keep d k)
agrees_from (of_failed {d = d} k) keep = of_failed (keep d k)
agrees_from (of_pruned {d = d} k) keep = of_pruned (keep d k)

-- A term does what it means, wherever it is run: given that its input and its output lie below nx and apart.
abbrev pub Meets : Term → Ty → Ty → Type 0
Meets t A B = (rd wr nx : ℕ) (c : Cells) → rd + width A ≤ nx → wr + width B ≤ nx → Apart rd (width A) wr (width B)
    → Agrees B wr nx (bounds t).cells c (eval t (value_at A c rd)) (on_cells t rd wr nx c)

-- iden copies its input
meets_iden : (A : Ty) → Meets (iden A) A A
unfolding eval on_cells
meets_iden A rd wr nx c ra wb apart = of_done (same_value A _ c wr rd (copy_in c rd wr (width A) apart)) (λ j out free. copy_out c rd wr (width A) j out)

-- comp: the middle stands in the first free cells
meets_comp : (s t : Term) (A B C : Ty) → Meets s A B → Meets t B C → Meets (comp B s t) A C
unfolding eval on_cells bounds
meets_comp s t A B C hs ht rd wr nx c ra wb apart = agrees_bind _ _ (hs rd nx (nx + width B) c (omega arith) (omega arith) (omega arith)) keep
    (λ d k. agrees_from (ht nx wr (nx + width B) d (omega arith) (omega arith) (omega arith))
    (λ e l j out free. l j out (λ i. free (omega arith)) ∙ keep d k j out free))
  where
    keep : (d : Cells) → Kept nx (width B) (nx + width B) (bounds s).cells c d
        → Kept wr (width C) nx (width B + max (bounds s).cells (bounds t).cells) c d
    keep d k j out free = k j (λ i. free (omega arith)) (λ i. free (omega arith))

-- unit writes nothing
meets_unit : (A : Ty) → Meets unit A one
unfolding eval on_cells value_at
meets_unit A rd wr nx c ra wb apart = of_done refl (λ j out free. refl)

-- an injection into the sum S: the tag, padding, and a value of the type X
meets_inj : (b : Bit) (f : Val → Val) (pad : ℕ) (t : Term) (A X S : Ty) → Meets t A X → width S ≡ 1 + pad + width X
    → ((d : Cells) (wr : ℕ) → d wr ≡ b → value_at S d wr ≡ f (value_at X d (wr + (1 + pad))))
    → (rd wr nx : ℕ) (c : Cells) → rd + width A ≤ nx → wr + width S ≤ nx → Apart rd (width A) wr (width S)
    → Agrees S wr nx (bounds t).cells c (eval t (value_at A c rd) >>= λ v. done (f v)) (on_cells t rd (wr + (1 + pad)) nx (put_bits c wr (b ∷ [])))
meets_inj b f pad t A X S h e read rd wr nx c ra wb apart =
    let c₁ : Cells = put_bits c wr (b ∷ []) in
    subst (λ (v : Val). Agrees S wr nx (bounds t).cells c (eval t v >>= λ v. done (f v)) (on_cells t rd (wr + (1 + pad)) nx c₁))
    (value_bits A c rd wr (b ∷ []) (λ j p q. apart j p (omega arith)))
    (agrees_map f (h rd (wr + (1 + pad)) nx c₁ (omega arith) (omega arith) (λ j p q. apart j p (omega arith)))
    (λ d k j out free. k j (λ i. out (omega arith)) free ∙ bits_out c wr (b ∷ []) j (λ i. out (omega arith)))
    (λ d k. read d wr (k wr (omega arith) (omega arith) ∙ (rw (add-zero wr) at (bits_in c wr (b ∷ []) 0 (omega arith))))))

-- injl
meets_injl : (t : Term) (A B C : Ty) → Meets t A B → Meets (injl B C t) A (sum B C)
unfolding eval on_cells width pad_l bounds
meets_injl t A B C h = meets_inj 0 inl (pad_l B C) t A B (sum B C) h (omega arith) (λ d wr e. value_left B C d wr e)

-- injr
meets_injr : (t : Term) (A B C : Ty) → Meets t A C → Meets (injr B C t) A (sum B C)
unfolding eval on_cells width pad_r bounds
meets_injr t A B C h = meets_inj 1 inr (pad_r B C) t A C (sum B C) h (omega arith) (λ d wr e. value_right B C d wr 0 e)

-- the branch of a case, whose tag and padding are n - width X cells
meets_branch : (t : Term) (X C D : Ty) (pad n : ℕ) → n ≡ 1 + pad + width X → Meets t (prod X C) D
    → (rd wr nx : ℕ) (c : Cells) → rd + (n + width C) ≤ nx → wr + width D ≤ nx → Apart rd (n + width C) wr (width D)
    → (x : ℕ) → (bounds t).cells ≤ x → Agrees D wr nx x c (eval t (value_at X c (rd + (1 + pad)) & value_at C c (rd + n))) (on_cells t (rd + (1 + pad)) wr nx c)
unfolding value_at width
meets_branch t X C D pad n e h rd wr nx c ra wb apart x xx =
    let e' : rd + (1 + pad) + width X ≡ rd + n = omega arith in
    subst (λ (i : ℕ). Agrees D wr nx x c (eval t (value_at X c (rd + (1 + pad)) & value_at C c i)) (on_cells t (rd + (1 + pad)) wr nx c)) e'
    (agrees_from (h (rd + (1 + pad)) wr nx c (omega arith) wb (λ j p q. apart j (omega arith) q)) (λ d k j out free. k j out (λ i. free (omega arith))))

-- case: the tag chooses the branch
meets_case : (s t : Term) (A B C D : Ty) → Meets s (prod A C) D → Meets t (prod B C) D → Meets (case A B s t) (prod (sum A B) C) D
unfolding eval on_cells value_at split branch width pad_l pad_r bounds
meets_case s t A B C D hs ht rd wr nx c ra wb apart = go (c rd) refl
  where
    go : (b : Bit) → c rd ≡ b → Agrees D wr nx (bounds (case A B s t)).cells c (eval (case A B s t) (value_at (prod (sum A B) C) c rd))
        (on_cells (case A B s t) rd wr nx c)
    go zero e = rw (e, on_cells, value_at) (meets_branch s A C D (pad_l A B) (width (sum A B)) (omega arith) hs rd wr nx c ra wb apart _ (omega arith))
    go (suc b) e = rw (e, on_cells, value_at) (meets_branch t B C D (pad_r A B) (width (sum A B)) (omega arith) ht rd wr nx c ra wb apart _ (omega arith))

-- a case with its right branch pruned
meets_assertl : (p : ℕ) (s : Term) (A B C D : Ty) → Meets s (prod A C) D → Meets (assertl p A B s) (prod (sum A B) C) D
unfolding eval on_cells value_at split branch width pad_l pad_r bounds
meets_assertl p s A B C D hs rd wr nx c ra wb apart = go (c rd) refl
  where
    go : (b : Bit) → c rd ≡ b
        → Agrees D wr nx (bounds (assertl p A B s)).cells c (eval (assertl p A B s) (value_at (prod (sum A B) C) c rd)) (on_cells (assertl p A B s) rd wr nx c)
    go zero e = rw (e, on_cells, value_at) (meets_branch s A C D (pad_l A B) (width (sum A B)) (omega arith) hs rd wr nx c ra wb apart _ (omega arith))
    go (suc b) e = rw (e, on_cells, value_at) (of_pruned (λ j out free. refl))

-- a case with its left branch pruned
meets_assertr : (p : ℕ) (t : Term) (A B C D : Ty) → Meets t (prod B C) D → Meets (assertr p A B t) (prod (sum A B) C) D
unfolding eval on_cells value_at split branch width pad_l pad_r bounds
meets_assertr p t A B C D ht rd wr nx c ra wb apart = go (c rd) refl
  where
    go : (b : Bit) → c rd ≡ b
        → Agrees D wr nx (bounds (assertr p A B t)).cells c (eval (assertr p A B t) (value_at (prod (sum A B) C) c rd)) (on_cells (assertr p A B t) rd wr nx c)
    go zero e = rw (e, on_cells, value_at) (of_pruned (λ j out free. refl))
    go (suc b) e = rw (e, on_cells, value_at) (meets_branch t B C D (pad_r A B) (width (sum A B)) (omega arith) ht rd wr nx c ra wb apart _ (omega arith))

-- pair: the input is still there for the right child, and the left value when the right one is written
meets_pair : (s t : Term) (A B C : Ty) → Meets s A B → Meets t A C → Meets (pair B s t) A (prod B C)
unfolding eval on_cells value_at width bounds
meets_pair s t A B C hs ht rd wr nx c ra wb apart = agrees_bind _ _ (hs rd wr nx c ra (omega arith) (λ j p q. apart j p (omega arith))) keep
    (λ d k. subst (λ (v : Val). Agrees (prod B C) wr nx (bounds (pair B s t)).cells c (eval t v >>= λ y. done (value_at B d wr & y))
    (on_cells t rd (wr + width B) nx d))
    (value_kept A c d rd wr (width B) nx (bounds s).cells k ra (λ j p q. apart j p (omega arith)))
    (agrees_map (λ y. value_at B d wr & y) (ht rd (wr + width B) nx d ra (omega arith) (λ j p q. apart j p (omega arith)))
    (λ e l j out free. l j (λ i. out (omega arith)) (λ i. free (omega arith)) ∙ keep d k j out free)
    (λ e l. ap (◌& value_at C e (wr + width B)) (value_kept B d e wr (wr + width B) (width C) nx (bounds t).cells l (omega arith) (omega arith)))))
  where
    keep : (d : Cells) → Kept wr (width B) nx (bounds s).cells c d → Kept wr (width B + width C) nx (max (bounds s).cells (bounds t).cells) c d
    keep d k j out free = k j (λ i. out (omega arith)) (λ i. free (omega arith))

-- take reads the left part
meets_take : (t : Term) (A B C : Ty) → Meets t A C → Meets (take t) (prod A B) C
unfolding eval on_cells value_at split width bounds
meets_take t A B C h rd wr nx c ra wb apart = h rd wr nx c (omega arith) wb (λ j p q. apart j (omega arith) q)

-- drop reads the right part
meets_drop : (t : Term) (A B C : Ty) → Meets t B C → Meets (drop A t) (prod A B) C
unfolding eval on_cells value_at split width bounds
meets_drop t A B C h rd wr nx c ra wb apart = h (rd + width A) wr nx c (omega arith) wb (λ j p q. apart j (omega arith) q)

-- a value's padded bits at the write cursor
meets_bits : (A : Ty) (w : Val) → HasTy w A → (wr nx x : ℕ) (c : Cells) → Agrees A wr nx x c (done w) (done (put_bits c wr (padded A w)))
meets_bits A w h wr nx x c = of_done (value_written h c wr) (λ j out free. bits_out c wr (padded A w) j (rw (length-padded h) out))

-- what disconnect hands its left child: the hash, and a copy of its own input
handed : (H A : Ty) (h : Val) → HasTy h H → (rd nx : ℕ) (c : Cells) → rd + width A ≤ nx
    → value_at (prod H A) (copy_cells (put_bits c nx (padded H h)) rd (nx + width H) (width A)) nx ≡ h & value_at A c rd
unfolding value_at
handed H A h hh rd nx c ra =
    let e : length (padded H h) ≡ width H = length-padded hh in
    let c₀ : Cells = put_bits c nx (padded H h) in
    let c₁ : Cells = copy_cells c₀ rd (nx + width H) (width A) in
    ap₂ ◌&◌
    (value_copy H c₀ nx rd (nx + width H) (width A) (omega arith) ∙ value_written hh c nx)
    (same_value A c₁ c₀ (nx + width H) rd (copy_in c₀ rd (nx + width H) (width A) (omega arith)) ∙ value_bits A c rd nx (padded H h) (omega arith))

-- disconnect: the left child reads the hash and a copy of the input; the right one reads the second half of its result
meets_disconnect : (s t : Term) (h : Val) (A B C D : Ty) → HasTy h (word_ty 8) → Meets s (prod (word_ty 8) A) (prod B C) → Meets t C D
    → Meets (disconnect A B C h s t) A (prod B D)
unfolding eval on_cells split width bounds value_at
meets_disconnect s t h A B C D hh hs ht rd wr nx c ra wb apart =
    let W : ℕ = width (word_ty 8) in
    let m : ℕ = nx + (W + width A) in
    let e : ℕ = m + (width B + width C) in
    let x : ℕ = (bounds (disconnect A B C h s t)).cells in
    let bs : List Bit = padded (word_ty 8) h in
    let len : length bs ≡ W = length-padded hh in
    let c₀ : Cells = put_bits c nx bs in
    let c₁ : Cells = copy_cells c₀ rd (nx + W) (width A) in
    let keep : (d : Cells) → Kept m (width B + width C) e (bounds s).cells c₁ d → Kept wr (width B + width D) nx x c d =
    λ d k j out free. k j (λ i. free (omega arith)) (λ i. free (omega arith))
    ∙ copy_out c₀ rd (nx + W) (width A) j (λ i. free (omega arith))
    ∙ bits_out c nx bs j (λ i. free (omega arith)) in
    subst (λ (v : Val). Agrees (prod B D) wr nx x c (eval s v >>= λ bc. split bc λ b c. eval t c >>= λ d. done (b & d))
    (on_cells (disconnect A B C h s t) rd wr nx c))
    (handed (word_ty 8) A h hh rd nx c ra)
    (agrees_bind _ _ (hs nx m e c₁ (omega arith) (omega arith) (omega arith)) keep
    (λ d k.
    let d₁ : Cells = copy_cells d m wr (width B) in
    subst (λ (v : Val). Agrees (prod B D) wr nx x c (eval t v >>= λ y. done (value_at B d m & y)) (on_cells t (m + width B) (wr + width B) e d₁))
    (value_copy C d (m + width B) m wr (width B) (omega arith))
    (agrees_map (λ y. value_at B d m & y) (ht (m + width B) (wr + width B) e d₁ (omega arith) (omega arith) (omega arith))
    (λ d' l j out free. l j (λ i. out (omega arith)) (λ i. free (omega arith)) ∙ copy_out d m wr (width B) j (λ i. out (omega arith)) ∙ keep d k j out free)
    (λ d' l. ap (◌& value_at D d' (wr + width B))
    (value_kept B d₁ d' wr (wr + width B) (width D) e (bounds t).cells l (omega arith) (omega arith)
    ∙ same_value B d₁ d wr m (copy_in d m wr (width B) (omega arith)))))))

-- a typed term on the cells does what it means
pub meets : {t : Term} {A B : Ty} → Typed t A B → Meets t A B
unfolding eval on_cells bounds
meets (of_iden {A}) = meets_iden A
meets (of_comp {s} {t} {A} {B} {C} f g) = meets_comp s t A B C (meets f) (meets g)
meets (of_unit {A}) = meets_unit A
meets (of_injl {t} {A} {B} {C} f) = meets_injl t A B C (meets f)
meets (of_injr {t} {A} {B} {C} f) = meets_injr t A B C (meets f)
meets (of_case {s} {t} {A} {B} {C} {D} f g) = meets_case s t A B C D (meets f) (meets g)
meets (of_pair {s} {t} {A} {B} {C} f g) = meets_pair s t A B C (meets f) (meets g)
meets (of_take {t} {A} {B} {C} f) = meets_take t A B C (meets f)
meets (of_drop {t} {A} {B} {C} f) = meets_drop t A B C (meets f)
meets (of_assertl {s} {p} {A} {B} {C} {D} f) = meets_assertl p s A B C D (meets f)
meets (of_assertr {t} {p} {A} {B} {C} {D} f) = meets_assertr p t A B C D (meets f)
meets of_fail = λ rd wr nx c ra wb apart. of_failed (λ j out free. refl)
meets (of_witness {w} {A} {B} h) = λ rd wr nx c ra wb apart. meets_bits B w h wr nx _ c
meets (of_word {w} {B} k e h) = λ rd wr nx c ra wb apart. meets_bits B w h wr nx _ c
meets (of_disconnect {s} {t} {h} {A} {B} {C} {D} hh f g) = meets_disconnect s t h A B C D hh (meets f) (meets g)
