-- Whole runs of a typed term, with the input's frame and the output's: never stuck, the answer is the meaning whatever bits the cells held before,
-- and the cells at or past the bound keep their old bits, also where the run stops.
use Rattle.std.specs.Prelude.{◌≡◌, refl, List, [], ◌∷◌, ℕ, zero, suc, ◌+◌, ◌≤◌, length}
use Rattle.std.proofs.Common.{◌∙◌, subst, arith, zero-add, add-zero}
use Rattle.report.specs.Bits.{Bit}
use Rattle.report.specs.Types.{Ty, width}
use Rattle.report.specs.Values.{Val, HasTy, Cells, padded}
use Rattle.report.specs.Terms.{Term}
use Rattle.report.specs.Typing.{Typed}
use Rattle.report.specs.Meaning.{done, ◌>>=◌, Means, eval}
use Rattle.scope.specs.Machine.{Frame, frame_from, Step, state, forward, reset, put_bits, write_bits, move_frame, exec, input, output, machine, answer}
use Rattle.scope.specs.Bounds.{bounds}
use Rattle.exactness.specs.Values.{length-padded}
use Rattle.theory.specs.Cells.{Kept}
use Rattle.theory.proofs.Cells.{bits_out, value_written}
use Rattle.theory.specs.Instructions.{At, advance}
use Rattle.theory.proofs.Instructions.{new_frame_does, write_bits_does}
use Rattle.theory.specs.Correct.{Ends, of_value, of_fails, of_prunes}
use Rattle.theory.proofs.Correct.{exec_within}
use Rattle.theory.specs.Entry.{Stacked}
use Rattle.theory.proofs.Entry.{no_frames, stacked_push}
use Rattle.theory.specs.WholeRuns.{Ran, ran_value, ran_fail, ran_prune}

-- an input of n bits: a read frame of n cells, or none where n is 0; it stands below the first free cell
pub input_does : (size most n : ℕ) (bits : List Bit) (c : Cells) → length bits ≡ n → n ≤ size → 1 ≤ most
    → (rs : List Frame) × (input size most n bits (state c [] [] 0) ≡ done (state (put_bits c 0 bits) rs [] n)) × At rs 0 n × (length rs ≤ 1) × Stacked rs [] n
unfolding input At put_bits write_bits ◌>>=◌ move_frame reset advance forward state
input_does size most zero [] c e l f = ([], refl, omega arith, omega arith, no_frames 0)
input_does size most zero (b ∷ bs) c e l f = absurd (omega arith)
input_does size most (suc n) bits c e l f =
    let fr : Frame = frame_from 0 (suc n) in (
      fr ∷ [],
      rw (
        new_frame_does size most c [] [] 0 (suc n) (omega arith) (omega arith),
        zero-add (suc n),
        write_bits_does c [] (fr ∷ []) (suc n) bits 0 (refl, omega arith, omega arith),
      ),
      (refl, omega arith, omega arith),
      omega arith,
      record { reads = (omega arith, tt); writes = tt; apart = (tt, tt) },
    )

-- an output of n bits: a write frame of n cells, or none where n is 0
pub output_does : (size most n : ℕ) (c : Cells) (rs : List Frame) (nx : ℕ) → nx + n ≤ size → length rs + 1 ≤ most
    → (ws : List Frame) × (output size most n (state c rs [] nx) ≡ done (state c rs ws (nx + n))) × At ws nx n × (length ws ≤ 1)
    × (Stacked rs [] nx → Stacked rs ws (nx + n))
unfolding output At
output_does size most zero c rs nx l f = ([], rw (add-zero nx), omega arith, omega arith, λ h. rw (add-zero nx) h)
output_does size most (suc n) c rs nx l f = (
  frame_from nx (suc n) ∷ [],
  new_frame_does size most c rs [] nx (suc n) l (omega arith),
  (refl, omega arith, omega arith),
  omega arith,
  stacked_push (suc n),
)

-- from the end of the term to the end of the whole run
ran : (A B : Ty) (v : Val) (x : ℕ) (rs ws : List Frame) (c : Cells) → HasTy v A → {o : Means} {e : Step}
    → Ends B (width A) (width A + width B) x rs ws (put_bits c 0 (padded A v)) o e → Ran B (width A) (width A + width B + x) c o e
unfolding state
ran A B v x rs ws c hv h = go h
  where
    old : (d : Cells) → Kept (width A) (width B) (width A + width B) x (put_bits c 0 (padded A v)) d → (j : ℕ) → width A + width B + x ≤ j → d j ≡ c j
    old d k j l = k j (omega arith) (omega arith) ∙ bits_out c 0 (padded A v) j (rw (length-padded hv) (omega arith))

    go : {o : Means} {e : Step} → Ends B (width A) (width A + width B) x rs ws (put_bits c 0 (padded A v)) o e → Ran B (width A) (width A + width B + x) c o e
    go (of_value {v = w} {d = d} q k) =
        subst (λ (w : Val). Ran B (width A) (width A + width B + x) c (done w) (done (state d rs (advance (width B) ws) (width A + width B)))) q
        (ran_value (old d k))
    go (of_fails {s = s} k) = ran_fail (old s.cells k)
    go (of_prunes {s = s} k) = ran_prune (old s.cells k)

-- A WHOLE RUN, with as many cells and frames as the bounds say
pub machine_within : {t : Term} {A B : Ty} {v : Val} → Typed t A B → HasTy v A → (size most : ℕ) (c : Cells)
    → width A + width B + (bounds t).cells ≤ size → (bounds t).frames + 2 ≤ most
    → Ran B (width A) (width A + width B + (bounds t).cells) c (eval t v) (machine size most t A B v c)
unfolding machine ◌>>=◌
machine_within {t} {A} {B} {v} h hv size most c hc hf =
    let bits : List Bit = padded A v in
    let i = input_does size most (width A) bits c (length-padded hv) (omega arith) (omega arith) in
    let rs : List Frame = i.0 in
    let c₁ : Cells = put_bits c 0 bits in
    let o = output_does size most (width B) c₁ rs (width A) (omega arith) (omega arith) in
    let ws : List Frame = o.0 in
    rw (i.1, o.1)
    (subst (λ (v' : Val). Ran B (width A) (width A + width B + (bounds t).cells) c (eval t v') (exec size most t (state c₁ rs ws (width A + width B))))
    (value_written hv c 0)
    (ran A B v (bounds t).cells rs ws c hv
    (exec_within h size most rs ws 0 (width A) (width A + width B) c₁ i.2 o.2 (omega arith) (omega arith) (omega arith) (omega arith)
    (omega (arith, i.3, o.3)))))

-- a run that ended so answers the meaning
pub ran_answer : (A : Ty) {B : Ty} {total : ℕ} {c : Cells} {o : Means} {e : Step} → Ran B (width A) total c o e → answer A B e ≡ o
unfolding answer
ran_answer A (ran_value k) = refl
ran_answer A (ran_fail k) = refl
ran_answer A (ran_prune k) = refl
