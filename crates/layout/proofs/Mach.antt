-- Two machines with the same parts are the same. And the laws of the frame store: how many records its numbers hold,
-- where record k stands in them, and that zeros hold free records. They tie the records that the rules read and set
-- to the numbers that the code is lent.
use Rattle.std.specs.Prelude.{◌≡◌, refl, List, ◌∷◌, ℕ, zero, suc, ◌+◌, ◌*◌, ◌/◌, ◌<◌, length, get_or, drop, replicate}
use Rattle.std.proofs.Common.{ap, ap₂, ◌∙◌, arith, add_assoc, get_or-drop, drop-drop}
use Rattle.std.proofs.lemmas.List.{length-replicate}
use Rattle.limits.specs.Limits.{frame_numbers}
use Rattle.scope.specs.Numbers.{zeros}
use Rattle.scope.specs.Machine.{Frame, frame_at}
use Rattle.common.specs.Lists.{replicate_at}
use Rattle.layout.specs.Mach.{mach, no_frame, first_records, records_of}

-- two machines with the same parts
pub mach_eq : {b b' : List ℕ} {rs rs' : List Frame} {w w' r r' x x' : ℕ} → b ≡ b' → rs ≡ rs' → w ≡ w' → r ≡ r' → x ≡ x'
    → mach b rs w r x ≡ mach b' rs' w' r' x'
mach_eq p q s t u = λ i. mach (p i) (q i) (s i) (t i) (u i)

-- as many records as the numbers hold whole ones
length_first : (n : ℕ) (ns : List ℕ) → length (first_records n ns) ≡ n
unfolding first_records
length_first zero ns = refl
length_first (suc n) ns = ap suc (length_first n _)

pub length-records_of : (ns : List ℕ) → length (records_of ns) ≡ length ns / frame_numbers
unfolding records_of
length-records_of ns = length_first (length ns / frame_numbers) ns

-- a record behind others
frame_at-drop : (j : ℕ) (ns : List ℕ) (at : ℕ) → frame_at (drop j ns) at ≡ frame_at ns (j + at)
frame_at-drop j ns at = simp (get_or-drop, add_assoc)

-- record k, read from its numbers
first_get : (n : ℕ) (ns : List ℕ) (k : ℕ) → k < n → get_or (first_records n ns) k no_frame ≡ frame_at ns (frame_numbers * k)
unfolding first_records
first_get zero ns k h = absurd (omega arith)
first_get (suc n) ns zero h = refl
first_get (suc n) ns (suc k) h =
    let e : frame_numbers + frame_numbers * k ≡ frame_numbers * suc k = omega arith in
    first_get n (drop frame_numbers ns) k (omega arith) ∙ frame_at-drop frame_numbers ns (frame_numbers * k) ∙ ap (frame_at ns) e

pub record_get : (ns : List ℕ) (k : ℕ) → k < length ns / frame_numbers → get_or (records_of ns) k no_frame ≡ frame_at ns (frame_numbers * k)
unfolding records_of
record_get ns k h = first_get (length ns / frame_numbers) ns k h

-- numbers that are all zero hold free records
first_zeros : (n m j : ℕ) → first_records n (drop j (zeros m)) ≡ replicate n no_frame
unfolding first_records
first_zeros zero m j = refl
first_zeros (suc n) m j =
    ap₂ (λ f fs. f ∷ fs) (frame_at-drop j (zeros m) 0 ∙ simp replicate_at)
    (ap (first_records n) (drop-drop frame_numbers j (zeros m)) ∙ first_zeros n m (j + frame_numbers))

pub records_zero : (n : ℕ) → records_of (zeros n) ≡ replicate (n / frame_numbers) no_frame
unfolding records_of
records_zero n = ap (λ k. first_records (k / frame_numbers) (zeros n)) (length-replicate n 0) ∙ first_zeros (n / frame_numbers) n 0
