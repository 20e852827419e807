-- A record of the frame store, read and written by its numbers; writing record k is setting it among the records, and nothing else changes.
use mathlib.Core.Path.{◌≡◌, refl, sym, ap, ap₂, ◌∙◌}
use mathlib.Core.List.{List, [], ◌∷◌, ◌++◌, append_assoc}
use Prim.Native.Nat.{ℕ, zero, suc, ◌+◌, ◌*◌, ◌/◌, ◌<◌, ◌≤◌}
use native.Mathlib.Omega.{arith}
use native.Mathlib.Numerals.{unary_clauses}
use lib.ListN.{length, get_or, set, take, drop, length-drop, length-set, take-append-drop, get_or-eq_default}
use lib.Seq.{drop-cons, take-add, drop-drop, set_out, sets, sets-eq}
use Rattle.limits.specs.Limits.{frame_numbers}
use Rattle.scope.specs.Numbers.{tabulate_from}
use Rattle.scope.specs.Machine.{Frame, frame_at, frame_numbers_of, frame_back}
use Rattle.layout.specs.Mach.{no_frame, first_records, records_of}
use Rattle.layout.proofs.Mach.{length-records_of, record_get}
use Rattle.frame.specs.Store.{with_records}

pub record_in : (ns : List ℕ) (k : ℕ) → k < length ns / frame_numbers → frame_at ns (frame_numbers * k) ≡ get_or (records_of ns) k no_frame
record_in ns k h = sym (record_get ns k h)

pub record_past : (ns : List ℕ) (k : ℕ) → length ns / frame_numbers ≤ k → no_frame ≡ get_or (records_of ns) k no_frame
record_past ns k h = sym (get_or-eq_default (records_of ns) no_frame {n = k} (omega (arith, length-records_of ns)))

-- numbers of a store, one after the other
taken_from : (i n : ℕ) (ns : List ℕ) → i + n ≤ length ns → take n (drop i ns) ≡ tabulate_from i n (λ j. get_or ns j 0)
unfolding tabulate_from
taken_from i zero ns h = refl
taken_from i (suc n) ns h = rw (drop-cons ns i 0 (omega arith)) (ap (λ (l : List ℕ). get_or ns i 0 ∷ l) (taken_from (suc i) n ns (omega arith)))

-- the first record is made of the first numbers
numbers_back : (ns : List ℕ) → frame_numbers ≤ length ns → frame_numbers_of (frame_at ns 0) ≡ take frame_numbers ns
unfolding tabulate_from
numbers_back ns h = sym (taken_from 0 frame_numbers ns (omega arith))

-- a store holds its own records
own_first : (n : ℕ) (ns : List ℕ) → frame_numbers * n ≤ length ns → with_records (first_records n ns) ns ≡ ns
unfolding with_records first_records
own_first zero ns h = refl
own_first (suc n) ns h =
    ap₂ (λ (a b : List ℕ). a ++ b) (numbers_back ns (omega arith)) (own_first n (drop frame_numbers ns) (omega (arith, length-drop frame_numbers ns)))
    ∙ take-append-drop frame_numbers ns

own_records : (ns : List ℕ) → with_records (records_of ns) ns ≡ ns
unfolding records_of
own_records ns = own_first (length ns / frame_numbers) ns (omega arith)

pub put_past : (ns : List ℕ) (k : ℕ) (f : Frame) → length ns / frame_numbers ≤ k → ns ≡ with_records (set (records_of ns) k f) ns
put_past ns k f h =
    sym (ap (λ (rs : List Frame). with_records rs ns) (set_out (records_of ns) k f (omega (arith, length-records_of ns))) ∙ own_records ns)

-- and keeps all numbers but those of the record that is set
put_first : (n : ℕ) (ns : List ℕ) (k : ℕ) (f : Frame) → k < n → frame_numbers * n ≤ length ns
    → with_records (set (first_records n ns) k f) ns ≡ take (frame_numbers * k) ns ++ frame_numbers_of f ++ drop (frame_numbers * k + frame_numbers) ns
unfolding with_records first_records
put_first zero ns k f l h = absurd (omega arith)
put_first (suc n) ns zero f l h =
    ap (λ (r : List ℕ). frame_numbers_of f ++ r) (own_first n (drop frame_numbers ns) (omega (arith, length-drop frame_numbers ns)))
put_first (suc n) ns (suc k) f l h =
    let e : frame_numbers + frame_numbers * k ≡ frame_numbers * suc k = omega arith in
    let g : frame_numbers + (frame_numbers * k + frame_numbers) ≡ frame_numbers * suc k + frame_numbers = omega arith in
    ap₂ (λ (a b : List ℕ). a ++ b) (numbers_back ns (omega arith))
    (put_first n (drop frame_numbers ns) k f (omega arith) (omega (arith, length-drop frame_numbers ns))
    ∙ ap (λ (r : List ℕ). take (frame_numbers * k) (drop frame_numbers ns) ++ frame_numbers_of f ++ r)
    (drop-drop (frame_numbers * k + frame_numbers) frame_numbers ns))
    ∙ rw (← g, ← e, take-add) (simp append_assoc)

-- a record's numbers, set one after the other as the code does it
pub numbers_set : (ns : List ℕ) (at : ℕ) (f : Frame) → set (set (set ns at f.cursor) (at + 1) f.start) (at + 2) f.len ≡ sets ns at (frame_numbers_of f)
numbers_set ns at f = simp unary_clauses

pub put_in : (ns : List ℕ) (k : ℕ) (f : Frame) → k < length ns / frame_numbers
    → sets ns (frame_numbers * k) (frame_numbers_of f) ≡ with_records (set (records_of ns) k f) ns
unfolding records_of
put_in ns k f h =
    sets-eq (frame_numbers_of f) ns (frame_numbers * k) (omega arith)
    ∙ sym (put_first (length ns / frame_numbers) ns k f h (omega arith))

-- what is read back: the records with the one that was set
records_given : (fs : List Frame) (ns : List ℕ) → first_records (length fs) (with_records fs ns) ≡ fs
unfolding with_records first_records
records_given [] ns = refl
records_given (f ∷ fs) ns =
    ap₂ (λ (g : Frame) (gs : List Frame). g ∷ gs) (frame_back f (with_records fs (drop frame_numbers ns))) (records_given fs (drop frame_numbers ns))

length_with : (fs : List Frame) (ns : List ℕ) → frame_numbers * length fs ≤ length ns → length (with_records fs ns) ≡ length ns
unfolding with_records
length_with [] ns h = refl
length_with (f ∷ fs) ns h = omega (arith, length_with fs (drop frame_numbers ns) (omega (arith, length-drop frame_numbers ns)), length-drop frame_numbers ns)

pub records_put : (ns : List ℕ) (k : ℕ) (f : Frame) → records_of (with_records (set (records_of ns) k f) ns) ≡ set (records_of ns) k f
unfolding records_of
records_put ns k f =
    let fs : List Frame = set (records_of ns) k f in
    let size : length fs ≡ length ns / frame_numbers = length-set (records_of ns) k f ∙ length-records_of ns in
    let e : length (with_records fs ns) / frame_numbers ≡ length fs = omega (arith, length_with fs ns (omega arith)) in
    ap (λ (n : ℕ). first_records n (with_records fs ns)) e ∙ records_given fs ns
