-- A part of a lent slice of bytes as it is handed back, not a copy: where it stands, and what it holds.
-- A place is a block of memory and a number of bytes from its start; each reference has one, also to an empty part.
-- And what code that cuts a part from a to e has cut, where the part is past the end, reaches past it, or lies within.
use Rattle.std.specs.Prelude.{◌≡◌, List, ℕ, ◌+◌, ◌-◌, ◌≤◌, ◌<◌, min, length, take, drop}
use Rattle.std.proofs.Common.{sym, ap, ◌∙◌, arith, length-drop, drop_of_length-le, take_all}
use Rattle.std.proofs.Math.Nat.{min-eq_left, min-eq_right}
use Rattle.std.proofs.Math.Seq.{take-nil}
use Rattle.std.specs.Borrow.{Bor}

pub record Part : Type 0 where
  pub place : ℕ × ℕ
  pub bytes : List ℕ

-- a slice is a part of itself
abbrev pub part_of : Bor (List ℕ) → Part
part_of slice = record { place = slice.ref_ptr; bytes = slice.now }

-- so many bytes of a part from a place within it on; past its end they are none, and stand at its end
abbrev pub cut : Part → (at size : ℕ) → Part
cut part at size = record {
  place = (part.place.0, part.place.1 + min at (length part.bytes));
  bytes = take size (drop at part.bytes);
}

module _ (part : Part) (at size : ℕ) where
  abbrev all : ℕ
  all = length part.bytes

  -- from a to e, as the code reckons it
  abbrev pub from_to : (a e : ℕ) → Part
  from_to a e = record { place = (part.place.0, a + part.place.1); bytes = take (e - a) (drop a part.bytes) }

  same_cut : (a e : ℕ) → a ≡ min at all → take (e - a) (drop a part.bytes) ≡ take size (drop at part.bytes) → from_to a e ≡ cut part at size
  same_cut a e p q =
      let s : a + part.place.1 ≡ part.place.1 + min at all = omega (arith, p) in
      λ i. record { place = (part.place.0, s i); bytes = q i }

  pub cut_past : all < at → from_to all all ≡ cut part at size
  cut_past h =
      same_cut all all (sym (min-eq_right (omega arith)))
      (ap (take (all - all)) (drop_of_length-le part.bytes {i = all} (omega arith)) ∙ take-nil {A = ℕ} (all - all)
      ∙ sym (ap (take size) (drop_of_length-le part.bytes {i = at} (omega arith)) ∙ take-nil {A = ℕ} size))

  pub cut_rest : at ≤ all → all - at < size → from_to at all ≡ cut part at size
  cut_rest h l =
      let n : length (drop at part.bytes) ≡ all - at = length-drop at part.bytes in
      same_cut at all (sym (min-eq_left h))
      (take_all (all - at) (drop at part.bytes) (omega arith) ∙ sym (take_all size (drop at part.bytes) (omega arith)))

  pub cut_within : at ≤ all → from_to at (at + size) ≡ cut part at size
  cut_within h =
      let n : at + size - at ≡ size = omega arith in
      same_cut at (at + size) (sym (min-eq_left h)) (ap (λ (n : ℕ). take n (drop at part.bytes)) n)
