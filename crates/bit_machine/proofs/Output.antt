-- The output's compact bits in the answer store: the value's bits from its first bit on, the last byte filled with zeros, later bytes as they were.
use mathlib.Core.Path.{◌≡◌, refl, sym, ap, ap₂, ◌∙◌}
use mathlib.Core.Bool.{true}
use mathlib.Core.List.{List, [], ◌∷◌, ◌++◌}
use Prim.Native.Nat.{ℕ, zero, suc, ◌+◌, ◌*◌, ◌-◌, ◌≤◌}
use native.Mathlib.Omega.{arith}
use native.Mathlib.Nat.{zero-add, suc-add}
use borrow.Author.Tests.{le-leb}
use lib.ListN.{length, get_or, take, drop, length-append, length-drop, length-replicate}
use lib.Seq.{sets, sets-eq, get_or-drop, take-append-le, drop-append-le, take-append-add, drop-nil}
use Rattle.limits.specs.Limits.{cell_count}
use Rattle.report.specs.Bits.{Bit, number_from, bits_of, bytes_of}
use Rattle.report.specs.Types.{Ty, width}
use Rattle.report.specs.Values.{compact, value_at}
use Rattle.scope.specs.Numbers.{zeros, bytes_for, every}
use Rattle.scope.specs.Types.{type_records, ty_at}
use Rattle.scope.specs.Run.{cells_of, written}
use Rattle.common.specs.Checks.{clash}
use Rattle.exactness.specs.Values.{compact_fits, value_typed}
use Rattle.common.specs.Bits.{length_bits}
use Rattle.bititer.proofs.Bits.{Bytes, packing}
use Rattle.bititer.proofs.Octets.{bytes_taken}
use Rattle.types.proofs.Sound.{passed_table}
use Rattle.value.specs.Shapes.{shape_at}
use Rattle.value.specs.Bits.{room, Unpadded, unpadding, unpad_stage}
use Rattle.std.specs.Prelude.{Option, Some, None}
use Rattle.value.proofs.Ways.{room_inside, sets-append}
use Rattle.value.proofs.Sound.{unpadded_to, unpad_is}
use Rattle.ready.specs.Lent.{TypesShown}
use Rattle.ready.proofs.Ends.{width_shown}

-- bits that fill m bytes, and the bits behind them, packed in bytes
bytes_append : (m j : ℕ) (x y : List ℕ) → length x ≡ 8 * m → bytes_of (m + j) (x ++ y) ≡ bytes_of m x ++ bytes_of j y
unfolding bytes_of
bytes_append zero j [] y e = ap (λ (k : ℕ). bytes_of k y) (zero-add j)
bytes_append zero j (b ∷ x) y e = absurd (omega arith)
bytes_append (suc m) j x y e =
    ap (λ (k : ℕ). bytes_of k (x ++ y)) (suc-add m j)
    ∙ ap₂ (λ (first rest : List ℕ). number_from 0 first ∷ rest) (take-append-le 8 x y (omega arith))
    (ap (bytes_of (m + j)) (drop-append-le 8 x y (omega arith)) ∙ bytes_append m j (drop 8 x) y (omega (arith, length-drop 8 x)))

-- the bits behind m bytes
eight : (m : ℕ) → 8 * suc m ≡ suc (suc (suc (suc (suc (suc (suc (suc (8 * m))))))))
eight m = omega arith

bits_behind : (m : ℕ) (bytes : List ℕ) → drop (8 * m) (bits_of bytes) ≡ bits_of (drop m bytes)
unfolding bits_of
bits_behind zero bytes = refl
bits_behind (suc m) [] = drop-nil (8 * suc m)
bits_behind (suc m) (b ∷ bytes) = rw (eight m) (bits_behind m bytes)

zeros_first : (k j : ℕ) → k ≤ j → take k (zeros j) ≡ zeros k
zeros_first zero j h = refl
zeros_first (suc k) zero h = absurd (omega arith)
zeros_first (suc k) (suc j) h = ap (λ (l : List ℕ). 0 ∷ l) (zeros_first k j (omega arith))

-- bits put at the front of a store, and zeros up to the end of their last byte
pub filled_is : (bits : List Bit) (before after : List ℕ) → Bytes before → Bytes after → length after ≡ length before → bytes_for (length bits) ≤ length before
    → bits_of after ≡ sets (sets (bits_of before) 0 bits) (length bits) (zeros (bytes_for (length bits) * 8 - length bits)) → after ≡ written bits before
unfolding written
filled_is bits before after hb ha e fits is =
    let m : ℕ = bytes_for (length bits) in
    let k : ℕ = m * 8 - length bits in
    let x : List ℕ = bits ++ zeros k in
    let z : length (zeros k) ≡ k = length-replicate {A = ℕ} k 0 in
    let lx : length x ≡ 8 * m = omega (arith, length-append bits (zeros k)) in
    let lb : length (bits_of before) ≡ 8 * length before = length_bits before in
    let front : bits_of after ≡ x ++ bits_of (drop m before) =
    is ∙ ap (λ (n : ℕ). sets (sets (bits_of before) 0 bits) n (zeros k)) (sym (zero-add (length bits))) ∙ sets-append (bits_of before) 0 bits (zeros k)
    ∙ sets-eq x (bits_of before) 0 (omega arith)
    ∙ ap (λ (n : ℕ). x ++ drop n (bits_of before)) (zero-add (length x) ∙ lx)
    ∙ ap (λ (l : List ℕ). x ++ l) (bits_behind m before) in
    let first : x ≡ take (8 * m) (bits ++ zeros 7) =
    sym (ap (λ (n : ℕ). take n (bits ++ zeros 7)) (let q : 8 * m ≡ length bits + k = omega arith in q)
    ∙ take-append-add bits (zeros 7) k ∙ ap (λ (l : List ℕ). bits ++ l) (zeros_first k 7 (omega arith))) in
    let rest : bytes_of (length before - m) (bits_of (drop m before)) ≡ drop m before =
    ap (λ (n : ℕ). bytes_of n (bits_of (drop m before))) (sym (length-drop m before)) ∙ packing (drop m before) (λ i. rw (get_or-drop m before i 0) (hb (m + i))) in
    sym (packing after ha) ∙ ap (λ (n : ℕ). bytes_of n (bits_of after)) (let q : length after ≡ m + (length before - m) = omega arith in q)
    ∙ ap (bytes_of (m + (length before - m))) front ∙ bytes_append m (length before - m) x (bits_of (drop m before)) lx
    ∙ ap₂ ◌++◌ (ap (bytes_of m) first ∙ bytes_taken m (bits ++ zeros 7)) rest

room_fits : (w at : ℕ) (bits : List Bit) → at + w ≤ length bits → at + w ≤ cell_count → room w at bits ≡ true
unfolding room
room_fits zero at bits h g = refl
room_fits (suc w) at bits h g = room_inside (suc w) at bits (λ z. omega arith) h ∙ le-leb (at + suc w) cell_count g

-- the value of type k in the cells from a place on
module _ {types widths next : List ℕ} (shown : TypesShown types widths next) (k : ℕ) (cells : List ℕ) (at : ℕ) (answer : List ℕ)
    (inside : at + get_or widths k 0 ≤ length (bits_of cells)) (few : at + get_or widths k 0 ≤ cell_count) (held : bytes_for (get_or widths k 0) ≤ length answer) where
  abbrev A : Ty
  A = ty_at (type_records types) k

  abbrev pub output : List Bit
  output = compact (value_at A (cells_of cells) at)

  wide : get_or widths k 0 ≡ width A
  wide = width_shown types widths next shown k

  pub output_short : length output ≤ get_or widths k 0
  output_short = omega (arith, compact_fits (value_typed A (cells_of cells) at), wide)

  module _ (says : Option ℕ) (bits : List Bit)
      (e : unpadding says bits ≡ unpad_stage (shape_at types widths next k) (get_or widths k 0) (bits_of cells) (cells_of cells) at (bits_of answer) 0) where
    done : unpadding says bits ≡ unpadding (Some (length output)) (sets (bits_of answer) 0 output)
    unfolding unpadded_to every
    done =
        let right : unpad_stage (shape_at types widths next k) (get_or widths k 0) (bits_of cells) (cells_of cells) at (bits_of answer) 0
        ≡ unpadded_to A (bits_of cells) (cells_of cells) at (bits_of answer) 0 =
        rw (shown.widths_are, shown.next_are)
        (unpad_is types shown.count (passed_table types shown.count shown.passes) k (bits_of cells) (cells_of cells) at (bits_of answer) 0) in
        let read : room (width A) at (bits_of cells) ≡ true = room_fits (width A) at (bits_of cells) (omega (arith, wide)) (omega (arith, wide)) in
        let write : room (width A) 0 (bits_of answer) ≡ true =
        room_fits (width A) 0 (bits_of answer) (omega (arith, wide, length_bits answer)) (omega (arith, wide)) in
        e ∙ right ∙ rw (read, write, unpadded_to)

    pub output_says : says ≡ Some (length output)
    output_says = ap (λ (u : Unpadded). u.says) done

    pub output_bits : bits ≡ sets (bits_of answer) 0 output
    output_bits = ap (λ (u : Unpadded). u.bits) done

    pub output_not_short : {X : Type 0} → says ≡ None → X
    output_not_short e = let f = output_says in clash (cc)

    -- how many bits were told, and the store with its last byte filled
    module _ (n : ℕ) (told : says ≡ Some n) where
      pub output_count : n ≡ length output
      output_count = let f = output_says in cc

      pub output-written : (fill : ℕ) (after : List ℕ) → fill ≡ bytes_for n * 8 - n → bits_of after ≡ sets bits n (zeros fill) → Bytes answer → Bytes after
          → length after ≡ length answer → after ≡ written output answer
      output-written fill after ef e hb ha l =
          filled_is output answer after hb ha l (omega (arith, output_short))
          (e ∙ ap₂ (λ (bs : List Bit) (z : ℕ). sets bs n (zeros z)) output_bits ef
          ∙ ap (λ (k : ℕ). sets (sets (bits_of answer) 0 output) k (zeros (bytes_for k * 8 - k))) output_count)
