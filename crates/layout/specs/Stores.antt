-- The lent cells themselves, in bytes: a part of them is handed to the machine, and the rest is as it was.
-- The bits of the part are the list of the machine's cells, before the run and after it.
use Rattle.std.specs.Prelude.{◌≡◌, List, ◌++◌, ℕ, ◌+◌, ◌-◌, ◌*◌, ◌<◌, ◌≤◌, take}
use Rattle.std.proofs.Math.Path.{sym, ap}
use Rattle.std.proofs.Common.{◌∙◌, arith, length-take, take-append-drop, get_or-append-add}
use Rattle.std.proofs.Math.Decide.{dec_lt}
use Rattle.std.proofs.Math.ListN.{length, get_or, drop, length-append, length-drop, get_or-append}
use Rattle.report.specs.Bits.{bits_of}
use Rattle.report.specs.Values.{Cells}
use Rattle.scope.specs.Numbers.{tabulate}
use Rattle.scope.specs.Run.{cells_of}
use Rattle.common.specs.Bits.{length_bits, bits_append}
use Rattle.common.specs.Tables.{tabulated, length-tabulate, tabulate_at}
use Rattle.layout.specs.Follow.{KeptFrom}

-- a cell of a string of bytes, in its first part and behind it
cell_before : (xs ys : List ℕ) (p : ℕ) → p < 8 * length xs → get_or (bits_of (xs ++ ys)) p 0 ≡ get_or (bits_of xs) p 0
cell_before xs ys p h = ap (λ l. get_or l p 0) (bits_append xs ys) ∙ get_or-append (bits_of xs) (bits_of ys) 0 p (omega (arith, length_bits xs))

cell_behind : (xs ys : List ℕ) (p : ℕ) → 8 * length xs ≤ p → get_or (bits_of (xs ++ ys)) p 0 ≡ get_or (bits_of ys) (p - 8 * length xs) 0
cell_behind xs ys p h =
    let e : p ≡ length (bits_of xs) + (p - 8 * length xs) = omega (arith, length_bits xs) in
    ap (λ l. get_or l p 0) (bits_append xs ys) ∙ ap (λ q. get_or (bits_of xs ++ bits_of ys) q 0) e ∙ get_or-append-add (bits_of xs) (bits_of ys) (p - 8 * length xs) 0

-- cells that are those of a string of bytes
cells_list : (bytes : List ℕ) (n : ℕ) (c : Cells) → n ≡ 8 * length bytes → ((p : ℕ) → p < n → c p ≡ get_or (bits_of bytes) p 0) → tabulate n c ≡ bits_of bytes
cells_list bytes n c e h =
    ap (λ k. tabulate k c) (e ∙ sym (length_bits bytes)) ∙ sym (tabulated c 0 (bits_of bytes) (λ p l. sym (h p (omega (arith, length_bits bytes)))))

module _ (bytes : List ℕ) (b : ℕ) (held : b ≤ length bytes) where
  length_part : length (take b bytes) ≡ b
  length_part = omega (arith, length-take b bytes)

  -- before a run: the first b bytes hold the first cells
  pub cells_lent : tabulate (8 * b) (cells_of bytes) ≡ bits_of (take b bytes)
  unfolding cells_of
  cells_lent = cells_list (take b bytes) (8 * b) (cells_of bytes) (omega (arith, length_part))
      (λ p h. ap (λ l. get_or (bits_of l) p 0) (sym (take-append-drop b bytes)) ∙ cell_before (take b bytes) (drop b bytes) p (omega (arith, length_part)))

  -- after a run on `size` cells: the part as it was left, and the rest as it was, hold all cells
  pub cells_left : (part : List ℕ) (c : Cells) (size : ℕ) → size ≤ 8 * b → bits_of part ≡ tabulate (8 * b) c → KeptFrom size (cells_of bytes) c
      → bits_of (part ++ drop b bytes) ≡ tabulate (8 * length bytes) c
  unfolding cells_of
  cells_left part c size le e beyond =
      sym (cells_list (part ++ drop b bytes) (8 * length bytes) c (omega (arith, length-append part (drop b bytes), length-drop b bytes, as_long)) cell)
    where
      as_long : length part ≡ b
      as_long = omega (arith, length_bits part, ap (λ l. length l) e, length-tabulate c (8 * b))

      cell : (p : ℕ) → p < 8 * length bytes → c p ≡ get_or (bits_of (part ++ drop b bytes)) p 0
      cell p h = elim (dec_lt p (8 * b)) [
        | yes l ↦ sym (cell_before part (drop b bytes) p (omega (arith, as_long)) ∙ ap (λ l. get_or l p 0) e ∙ tabulate_at c (8 * b) p 0 l)
        | no n ↦ beyond p (omega arith) ∙ ap (λ l. get_or (bits_of l) p 0) (sym (take-append-drop b bytes))
            ∙ cell_behind (take b bytes) (drop b bytes) p (omega (arith, length_part))
            ∙ ap (λ k. get_or (bits_of (drop b bytes)) (p - 8 * k) 0) (length_part ∙ sym as_long)
            ∙ sym (cell_behind part (drop b bytes) p (omega (arith, as_long)))
      ]
