-- A list of bits and the machine's cells: what is done to the list is what the machine does to its cells.
-- Bits are copied one after the other, each from the list as it then is. A place past the end reads as 0, and a write there does nothing.
use Rattle.std.specs.Prelude.{◌≡◌, refl, List, [], ◌∷◌, ℕ, zero, suc, ◌+◌, ◌≤◌, ◌<◌, length, get_or, set}
use Rattle.std.proofs.Common.{sym, ap, ◌∙◌, arith, eq-eqb, ne_eqb, length-set, get_or-set_same, get_or-set_other}
use Rattle.std.proofs.Math.Decide.{ℕ_discrete}
use Rattle.std.proofs.lemmas.List.Edits.{sets}
use Rattle.report.specs.Bits.{Bit}
use Rattle.report.specs.Values.{Cells}
use Rattle.scope.specs.Numbers.{tabulate}
use Rattle.scope.specs.Machine.{set_cell, put_bits, copy_cells}
use Rattle.common.specs.Tables.{length-tabulate, tabulate_at, tabulated}

unfoldable pub copy_bits : List Bit → (from to n : ℕ) → List Bit
copy_bits l from to zero = l
copy_bits l from to (suc n) = copy_bits (set l to (get_or l from 0)) (suc from) (suc to) n

-- n bits of a list from p on; 0 past its end
unfoldable pub bits_from : List Bit → (p n : ℕ) → List Bit
bits_from l p zero = []
bits_from l p (suc n) = get_or l p 0 ∷ bits_from l (suc p) n

pub length_copied : (l : List Bit) (from to n : ℕ) → length (copy_bits l from to n) ≡ length l
unfolding copy_bits
length_copied l from to zero = refl
length_copied l from to (suc n) = length_copied (set l to (get_or l from 0)) (suc from) (suc to) n ∙ length-set l to (get_or l from 0)

-- the cell that was set, and another one
pub set_cell_same : (c : Cells) (q p : ℕ) (b : Bit) → q ≡ p → set_cell c p b q ≡ b
unfolding set_cell
set_cell_same c q p b e = rw (eq-eqb q p e, set_cell)

pub set_cell_other : (c : Cells) (q p : ℕ) (b : Bit) → (q ≡ p → ⊥) → set_cell c p b q ≡ c q
unfolding set_cell
set_cell_other c q p b h = rw (ne_eqb q p h, set_cell)

-- setting a cell of the list is setting it in the cells, inside the list or not
pub set-tabulate : (n : ℕ) (c : Cells) (p : ℕ) (b : Bit) → set (tabulate n c) p b ≡ tabulate n (set_cell c p b)
set-tabulate n c p b =
    let e : length (set (tabulate n c) p b) ≡ n = length-set (tabulate n c) p b ∙ length-tabulate c n in
    tabulated (set_cell c p b) 0 (set (tabulate n c) p b) (λ j k. cell j (omega arith)) ∙ ap (λ (m : ℕ). tabulate m (set_cell c p b)) e
  where
    cell : (j : ℕ) → j < n → get_or (set (tabulate n c) p b) j 0 ≡ set_cell c p b j
    cell j h = elim (ℕ_discrete j p) [
      | yes e ↦ rw e (get_or-set_same (tabulate n c) p b 0 (omega (arith, length-tabulate c n)) ∙ sym (set_cell_same c p p b refl))
      | no m ↦ get_or-set_other (tabulate n c) p j b 0 m ∙ tabulate_at c n j 0 h ∙ sym (set_cell_other c j p b m)
    ]

pub sets-tabulate : (n : ℕ) (c : Cells) (at : ℕ) (bs : List Bit) → sets (tabulate n c) at bs ≡ tabulate n (put_bits c at bs)
unfolding put_bits
sets-tabulate n c at [] = refl
sets-tabulate n c at (b ∷ bs) =
    ap (λ (l : List ℕ). sets l (suc at) bs) (set-tabulate n c at b) ∙ sets-tabulate n (set_cell c at b) (suc at) bs

-- a copy whose sources lie within the list
pub copy_tabulate : (n : ℕ) (c : Cells) (from to k : ℕ) → from + k ≤ n → copy_bits (tabulate n c) from to k ≡ tabulate n (copy_cells c from to k)
unfolding copy_bits copy_cells
copy_tabulate n c from to zero h = refl
copy_tabulate n c from to (suc k) h =
    ap (λ (b : ℕ). copy_bits (set (tabulate n c) to b) (suc from) (suc to) k) (tabulate_at c n from 0 (omega arith))
    ∙ ap (λ (l : List ℕ). copy_bits l (suc from) (suc to) k) (set-tabulate n c to (c from))
    ∙ copy_tabulate n (set_cell c to (c from)) (suc from) (suc to) k (omega arith)
