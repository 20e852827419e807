-- What a run leaves in the lent stores beside its answer: the cells of the machine's last state, and every cell from the bound on as it
-- was; frame records within the bound zero. And the bytes of the output are the same whatever the five stores held before.
use Rattle.std.specs.Prelude.{◌≡◌, List, [], ◌∷◌, ◌++◌, ℕ, zero, suc, ◌*◌, ◌≤◌, ◌<◌, length, get_or, drop}
use Rattle.std.proofs.Math.Path.{refl}
use Rattle.std.proofs.Common.{ap, ◌∙◌, arith, take_at}
use Rattle.std.specs.Prelude.{Ok as Value}
use Rattle.report.specs.Bits.{Bit, bits_of, bytes_of}
use Rattle.report.specs.Types.{width}
use Rattle.report.specs.Values.{Val, HasTy, Cells}
use Rattle.report.specs.Meaning.{done, failed, pruned, Means}
use Rattle.scope.specs.Numbers.{zeros, bytes_for, tabulate_from, tabulate}
use Rattle.scope.specs.Machine.{State, Step}
use Rattle.scope.specs.Program.{Program, whole, whole_source, whole_target}
use Rattle.scope.specs.Bounds.{whole_cells}
use Rattle.scope.specs.Run.{cells_of, packed, written, ends, ran}
use Rattle.common.specs.Bits.{AreBits, are_bits, bits_of_bytes, length_bytes}
use Rattle.common.specs.Tables.{length-tabulate, tabulate_at}
use Rattle.theory.specs.BinaryCells.{BitCells, BitsAfter, bits_done, bits_failed, bits_pruned}
use Rattle.theory.proofs.BinaryCells.{machine_bits}
use Rattle.theory.specs.WholeRuns.{Ran, ran_value, ran_fail, ran_prune}
use Rattle.theory.specs.Sound.{Sound}
use Rattle.theory.specs.Programs.{run_of}
use Rattle.theory.proofs.Programs.{run_ends}
use Rattle.theory.specs.Left.{LastState, ended_in, failed_in, pruned_in, CellsLeft, output_bytes}

-- cells that are bits, as a list and packed into bytes
bits_from_lem : (i n : ℕ) (c : Cells) → BitCells c → AreBits (tabulate_from i n c)
unfolding tabulate_from
bits_from_lem i zero c h = tt
bits_from_lem i (suc n) c h = (omega (arith, h i), bits_from_lem (suc i) n c h)

-- a cell of packed cells
packed_cell : (n : ℕ) (c : Cells) → BitCells c → (j : ℕ) → j < 8 * n → cells_of (packed n c) j ≡ c j
unfolding cells_of packed tabulate
packed_cell n c h j l =
    ap (λ (bs : List Bit). get_or bs j 0) (bits_of_bytes n (tabulate (8 * n) c) (length-tabulate c (8 * n)) (bits_from_lem 0 (8 * n) c h)).0
    ∙ tabulate_at c (8 * n) j 0 l

-- the cells of a store are bits
bit_below : (bs : List Bit) → AreBits bs → (j : ℕ) → get_or bs j 0 ≤ 1
bit_below [] h j = omega arith
bit_below (b ∷ bs) h zero = omega (arith, h.0)
bit_below (b ∷ bs) h (suc j) = bit_below bs h.1 j

-- of every store
pub store_bits : (cells : List ℕ) → BitCells (cells_of cells)
unfolding cells_of
store_bits cells j = bit_below (bits_of cells) (are_bits cells) j

module _ (P : Program) (ok : Sound P) (v : Val) (hv : HasTy v (whole_source P)) (cells frames answer : List ℕ) where
  -- from the last state of the run
  cells_of_lem : (o : Step) (s : State) → LastState o s → BitCells s.cells → ((j : ℕ) → whole_cells P ≤ j → s.cells j ≡ cells_of cells j)
      → (left : List ℕ) → left ≡ packed (length cells) s.cells → CellsLeft o (whole_cells P) cells left
  cells_of_lem o s last bits kept left e =
      let same : (j : ℕ) → j < 8 * length cells → cells_of left j ≡ s.cells j =
      λ j l. ap (λ (b : List ℕ). cells_of b j) e ∙ packed_cell (length cells) s.cells bits j l in
      record { last = s; ended = last; bytes = e; held = same; beyond = λ j m l. same j l ∙ kept j m }

  -- by how the run ended
  ends_cells : {o : Means} {e : Step} → Ran (whole_target P) (width (whole_source P)) (whole_cells P) (cells_of cells) o e → BitsAfter e
      → CellsLeft e (whole_cells P) cells (ends P e cells frames answer).cells
  unfolding ends
  ends_cells (ran_value {s = s} k) (bits_done h) = cells_of_lem (done s) s ended_in h k _ refl
  ends_cells (ran_fail {p = p} {s = s} k) (bits_failed h) = cells_of_lem (failed p s) s failed_in h k _ refl
  ends_cells (ran_prune {p = p} {s = s} k) (bits_pruned h) = cells_of_lem (pruned p s) s pruned_in h k _ refl

  -- THE CELLS THAT A RUN LEAVES
  pub run_cells : CellsLeft (run_of P v (cells_of cells)) (whole_cells P) cells (ran (record { program = P; input = v }) cells frames answer).cells
  unfolding ran run_of
  run_cells = ends_cells (run_ends P ok v hv (cells_of cells)) (machine_bits _ _ (whole P) (whole_source P) (whole_target P) v (cells_of cells) (store_bits cells))

-- the output's bytes are made of its bits alone
pub written_bytes : (bits : List Bit) (answer : List ℕ)
    → output_bytes (Value (length bits)) (written bits answer) ≡ bytes_of (bytes_for (length bits)) (bits ++ zeros 7)
unfolding output_bytes written
written_bytes bits answer =
    take_at (bytes_of (bytes_for (length bits)) (bits ++ zeros 7)) (drop (bytes_for (length bits)) answer) (bytes_for (length bits))
    (length_bytes (bytes_for (length bits)) (bits ++ zeros 7))
