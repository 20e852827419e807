-- The rules for 0 cells and for more, each in one line: what the code that does nothing for 0 cells goes by.
-- And a bit that is written, as a list of one bit.
use Rattle.std.specs.Prelude.{◌≡◌, refl, List, [], ◌∷◌, ℕ, zero, suc, length}
use Rattle.std.proofs.lemmas.List.Edits.{sets}
use Rattle.report.specs.Bits.{Bit}
use Rattle.scope.specs.Machine.{forward, backward}
use Rattle.common.specs.Cells.{copy_bits}
use Rattle.layout.specs.Mach.{Mach, mach, active_write, active_read}
use Rattle.layout.specs.Rules.{write_moved, read_moved, bit_written, bits_written, skipped, copied, forwarded, backed}

-- rules for 0 cells, and for more
pub skipped_zero : (n : ℕ) (m : Mach) → n ≡ 0 → skipped n m ≡ m
unfolding skipped
skipped_zero n m e = rw e

pub skipped_some : (n : ℕ) (m : Mach) → (n ≡ 0 → ⊥)
    → skipped n m ≡ mach m.bits (write_moved (forward n) m) m.write_frames m.read_frames m.next
unfolding skipped
skipped_some zero m h = absurd (h refl)
skipped_some (suc n) m h = refl

pub forwarded_zero : (n : ℕ) (m : Mach) → n ≡ 0 → forwarded n m ≡ m
unfolding forwarded
forwarded_zero n m e = rw e

pub forwarded_some : (n : ℕ) (m : Mach) → (n ≡ 0 → ⊥)
    → forwarded n m ≡ mach m.bits (read_moved (forward n) m) m.write_frames m.read_frames m.next
unfolding forwarded
forwarded_some zero m h = absurd (h refl)
forwarded_some (suc n) m h = refl

pub backed_zero : (n : ℕ) (m : Mach) → n ≡ 0 → backed n m ≡ m
unfolding backed
backed_zero n m e = rw e

pub backed_some : (n : ℕ) (m : Mach) → (n ≡ 0 → ⊥)
    → backed n m ≡ mach m.bits (read_moved (backward n) m) m.write_frames m.read_frames m.next
unfolding backed
backed_some zero m h = absurd (h refl)
backed_some (suc n) m h = refl

pub copied_zero : (n : ℕ) (m : Mach) → n ≡ 0 → copied n m ≡ m
unfolding copied
copied_zero n m e = rw e

pub copied_some : (n : ℕ) (m : Mach) → (n ≡ 0 → ⊥)
    → copied n m
    ≡ mach (copy_bits m.bits (active_read m).cursor (active_write m).cursor n) (write_moved (forward n) m) m.write_frames
    m.read_frames m.next
unfolding copied
copied_some zero m h = absurd (h refl)
copied_some (suc n) m h = refl

pub bits_written_some : (bs : List Bit) (m : Mach) → (length bs ≡ 0 → ⊥)
    → bits_written bs m
    ≡ mach (sets m.bits (active_write m).cursor bs) (write_moved (forward (length bs)) m) m.write_frames m.read_frames
    m.next
unfolding bits_written
bits_written_some [] m h = absurd (h refl)
bits_written_some (b ∷ bs) m h = refl

-- one bit is a list of one
pub bit_written_list : (b : Bit) (m : Mach) → bit_written b m ≡ bits_written (b ∷ []) m
unfolding bit_written bits_written
bit_written_list b m = refl
