-- Bits that the rules put: what the cells do when they put bits is what the machine does.
use mathlib.Core.Path.{◌≡◌, sym, ap, ◌∙◌}
use mathlib.Core.List.{List}
use Prim.Native.Nat.{ℕ, ◌+◌, ◌-◌, ◌≤◌}
use native.Mathlib.Omega.{arith}
use lib.ListN.{length, take, drop, length-drop}
use lib.Seq.{sets, length-take-le}
use Rattle.scope.specs.Machine.{forward}
use Rattle.common.specs.Cells.{bits_from}
use Rattle.cells.proofs.Parts.{bits_within}
use Rattle.layout.specs.Mach.{Mach, mach, active_write}
use Rattle.layout.specs.Rules.{bits_written, write_moved}
use Rattle.layout.proofs.Rules.{bits_written_some}

-- n bits of a list from bit p on, put at a place
pub put_within : (l bits : List ℕ) (at p n : ℕ) → p + n ≤ length bits → sets l at (bits_from bits p n) ≡ sets l at (take n (drop p bits))
put_within l bits at p n fits = ap (sets l at) (bits_within bits p n fits)

-- n bits of a list from bit p on, written at the write cursor: none, and some
pub none_written : (bits : List ℕ) (p n : ℕ) {m : Mach} → n ≡ 0 → bits_written (take n (drop p bits)) m ≡ m
unfolding bits_written
none_written bits p n e = rw e

pub some_written : (bits : List ℕ) (p n : ℕ) (m : Mach) → p + n ≤ length bits → (n ≡ 0 → ⊥)
    → bits_written (take n (drop p bits)) m
    ≡ mach (sets m.bits (active_write m).cursor (take n (drop p bits))) (write_moved (forward n) m) m.write_frames m.read_frames m.next
some_written bits p n m fits some =
    let size : length (drop p bits) ≡ length bits - p = length-drop p bits in
    let long : length (take n (drop p bits)) ≡ n = length-take-le n (drop p bits) (omega arith) in
    bits_written_some (take n (drop p bits)) m (λ e. some (sym long ∙ e))
    ∙ ap (λ (k : ℕ). mach (sets m.bits (active_write m).cursor (take n (drop p bits))) (write_moved (forward k) m) m.write_frames
    m.read_frames m.next) long
