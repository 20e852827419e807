-- A store's bits are the machine's cells, as a list; and a store whose bits are some cells is those cells packed.
use mathlib.Core.Path.{◌≡◌, refl, ap, sym, ◌∙◌}
use mathlib.Core.List.{List}
use Prim.Native.Nat.{ℕ, ◌*◌}
use lib.ListN.{length}
use Rattle.report.specs.Bits.{bits_of, bytes_of}
use Rattle.report.specs.Values.{Cells}
use Rattle.scope.specs.Numbers.{tabulate}
use Rattle.scope.specs.Run.{cells_of, packed}
use Rattle.common.specs.Tables.{tabulated}
use Rattle.common.specs.Bits.{length_bits}
use Rattle.bititer.proofs.Bits.{Bytes, packing}

pub cells_tabulated : (s : List ℕ) → bits_of s ≡ tabulate (8 * length s) (cells_of s)
unfolding cells_of
cells_tabulated s = tabulated (cells_of s) 0 (bits_of s) (λ j k. refl) ∙ ap (λ (n : ℕ). tabulate n (cells_of s)) (length_bits s)

pub cells_packed : (s : List ℕ) (c : Cells) → Bytes s → bits_of s ≡ tabulate (8 * length s) c → s ≡ packed (length s) c
unfolding packed
cells_packed s c h e = sym (packing s h) ∙ ap (bytes_of (length s)) e
