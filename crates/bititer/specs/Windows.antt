-- A window is the 25 bits from a position on, as one number: four bytes hold them wherever in its byte the position stands.
-- What is cut out of a window, the natural that it begins with, and the table of the naturals that stand whole in a byte.
use Rattle.std.specs.Prelude.{◌≡◌, true, false, Option, Some, None, List, ℕ, ◌+◌, ◌-◌, ◌*◌, ◌/◌, ◌%◌, ◌^◌, ◌≤◌, leb, length, take, drop}
use Rattle.report.specs.Bits.{Bit, byte_bits, number_from}
use Rattle.scope.specs.Naturals.{Natural, natural, ended, too_long, read_natural}
use Rattle.scope.specs.Numbers.{tabulate}
use Rattle.scope.specs.Reading.{Got, got, fault, stream_ended}
use Rattle.common.specs.Bits.{AreBits}

abbrev pub window_bits : ℕ
window_bits = 25

-- a window that was read at a position
abbrev pub got_window : (at : ℕ) → Option ℕ → Got ℕ
got_window at (Some w) = got w (at + window_bits)
got_window at None = fault stream_ended

-- these bits begin with a window of this number
abbrev pub Window : List Bit → (w : ℕ) → Type 0
Window l w = AreBits l × (window_bits ≤ length l) × (w ≡ number_from 0 (take window_bits l))

-- the number that is 1 followed by `count` bits of a window from its bit `at` on; 0 where the window has not so many
unfoldable pub after_one : (w at count : ℕ) → ℕ
after_one w at count = elim (leb (at + count) window_bits) [
  | true ↦ 2 ^ count + w / 2 ^ (window_bits - (at + count)) % 2 ^ count
  | false ↦ 0
]

-- the natural that bits begin with, and how many of them it takes
abbrev pub BeginsWith : List Bit → Option (ℕ × ℕ) → Type 0
BeginsWith l (Some (n, bits)) = (read_natural l ≡ natural n (drop bits l)) × (bits ≤ window_bits)
BeginsWith l None = Unit {0}

-- a byte's entry: sixteen times the natural that stands in its leading bits, and the bits that it takes; 0 where no whole one stands there
unfoldable pub entry_of : Natural → ℕ
entry_of (natural n rest) = 16 * n + (8 - length rest)
entry_of ended = 0
entry_of too_long = 0

unfoldable pub natural_entries : List ℕ
unfolding tabulate entry_of read_natural
natural_entries = tabulate 256 (λ b. entry_of (read_natural (byte_bits b)))
