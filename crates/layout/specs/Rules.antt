-- The machine's rules over its stores, as the code does them: total functions from machine to machine, with `get_or` and `set` on the two lists.
-- A frame that is moved or dropped leaves a free record behind. A rule for 0 cells looks at no frame.
-- What a rule needs is said apart, in Safe; where that fails a rule here still has a value, of no meaning.
use Rattle.std.specs.Prelude.{List, [], ◌∷◌, ℕ, zero, suc, ◌+◌, ◌-◌, length, get_or, set, replicate}
use Rattle.std.proofs.lemmas.List.Edits.{sets}
use Rattle.report.specs.Bits.{Bit}
use Rattle.scope.specs.Machine.{Frame, frame_from, forward, backward, reset}
use Rattle.common.specs.Cells.{copy_bits}
use Rattle.layout.specs.Mach.{Mach, mach, no_frame, write_place, read_place, active_write, active_read}

-- the records with the cursor of the active write frame moved, or with that of the active read frame
abbrev pub write_moved : (Frame → Frame) → Mach → List Frame
write_moved move m = set m.records (write_place m) (move (active_write m))

abbrev pub read_moved : (Frame → Frame) → Mach → List Frame
read_moved move m = set m.records (read_place m) (move (active_read m))

-- a write frame of n cells above all frames; its cells keep their old bits
unfoldable pub pushed : ℕ → Mach → Mach
pushed n m =
    mach m.bits (set m.records m.write_frames (frame_from m.next n)) (m.write_frames + 1) m.read_frames (m.next + n)

-- the active write frame becomes the active read frame, its cursor at its start
unfoldable pub moved : Mach → Mach
moved m =
    mach m.bits
    (set (set m.records (write_place m) no_frame) (length m.records - (m.read_frames + 1)) (reset (active_write m)))
    (m.write_frames - 1) (m.read_frames + 1) m.next

-- the active read frame, which is the uppermost, goes
unfoldable pub dropped : Mach → Mach
dropped m = mach m.bits (set m.records (read_place m) no_frame) m.write_frames (m.read_frames - 1) (active_read m).start

-- a bit at the write cursor, which goes one cell on
unfoldable pub bit_written : Bit → Mach → Mach
bit_written b m =
    mach (set m.bits (active_write m).cursor b) (write_moved (forward 1) m) m.write_frames m.read_frames m.next

-- bits from the write cursor on, which goes behind them
unfoldable pub bits_written : List Bit → Mach → Mach
bits_written [] m = m
bits_written (b ∷ bs) m =
    mach (sets m.bits (active_write m).cursor (b ∷ bs)) (write_moved (forward (length (b ∷ bs))) m) m.write_frames
    m.read_frames m.next

-- the write cursor n cells on, which keep their old bits
unfoldable pub skipped : ℕ → Mach → Mach
skipped zero m = m
skipped (suc n) m = mach m.bits (write_moved (forward (suc n)) m) m.write_frames m.read_frames m.next

-- n cells from the read cursor on to the write cursor, which goes behind them
unfoldable pub copied : ℕ → Mach → Mach
copied zero m = m
copied (suc n) m =
    mach (copy_bits m.bits (active_read m).cursor (active_write m).cursor (suc n)) (write_moved (forward (suc n)) m)
    m.write_frames m.read_frames m.next

-- the read cursor n cells on, and n cells back
unfoldable pub forwarded : ℕ → Mach → Mach
forwarded zero m = m
forwarded (suc n) m = mach m.bits (read_moved (forward (suc n)) m) m.write_frames m.read_frames m.next

unfoldable pub backed : ℕ → Mach → Mach
backed zero m = m
backed (suc n) m = mach m.bits (read_moved (backward (suc n)) m) m.write_frames m.read_frames m.next

-- the bit at the read cursor
abbrev pub peeked : Mach → Bit
peeked m = get_or m.bits (active_read m).cursor 0

-- no frame, and every record free: the last step of a run
unfoldable pub all_free : Mach → Mach
all_free m = mach m.bits (replicate (length m.records) no_frame) 0 0 0
