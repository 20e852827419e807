-- The machine as the code holds it: a list of bits, a list of frame records, and three numbers by value.
-- Write frames stand in records 0, 1, .. upwards, read frames from the last record downwards, and the free records between are zero.
-- A record is `frame_numbers` numbers of the lent frame store; the laws in proofs/ say where record k stands in it.
use Rattle.std.specs.Prelude.{List, [], ◌∷◌, ℕ, zero, suc, ◌-◌, ◌/◌, length, get_or, drop, replicate}
use Rattle.limits.specs.Limits.{frame_numbers}
use Rattle.scope.specs.Machine.{Frame, frame_at}

-- what a free record holds
abbrev pub no_frame : Frame
no_frame = frame_at [] 0

-- the first n records of the frame store's numbers
unfoldable pub first_records : (n : ℕ) → (numbers : List ℕ) → List Frame
first_records zero ns = []
first_records (suc n) ns = frame_at ns 0 ∷ first_records n (drop frame_numbers ns)

-- all of them; numbers that make no whole record are left out
unfoldable pub records_of : List ℕ → List Frame
unfolding first_records
records_of ns = first_records (length ns / frame_numbers) ns

-- the machine: the cells lent, a bit each; the records; how many write frames and read frames stand; the first cell above all frames
pub record Mach : Type 0 where
  pub bits : List ℕ
  pub records : List Frame
  pub write_frames : ℕ
  pub read_frames : ℕ
  pub next : ℕ

abbrev pub mach : List ℕ → List Frame → (write_frames read_frames next : ℕ) → Mach
mach b rs w r x = record { bits = b; records = rs; write_frames = w; read_frames = r; next = x }

-- the places of the active frames among the records
abbrev pub write_place : Mach → ℕ
write_place m = m.write_frames - 1

abbrev pub read_place : Mach → ℕ
read_place m = length m.records - m.read_frames

-- the active frames
abbrev pub active_write : Mach → Frame
active_write m = get_or m.records (write_place m) no_frame

abbrev pub active_read : Mach → Frame
active_read m = get_or m.records (read_place m) no_frame

-- a machine with no frame: its cells, and `most` free records
abbrev pub empty : List ℕ → (most : ℕ) → Mach
empty b most = mach b (replicate most no_frame) 0 0 0
