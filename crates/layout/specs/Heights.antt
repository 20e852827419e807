-- What a run keeps: how many cells and records there are, and, where it is done, how many write frames and read frames stand.
-- And what a whole run leaves of a machine with no frame.
use Rattle.std.specs.Prelude.{◌≡◌, List, ℕ, ◌≤◌, length}
use Rattle.report.specs.Meaning.{done, failed, pruned, stuck}
use Rattle.layout.specs.Mach.{Mach}
use Rattle.layout.specs.Exec.{Outcome}

-- as many cells and records
pub record Sized (m m' : Mach) : Type 0 where
  pub bits : length m'.bits ≡ length m.bits
  pub records : length m'.records ≡ length m.records

-- and as many frames
pub record Balanced (m m' : Mach) : Type 0 where
  pub sized : Sized m m'
  pub writes : m'.write_frames ≡ m.write_frames
  pub reads : m'.read_frames ≡ m.read_frames

-- of a run: a stop may leave more frames
abbrev pub Keeps : Mach → Outcome → Type 0
Keeps m (done m') = Balanced m m'
Keeps m (failed p m') = Sized m m'
Keeps m (pruned p m') = Sized m m'
Keeps m stuck = Unit {0}

-- what a whole run leaves of a machine with no frame: a stop any frames, an end at most the input's and the output's
pub record LeftBy (b : List ℕ) (most : ℕ) (m : Mach) : Type 0 where
  pub bits : length m.bits ≡ length b
  pub records : length m.records ≡ most

pub record DoneBy (b : List ℕ) (most : ℕ) (m : Mach) : Type 0 where
  pub left : LeftBy b most m
  pub writes : m.write_frames ≤ 1
  pub reads : m.read_frames ≤ 1

abbrev pub Leaves : (b : List ℕ) (most : ℕ) → Outcome → Type 0
Leaves b most (done m) = DoneBy b most m
Leaves b most (failed p m) = LeftBy b most m
Leaves b most (pruned p m) = LeftBy b most m
Leaves b most stuck = Unit {0}
