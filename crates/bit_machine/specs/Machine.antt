-- The machine of `layout` that the code holds: lent cells and frame records, and the heights by value.
use Rattle.std.specs.Prelude.{List, ℕ, ◌*◌, ◌^◌, ◌≤◌, length, get_or, set}
use Rattle.limits.specs.Limits.{cell_count}
use Rattle.scope.specs.Machine.{Frame, forward}
use Rattle.layout.specs.Mach.{Mach, mach, no_frame, records_of}
use Rattle.bit_machine.specs.declared.Heights.{Heights}

-- the machine with these cells, with the records of a frame store's numbers
abbrev pub machine_of : (bits numbers : List ℕ) → Heights → Mach
machine_of bits numbers h = mach bits (records_of numbers) h.writes h.reads h.next

-- records with the cursor of the frame at place k n cells on
abbrev pub advanced : (n k : ℕ) → List Frame → List Frame
advanced n k records = set records k (forward n (get_or records k no_frame))

-- the stores lent, in bytes and in numbers, are within the limits of a run
pub record Within (bytes numbers : List ℕ) : Type 0 where
  pub cells : 8 * length bytes ≤ cell_count
  pub frames : length numbers ≤ 2 ^ 31
