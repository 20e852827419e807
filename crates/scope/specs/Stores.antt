-- The stores that a run is lent: cells, frames and answer, each long enough for the bounds (17 at 0, 1, 2).
-- Node store and hash store are judged while the program is read (17 at 3 and 4, in Reading).
use Rattle.std.specs.Prelude.{List, ℕ, ◌/◌, leb, length}
use Rattle.limits.specs.Limits.{frame_numbers}
use Rattle.refusal.specs.declared.Refusal.TheVariants.{StoreShort}
use Rattle.report.specs.Types.{width}
use Rattle.scope.specs.Check.{Check, ◌>>=◌, require}
use Rattle.scope.specs.Numbers.{bytes_for}
use Rattle.scope.specs.Program.{Program, whole_target}
use Rattle.scope.specs.Bounds.{whole_cells, whole_frames}

-- cells in bytes, frames in whole records, the answer in bytes for the target's width
unfoldable pub check_stores : Program → (cells frames answer : List ℕ) → Check (Unit {0})
unfolding ◌>>=◌ require whole_cells whole_frames whole_target width
check_stores P cells frames answer = do
  first ← require (leb (bytes_for (whole_cells P)) (length cells)) (StoreShort 0)
  second ← require (leb (whole_frames P) (length frames / frame_numbers)) (StoreShort 1)
  require (leb (bytes_for (width (whole_target P))) (length answer)) (StoreShort 2)
