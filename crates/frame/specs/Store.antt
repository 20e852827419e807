-- A frame store whose first records are given, the numbers behind them as they were.
use Rattle.std.specs.Prelude.{List, [], ◌∷◌, ◌++◌, ℕ, drop}
use Rattle.limits.specs.Limits.{frame_numbers}
use Rattle.scope.specs.Machine.{Frame, frame_numbers_of}

unfoldable pub with_records : List Frame → (numbers : List ℕ) → List ℕ
with_records [] numbers = numbers
with_records (f ∷ fs) numbers = frame_numbers_of f ++ with_records fs (drop frame_numbers numbers)
