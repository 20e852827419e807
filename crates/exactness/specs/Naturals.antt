-- The naturals that can be read, those from 1 on below `natural_bound`, and bits that begin with the code of one.
-- The bound is exact: no length above `natural_length` is allowed, so no larger number can be read.
use Rattle.std.specs.Prelude.{◌≡◌, List, ◌++◌, ℕ, suc, ◌^◌, ◌≤◌, ◌<◌}
use Rattle.limits.specs.Limits.{natural_length}
use Rattle.report.specs.Bits.{Bit}
use Rattle.report.specs.Naturals.{code_natural}
use Rattle.common.specs.Bits.{AreBits}

-- one more than the largest natural that can be read
abbrev pub natural_bound : ℕ
natural_bound = 2 ^ suc natural_length

-- l is the code of n, then r
abbrev pub Coded : List Bit → ℕ → List Bit → Type 0
Coded l n r = (l ≡ code_natural n ++ r) × (1 ≤ n) × (n < natural_bound) × AreBits r
