-- The input: just one compact value of the program's source, and leftover bits of the last byte zero (16).
-- Bytes above the limit are left over.
use Rattle.std.specs.Prelude.{List, ℕ, take}
use Rattle.refusal.specs.declared.Refusal.TheVariants.{Input}
use Rattle.report.specs.Types.{Ty}
use Rattle.report.specs.Values.{Val, value, short, read_value}
use Rattle.scope.specs.Check.{Check, passed, refused, ◌>>=◌, require}
use Rattle.scope.specs.Numbers.{held_bits, stream_of, every}
use Rattle.scope.specs.Closing.{closes, used_up}

-- a value of the type from the first `count` bits of the bytes up to the limit
unfoldable pub check_input : Ty → (bytes : List ℕ) → (count : ℕ) → Check Val
unfolding ◌>>=◌ require read_value stream_of closes every
check_input A bytes count = elim (read_value A (take count (held_bits bytes))) [
  | value v rest ↦ (do
    used ← require (used_up bytes count rest) (Input 0)
    passed v)
  | short ↦ refused (Input 0)
]
