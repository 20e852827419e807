-- Where the values of witness nodes stand in the witness bits: one after the other, in index order.
-- A node's position is the number of bits that the values of the nodes before it take.
use Rattle.std.specs.Prelude.{List, ◌++◌, length, take, drop}
use Prim.Native.Nat.{ℕ, zero, suc, ◌+◌, ◌-◌}
use Rattle.limits.specs.Limits.{node_count}
use Rattle.report.specs.Bits.{Bit}
use Rattle.report.specs.Values.{⟨⟩, compact, Read, value, short, read_value}
use Rattle.report.specs.Nodes.{Node}
use Rattle.scope.specs.Numbers.{zeros, stream_of, held_bits, tabulate}
use Rattle.scope.specs.Types.{TypeRecord, ty_at}
use Rattle.scope.specs.Nodes.{node_at, on_witness}
use Rattle.scope.specs.Arrows.{Arrow, target}

-- how many bits a value that was read takes
unfoldable pub bits_taken : Read → ℕ
unfolding compact
bits_taken (value v rest) = length (compact v)
bits_taken short = 0

module _ (types : List TypeRecord) (nodes : List Node) (arrows : List Arrow) (bits : List Bit) where
  -- what is read for node i from position p on; a node that is no witness takes no bits
  unfoldable pub read_for : (i p : ℕ) → Read
  unfolding on_witness node_at ty_at target read_value
  read_for i p = on_witness (node_at nodes i) (read_value (ty_at types (target arrows i)) (drop p bits)) (value ⟨⟩ (drop p bits))

  -- the position of node i
  unfoldable pub position_at : (i : ℕ) → ℕ
  unfolding read_for bits_taken
  position_at zero = 0
  position_at (suc i) = position_at i + bits_taken (read_for i (position_at i))

-- the positions of all nodes in the first `count` bits of the bytes up to the limit, as an array with a number for every node that a table may have
unfoldable pub positions_of : (types : List TypeRecord) → List Node → List Arrow → (bytes : List ℕ) → (count : ℕ) → List ℕ
unfolding tabulate position_at stream_of
positions_of types nodes arrows bytes count =
    tabulate (length nodes) (position_at types nodes arrows (take count (held_bits bytes))) ++ zeros (node_count - length nodes)
