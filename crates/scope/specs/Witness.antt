-- Witness bits: a compact value of its target for each witness node, in index order (15 at the node where they run out);
-- then nothing left over, and leftover bits of the last byte zero (15 at the node count). Bytes above the limit are left over.
use Rattle.std.specs.Prelude.{List, [], ◌∷◌, ◌++◌, ℕ, suc, length, take}
use Rattle.refusal.specs.declared.Refusal.TheVariants.{Witness}
use Rattle.report.specs.Bits.{Bit}
use Rattle.report.specs.Values.{Val, ⟨⟩, value, short, read_value}
use Rattle.report.specs.Nodes.{Node}
use Rattle.scope.specs.Check.{Check, passed, refused, ◌>>=◌, require}
use Rattle.scope.specs.Numbers.{held_bits, stream_of, every}
use Rattle.scope.specs.Types.{TypeRecord, ty_at}
use Rattle.scope.specs.Nodes.{on_witness}
use Rattle.scope.specs.Closing.{closes, used_up}
use Rattle.scope.specs.Arrows.{Arrow, target}

-- a value for each node so far, and the bits that are left
pub record Values : Type 0 where
  pub values : List Val
  pub rest : List Bit

-- the values of the nodes from node i on; a node that is no witness takes no bits
unfoldable pub values_from : (types : List TypeRecord) → (arrows : List Arrow) → (i : ℕ) → List Node → List Val → List Bit → Check Values
unfolding on_witness ty_at target read_value
values_from types arrows i [] values rest = passed (record { values = values; rest = rest })
values_from types arrows i (n ∷ ns) values rest = elim (on_witness n (read_value (ty_at types (target arrows i)) rest) (value ⟨⟩ rest)) [
  | value v rest ↦ values_from types arrows (suc i) ns (values ++ v ∷ []) rest
  | short ↦ refused (Witness i)
]

-- the values of all witness nodes, from the first `count` bits of the bytes up to the limit
unfoldable pub check_witness : (types : List TypeRecord) → List Node → List Arrow → (bytes : List ℕ) → (count : ℕ) → Check (List Val)
unfolding ◌>>=◌ require values_from stream_of closes every
check_witness types nodes arrows bytes count = do
  read ← values_from types arrows 0 nodes [] (take count (held_bits bytes))
  used ← require (used_up bytes count read.rest) (Witness (length nodes))
  passed read.values
