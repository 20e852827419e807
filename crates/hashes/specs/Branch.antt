-- The hash of a branch as it is handed back: 32 bytes of whichever slice holds it, or an empty part.
-- This goes as `branch_hash` of the requirements, with parts of the hash store and of the supplied hashes where that has bytes.
use Rattle.std.specs.Prelude.{true, false, List, [], ◌∷◌, ℕ, suc, ◌*◌, eqb, length, get_or}
use Rattle.limits.specs.Limits.{hash_bytes}
use Rattle.promise.specs.Parts.{Part, cut}
use Rattle.scope.specs.Nodes.{node_records, node_at, on_hidden}
use Rattle.scope.specs.Hashes.{rights, entry}
use Rattle.scope.specs.Stages.{no_record}
use Rattle.table.specs.Lent.{lent_nodes}

-- the bytes that stand at a place of a slice, if they are 32; else the empty part at the slice's start
unfoldable pub whole_part : (slice : Part) → (at : ℕ) → (bytes : List ℕ) → Part
whole_part slice at bytes = elim (eqb (length bytes) hash_bytes) [ true ↦ cut slice at hash_bytes | false ↦ cut slice 0 0 ]

-- entry e of the supplied hashes
abbrev pub entry_part : (given : Part) → (e : ℕ) → Part
entry_part given e = whole_part given (hash_bytes * e) (entry given.bytes e)

-- the first entry that is for node j, from entry e on; where there is none, the empty part at the start
unfoldable pub supplied_part : (given : Part) → (j e : ℕ) → List ℕ → Part
supplied_part given j e [] = cut given 0 0
supplied_part given j e (r ∷ rs) = elim (eqb r j) [ true ↦ entry_part given e | false ↦ supplied_part given j (suc e) rs ]

-- a hidden node's hash stands in the hash store where its record says, that of any other node among the supplied ones
unfoldable pub branch_part : (nodes : List ℕ) → (hashes given : Part) → (j : ℕ) → Part
branch_part nodes hashes given j =
    on_hidden (node_at (lent_nodes hashes.bytes nodes) j) (whole_part hashes (get_or (node_records nodes) j no_record).first)
    (supplied_part given j 0 (rights (lent_nodes [] nodes)))
