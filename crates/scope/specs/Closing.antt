-- Closing: no whole byte is left after a position, and the padding up to the end is zero (10, and the ends of 15 and 16).
-- And decoding as a whole: all nodes are read, then the walk, then the closing.
use Rattle.std.specs.Prelude.{Bool, List, [], ◌∷◌, ℕ, ◌-◌, eqb, leb, ltb, length, drop}
use Rattle.limits.specs.Limits.{dossier_bytes}
use Rattle.refusal.specs.declared.Refusal.TheVariants.{Header, Closing}
use Rattle.report.specs.Bits.{Bit}
use Rattle.scope.specs.Check.{Check, passed, refused, ◌>>=◌, require}
use Rattle.scope.specs.Numbers.{zeros, filled, stream_of, every, all_zero}
use Rattle.scope.specs.Nodes.{node_numbers_of, nodes_of}
use Rattle.scope.specs.Reading.{NodeTable, read_nodes}
use Rattle.scope.specs.Walk.{check_walk}

-- the bits end at the position, but for fewer than eight zeros
unfoldable pub closes : List Bit → (at : ℕ) → Bool
unfolding every all_zero
closes bits at = every (leb at (length bits) ∷ ltb (length bits - at) 8 ∷ all_zero (drop at bits) ∷ [])

-- nothing of the bytes is left over: no bit of the first `count` after the values, no byte above the limit, and the count closes the bytes
abbrev pub used_up : (bytes : List ℕ) → (count : ℕ) → (rest : List Bit) → Bool
used_up bytes count rest = every (eqb (length rest) 0 ∷ leb (length bytes) dossier_bytes ∷ closes (stream_of bytes) count ∷ [])

-- a program's bytes into stores for `records` records and `bytes` bytes
unfoldable pub decode : (program : List ℕ) → (records bytes : ℕ) → Check NodeTable
unfolding ◌>>=◌ require stream_of read_nodes check_walk nodes_of closes
decode program records bytes = do
  fits ← require (leb (length program) dossier_bytes) (Header 0)
  t ← read_nodes (stream_of program) records bytes
  walked ← check_walk (nodes_of (stream_of program) t.hashes t.records)
  closed ← require (closes (stream_of program) t.end) (Closing (length t.records))
  passed t

-- what decoding leaves in the node store and in the hash store: what was decoded and zeros after it, or zeros alone
unfoldable pub nodes_left : Check NodeTable → (store : List ℕ) → List ℕ
unfolding filled node_numbers_of
nodes_left (passed t) store = filled (node_numbers_of t.records) store
nodes_left (refused r) store = zeros (length store)

unfoldable pub hashes_left : Check NodeTable → (store : List ℕ) → List ℕ
unfolding filled
hashes_left (passed t) store = filled t.hashes store
hashes_left (refused r) store = zeros (length store)
