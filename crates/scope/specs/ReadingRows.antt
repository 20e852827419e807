-- Reading, computed: naturals at their borders, each kind of node, every way in which a node's bits can be wrong, and the stores that are too short.
use Rattle.std.specs.Prelude.{refl, List, [], ◌∷◌, ◌++◌, ℕ, ◌+◌, ◌-◌, ◌*◌, ◌^◌, replicate}
use Rattle.limits.specs.Limits.{node_count, natural_length, word_most, hash_bytes, fail_bytes}
use Rattle.refusal.specs.declared.Refusal.TheVariants.{StreamEnded, Natural as BadNatural, Overlong, Jet, StoreShort}
use Rattle.report.specs.Lines.{◌is◌, Hold}
use Rattle.report.specs.Bits.{Bit, bits_of}
use Rattle.report.specs.Naturals.{code_natural, code_by, log2_by, low_bits}
use Rattle.report.specs.Nodes.{comp, unit, injl, fail, hidden, code_program}
use Rattle.scope.specs.Check.{passed, refused}
use Rattle.scope.specs.Numbers.{tabulate}
use Rattle.scope.specs.Naturals.{natural, ended, too_long, read_natural}
use Rattle.scope.specs.Nodes.{Kind, k_unknown, kind_number}
use Rattle.scope.specs.Reading.{codes, stream_ended, length_too_long, over_bound, a_jet, hashes_short, Got, got, fault, Item, next, code, natural_up_to, child, octets, node, node_in, read_nodes}
use Rattle.scope.specs.Shorthand.{row, table}

naturals : Hold (
    read_natural (0 ∷ 1 ∷ []) is natural 1 (1 ∷ [])
    ∷ read_natural (1 ∷ 0 ∷ 0 ∷ 1 ∷ []) is natural 2 (1 ∷ [])
    ∷ read_natural (1 ∷ 0 ∷ 1 ∷ []) is natural 3 []
    ∷ read_natural (1 ∷ 1 ∷ 0 ∷ 0 ∷ 0 ∷ 0 ∷ []) is natural 4 []
    ∷ read_natural (code_natural 13 ++ 1 ∷ 0 ∷ []) is natural 13 (1 ∷ 0 ∷ [])
    -- the stream ends at once, after a one, in a length, in the last bits
    ∷ read_natural [] is ended
    ∷ read_natural (1 ∷ []) is ended
    ∷ read_natural (1 ∷ 1 ∷ 0 ∷ []) is ended
    ∷ read_natural (1 ∷ 1 ∷ 0 ∷ 0 ∷ 0 ∷ []) is ended
    -- the longest length, from its least number to its largest, and a bit short of it
    ∷ read_natural (code_natural (2 ^ natural_length)) is natural (2 ^ natural_length) []
    ∷ read_natural (code_natural (2 ^ (natural_length + 1) - 1)) is natural (2 ^ (natural_length + 1) - 1) []
    ∷ read_natural (1 ∷ code_natural natural_length ++ replicate (natural_length - 1) 0) is ended
    -- a length above it is too long before its bits are asked for, also as the length of a length
    ∷ read_natural (1 ∷ code_natural (natural_length + 1)) is too_long
    ∷ read_natural (1 ∷ 1 ∷ code_natural (natural_length + 1)) is too_long
    ∷ [])
unfolding Hold read_natural code_by log2_by low_bits
naturals = refl

-- from a position on, up to a bound
bounded : Hold (
    natural_up_to (1 ∷ 1 ∷ 0 ∷ 1 ∷ 1 ∷ []) 3 1 is got 3 4
    ∷ natural_up_to (1 ∷ 1 ∷ 0 ∷ 1 ∷ 1 ∷ []) 2 1 is fault over_bound
    ∷ natural_up_to (1 ∷ 1 ∷ 0 ∷ []) 3 1 is fault stream_ended
    ∷ natural_up_to (1 ∷ code_natural 32) 3 0 is fault length_too_long
    ∷ child (1 ∷ 0 ∷ []) 3 1 is got 2 2
    ∷ child (1 ∷ 0 ∷ 1 ∷ []) 3 0 is got 0 3
    ∷ child (1 ∷ 1 ∷ 0 ∷ 0 ∷ 0 ∷ 0 ∷ []) 3 0 is fault over_bound
    ∷ code (0 ∷ 1 ∷ 0 ∷ 1 ∷ []) 2 1 is got 2 3
    ∷ code (0 ∷ 1 ∷ 0 ∷ 1 ∷ []) 3 1 is got 5 4
    ∷ code (0 ∷ 1 ∷ 0 ∷ 1 ∷ []) 4 1 is fault stream_ended
    ∷ [])
unfolding Hold natural_up_to child code code_by log2_by low_bits
bounded = refl

whole_bytes : Hold (
    next (0 ∷ 1 ∷ 0 ∷ 1 ∷ []) 2 1 is got (1 ∷ 0 ∷ []) 3
    ∷ octets (1 ∷ bits_of (7 ∷ 9 ∷ [])) 2 1 is got (7 ∷ 9 ∷ []) 17
    ∷ octets (1 ∷ bits_of (7 ∷ 9 ∷ [])) 2 2 is fault stream_ended
    ∷ [])
unfolding Hold next octets bits_of
whole_bytes = refl

abbrev item : (kind first second : ℕ) → (stored : List ℕ) → Item
item k a b bytes = record { node = row k a b; stored = bytes }

-- node 3, from bit 1 on, with 5 bytes in the hash store
abbrev read : List Bit → Got Item
read bits = node (1 ∷ bits) 3 5 1

-- bytes 1, 2, 3, ..
abbrev counting : ℕ → List ℕ
counting n = tabulate n (λ k. k + 1)

-- every code of the table is read as its kind
abbrev kind_read : Got Item → ℕ
kind_read (got x next) = x.node.kind
kind_read (fault e) = kind_number k_unknown

abbrev kinds_read : List (List Bit × Kind) → List ℕ
kinds_read [] = []
kinds_read (c ∷ cs) = kind_read (read (c.0 ++ replicate (8 * fail_bytes) 0)) ∷ kinds_read cs

abbrev kinds_named : List (List Bit × Kind) → List ℕ
kinds_named [] = []
kinds_named (c ∷ cs) = kind_number c.1 ∷ kinds_named cs

every_code : Hold (kinds_read codes is kinds_named codes ∷ [])
unfolding Hold node
every_code = refl

nodes_read : Hold (
    read (0 ∷ 0 ∷ 0 ∷ 0 ∷ 0 ∷ 0 ∷ 1 ∷ 0 ∷ 0 ∷ []) is got (item 0 2 1 []) 10
    ∷ read (0 ∷ 0 ∷ 0 ∷ 0 ∷ 1 ∷ 0 ∷ 1 ∷ 0 ∷ 0 ∷ []) is got (item 1 2 1 []) 10
    ∷ read (0 ∷ 0 ∷ 0 ∷ 1 ∷ 0 ∷ 0 ∷ 1 ∷ 0 ∷ 0 ∷ []) is got (item 2 2 1 []) 10
    ∷ read (0 ∷ 0 ∷ 0 ∷ 1 ∷ 1 ∷ 0 ∷ 1 ∷ 0 ∷ 0 ∷ []) is got (item 3 2 1 []) 10
    ∷ read (0 ∷ 0 ∷ 1 ∷ 0 ∷ 0 ∷ 1 ∷ 0 ∷ 0 ∷ []) is got (item 4 1 0 []) 9
    ∷ read (0 ∷ 0 ∷ 1 ∷ 0 ∷ 1 ∷ 1 ∷ 0 ∷ 0 ∷ []) is got (item 5 1 0 []) 9
    ∷ read (0 ∷ 0 ∷ 1 ∷ 1 ∷ 0 ∷ 1 ∷ 0 ∷ 0 ∷ []) is got (item 6 1 0 []) 9
    ∷ read (0 ∷ 0 ∷ 1 ∷ 1 ∷ 1 ∷ 1 ∷ 0 ∷ 0 ∷ []) is got (item 7 1 0 []) 9
    ∷ read (0 ∷ 1 ∷ 0 ∷ 0 ∷ 0 ∷ []) is got (item 8 0 0 []) 6
    ∷ read (0 ∷ 1 ∷ 0 ∷ 0 ∷ 1 ∷ []) is got (item 9 0 0 []) 6
    ∷ read (0 ∷ 1 ∷ 0 ∷ 1 ∷ 0 ∷ bits_of (counting fail_bytes)) is got (item 10 5 0 (counting fail_bytes)) 518
    ∷ read (0 ∷ 1 ∷ 0 ∷ 1 ∷ 1 ∷ 1 ∷ 0 ∷ 0 ∷ []) is got (item 11 1 0 []) 9
    ∷ read (0 ∷ 1 ∷ 1 ∷ 1 ∷ []) is got (item 12 0 0 []) 5
    ∷ read (0 ∷ 1 ∷ 1 ∷ 0 ∷ bits_of (counting hash_bytes)) is got (item 13 5 0 (counting hash_bytes)) 261
    ∷ read (1 ∷ 0 ∷ 0 ∷ 1 ∷ []) is got (item 14 1 4 []) 5
    ∷ read (1 ∷ 0 ∷ 1 ∷ 0 ∷ 1 ∷ 1 ∷ 1 ∷ 0 ∷ 1 ∷ []) is got (item 14 3 6 []) 10
    -- the stream ends: before a code, in it, before a distance, before the second one, in bytes, in a word
    ∷ read [] is fault stream_ended
    ∷ read (0 ∷ 1 ∷ []) is fault stream_ended
    ∷ read (0 ∷ 0 ∷ 0 ∷ 1 ∷ []) is fault stream_ended
    ∷ read (0 ∷ 0 ∷ 1 ∷ 1 ∷ []) is fault stream_ended
    ∷ read (0 ∷ 1 ∷ 0 ∷ 0 ∷ []) is fault stream_ended
    ∷ read (0 ∷ 1 ∷ 1 ∷ []) is fault stream_ended
    ∷ read (1 ∷ []) is fault stream_ended
    ∷ read (0 ∷ 0 ∷ 0 ∷ 0 ∷ 0 ∷ []) is fault stream_ended
    ∷ read (0 ∷ 0 ∷ 0 ∷ 0 ∷ 0 ∷ 0 ∷ []) is fault stream_ended
    ∷ read (0 ∷ 0 ∷ 1 ∷ 0 ∷ 0 ∷ []) is fault stream_ended
    ∷ read (0 ∷ 1 ∷ 0 ∷ 1 ∷ 0 ∷ replicate 511 1) is fault stream_ended
    ∷ read (0 ∷ 1 ∷ 1 ∷ 0 ∷ replicate 255 1) is fault stream_ended
    ∷ read (1 ∷ 0 ∷ 1 ∷ 0 ∷ 1 ∷ 1 ∷ 1 ∷ 0 ∷ []) is fault stream_ended
    -- a distance above the index, the first or the second; the first fault is told
    ∷ read (0 ∷ 0 ∷ 0 ∷ 0 ∷ 0 ∷ 1 ∷ 1 ∷ 0 ∷ 0 ∷ 0 ∷ 0 ∷ []) is fault over_bound
    ∷ read (0 ∷ 0 ∷ 0 ∷ 0 ∷ 0 ∷ 0 ∷ 1 ∷ 1 ∷ 0 ∷ 0 ∷ 0 ∷ 0 ∷ []) is fault over_bound
    ∷ read (0 ∷ 0 ∷ 1 ∷ 0 ∷ 0 ∷ 1 ∷ 1 ∷ 0 ∷ 0 ∷ 0 ∷ 0 ∷ []) is fault over_bound
    ∷ read (0 ∷ 1 ∷ 0 ∷ 1 ∷ 1 ∷ 1 ∷ 1 ∷ 0 ∷ 0 ∷ 0 ∷ 0 ∷ []) is fault over_bound
    ∷ read (0 ∷ 0 ∷ 0 ∷ 0 ∷ 0 ∷ 1 ∷ code_natural 32) is fault length_too_long
    -- a word's n at its bound, with no bits behind it, and above it
    ∷ read (1 ∷ 0 ∷ code_natural word_most) is fault stream_ended
    ∷ read (1 ∷ 0 ∷ code_natural (word_most + 1)) is fault over_bound
    ∷ read (1 ∷ 1 ∷ []) is fault a_jet
    -- just room for the bytes of a hidden or a fail node, and one byte less; a short stream comes before a short store
    ∷ node_in (0 ∷ 1 ∷ 1 ∷ 0 ∷ bits_of (counting hash_bytes)) (5 + hash_bytes) 3 5 0 is got (item 13 5 0 (counting hash_bytes)) 260
    ∷ node_in (0 ∷ 1 ∷ 1 ∷ 0 ∷ bits_of (counting hash_bytes)) (4 + hash_bytes) 3 5 0 is fault hashes_short
    ∷ node_in (0 ∷ 1 ∷ 0 ∷ 1 ∷ 0 ∷ bits_of (counting fail_bytes)) (4 + fail_bytes) 3 5 0 is fault hashes_short
    ∷ node_in (0 ∷ 1 ∷ 1 ∷ 0 ∷ replicate 255 1) 5 3 5 0 is fault stream_ended
    ∷ node_in (0 ∷ 1 ∷ 1 ∷ 1 ∷ []) 5 3 5 0 is got (item 12 0 0 []) 4
    ∷ [])
unfolding Hold node node_in tabulate bits_of code_by log2_by low_bits
nodes_read = refl

-- a hidden node, a fail node, a hidden node and their comps; byte positions in the order of the nodes
abbrev stored : List Bit
stored = code_program (hidden (replicate hash_bytes 1) ∷ fail (replicate fail_bytes 2) ∷ comp 0 1 ∷ hidden (replicate hash_bytes 3) ∷ comp 2 3 ∷ [])

programs_read : Hold (
    read_nodes (code_program (unit ∷ injl 0 ∷ []) ++ 1 ∷ []) 2 0 is passed (table (row 9 0 0 ∷ row 4 0 0 ∷ []) [] 14)
    ∷ read_nodes stored 5 128
    is passed (table (row 13 0 0 ∷ row 10 32 0 ∷ row 0 0 1 ∷ row 13 96 0 ∷ row 0 2 3 ∷ []) (replicate 32 1 ++ replicate 64 2 ++ replicate 32 3) 1061)
    ∷ read_nodes stored 5 127 is refused (StoreShort 4)
    ∷ read_nodes stored 4 127 is refused (StoreShort 3)
    -- the count: no bits, at its bound and above it, with a length that is too long
    ∷ read_nodes [] 9 9 is refused (StreamEnded 0)
    ∷ read_nodes (code_natural node_count) (node_count - 1) 9 is refused (StoreShort 3)
    ∷ read_nodes (code_natural node_count) node_count 9 is refused (StreamEnded 0)
    ∷ read_nodes (code_natural (node_count + 1)) 0 9 is refused (BadNatural 0)
    ∷ read_nodes (1 ∷ code_natural 32) 9 9 is refused (Overlong 0)
    ∷ read_nodes (1 ∷ code_natural 32) 0 9 is refused (Overlong 0)
    -- node 1 after a unit: cut off, a distance too large, a length too long, a jet
    ∷ read_nodes (code_natural 2 ++ 0 ∷ 1 ∷ 0 ∷ 0 ∷ 1 ∷ 0 ∷ []) 9 9 is refused (StreamEnded 1)
    ∷ read_nodes (code_natural 2 ++ 0 ∷ 1 ∷ 0 ∷ 0 ∷ 1 ∷ 0 ∷ 0 ∷ 1 ∷ 0 ∷ 0 ∷ 1 ∷ 0 ∷ 0 ∷ []) 9 9 is refused (BadNatural 1)
    ∷ read_nodes (code_natural 2 ++ 0 ∷ 1 ∷ 0 ∷ 0 ∷ 1 ∷ 0 ∷ 0 ∷ 1 ∷ 0 ∷ 0 ∷ 1 ∷ code_natural 32) 9 9 is refused (Overlong 1)
    ∷ read_nodes (code_natural 2 ++ 0 ∷ 1 ∷ 0 ∷ 0 ∷ 1 ∷ 1 ∷ 0 ∷ 1 ∷ code_natural 32) 9 9 is refused (Overlong 1)
    ∷ read_nodes (code_natural 2 ++ 0 ∷ 1 ∷ 0 ∷ 0 ∷ 1 ∷ 1 ∷ 1 ∷ []) 9 9 is refused (Jet 1)
    -- the node store is judged before a node is read
    ∷ read_nodes (code_natural 2 ++ 1 ∷ 1 ∷ []) 1 9 is refused (StoreShort 3)
    ∷ [])
unfolding Hold read_nodes code_program code_by log2_by low_bits
programs_read = refl
