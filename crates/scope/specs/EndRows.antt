-- Every end, computed on whole dossiers in stores with room to spare that held ones: what is said, and what is left in each of the five stores.
use Rattle.std.specs.Prelude.{refl, List, [], ◌∷◌, ◌++◌, true, false, ℕ, ◌+◌, ◌*◌, ◌-◌, ◌%◌, eqb, replicate}
use Rattle.std.specs.Prelude.{Ok as Value, Err as Refused}
use Rattle.refusal.specs.declared.Refusal.TheVariants.{Header, StreamEnded, Natural as BadNatural, Overlong, CanonicalOrder, BothHidden, NodeRepeated, Arrow as BadArrow, Hash, OverLimit, Witness, Input, StoreShort, FailReached, PrunedReached}
use Rattle.report.specs.Lines.{◌is◌, Hold}
use Rattle.report.specs.Nodes.{Node, comp, case, pair, disconnect, injl, injr, take, drop, iden, unit, witness, fail, hidden, word}
use Rattle.scope.specs.Numbers.{zeros, tabulate_from, tabulate}
use Rattle.scope.specs.Types.{TypeRecord}
use Rattle.scope.specs.Nodes.{node_numbers_of}
use Rattle.scope.specs.Rows.{lent, needed, program_in}
use Rattle.scope.specs.Shorthand.{ty, to, row}
use Rattle.scope.specs.Assembled.{code, dossier, job, leaves, spacious, ones, frame_ones, wiped, nodes_kept, hashes_kept}

-- unit and a bit; the same with a bit beside unit and unit beside unit
abbrev two : List TypeRecord
two = ty 0 0 0 ∷ ty 1 0 0 ∷ []

abbrev four : List TypeRecord
four = ty 0 0 0 ∷ ty 1 0 0 ∷ ty 2 1 0 ∷ ty 2 0 0 ∷ []

-- unit and the words up to 256 bits, which is record 9
abbrev words : List TypeRecord
words = ty 0 0 0 ∷ ty 1 0 0 ∷ tabulate 8 (λ k. ty 2 (k + 1) (k + 1))

abbrev h : Node
h = hidden (replicate 32 90)

-- refusals that leave no table
wiped_ends : Hold (
    -- a byte behind the last section
    job spacious (dossier two (code (unit ∷ [])) (to 0 0 ∷ []) [] [] [] ++ 0 ∷ []) is wiped (Header 52)
    -- a distance whose length's length is too long; the same cut off by a byte
    ∷ job spacious (dossier two (0x89 ∷ 0x24 ∷ []) (to 0 0 ∷ to 0 0 ∷ []) [] [] []) is wiped (BadNatural 1)
    ∷ job spacious (dossier two (0x89 ∷ 0x27 ∷ 0xBC ∷ 0 ∷ 0 ∷ []) (to 0 0 ∷ to 0 0 ∷ []) [] [] []) is wiped (Overlong 1)
    ∷ job spacious (dossier two (0x89 ∷ 0x27 ∷ 0xBC ∷ 0 ∷ []) (to 0 0 ∷ to 0 0 ∷ []) [] [] []) is wiped (StreamEnded 1)
    -- two nodes over one, the right one first
    ∷ job spacious (dossier four (code (unit ∷ take 0 ∷ drop 0 ∷ pair 2 1 ∷ [])) (to 0 0 ∷ to 3 0 ∷ to 3 0 ∷ to 3 3 ∷ []) [] [] []) is wiped (CanonicalOrder 1)
    -- hidden hashes that are unlike in their last byte only
    ∷ job spacious (dossier four (code (h ∷ hidden (replicate 31 90 ++ 91 ∷ []) ∷ case 0 1 ∷ [])) (to 0 0 ∷ to 0 0 ∷ to 2 0 ∷ []) [] [] [])
    is wiped (BothHidden 2)
    -- a comp of a node with itself whose source is not its target
    ∷ job spacious (dossier two (code (witness ∷ comp 0 0 ∷ [])) (to 0 1 ∷ to 0 1 ∷ []) [] [] []) is wiped (BadArrow 1)
    -- two equal words, at two positions of the program, and two equal fail nodes; two witnesses alike run below
    ∷ job spacious (dossier words (code (word 2 (1 ∷ 0 ∷ []) ∷ word 2 (1 ∷ 0 ∷ []) ∷ pair 0 1 ∷ [])) (to 0 2 ∷ to 0 2 ∷ to 0 3 ∷ []) [] [] [])
    is wiped (NodeRepeated 1)
    ∷ job (lent 9 128 4 4 3 255) (dossier words (code (fail (replicate 64 7) ∷ fail (replicate 64 7) ∷ pair 0 1 ∷ [])) (to 0 2 ∷ to 0 2 ∷ to 0 3 ∷ []) [] [] [])
    is leaves (Refused (NodeRepeated 1)) (zeros 36) (zeros 128) (ones 4) (frame_ones 4) (ones 3)
    -- three disconnects, the third over the right child of the first, with another hash
    ∷ job spacious (dossier (words ++ ty 2 9 0 ∷ ty 2 9 1 ∷ ty 2 10 11 ∷ ty 2 12 10 ∷ [])
    (code (iden ∷ unit ∷ disconnect 0 1 ∷ injl 1 ∷ disconnect 0 3 ∷ pair 2 4 ∷ disconnect 0 1 ∷ pair 5 6 ∷ []))
    (to 10 10 ∷ to 0 0 ∷ to 0 10 ∷ to 0 1 ∷ to 0 11 ∷ to 0 12 ∷ to 0 10 ∷ to 0 13 ∷ []) [] [] (replicate 32 17 ++ replicate 64 34)) is wiped (Hash 2)
    -- a hash store one byte short for a hidden and a fail node; a node store one record short
    ∷ job (lent 9 95 4 4 3 255) (dossier four (code (h ∷ fail (replicate 64 119) ∷ case 0 1 ∷ [])) (to 0 0 ∷ to 3 0 ∷ to 2 0 ∷ []) [] (1 ∷ []) [])
    is leaves (Refused (StoreShort 4)) (zeros 36) (zeros 95) (ones 4) (frame_ones 4) (ones 3)
    ∷ job (lent 1 97 4 4 3 255) (dossier two (code (unit ∷ injl 0 ∷ [])) (to 0 0 ∷ to 0 1 ∷ []) [] [] [])
    is leaves (Refused (StoreShort 3)) (zeros 4) (zeros 97) (ones 4) (frame_ones 4) (ones 3)
    ∷ [])
unfolding Hold job dossier code wiped tabulate
wiped_ends = refl

-- refusals that leave the table, and cells, frames and answer as they were
kept_ends : Hold (
    -- 14: iden, then 18 times a comp of the last node with itself
    job (lent 20 97 4 4 3 255) (dossier two (code (iden ∷ tabulate 18 (λ k. comp k k))) (replicate 19 (to 0 0)) [] [] [])
    is leaves (Refused (OverLimit 2)) (node_numbers_of (row 8 0 0 ∷ tabulate 18 (λ k. row 0 k k)) ++ zeros 4) (zeros 97) (ones 4) (frame_ones 4) (ones 3)
    -- 15: a witness bit that nothing takes; 16: two bits for one
    ∷ job spacious (dossier two (code (unit ∷ [])) (to 0 0 ∷ []) (1 ∷ []) [] [])
    is leaves (Refused (Witness 1)) (nodes_kept (row 9 0 0 ∷ [])) (zeros 97) (ones 4) (frame_ones 4) (ones 3)
    ∷ job spacious (dossier two (code (iden ∷ [])) (to 1 1 ∷ []) [] (1 ∷ 0 ∷ []) [])
    is leaves (Refused (Input 0)) (nodes_kept (row 8 0 0 ∷ [])) (zeros 97) (ones 4) (frame_ones 4) (ones 3)
    -- 17: no byte for the cells, a number less than two frames, no byte for the answer; the fail node's bytes are kept
    ∷ job (lent 9 97 0 4 3 255) (dossier two (code (fail (replicate 64 7) ∷ [])) (to 0 1 ∷ []) [] [] [])
    is leaves (Refused (StoreShort 0)) (nodes_kept (row 10 0 0 ∷ [])) (hashes_kept (replicate 64 7)) [] (frame_ones 4) (ones 3)
    ∷ job (lent 9 97 4 1 3 255) (dossier two (code (fail (replicate 64 7) ∷ [])) (to 0 1 ∷ []) [] [] [])
    is leaves (Refused (StoreShort 1)) (nodes_kept (row 10 0 0 ∷ [])) (hashes_kept (replicate 64 7)) (ones 4) (frame_ones 1) (ones 3)
    ∷ job (lent 9 97 4 4 0 255) (dossier two (code (fail (replicate 64 7) ∷ [])) (to 0 1 ∷ []) [] [] [])
    is leaves (Refused (StoreShort 2)) (nodes_kept (row 10 0 0 ∷ [])) (hashes_kept (replicate 64 7)) (ones 4) (frame_ones 4) []
    ∷ [])
unfolding Hold job dossier code nodes_kept hashes_kept node_numbers_of tabulate
kept_ends = refl

-- comp of injr and a fail node, to a bit
abbrev failing : List ℕ
failing = dossier two (code (unit ∷ injr 0 ∷ fail (replicate 64 7) ∷ comp 1 2 ∷ [])) (to 0 0 ∷ to 0 1 ∷ to 1 1 ∷ to 0 1 ∷ []) [] [] []

-- one hidden node under two assertions, each beside the same branch, to two bits; the first asserts its left branch, the second its right one
abbrev sharing : (input : List ℕ) → List ℕ
sharing bits =
    dossier (ty 0 0 0 ∷ ty 1 0 0 ∷ ty 2 1 1 ∷ ty 1 0 2 ∷ ty 2 3 1 ∷ ty 2 0 1 ∷ ty 1 2 0 ∷ ty 2 6 1 ∷ ty 2 4 7 ∷ [])
    (code (iden ∷ drop 0 ∷ h ∷ case 1 2 ∷ take 3 ∷ case 2 1 ∷ drop 5 ∷ pair 4 6 ∷ []))
    (to 1 1 ∷ to 5 1 ∷ to 0 0 ∷ to 4 1 ∷ to 8 1 ∷ to 7 1 ∷ to 8 1 ∷ to 8 2 ∷ []) [] bits []

abbrev shared : List ℕ
shared = nodes_kept (row 8 0 0 ∷ row 7 0 0 ∷ row 13 0 0 ∷ row 1 1 2 ∷ row 6 3 0 ∷ row 1 2 1 ∷ row 7 5 0 ∷ row 2 4 6 ∷ [])

-- a case of a fail node and a hidden one with the same bytes, on a bit
abbrev alike : (input : List ℕ) → List ℕ
alike bits = dossier four (code (fail (replicate 64 90) ∷ h ∷ case 0 1 ∷ [])) (to 3 0 ∷ to 0 0 ∷ to 2 0 ∷ []) [] bits []

-- the same the other way round: hidden on the left
abbrev turned : (input : List ℕ) → List ℕ
turned bits = dossier four (code (h ∷ fail (replicate 64 119) ∷ case 0 1 ∷ [])) (to 0 0 ∷ to 3 0 ∷ to 2 0 ∷ []) [] bits []

-- 18 and 19: cells are what the rules left, frame records within the bound are zero, all beyond the bounds and the answer are as they were
stopped_ends : Hold (
    job spacious failing
    is leaves (Refused (FailReached 2)) (nodes_kept (row 9 0 0 ∷ row 5 0 0 ∷ row 10 0 0 ∷ row 0 1 2 ∷ [])) (hashes_kept (replicate 64 7))
    (ones 4) (zeros 9 ++ frame_ones 1) (ones 3)
    -- the same on old zeros: the frame of the comp has its bit
    ∷ job (lent 9 97 4 4 3 0) failing
    is leaves (Refused (FailReached 2)) (nodes_kept (row 9 0 0 ∷ row 5 0 0 ∷ row 10 0 0 ∷ row 0 1 2 ∷ [])) (hashes_kept (replicate 64 7))
    (64 ∷ zeros 3) (zeros 12) (zeros 3)
    ∷ job spacious (sharing (0 ∷ 1 ∷ 0 ∷ 1 ∷ 1 ∷ 0 ∷ []))
    is leaves (Refused (PrunedReached 5)) shared (hashes_kept (replicate 32 90)) (22 ∷ ones 3) (zeros 6 ++ frame_ones 2) (ones 3)
    ∷ job spacious (alike (0 ∷ []))
    is leaves (Refused (FailReached 0)) (nodes_kept (row 10 0 0 ∷ row 13 64 0 ∷ row 1 0 1 ∷ [])) (hashes_kept (replicate 96 90))
    (127 ∷ ones 3) (zeros 6 ++ frame_ones 2) (ones 3)
    ∷ job spacious (alike (1 ∷ []))
    is leaves (Refused (PrunedReached 2)) (nodes_kept (row 10 0 0 ∷ row 13 64 0 ∷ row 1 0 1 ∷ [])) (hashes_kept (replicate 96 90)) (ones 4)
    (zeros 6 ++ frame_ones 2) (ones 3)
    ∷ job spacious (turned (0 ∷ []))
    is leaves (Refused (PrunedReached 2)) (nodes_kept (row 13 0 0 ∷ row 10 32 0 ∷ row 1 0 1 ∷ []))
    (hashes_kept (replicate 32 90 ++ replicate 64 119)) (127 ∷ ones 3) (zeros 6 ++ frame_ones 2) (ones 3)
    ∷ job spacious (turned (1 ∷ []))
    is leaves (Refused (FailReached 1)) (nodes_kept (row 13 0 0 ∷ row 10 32 0 ∷ row 1 0 1 ∷ []))
    (hashes_kept (replicate 32 90 ++ replicate 64 119)) (ones 4) (zeros 6 ++ frame_ones 2) (ones 3)
    ∷ [])
unfolding Hold job dossier code nodes_kept hashes_kept
stopped_ends = refl

-- unit, and then in turn a product with unit and a sum with itself
unfoldable pub case_type : (k : ℕ) → TypeRecord
case_type k = elim (eqb (k % 2) 0) [ true ↦ ty 1 (k - 2) (k - 2) | false ↦ ty 2 (k - 1) 0 ]

-- 20 cases, each over the node before it twice
abbrev cases : List ℕ
cases =
    dossier (ty 0 0 0 ∷ tabulate_from 1 41 case_type) (code (unit ∷ tabulate 20 (λ k. case k k))) (tabulate 21 (λ k. to (2 * k + 1) 0))
    [] (tabulate 20 (λ k. k % 2)) []

-- injl to 1 + (1 + 1), whose padding a disconnect copies, hands on and copies again
abbrev disconnecting : List ℕ
disconnecting =
    dossier (words ++ ty 1 0 1 ∷ ty 2 9 10 ∷ ty 2 10 10 ∷ []) (code (unit ∷ injl 0 ∷ iden ∷ pair 2 2 ∷ drop 3 ∷ disconnect 4 2 ∷ comp 1 5 ∷ []))
    (to 0 0 ∷ to 0 10 ∷ to 10 10 ∷ to 10 12 ∷ to 11 12 ∷ to 10 12 ∷ to 0 12 ∷ []) [] [] (ones 32)

-- outputs: their bits, the last byte filled with zeros, later bytes kept; else as above
output_ends : Hold (
    -- words unlike in their last bit; two witnesses alike, one bit each
    job spacious (dossier words (code (word 2 (1 ∷ 0 ∷ []) ∷ word 2 (1 ∷ 1 ∷ []) ∷ pair 0 1 ∷ [])) (to 0 2 ∷ to 0 2 ∷ to 0 3 ∷ []) [] [] [])
    is leaves (Value 4) (nodes_kept (row 14 2 8 ∷ row 14 2 15 ∷ row 2 0 1 ∷ [])) (zeros 97) (191 ∷ ones 3) (zeros 6 ++ frame_ones 2) (176 ∷ ones 2)
    ∷ job spacious (dossier words (code (witness ∷ witness ∷ pair 0 1 ∷ [])) (to 0 1 ∷ to 0 1 ∷ to 0 2 ∷ []) (1 ∷ 1 ∷ []) [] [])
    is leaves (Value 2) (nodes_kept (row 12 0 0 ∷ row 12 0 0 ∷ row 2 0 1 ∷ [])) (zeros 97) (255 ∷ ones 3) (zeros 6 ++ frame_ones 2) (192 ∷ ones 2)
    ∷ job spacious (sharing (0 ∷ 1 ∷ 1 ∷ 0 ∷ []))
    is leaves (Value 2) shared (hashes_kept (replicate 32 90)) (24 ∷ 191 ∷ ones 2) (zeros 6 ++ frame_ones 2) (128 ∷ ones 2)
    ∷ job (lent 22 97 4 4 3 255) cases
    is leaves (Value 0) (node_numbers_of (row 9 0 0 ∷ tabulate 20 (λ k. row 1 k k)) ++ zeros 4) (zeros 97) (85 ∷ 85 ∷ 95 ∷ ones 1)
    (zeros 6 ++ frame_ones 2) (ones 3)
    ∷ job (lent 9 97 36 6 3 255) disconnecting
    is leaves (Value 2) (nodes_kept (row 9 0 0 ∷ row 4 0 0 ∷ row 8 0 0 ∷ row 2 2 2 ∷ row 7 3 0 ∷ row 3 4 2 ∷ row 0 1 5 ∷ [])) (zeros 97)
    (87 ∷ ones 31 ++ 253 ∷ 95 ∷ ones 2) (zeros 15 ++ frame_ones 1) (0 ∷ ones 2)
    ∷ [])
unfolding Hold job dossier code nodes_kept hashes_kept node_numbers_of tabulate tabulate_from case_type
output_ends = refl

-- their cells, frames and cost; a case costs no more than its larger branch
bounds_known : Hold (
    needed (program_in failing (zeros 36) (zeros 97)) is (2 ∷ 3 ∷ 301 ∷ [])
    ∷ needed (program_in (sharing []) (zeros 36) (zeros 97)) is (10 ∷ 2 ∷ 902 ∷ [])
    ∷ needed (program_in (alike []) (zeros 36) (zeros 97)) is (1 ∷ 2 ∷ 100 ∷ [])
    ∷ needed (program_in cases (zeros 88) []) is (20 ∷ 2 ∷ 2100 ∷ [])
    ∷ needed (program_in disconnecting (zeros 36) []) is (268 ∷ 5 ∷ 1430 ∷ [])
    ∷ [])
unfolding Hold needed program_in dossier code tabulate tabulate_from case_type
bounds_known = refl
