-- The parts of the whole job, computed: the program of a dossier's tables, stores as cells and back, and how each end leaves cells, frames and answer.
use Rattle.std.specs.Prelude.{◌≡◌, refl, List, [], ◌∷◌, ◌++◌, ℕ, zero, suc, ◌+◌, get_or, replicate}
use Rattle.limits.specs.Limits.{hash_bytes}
use Rattle.refusal.specs.Answers.{Answer}
use Rattle.std.specs.Prelude.{Ok as Value, Err as Refused}
use Rattle.refusal.specs.declared.Refusal.TheVariants.{Arrow as BadArrow, Hash, Witness, Input, StoreShort, FailReached, PrunedReached}
use Rattle.report.specs.Lines.{◌is◌, Hold, o, i}
use Rattle.report.specs.Values.{Val, ⟨⟩, ◌&◌}
use Rattle.report.specs.Nodes.{Node, comp, disconnect, injl, iden, unit, witness, hidden, word}
use Rattle.report.specs.Meaning.{done, failed, pruned, stuck}
use Rattle.scope.specs.Check.{passed, refused}
use Rattle.scope.specs.Numbers.{zeros, tabulate}
use Rattle.scope.specs.Types.{TypeRecord}
use Rattle.scope.specs.Arrows.{Arrow}
use Rattle.scope.specs.Program.{Program}
use Rattle.scope.specs.Machine.{State, state}
use Rattle.scope.specs.Run.{Tables, program_of, check_tables, Left, left_with, cells_of, packed, cleared, written, ends, run_tables, tables_of}
use Rattle.scope.specs.Shorthand.{ty, to, row, table}
use Rattle.scope.specs.HeaderRows.{with, bytes_of32}

-- the value of 2 ^ k times the same bit
unfoldable pub word_of : (k : ℕ) → Val → Val
word_of zero v = v
word_of (suc k) v = word_of k v & word_of k v

abbrev types : List TypeRecord
types = ty 0 0 0 ∷ ty 1 0 0 ∷ ty 2 1 1 ∷ ty 1 1 2 ∷ []

abbrev tables : List Node → List Arrow → (given witness : List ℕ) → (witness_bits : ℕ) → (input : List ℕ) → (input_bits : ℕ) → Tables
tables ns arrows g w wb inp ib = record { types = types; nodes = ns; arrows = arrows; given = g; witness = w; witness_bits = wb; input = inp; input_bits = ib }

-- two disconnects, whose right children are nodes 1 and 0, with hashes of ones and of zeros
abbrev P : Program
P = program_of (tables (iden ∷ unit ∷ disconnect 0 1 ∷ disconnect 2 0 ∷ []) [] (replicate hash_bytes 255 ++ zeros hash_bytes) [] 0 [] 0) (⟨⟩ ∷ i ∷ [])

-- each supplied hash goes to the right child of its own disconnect
hashes_given : Hold (
    P.hash 1 is word_of 8 i
    ∷ P.hash 0 is word_of 8 o
    ∷ P.hash 2 is ⟨⟩
    ∷ get_or P.witnesses 1 ⟨⟩ is i
    ∷ [])
unfolding Hold program_of word_of
hashes_given = refl

-- 11 and 12 come before 13
tables_in_turn : Hold (
    check_tables (tables (unit ∷ []) (to 3 0 ∷ []) [] [] 0 [] 0) is passed tt
    ∷ check_tables (tables (unit ∷ []) (to 3 1 ∷ []) (zeros hash_bytes) [] 0 [] 0) is refused (BadArrow 0)
    ∷ check_tables (tables (unit ∷ []) (to 3 0 ∷ []) (zeros hash_bytes) [] 0 [] 0) is refused (Hash 1)
    ∷ [])
unfolding Hold check_tables
tables_in_turn = refl

-- the sections of the dossier of HeaderRows, whatever its version, whose nodes were decoded
abbrev T : Tables
T = tables_of (with 0 2) (table (row 14 4 2 ∷ row 13 1 0 ∷ []) (tabulate 40 (λ k. k)) 0)

sections : Hold (
    T.given is tabulate 32 (λ k. 120 + k)
    ∷ T.witness is (117 ∷ 118 ∷ [])
    ∷ T.input is (119 ∷ [])
    ∷ (T.witness_bits ∷ T.input_bits ∷ []) is (9 ∷ 3 ∷ [])
    ∷ [])
unfolding Hold tables_of bytes_of32 tabulate
sections = refl

types_of_dossier : T.types ≡ ty 100 0x6566 0x6768 ∷ ty 105 0x6A6B 0x6C6D ∷ []
unfolding tables_of bytes_of32 tabulate
types_of_dossier = refl

arrows_of_dossier : T.arrows ≡ to 0x7172 0x7374 ∷ []
unfolding tables_of bytes_of32 tabulate
arrows_of_dossier = refl

-- the word's bits are the program's, the hidden node's bytes the hash store's
nodes_of_dossier : T.nodes ≡ word 4 (1 ∷ 0 ∷ 1 ∷ 1 ∷ 1 ∷ 0 ∷ 0 ∷ 1 ∷ []) ∷ hidden (tabulate 32 (λ k. k + 1)) ∷ []
unfolding tables_of bytes_of32 tabulate
nodes_of_dossier = refl

-- cells are the bits of bytes, 0 past them, and bytes again
cells_and_bytes : Hold (
    (cells_of (128 ∷ 1 ∷ []) 0 ∷ cells_of (128 ∷ 1 ∷ []) 15 ∷ cells_of (255 ∷ []) 8 ∷ []) is (1 ∷ 1 ∷ 0 ∷ [])
    ∷ packed 2 (cells_of (128 ∷ 7 ∷ 9 ∷ [])) is (128 ∷ 7 ∷ [])
    -- frame records within the bound are zero
    ∷ cleared 1 (1 ∷ 2 ∷ 3 ∷ 4 ∷ 5 ∷ 6 ∷ 7 ∷ []) is (0 ∷ 0 ∷ 0 ∷ 4 ∷ 5 ∷ 6 ∷ 7 ∷ [])
    -- the output's bits, the last byte filled with zeros, later bytes kept
    ∷ written [] (7 ∷ []) is (7 ∷ [])
    ∷ written (1 ∷ 1 ∷ []) (7 ∷ 8 ∷ []) is (192 ∷ 8 ∷ [])
    ∷ written (1 ∷ 0 ∷ 0 ∷ 0 ∷ 0 ∷ 0 ∷ 0 ∷ 0 ∷ []) (7 ∷ 8 ∷ []) is (128 ∷ 8 ∷ [])
    ∷ written (1 ∷ 0 ∷ 0 ∷ 0 ∷ 0 ∷ 0 ∷ 0 ∷ 0 ∷ 1 ∷ []) (7 ∷ 8 ∷ 9 ∷ []) is (128 ∷ 128 ∷ 9 ∷ [])
    ∷ [])
unfolding Hold cells_of packed cleared written
cells_and_bytes = refl

abbrev left : Answer → (cells frames answer : List ℕ) → Left
left says c f a = record { says = says; cells = c; frames = f; answer = a }

-- comp of iden and injl, from a bit to 1 + 2 of width 3: three frames
abbrev Q : Program
Q = program_of (tables (iden ∷ injl 0 ∷ comp 0 1 ∷ []) (to 1 1 ∷ to 1 3 ∷ to 1 3 ∷ []) [] [] 0 [] 0) []

-- the machine's cells at the end: the output, from cell 1 on, is 0, padding, 1
abbrev S : State
S = state (cells_of (0b10110110 ∷ 0b00000001 ∷ [])) [] [] 0

each_end : Hold (
    ends Q (done S) (9 ∷ 9 ∷ []) (replicate 12 8) (7 ∷ 7 ∷ []) is left (Value 2) (0b10110110 ∷ 1 ∷ []) (zeros 9 ++ replicate 3 8) (64 ∷ 7 ∷ [])
    ∷ ends Q (failed 3 S) (9 ∷ 9 ∷ []) (replicate 12 8) (7 ∷ 7 ∷ []) is left (Refused (FailReached 3))
    (0b10110110 ∷ 1 ∷ []) (zeros 9 ++ replicate 3 8) (7 ∷ 7 ∷ [])
    ∷ ends Q (pruned 4 S) (9 ∷ 9 ∷ []) (replicate 12 8) (7 ∷ 7 ∷ []) is left (Refused (PrunedReached 4))
    (0b10110110 ∷ 1 ∷ []) (zeros 9 ++ replicate 3 8) (7 ∷ 7 ∷ [])
    ∷ ends Q stuck (9 ∷ 9 ∷ []) (replicate 12 8) (7 ∷ 7 ∷ []) is left (Refused (StoreShort 0)) (9 ∷ 9 ∷ []) (replicate 12 8) (7 ∷ 7 ∷ [])
    ∷ left_with (Value 1) (9 ∷ []) (8 ∷ []) (7 ∷ []) is left (Value 1) (9 ∷ []) (8 ∷ []) (7 ∷ [])
    ∷ [])
unfolding Hold ends program_of state cells_of left_with
each_end = refl

-- 15, 16, 17 in turn, each with all later ones wrong too; then the run
abbrev ran : (witness : List ℕ) → (witness_bits : ℕ) → (input : List ℕ) → (input_bits : ℕ) → (cells frames answer : List ℕ) → Left
ran w wb inp ib c f a = run_tables (tables (witness ∷ injl 0 ∷ comp 0 1 ∷ []) (to 1 1 ∷ to 1 3 ∷ to 1 3 ∷ []) [] w wb inp ib) c f a

runs_in_turn : Hold (
    ran [] 0 [] 0 [] [] [] is left (Refused (Witness 0)) [] [] []
    ∷ ran (128 ∷ []) 1 [] 0 [] [] [] is left (Refused (Input 0)) [] [] []
    ∷ ran (128 ∷ []) 1 (0 ∷ []) 1 [] (9 ∷ []) [] is left (Refused (StoreShort 0)) [] (9 ∷ []) []
    ∷ ran (128 ∷ []) 1 (0 ∷ []) 1 (0 ∷ 255 ∷ []) (replicate 10 9) (255 ∷ 255 ∷ []) is left (Value 2) (0b00011000 ∷ 255 ∷ []) (zeros 9 ++ 9 ∷ []) (64 ∷ 255 ∷ [])
    ∷ [])
unfolding Hold run_tables
runs_in_turn = refl
