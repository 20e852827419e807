-- Stages over lent tables, computed: each number of a record of each kind (26), what comes before and after it, and the checks made again.
use Rattle.std.specs.Prelude.{◌≡◌, refl, Bool, true, false, List, [], ◌∷◌, ◌++◌, ℕ, zero, suc, ◌+◌, ◌*◌, ◌-◌, ◌^◌, replicate}
use Rattle.limits.specs.Limits.{node_count, type_count, dossier_bytes, word_most, node_numbers, type_bytes}
use Rattle.refusal.specs.Answers.{Answer}
use Rattle.std.specs.Prelude.{Ok as Value, Err as Refused}
use Rattle.refusal.specs.declared.Refusal.TheVariants.{Header, TypeRecord as BadTypeRecord, Natural as BadNatural, CanonicalOrder, HiddenElsewhere, NodeRepeated, OneChildDisconnect, Arrow as BadArrow, Hash, OverLimit, Witness, Input, StoreShort, NodeRecord as BadNodeRecord}
use Rattle.report.specs.Lines.{◌is◌, Hold}
use Rattle.scope.specs.Check.{passed, refused}
use Rattle.scope.specs.Numbers.{zeros}
use Rattle.scope.specs.Nodes.{Kind, k_comp, k_case, k_pair, k_disconnect, k_injl, k_injr, k_take, k_drop, k_iden, k_unit, k_fail, k_disconnect1, k_witness, k_hidden, k_word, k_unknown}
use Rattle.scope.specs.Run.{Left}
use Rattle.scope.specs.Stages.{counted, numbers_rule, no_record, record_rule, check_records, walk_stage, arrow_stage, hash_stage, bounds_stage, run_stage}
use Rattle.scope.specs.Shorthand.{row}

-- record 3 of a kind with these numbers, beside 8 bits of program and 70 bytes of hashes
abbrev rule : Kind → (a b c : ℕ) → Bool
rule k a b c = numbers_rule 8 70 3 k a b c

-- two children up to node 2: with each number at its best, and then each too large
abbrev two : Kind → List Bool
two k = rule k 2 2 0 ∷ rule k 3 2 0 ∷ rule k 2 3 0 ∷ rule k 2 2 1 ∷ []

-- one child; none
abbrev one : Kind → List Bool
one k = rule k 2 0 0 ∷ rule k 3 0 0 ∷ rule k 2 1 0 ∷ rule k 2 0 1 ∷ []

abbrev none : Kind → List Bool
none k = rule k 0 0 0 ∷ rule k 1 0 0 ∷ rule k 0 1 0 ∷ rule k 0 0 1 ∷ []

-- bytes in the hash store up to its end, of this many
abbrev held : Kind → ℕ → List Bool
held k at = rule k at 0 0 ∷ rule k (at + 1) 0 0 ∷ rule k at 1 0 ∷ rule k at 0 1 ∷ []

abbrev first_only : List Bool
first_only = true ∷ false ∷ false ∷ false ∷ []

numbers_of_kinds : Hold (
    two k_comp is first_only
    ∷ two k_case is first_only
    ∷ two k_pair is first_only
    ∷ two k_disconnect is first_only
    ∷ one k_injl is first_only
    ∷ one k_injr is first_only
    ∷ one k_take is first_only
    ∷ one k_drop is first_only
    ∷ one k_disconnect1 is first_only
    ∷ none k_iden is first_only
    ∷ none k_unit is first_only
    ∷ none k_witness is first_only
    ∷ held k_fail 6 is first_only
    ∷ held k_hidden 38 is first_only
    -- a word's bits end where the program's end, or one further; its third number
    ∷ (rule k_word 1 7 0 ∷ rule k_word 1 8 0 ∷ rule k_word 4 0 0 ∷ rule k_word 4 1 0 ∷ rule k_word 1 0 1 ∷ []) is (true ∷ false ∷ true ∷ false ∷ false ∷ [])
    -- its n is 1 to 32, where there are bits enough
    ∷ (rule k_word 0 0 0 ∷ numbers_rule (2 ^ 40) 0 3 k_word word_most 0 0 ∷ numbers_rule (2 ^ 40) 0 3 k_word (word_most + 1) 0 0 ∷ []) is (false ∷ true ∷ false ∷ [])
    ∷ none k_unknown is replicate 4 false
    -- a record by its place in the table, and none past its end
    ∷ (record_rule 8 0 (row 9 0 0 ∷ row 4 0 0 ∷ row 4 2 0 ∷ []) 1 ∷ record_rule 8 0 (row 9 0 0 ∷ row 4 0 0 ∷ row 4 2 0 ∷ []) 2 ∷ record_rule 8 0 [] 0 ∷ [])
    is (true ∷ false ∷ false ∷ [])
    ∷ [])
unfolding Hold numbers_rule record_rule
numbers_of_kinds = refl

no_record_lem : no_record ≡ row 15 0 0
no_record_lem = refl

abbrev unit_node : List ℕ
unit_node = 9 ∷ 0 ∷ 0 ∷ 0 ∷ []

-- a record of no kind
abbrev bad_node : List ℕ
bad_node = 15 ∷ 0 ∷ 0 ∷ 0 ∷ []

-- comp of a hidden node and a unit
abbrev hidden_comp : List ℕ
hidden_comp = 13 ∷ 0 ∷ 0 ∷ 0 ∷ 9 ∷ 0 ∷ 0 ∷ 0 ∷ 0 ∷ 0 ∷ 1 ∷ 0 ∷ []

abbrev unit_type : List ℕ
unit_type = 0 ∷ 0 ∷ 0 ∷ 0 ∷ 0 ∷ []

-- two words of one bit of the program, and their pair
abbrev word_pair : (first second : ℕ) → List ℕ
word_pair p q = 14 ∷ 1 ∷ p ∷ 0 ∷ 14 ∷ 1 ∷ q ∷ 0 ∷ 2 ∷ 0 ∷ 1 ∷ 0 ∷ []

-- unit, a bit and two bits, and the arrows of these words
abbrev bit_types : List ℕ
bit_types = unit_type ++ 1 ∷ 0 ∷ 0 ∷ 0 ∷ 0 ∷ 2 ∷ 0 ∷ 1 ∷ 0 ∷ 1 ∷ []

abbrev word_arrows : List ℕ
word_arrows = 0 ∷ 0 ∷ 0 ∷ 1 ∷ 0 ∷ 0 ∷ 0 ∷ 1 ∷ 0 ∷ 0 ∷ 0 ∷ 2 ∷ []

abbrev too_long : List ℕ
too_long = zeros (dossier_bytes + 1)

-- k comps from node i + 1 on, each of the node before it with itself
unfoldable pub doubled : (k i : ℕ) → List ℕ
doubled zero i = []
doubled (suc k) i = 0 ∷ i ∷ i ∷ 0 ∷ doubled k (suc i)

stages : Hold (
    -- no record or too many is 4
    counted 0 node_count is refused (BadNatural 0)
    ∷ counted 1 node_count is passed tt
    ∷ counted node_count node_count is passed tt
    ∷ counted (node_count + 1) node_count is refused (BadNatural 0)
    -- 26 at the first such record, by the program's bits and the hash store's bytes
    ∷ check_records (0 ∷ []) (zeros 64) (row 14 4 0 ∷ row 10 0 0 ∷ row 14 4 1 ∷ row 10 1 0 ∷ []) is refused (BadNodeRecord 2)
    ∷ check_records (0 ∷ []) (zeros 64) (row 14 4 0 ∷ row 10 0 0 ∷ row 10 1 0 ∷ row 14 4 1 ∷ []) is refused (BadNodeRecord 2)
    -- the largest word that a program has room for
    ∷ check_records (zeros dossier_bytes) [] (row 14 19 (8 * dossier_bytes - 262144) ∷ []) is passed tt
    ∷ check_records (zeros dossier_bytes) [] (row 14 19 (8 * dossier_bytes - 262143) ∷ []) is refused (BadNodeRecord 0)
    ∷ check_records (zeros dossier_bytes) [] (row 14 20 0 ∷ []) is refused (BadNodeRecord 0)
    -- the walk's stage: 4, 26, 1 and 6 to 9, each with the next one wrong too
    ∷ walk_stage too_long [] unit_node is refused (Header 0)
    ∷ walk_stage too_long [] (unit_node ++ unit_node) is refused (Header 0)
    ∷ walk_stage too_long [] bad_node is refused (BadNodeRecord 0)
    ∷ walk_stage too_long [] [] is refused (BadNatural 0)
    ∷ walk_stage [] [] (zeros (node_numbers * node_count)) is refused (BadNodeRecord 0)
    ∷ walk_stage [] [] (zeros (node_numbers * (node_count + 1))) is refused (BadNatural 0)
    ∷ walk_stage [] [] (9 ∷ 0 ∷ 0 ∷ []) is refused (BadNatural 0)
    ∷ walk_stage (0x24 ∷ []) [] unit_node is passed tt
    ∷ walk_stage (zeros dossier_bytes) [] unit_node is passed tt
    ∷ walk_stage (0 ∷ []) [] (14 ∷ 4 ∷ 0 ∷ 0 ∷ []) is passed tt
    ∷ walk_stage [] (zeros 32) hidden_comp is refused (HiddenElsewhere 2)
    -- the arrows' stage: 4 of nodes and of types, 26, 1, 2, 6 to 9, 11 and 12
    ∷ arrow_stage unit_type unit_node (zeros 4) [] [] is passed tt
    ∷ arrow_stage unit_type unit_node (zeros 5) [] [] is passed tt
    ∷ arrow_stage unit_type unit_node (zeros 4) (zeros dossier_bytes) [] is passed tt
    ∷ arrow_stage unit_type [] [] too_long [] is refused (BadNatural 0)
    ∷ arrow_stage unit_type (zeros (node_numbers * (node_count + 1))) [] too_long [] is refused (BadNatural 0)
    ∷ arrow_stage [] bad_node [] too_long [] is refused (BadNatural 0)
    ∷ arrow_stage (zeros (type_bytes * (type_count + 1))) bad_node [] too_long [] is refused (BadNatural 0)
    ∷ arrow_stage (zeros (type_bytes * type_count)) bad_node [] too_long [] is refused (BadNodeRecord 0)
    ∷ arrow_stage (unit_type ++ unit_type) bad_node [] too_long [] is refused (BadNodeRecord 0)
    ∷ arrow_stage (unit_type ++ unit_type) (unit_node ++ unit_node) [] too_long [] is refused (Header 0)
    ∷ arrow_stage (unit_type ++ unit_type) (unit_node ++ unit_node) [] [] [] is refused (BadTypeRecord 1)
    ∷ arrow_stage unit_type (unit_node ++ unit_node) [] [] [] is refused (CanonicalOrder 0)
    ∷ arrow_stage unit_type hidden_comp (zeros 12) [] (zeros 32) is refused (HiddenElsewhere 2)
    ∷ arrow_stage unit_type (unit_node ++ 11 ∷ 0 ∷ 0 ∷ 0 ∷ []) [] [] [] is refused (OneChildDisconnect 1)
    ∷ arrow_stage unit_type unit_node [] [] [] is refused (BadArrow 1)
    ∷ arrow_stage unit_type unit_node (0 ∷ 0 ∷ 0 ∷ 1 ∷ []) [] [] is refused (BadArrow 0)
    -- the largest word is wider than every type
    ∷ arrow_stage unit_type (14 ∷ 19 ∷ 0 ∷ 0 ∷ []) (zeros 4) (zeros dossier_bytes) [] is refused (BadArrow 0)
    -- a word's bits are the program's
    ∷ arrow_stage (unit_type ++ 1 ∷ 0 ∷ 0 ∷ 0 ∷ 0 ∷ []) (14 ∷ 1 ∷ 7 ∷ 0 ∷ []) (0 ∷ 0 ∷ 0 ∷ 1 ∷ []) (1 ∷ []) [] is passed tt
    -- two words are compared by their bits, wherever they stand, two fail nodes by their bytes
    ∷ arrow_stage bit_types (word_pair 0 3) word_arrows (0b10010000 ∷ []) [] is refused (NodeRepeated 1)
    ∷ arrow_stage bit_types (word_pair 0 0) word_arrows (0b10010000 ∷ []) [] is refused (NodeRepeated 1)
    ∷ arrow_stage bit_types (word_pair 0 1) word_arrows (0b10010000 ∷ []) [] is passed tt
    ∷ arrow_stage bit_types (10 ∷ 0 ∷ 0 ∷ 0 ∷ 10 ∷ 64 ∷ 0 ∷ 0 ∷ 2 ∷ 0 ∷ 1 ∷ 0 ∷ []) word_arrows [] (zeros 128) is refused (NodeRepeated 1)
    ∷ arrow_stage bit_types (10 ∷ 0 ∷ 0 ∷ 0 ∷ 10 ∷ 64 ∷ 0 ∷ 0 ∷ 2 ∷ 0 ∷ 1 ∷ 0 ∷ []) word_arrows [] (zeros 127 ++ 1 ∷ []) is passed tt
    -- the hashes' stage
    ∷ hash_stage unit_type unit_node (zeros 4) [] [] [] is passed tt
    ∷ hash_stage unit_type unit_node (zeros 4) [] [] (zeros 31) is passed tt
    ∷ hash_stage unit_type unit_node (zeros 4) [] [] (zeros 32) is refused (Hash 1)
    ∷ hash_stage unit_type unit_node [] [] [] (zeros 32) is refused (BadArrow 1)
    ∷ hash_stage bit_types (word_pair 0 3) word_arrows (0b10010000 ∷ []) [] (zeros 32) is refused (NodeRepeated 1)
    ∷ hash_stage unit_type bad_node [] [] [] (zeros 32) is refused (BadNodeRecord 0)
    -- the bounds' stage
    ∷ bounds_stage unit_type unit_node (zeros 4) [] [] is passed tt
    ∷ bounds_stage unit_type unit_node [] [] [] is refused (BadArrow 1)
    ∷ bounds_stage bit_types (word_pair 0 3) word_arrows (0b10010000 ∷ []) [] is refused (NodeRepeated 1)
    ∷ bounds_stage unit_type (8 ∷ 0 ∷ 0 ∷ 0 ∷ doubled 18 0) (zeros (4 * 19)) [] [] is refused (OverLimit 2)
    ∷ [])
unfolding Hold counted check_records walk_stage arrow_stage hash_stage bounds_stage doubled
stages = refl

abbrev left : Answer → (cells frames answer : List ℕ) → Left
left says c f a = record { says = says; cells = c; frames = f; answer = a }

-- the run's stage on the unit program, with bits counted beside their bytes; refusals leave the stores
abbrev unit_run : (witness : List ℕ) → (witness_bits : ℕ) → (input : List ℕ) → (input_bits : ℕ) → Left
unit_run w wb inp ib = run_stage unit_type unit_node (zeros 4) (36 ∷ []) [] [] w wb inp ib (9 ∷ []) (replicate 7 8) (7 ∷ [])

runs : Hold (
    unit_run [] 0 [] 0 is left (Value 0) (9 ∷ []) (zeros 6 ++ 8 ∷ []) (7 ∷ [])
    -- too many counted, a whole byte to spare
    ∷ unit_run [] 1 [] 0 is left (Refused (Witness 1)) (9 ∷ []) (replicate 7 8) (7 ∷ [])
    ∷ unit_run (0 ∷ []) 0 [] 0 is left (Refused (Witness 1)) (9 ∷ []) (replicate 7 8) (7 ∷ [])
    ∷ unit_run [] 0 [] 1 is left (Refused (Input 0)) (9 ∷ []) (replicate 7 8) (7 ∷ [])
    ∷ unit_run [] 0 (0 ∷ []) 0 is left (Refused (Input 0)) (9 ∷ []) (replicate 7 8) (7 ∷ [])
    -- 26, then 13, then 17
    ∷ run_stage unit_type bad_node (zeros 4) (36 ∷ []) [] (zeros 32) [] 1 [] 1 (9 ∷ []) [] [] is left (Refused (BadNodeRecord 0)) (9 ∷ []) [] []
    ∷ run_stage unit_type unit_node (zeros 4) (36 ∷ []) [] (zeros 32) [] 1 [] 1 (9 ∷ []) [] [] is left (Refused (Hash 1)) (9 ∷ []) [] []
    ∷ run_stage unit_type unit_node (zeros 4) (36 ∷ []) [] [] [] 0 [] 0 (9 ∷ []) (8 ∷ []) [] is left (Refused (StoreShort 1)) (9 ∷ []) (8 ∷ []) []
    -- 9 of equal nodes, before 13 and 17
    ∷ run_stage bit_types (word_pair 0 3) word_arrows (0b10010000 ∷ []) [] (zeros 32) [] 0 [] 0 (9 ∷ []) (8 ∷ []) []
    is left (Refused (NodeRepeated 1)) (9 ∷ []) (8 ∷ []) []
    -- a word is of the program's bits
    ∷ run_stage (unit_type ++ 1 ∷ 0 ∷ 0 ∷ 0 ∷ 0 ∷ []) (14 ∷ 1 ∷ 7 ∷ 0 ∷ []) (0 ∷ 0 ∷ 0 ∷ 1 ∷ []) (1 ∷ []) [] [] [] 0 [] 0 (0 ∷ []) (replicate 6 8) (7 ∷ [])
    is left (Value 1) (128 ∷ []) (zeros 6) (128 ∷ [])
    -- witness and input are told apart
    ∷ run_stage (unit_type ++ 1 ∷ 0 ∷ 0 ∷ 0 ∷ 0 ∷ []) (12 ∷ 0 ∷ 0 ∷ 0 ∷ []) (0 ∷ 1 ∷ 0 ∷ 1 ∷ []) (56 ∷ []) [] [] (128 ∷ []) 1 (0 ∷ []) 1
    (0 ∷ []) (replicate 6 8) (7 ∷ [])
    is left (Value 1) (64 ∷ []) (zeros 6) (128 ∷ [])
    ∷ [])
unfolding Hold run_stage
runs = refl
