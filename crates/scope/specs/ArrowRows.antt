-- The arrow of each kind of node, computed: a row that fits, and a row for each comparison that fails by it alone. And refusals 11 and 12.
use Rattle.std.specs.Prelude.{refl, Bool, true, false, List, [], ◌∷◌, ℕ}
use Rattle.refusal.specs.declared.Refusal.TheVariants.{OneChildDisconnect, Arrow as BadArrow}
use Rattle.report.specs.Lines.{◌is◌, Hold}
use Rattle.report.specs.Nodes.{Node, comp, case, pair, disconnect, injl, injr, take, drop, disconnect1, iden, unit, witness, fail, hidden, word}
use Rattle.scope.specs.Check.{passed, refused}
use Rattle.scope.specs.Types.{TypeRecord, is_unit, is_sum, is_product, left_at, right_at, is_word}
use Rattle.scope.specs.Arrows.{Arrow, arrow_records, no_arrow, source, target, kind_rule, arrow_rule, check_arrows}
use Rattle.scope.specs.Shorthand.{ty, to}

-- the types of the rows, by their indices; 13 is the word of 256 bits
abbrev types : List TypeRecord
types =
    ty 0 0 0  -- 0: unit
    ∷ ty 1 0 0  -- 1: a bit
    ∷ ty 2 1 1  -- 2: 1 × 1
    ∷ ty 1 1 2  -- 3: 1 + 2
    ∷ ty 2 3 2  -- 4: (1 + 2) × 2
    ∷ ty 2 1 2  -- 5: 1 × 2
    ∷ ty 2 2 2  -- 6: 2 × 2
    ∷ ty 2 2 1  -- 7: 2 × 1
    ∷ ty 2 6 6  -- 8
    ∷ ty 2 8 8  -- 9
    ∷ ty 2 9 9  -- 10
    ∷ ty 2 10 10  -- 11
    ∷ ty 2 11 11  -- 12
    ∷ ty 2 12 12  -- 13: the word of 256 bits
    ∷ ty 2 13 1  -- 14: 13 × 1
    ∷ ty 2 2 3  -- 15: 2 × 3
    ∷ ty 2 2 7  -- 16: 2 × 7
    ∷ ty 2 12 1  -- 17: 12 × 1
    ∷ ty 1 2 3  -- 18: 2 + 3
    ∷ ty 1 2 7  -- 19: 2 + 7
    ∷ ty 1 13 1  -- 20: 13 + 1
    ∷ ty 1 3 2  -- 21: (1 + 2) + 2
    ∷ ty 2 5 2  -- 22: (1 × 2) × 2
    ∷ ty 1 2 2  -- 23: 2 + 2
    ∷ ty 2 1 3  -- 24: 1 × 3
    ∷ ty 2 13 2  -- 25: 13 × 2
    ∷ ty 2 1 7  -- 26: 1 × 7
    ∷ ty 1 1 3  -- 27: 1 + 3
    ∷ ty 1 1 0  -- 28: 1 + unit
    ∷ ty 1 0 1  -- 29: unit + 1
    ∷ ty 2 0 0  -- 30: unit × unit
    ∷ ty 1 1 1  -- 31: 1 + 1
    ∷ []

type_tests : Hold (
    is_unit types 0 is true
    ∷ is_unit types 1 is false
    ∷ is_sum types 3 1 2 is true
    ∷ is_sum types 5 1 2 is false
    ∷ is_sum types 3 0 2 is false
    ∷ is_sum types 3 2 2 is false
    ∷ is_sum types 3 1 1 is false
    ∷ is_sum types 3 1 3 is false
    ∷ is_sum types 0 0 0 is false
    ∷ is_product types 5 1 2 is true
    ∷ is_product types 3 1 2 is false
    ∷ is_product types 5 0 2 is false
    ∷ is_product types 5 2 2 is false
    ∷ is_product types 5 1 1 is false
    ∷ is_product types 5 1 3 is false
    -- past the table there is no type
    ∷ is_product types 99 0 0 is false
    -- words of 1, 2, 4 and 256 bits, and near misses
    ∷ is_word types 0 1 is true
    ∷ is_word types 0 28 is false
    ∷ is_word types 0 29 is false
    ∷ is_word types 0 30 is false
    ∷ is_word types 1 2 is true
    ∷ is_word types 1 31 is false
    ∷ is_word types 1 1 is false
    ∷ is_word types 2 6 is true
    ∷ is_word types 2 2 is false
    ∷ is_word types 2 7 is false
    ∷ is_word types 1 24 is false
    ∷ is_word types 8 13 is true
    ∷ is_word types 8 12 is false
    -- a bit is a sum of units, whichever records they are
    ∷ is_word (ty 0 0 0 ∷ ty 0 0 0 ∷ ty 1 0 1 ∷ []) 0 2 is true
    ∷ [])
unfolding Hold is_unit is_sum is_product is_word
type_tests = refl

-- two bytes a type, four an arrow; odd bytes at the end are of none; past the table an arrow is from 0 to 0
arrows : Hold (
    arrow_records (1 ∷ 2 ∷ 3 ∷ 4 ∷ 5 ∷ 6 ∷ 7 ∷ 8 ∷ 9 ∷ 9 ∷ 9 ∷ []) is (to 0x0102 0x0304 ∷ to 0x0506 0x0708 ∷ [])
    ∷ [])
unfolding Hold arrow_records
arrows = refl

ends : Hold (
    source (to 1 2 ∷ to 3 4 ∷ []) 1 is 3
    ∷ target (to 1 2 ∷ to 3 4 ∷ []) 1 is 4
    ∷ source (to 1 2 ∷ []) 1 is 0
    ∷ target (to 1 2 ∷ []) 1 is 0
    ∷ left_at types 16 is 2
    ∷ right_at types 16 is 7
    ∷ [])
unfolding Hold source target left_at right_at
ends = refl

-- a node from A to B whose children may be nodes 0 and 1, with these arrows, and node 2, which is hidden
abbrev rule : (first second : Arrow) → (A B : ℕ) → Node → Bool
rule s t A B n = kind_rule types (unit ∷ unit ∷ hidden [] ∷ []) (s ∷ t ∷ no_arrow ∷ []) A B n

comp_rows : Hold (
    rule (to 1 2) (to 2 3) 1 3 (comp 0 1) is true
    -- the left child's source, the middle, the right child's target
    ∷ rule (to 0 2) (to 2 3) 1 3 (comp 0 1) is false
    ∷ rule (to 2 2) (to 2 3) 1 3 (comp 0 1) is false
    ∷ rule (to 1 2) (to 1 3) 1 3 (comp 0 1) is false
    ∷ rule (to 1 2) (to 3 3) 1 3 (comp 0 1) is false
    ∷ rule (to 1 2) (to 2 2) 1 3 (comp 0 1) is false
    ∷ rule (to 1 2) (to 2 4) 1 3 (comp 0 1) is false
    ∷ [])
unfolding Hold kind_rule
comp_rows = refl

case_rows : Hold (
    rule (to 5 9) (to 6 9) 4 9 (case 0 1) is true
    -- the source no product; its left part no sum
    ∷ rule (to 5 9) (to 6 9) 21 9 (case 0 1) is false
    ∷ rule (to 5 9) (to 6 9) 22 9 (case 0 1) is false
    -- the left branch: its source no product, of another part, beside another rest; its target
    ∷ rule (to 3 9) (to 6 9) 4 9 (case 0 1) is false
    ∷ rule (to 6 9) (to 6 9) 4 9 (case 0 1) is false
    ∷ rule (to 2 9) (to 6 9) 4 9 (case 0 1) is false
    ∷ rule (to 5 8) (to 6 9) 4 9 (case 0 1) is false
    ∷ rule (to 5 10) (to 6 9) 4 9 (case 0 1) is false
    -- the right branch
    ∷ rule (to 5 9) (to 23 9) 4 9 (case 0 1) is false
    ∷ rule (to 5 9) (to 5 9) 4 9 (case 0 1) is false
    ∷ rule (to 5 9) (to 7 9) 4 9 (case 0 1) is false
    ∷ rule (to 5 9) (to 6 8) 4 9 (case 0 1) is false
    ∷ rule (to 5 9) (to 6 10) 4 9 (case 0 1) is false
    -- a hidden branch is free, the other is not
    ∷ rule (to 0 0) (to 6 9) 4 9 (case 2 1) is true
    ∷ rule (to 0 0) (to 5 9) 4 9 (case 2 1) is false
    ∷ rule (to 5 9) (to 0 0) 4 9 (case 0 2) is true
    ∷ rule (to 6 9) (to 0 0) 4 9 (case 0 2) is false
    ∷ [])
unfolding Hold kind_rule
case_rows = refl

pair_rows : Hold (
    rule (to 1 2) (to 1 3) 1 15 (pair 0 1) is true
    -- either child's source; the target no product, of another left part, of another right part
    ∷ rule (to 0 2) (to 1 3) 1 15 (pair 0 1) is false
    ∷ rule (to 2 2) (to 1 3) 1 15 (pair 0 1) is false
    ∷ rule (to 1 2) (to 0 3) 1 15 (pair 0 1) is false
    ∷ rule (to 1 2) (to 2 3) 1 15 (pair 0 1) is false
    ∷ rule (to 1 2) (to 1 3) 1 18 (pair 0 1) is false
    ∷ rule (to 1 2) (to 1 3) 1 24 (pair 0 1) is false
    ∷ rule (to 1 2) (to 1 3) 1 16 (pair 0 1) is false
    ∷ [])
unfolding Hold kind_rule
pair_rows = refl

-- from 1 to 2 × 7, of 2^256 × 1 to 2 × 3 and 3 to 7
disconnect_rows : Hold (
    rule (to 14 15) (to 3 7) 1 16 (disconnect 0 1) is true
    -- the left child's source no product, beside another input, of another word
    ∷ rule (to 20 15) (to 3 7) 1 16 (disconnect 0 1) is false
    ∷ rule (to 25 15) (to 3 7) 1 16 (disconnect 0 1) is false
    ∷ rule (to 17 15) (to 3 7) 1 16 (disconnect 0 1) is false
    -- the left child's target no product; the right child's source not what is handed on
    ∷ rule (to 14 18) (to 3 7) 1 16 (disconnect 0 1) is false
    ∷ rule (to 14 15) (to 2 7) 1 16 (disconnect 0 1) is false
    ∷ rule (to 14 15) (to 4 7) 1 16 (disconnect 0 1) is false
    -- the target no product, of another kept part, of another right part
    ∷ rule (to 14 15) (to 3 7) 1 19 (disconnect 0 1) is false
    ∷ rule (to 14 15) (to 3 7) 1 26 (disconnect 0 1) is false
    ∷ rule (to 14 15) (to 3 7) 1 15 (disconnect 0 1) is false
    ∷ rule (to 14 15) (to 3 7) 1 16 (disconnect1 0) is false
    ∷ [])
unfolding Hold kind_rule
disconnect_rows = refl

one_child_rows : Hold (
    rule (to 1 2) no_arrow 1 18 (injl 0) is true
    ∷ rule (to 1 2) no_arrow 1 23 (injl 0) is true
    ∷ rule (to 0 2) no_arrow 1 18 (injl 0) is false
    ∷ rule (to 2 2) no_arrow 1 18 (injl 0) is false
    ∷ rule (to 1 2) no_arrow 1 15 (injl 0) is false
    ∷ rule (to 1 2) no_arrow 1 3 (injl 0) is false
    ∷ rule (to 1 3) no_arrow 1 18 (injr 0) is true
    ∷ rule (to 1 3) no_arrow 1 27 (injr 0) is true
    ∷ rule (to 0 3) no_arrow 1 18 (injr 0) is false
    ∷ rule (to 2 3) no_arrow 1 18 (injr 0) is false
    ∷ rule (to 1 3) no_arrow 1 15 (injr 0) is false
    ∷ rule (to 1 3) no_arrow 1 3 (injr 0) is false
    ∷ rule (to 2 9) no_arrow 15 9 (take 0) is true
    ∷ rule (to 2 9) no_arrow 16 9 (take 0) is true
    ∷ rule (to 2 9) no_arrow 18 9 (take 0) is false
    ∷ rule (to 1 9) no_arrow 15 9 (take 0) is false
    ∷ rule (to 2 8) no_arrow 15 9 (take 0) is false
    ∷ rule (to 2 10) no_arrow 15 9 (take 0) is false
    ∷ rule (to 3 9) no_arrow 15 9 (drop 0) is true
    ∷ rule (to 3 9) no_arrow 24 9 (drop 0) is true
    ∷ rule (to 3 9) no_arrow 18 9 (drop 0) is false
    ∷ rule (to 2 9) no_arrow 15 9 (drop 0) is false
    ∷ rule (to 3 8) no_arrow 15 9 (drop 0) is false
    ∷ rule (to 3 10) no_arrow 15 9 (drop 0) is false
    ∷ [])
unfolding Hold kind_rule
one_child_rows = refl

leaf_rows : Hold (
    rule no_arrow no_arrow 3 3 iden is true
    ∷ rule no_arrow no_arrow 3 2 iden is false
    ∷ rule no_arrow no_arrow 2 3 iden is false
    ∷ rule no_arrow no_arrow 3 0 unit is true
    ∷ rule no_arrow no_arrow 0 3 unit is false
    ∷ rule no_arrow no_arrow 3 2 witness is true
    ∷ rule no_arrow no_arrow 3 2 (fail []) is true
    ∷ rule no_arrow no_arrow 0 0 (hidden []) is true
    ∷ rule no_arrow no_arrow 1 0 (hidden []) is false
    ∷ rule no_arrow no_arrow 0 1 (hidden []) is false
    ∷ rule no_arrow no_arrow 0 1 (word 1 []) is true
    ∷ rule no_arrow no_arrow 0 6 (word 3 []) is true
    ∷ rule no_arrow no_arrow 0 6 (word 2 []) is false
    ∷ rule no_arrow no_arrow 0 6 (word 4 []) is false
    ∷ rule no_arrow no_arrow 1 1 (word 1 []) is false
    ∷ [])
unfolding Hold kind_rule
leaf_rows = refl

-- both ends are in the type table, up to its last record
in_table : Hold (
    arrow_rule types (witness ∷ []) (to 31 31 ∷ []) 0 is true
    ∷ arrow_rule types (witness ∷ []) (to 32 0 ∷ []) 0 is false
    ∷ arrow_rule types (witness ∷ []) (to 0 32 ∷ []) 0 is false
    -- the arrow of the node itself
    ∷ arrow_rule types (unit ∷ iden ∷ []) (to 3 0 ∷ to 2 2 ∷ []) 1 is true
    ∷ arrow_rule types (unit ∷ iden ∷ []) (to 3 0 ∷ to 2 3 ∷ []) 1 is false
    ∷ [])
unfolding Hold arrow_rule
in_table = refl

-- 11, then the count, then the arrows; each at its place
refusals : Hold (
    check_arrows types (unit ∷ iden ∷ []) (to 3 0 ∷ to 2 2 ∷ []) is passed tt
    ∷ check_arrows types (unit ∷ disconnect1 0 ∷ disconnect1 1 ∷ []) [] is refused (OneChildDisconnect 1)
    ∷ check_arrows types (unit ∷ disconnect1 0 ∷ []) (to 3 3 ∷ to 2 2 ∷ []) is refused (OneChildDisconnect 1)
    ∷ check_arrows types (unit ∷ iden ∷ []) (to 3 3 ∷ []) is refused (BadArrow 2)
    ∷ check_arrows types (unit ∷ iden ∷ []) (to 3 3 ∷ to 2 2 ∷ to 2 2 ∷ []) is refused (BadArrow 2)
    ∷ check_arrows types (unit ∷ iden ∷ []) (to 3 3 ∷ to 2 3 ∷ []) is refused (BadArrow 0)
    ∷ check_arrows types (unit ∷ iden ∷ []) (to 3 0 ∷ to 2 3 ∷ []) is refused (BadArrow 1)
    ∷ [])
unfolding Hold check_arrows
refusals = refl
