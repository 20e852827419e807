-- Equal nodes, computed: the key of each kind, nodes that are unlike by one thing alone, and refusal 9 among 11 and 12.
use Rattle.std.specs.Prelude.{refl, Bool, true, false, List, [], ◌∷◌, ◌++◌, ◌+◌, replicate}
use Rattle.refusal.specs.declared.Refusal.TheVariants.{NodeRepeated, OneChildDisconnect, Arrow as BadArrow}
use Rattle.report.specs.Lines.{◌is◌, Hold}
use Rattle.report.specs.Nodes.{Node, comp, case, pair, disconnect, injl, injr, take, drop, disconnect1, iden, unit, witness, fail, hidden, word}
use Rattle.scope.specs.Check.{passed, refused}
use Rattle.scope.specs.Numbers.{tabulate}
use Rattle.scope.specs.Types.{TypeRecord}
use Rattle.scope.specs.Equal.{key_of, same_key}
use Rattle.scope.specs.Arrows.{Arrow, equal_nodes, repeats, node_refusal, check_arrows}
use Rattle.scope.specs.Shorthand.{ty, to}

keys : Hold (
    key_of (comp 3 5) is (0 ∷ 3 ∷ 5 ∷ [])
    ∷ key_of (case 3 5) is (1 ∷ 3 ∷ 5 ∷ [])
    ∷ key_of (pair 3 5) is (2 ∷ 3 ∷ 5 ∷ [])
    ∷ key_of (disconnect 3 5) is []
    ∷ key_of (injl 3) is (4 ∷ 3 ∷ [])
    ∷ key_of (injr 3) is (5 ∷ 3 ∷ [])
    ∷ key_of (take 3) is (6 ∷ 3 ∷ [])
    ∷ key_of (drop 3) is (7 ∷ 3 ∷ [])
    ∷ key_of iden is (8 ∷ [])
    ∷ key_of unit is (9 ∷ [])
    ∷ key_of (fail (1 ∷ 2 ∷ [])) is (10 ∷ 1 ∷ 2 ∷ [])
    ∷ key_of (disconnect1 3) is []
    ∷ key_of witness is []
    ∷ key_of (hidden (1 ∷ 2 ∷ [])) is []
    ∷ key_of (word 2 (1 ∷ 0 ∷ [])) is (14 ∷ 2 ∷ 1 ∷ 0 ∷ [])
    ∷ [])
unfolding Hold key_of
keys = refl

same_keys : Hold (
    same_key (8 ∷ []) (8 ∷ []) is true
    ∷ same_key (8 ∷ []) (9 ∷ []) is false
    ∷ same_key (8 ∷ []) [] is false
    ∷ same_key [] (8 ∷ []) is false
    -- no key is the same as none
    ∷ same_key [] [] is false
    ∷ [])
unfolding Hold same_key
same_keys = refl

-- two nodes with these arrows
abbrev alike : (m n : Node) → (a b : Arrow) → Bool
alike m n a b = equal_nodes (m ∷ n ∷ []) (a ∷ b ∷ []) 0 1

-- each comparison that fails by itself alone
pairs_of_nodes : Hold (
    alike iden iden (to 1 1) (to 1 1) is true
    ∷ alike iden unit (to 0 0) (to 0 0) is false
    -- the arrow's source, its target
    ∷ alike unit unit (to 1 0) (to 2 0) is false
    ∷ alike unit unit (to 1 0) (to 0 0) is false
    ∷ alike (injl 0) (injl 0) (to 1 2) (to 1 3) is false
    ∷ alike (injl 0) (injl 0) (to 1 3) (to 1 2) is false
    -- the first child, the second, both in the other order
    ∷ alike (comp 3 5) (comp 3 5) (to 1 2) (to 1 2) is true
    ∷ alike (comp 3 5) (comp 4 5) (to 1 2) (to 1 2) is false
    ∷ alike (comp 3 5) (comp 3 4) (to 1 2) (to 1 2) is false
    ∷ alike (comp 3 5) (comp 5 3) (to 1 2) (to 1 2) is false
    ∷ alike (comp 3 5) (pair 3 5) (to 1 2) (to 1 2) is false
    ∷ alike (injl 3) (injl 4) (to 1 2) (to 1 2) is false
    ∷ alike (injl 3) (injr 3) (to 1 2) (to 1 2) is false
    ∷ alike (take 3) (drop 3) (to 1 2) (to 1 2) is false
    -- a word's first bit, its last bit, its n
    ∷ alike (word 2 (1 ∷ 0 ∷ [])) (word 2 (1 ∷ 0 ∷ [])) (to 0 2) (to 0 2) is true
    ∷ alike (word 2 (1 ∷ 0 ∷ [])) (word 2 (0 ∷ 0 ∷ [])) (to 0 2) (to 0 2) is false
    ∷ alike (word 2 (1 ∷ 0 ∷ [])) (word 2 (1 ∷ 1 ∷ [])) (to 0 2) (to 0 2) is false
    ∷ alike (word 2 (1 ∷ 0 ∷ [])) (word 1 (1 ∷ [])) (to 0 2) (to 0 2) is false
    -- a fail node's last byte
    ∷ alike (fail (replicate 64 7)) (fail (replicate 64 7)) (to 1 2) (to 1 2) is true
    ∷ alike (fail (replicate 64 7)) (fail (replicate 63 7 ++ 8 ∷ [])) (to 1 2) (to 1 2) is false
    -- exempt, however alike
    ∷ alike witness witness (to 1 2) (to 1 2) is false
    ∷ alike (disconnect 3 5) (disconnect 3 5) (to 1 2) (to 1 2) is false
    ∷ alike (disconnect1 3) (disconnect1 3) (to 1 2) (to 1 2) is false
    ∷ alike (hidden (7 ∷ [])) (hidden (7 ∷ [])) (to 0 0) (to 0 0) is false
    ∷ [])
unfolding Hold equal_nodes
pairs_of_nodes = refl

-- equal to any earlier node, and not to itself or to a later one
repeated_nodes : Hold (
    repeats (iden ∷ unit ∷ iden ∷ iden ∷ []) (to 0 0 ∷ to 0 0 ∷ to 0 0 ∷ to 0 0 ∷ []) 0 is false
    ∷ repeats (iden ∷ unit ∷ iden ∷ iden ∷ []) (to 0 0 ∷ to 0 0 ∷ to 0 0 ∷ to 0 0 ∷ []) 1 is false
    ∷ repeats (iden ∷ unit ∷ iden ∷ iden ∷ []) (to 0 0 ∷ to 0 0 ∷ to 0 0 ∷ to 0 0 ∷ []) 2 is true
    ∷ repeats (iden ∷ unit ∷ iden ∷ iden ∷ []) (to 0 0 ∷ to 0 0 ∷ to 1 1 ∷ to 0 0 ∷ []) 3 is true
    ∷ repeats (iden ∷ unit ∷ iden ∷ iden ∷ []) (to 0 0 ∷ to 0 0 ∷ to 1 1 ∷ to 1 1 ∷ []) 3 is true
    ∷ repeats (iden ∷ unit ∷ iden ∷ iden ∷ []) (to 0 0 ∷ to 0 0 ∷ to 1 1 ∷ to 2 2 ∷ []) 3 is false
    ∷ [])
unfolding Hold repeats
repeated_nodes = refl

-- the place is the later node's
why_refused : Hold (
    node_refusal [] (iden ∷ unit ∷ iden ∷ []) (to 0 0 ∷ to 0 0 ∷ to 0 0 ∷ []) 2 is NodeRepeated 2
    ∷ node_refusal [] (iden ∷ unit ∷ iden ∷ []) (to 0 0 ∷ to 0 0 ∷ to 1 1 ∷ []) 2 is BadArrow 2
    ∷ [])
unfolding Hold node_refusal
why_refused = refl

-- unit and the words up to 256 bits, which is record 9; that word beside unit, two of these; a bit beside two; a bit beside unit, unit
-- beside unit
abbrev types : List TypeRecord
types = ty 0 0 0 ∷ ty 1 0 0 ∷ tabulate 8 (λ k. ty 2 (k + 1) (k + 1)) ++ ty 2 9 0 ∷ ty 2 10 10 ∷ ty 2 1 2 ∷ ty 2 1 0 ∷ ty 2 0 0 ∷ []

-- 11, then the count, then node by node 9 and 12
refusals : Hold (
    -- iden, iden, pair(0, 1); take and drop of two iden that are unlike
    check_arrows types (iden ∷ iden ∷ pair 0 1 ∷ []) (to 1 1 ∷ to 1 1 ∷ to 1 2 ∷ []) is refused (NodeRepeated 1)
    ∷ check_arrows types (iden ∷ take 0 ∷ iden ∷ drop 2 ∷ pair 1 3 ∷ []) (to 1 1 ∷ to 12 1 ∷ to 2 2 ∷ to 12 2 ∷ to 12 12 ∷ []) is passed tt
    ∷ check_arrows types (iden ∷ take 0 ∷ iden ∷ drop 2 ∷ pair 1 3 ∷ []) (to 1 1 ∷ to 2 1 ∷ to 1 1 ∷ to 2 1 ∷ to 2 2 ∷ []) is refused (NodeRepeated 2)
    -- unit, unit, comp(0, 1)
    ∷ check_arrows types (unit ∷ unit ∷ comp 0 1 ∷ []) (to 0 0 ∷ to 0 0 ∷ to 0 0 ∷ []) is refused (NodeRepeated 1)
    ∷ check_arrows types (unit ∷ unit ∷ comp 0 1 ∷ []) (to 1 0 ∷ to 0 0 ∷ to 1 0 ∷ []) is passed tt
    -- the parents are equal, not the leaves alone
    ∷ check_arrows types (unit ∷ injl 0 ∷ injl 0 ∷ pair 1 2 ∷ []) (to 1 0 ∷ to 1 1 ∷ to 1 1 ∷ to 1 2 ∷ []) is refused (NodeRepeated 2)
    ∷ check_arrows types (unit ∷ injl 0 ∷ injr 0 ∷ pair 1 2 ∷ []) (to 1 0 ∷ to 1 1 ∷ to 1 1 ∷ to 1 2 ∷ []) is passed tt
    -- words and fail nodes
    ∷ check_arrows types (word 1 (1 ∷ []) ∷ word 1 (1 ∷ []) ∷ pair 0 1 ∷ []) (to 0 1 ∷ to 0 1 ∷ to 0 2 ∷ []) is refused (NodeRepeated 1)
    ∷ check_arrows types (word 1 (1 ∷ []) ∷ word 1 (0 ∷ []) ∷ pair 0 1 ∷ []) (to 0 1 ∷ to 0 1 ∷ to 0 2 ∷ []) is passed tt
    ∷ check_arrows types (fail (7 ∷ []) ∷ fail (7 ∷ []) ∷ pair 0 1 ∷ []) (to 0 1 ∷ to 0 1 ∷ to 0 2 ∷ []) is refused (NodeRepeated 1)
    ∷ check_arrows types (fail (7 ∷ []) ∷ fail (8 ∷ []) ∷ pair 0 1 ∷ []) (to 0 1 ∷ to 0 1 ∷ to 0 2 ∷ []) is passed tt
    -- an assertion by its hidden child's index
    ∷ check_arrows types (unit ∷ hidden (7 ∷ []) ∷ case 0 1 ∷ hidden (8 ∷ []) ∷ case 0 3 ∷ []) (to 14 0 ∷ to 0 0 ∷ to 13 0 ∷ to 0 0 ∷ to 13 0 ∷ [])
    is passed tt
    ∷ check_arrows types (unit ∷ hidden (7 ∷ []) ∷ case 0 1 ∷ hidden (8 ∷ []) ∷ case 0 1 ∷ []) (to 14 0 ∷ to 0 0 ∷ to 13 0 ∷ to 0 0 ∷ to 13 0 ∷ [])
    is refused (NodeRepeated 4)
    -- two witnesses alike, and two disconnects
    ∷ check_arrows types (witness ∷ witness ∷ pair 0 1 ∷ []) (to 0 1 ∷ to 0 1 ∷ to 0 2 ∷ []) is passed tt
    ∷ check_arrows types (iden ∷ unit ∷ disconnect 0 1 ∷ disconnect 0 1 ∷ pair 2 3 ∷ [])
    (to 10 10 ∷ to 0 0 ∷ to 0 10 ∷ to 0 10 ∷ to 0 11 ∷ []) is passed tt
    -- an arrow too few or too many, a disconnect with one child
    ∷ check_arrows types (iden ∷ iden ∷ pair 0 1 ∷ []) (to 1 1 ∷ to 1 1 ∷ []) is refused (BadArrow 3)
    ∷ check_arrows types (iden ∷ iden ∷ pair 0 1 ∷ []) (to 1 1 ∷ to 1 1 ∷ to 1 2 ∷ to 0 0 ∷ []) is refused (BadArrow 3)
    ∷ check_arrows types (iden ∷ iden ∷ pair 0 1 ∷ disconnect1 2 ∷ []) (to 1 1 ∷ to 1 1 ∷ to 1 2 ∷ to 1 2 ∷ []) is refused (OneChildDisconnect 3)
    -- the first node that is at fault, in either way
    ∷ check_arrows types (iden ∷ iden ∷ pair 0 1 ∷ []) (to 1 1 ∷ to 1 1 ∷ to 1 1 ∷ []) is refused (NodeRepeated 1)
    ∷ check_arrows types (iden ∷ iden ∷ pair 0 1 ∷ []) (to 1 2 ∷ to 1 2 ∷ to 1 2 ∷ []) is refused (BadArrow 0)
    ∷ check_arrows types (unit ∷ iden ∷ iden ∷ pair 1 2 ∷ []) (to 1 1 ∷ to 1 1 ∷ to 1 1 ∷ to 1 2 ∷ []) is refused (BadArrow 0)
    ∷ [])
unfolding Hold check_arrows tabulate
refusals = refl
