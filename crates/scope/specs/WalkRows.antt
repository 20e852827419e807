-- The walk and the closing, computed: hidden nodes under each kind of parent, 6 to 9 at their places and within one step, 10 and the end of
-- the bits, decoding as a whole, and what it leaves in the two stores.
use Rattle.std.specs.Prelude.{refl, true, false, [], ◌∷◌, ◌+◌, ◌-◌}
use Rattle.limits.specs.Limits.{dossier_bytes}
use Rattle.refusal.specs.declared.Refusal.TheVariants.{Header, StreamEnded, Natural as BadNatural, Overlong, Jet, CanonicalOrder, HiddenElsewhere, BothHidden, NodeRepeated, Closing, StoreShort}
use Rattle.report.specs.Lines.{◌is◌, Hold}
use Rattle.report.specs.Nodes.{Node, comp, case, pair, disconnect, injl, injr, take, drop, disconnect1, iden, unit, witness, fail, hidden, word}
use Rattle.scope.specs.Check.{Check, passed, refused}
use Rattle.scope.specs.Numbers.{zeros}
use Rattle.scope.specs.Nodes.{nodes_of}
use Rattle.scope.specs.Walk.{hidden_at, allowed, walk_from, check_walk}
use Rattle.scope.specs.Closing.{closes, decode, nodes_left, hashes_left}
use Rattle.scope.specs.Shorthand.{row, table}

abbrev h : Node
h = hidden (1 ∷ 2 ∷ [])

abbrev g : Node
g = hidden (1 ∷ 3 ∷ [])

-- node 5 of a table whose nodes 0 and 2 are hidden
abbrev judged : Node → Check (Unit {0})
judged n = allowed (h ∷ unit ∷ g ∷ fail (1 ∷ 4 ∷ []) ∷ unit ∷ []) 5 n

-- a hidden node is; a record of no kind, and what stands past the table, is not
hidden_records : Hold (
    hidden_at (nodes_of [] [] (row 13 0 0 ∷ row 15 0 0 ∷ [])) 0 is true
    ∷ hidden_at (nodes_of [] [] (row 13 0 0 ∷ row 15 0 0 ∷ [])) 1 is false
    ∷ hidden_at (nodes_of [] [] (row 13 0 0 ∷ row 15 0 0 ∷ [])) 2 is false
    ∷ [])
unfolding Hold hidden_at nodes_of
hidden_records = refl

-- no parent but a case may have a hidden child, on either side, and a case only one; no hidden hash stands twice
hidden_nodes : Hold (
    judged (comp 1 4) is passed tt
    ∷ judged (comp 0 1) is refused (HiddenElsewhere 5)
    ∷ judged (comp 1 0) is refused (HiddenElsewhere 5)
    ∷ judged (pair 1 4) is passed tt
    ∷ judged (pair 0 1) is refused (HiddenElsewhere 5)
    ∷ judged (pair 1 0) is refused (HiddenElsewhere 5)
    ∷ judged (disconnect 1 4) is passed tt
    ∷ judged (disconnect 0 1) is refused (HiddenElsewhere 5)
    ∷ judged (disconnect 1 0) is refused (HiddenElsewhere 5)
    ∷ judged (case 1 4) is passed tt
    ∷ judged (case 0 1) is passed tt
    ∷ judged (case 1 0) is passed tt
    ∷ judged (case 0 2) is refused (BothHidden 5)
    ∷ judged (case 0 0) is refused (BothHidden 5)
    ∷ judged (injl 1) is passed tt
    ∷ judged (injl 0) is refused (HiddenElsewhere 5)
    ∷ judged (injr 1) is passed tt
    ∷ judged (injr 0) is refused (HiddenElsewhere 5)
    ∷ judged (take 1) is passed tt
    ∷ judged (take 0) is refused (HiddenElsewhere 5)
    ∷ judged (drop 1) is passed tt
    ∷ judged (drop 0) is refused (HiddenElsewhere 5)
    ∷ judged (disconnect1 1) is passed tt
    ∷ judged (disconnect1 0) is refused (HiddenElsewhere 5)
    ∷ judged iden is passed tt
    ∷ judged unit is passed tt
    ∷ judged witness is passed tt
    ∷ judged (fail (1 ∷ 2 ∷ [])) is passed tt
    ∷ judged (word 1 (0 ∷ [])) is passed tt
    ∷ judged h is refused (NodeRepeated 5)
    ∷ judged g is refused (NodeRepeated 5)
    ∷ judged (hidden (1 ∷ 4 ∷ [])) is passed tt
    -- only earlier nodes count
    ∷ allowed (h ∷ g ∷ g ∷ []) 1 g is passed tt
    ∷ [])
unfolding Hold allowed
hidden_nodes = refl

walks : Hold (
    check_walk (unit ∷ []) is passed tt
    ∷ check_walk (unit ∷ iden ∷ comp 0 1 ∷ []) is passed tt
    ∷ check_walk (unit ∷ iden ∷ comp 1 0 ∷ []) is refused (CanonicalOrder 0)
    ∷ check_walk (unit ∷ iden ∷ injl 0 ∷ []) is refused (CanonicalOrder 1)
    ∷ check_walk (unit ∷ iden ∷ []) is refused (CanonicalOrder 0)
    -- a node used twice is done once
    ∷ check_walk (unit ∷ injl 0 ∷ injr 0 ∷ pair 1 2 ∷ []) is passed tt
    ∷ check_walk (unit ∷ injl 0 ∷ injr 0 ∷ pair 2 1 ∷ []) is refused (CanonicalOrder 1)
    ∷ check_walk (unit ∷ comp 0 0 ∷ []) is passed tt
    -- assertions; a hidden node under two cases; two with unlike hashes
    ∷ check_walk (unit ∷ h ∷ case 0 1 ∷ []) is passed tt
    ∷ check_walk (h ∷ unit ∷ case 0 1 ∷ []) is passed tt
    ∷ check_walk (unit ∷ h ∷ case 0 1 ∷ case 1 0 ∷ pair 2 3 ∷ []) is passed tt
    ∷ check_walk (unit ∷ h ∷ case 0 1 ∷ g ∷ case 2 3 ∷ []) is passed tt
    ∷ check_walk (unit ∷ h ∷ case 0 1 ∷ h ∷ case 2 3 ∷ []) is refused (NodeRepeated 3)
    ∷ check_walk (h ∷ take 0 ∷ []) is refused (HiddenElsewhere 1)
    ∷ check_walk (h ∷ case 0 0 ∷ []) is refused (BothHidden 1)
    -- a hidden last node
    ∷ check_walk (h ∷ []) is refused (HiddenElsewhere 0)
    -- within one step 6 comes before 7, 8 and 9
    ∷ check_walk (h ∷ unit ∷ take 0 ∷ []) is refused (CanonicalOrder 1)
    ∷ check_walk (h ∷ unit ∷ case 0 0 ∷ []) is refused (CanonicalOrder 1)
    ∷ check_walk (h ∷ unit ∷ h ∷ case 0 2 ∷ []) is refused (CanonicalOrder 1)
    ∷ check_walk (h ∷ unit ∷ h ∷ []) is refused (CanonicalOrder 0)
    -- along the walk the first fault is told, whatever its number
    ∷ check_walk (h ∷ take 0 ∷ unit ∷ iden ∷ comp 3 2 ∷ comp 1 4 ∷ []) is refused (HiddenElsewhere 1)
    ∷ check_walk (h ∷ case 0 0 ∷ h ∷ take 2 ∷ pair 1 3 ∷ []) is refused (BothHidden 1)
    ∷ check_walk (h ∷ h ∷ case 0 1 ∷ []) is refused (NodeRepeated 1)
    ∷ [])
unfolding Hold check_walk
walks = refl

-- from a node on: what is done before stays done; a node past the table is passed over
walks_from : Hold (
    walk_from (unit ∷ injl 0 ∷ iden ∷ []) 1 [] is passed (0 ∷ 1 ∷ [])
    ∷ walk_from (unit ∷ injl 0 ∷ iden ∷ []) 1 (0 ∷ []) is passed (0 ∷ 1 ∷ [])
    ∷ walk_from (unit ∷ injl 0 ∷ iden ∷ []) 1 (0 ∷ 1 ∷ []) is passed (0 ∷ 1 ∷ [])
    ∷ walk_from (unit ∷ injl 0 ∷ iden ∷ []) 3 (0 ∷ []) is passed (0 ∷ [])
    ∷ walk_from (unit ∷ case 0 7 ∷ []) 1 [] is passed (0 ∷ 1 ∷ [])
    -- a node comes when as many are done as stand before it, no fewer and no more
    ∷ walk_from (unit ∷ iden ∷ []) 1 [] is refused (CanonicalOrder 0)
    ∷ walk_from (unit ∷ iden ∷ []) 0 (5 ∷ 6 ∷ []) is refused (CanonicalOrder 2)
    ∷ [])
unfolding Hold walk_from
walks_from = refl

-- fewer than eight bits after the position, all zero
closings : Hold (
    closes [] 0 is true
    ∷ closes (1 ∷ 1 ∷ []) 2 is true
    ∷ closes (1 ∷ 0 ∷ 0 ∷ 0 ∷ 0 ∷ 0 ∷ 0 ∷ 0 ∷ []) 1 is true
    ∷ closes (1 ∷ 0 ∷ 0 ∷ 0 ∷ 0 ∷ 0 ∷ 0 ∷ 0 ∷ 0 ∷ []) 1 is false
    ∷ closes (0 ∷ 0 ∷ 1 ∷ []) 1 is false
    ∷ closes (1 ∷ 1 ∷ []) 3 is false
    ∷ [])
unfolding Hold closes
closings = refl

-- reading, then the walk, then the closing: each pair of neighbours with both wrong
decoded : Hold (
    decode (0x24 ∷ []) 1 0 is passed (table (row 9 0 0 ∷ []) [] 6)
    ∷ decode (0xA9 ∷ 0x40 ∷ 0x20 ∷ []) 3 0 is passed (table (row 9 0 0 ∷ row 8 0 0 ∷ row 0 0 1 ∷ []) [] 22)
    ∷ decode (0xA9 ∷ 0x40 ∷ 0x10 ∷ []) 3 0 is refused (CanonicalOrder 0)
    ∷ decode (0x24 ∷ 0 ∷ []) 1 0 is refused (Closing 1)
    ∷ decode (0x25 ∷ []) 1 0 is refused (Closing 1)
    ∷ decode [] 1 0 is refused (StreamEnded 0)
    ∷ decode (0x24 ∷ []) 0 0 is refused (StoreShort 3)
    -- comp of iden and unit the wrong way round, with a byte more
    ∷ decode (0xA9 ∷ 0x40 ∷ 0x10 ∷ 0 ∷ []) 3 0 is refused (CanonicalOrder 0)
    -- two units, of which one is never used, and a jet instead of the second
    ∷ decode (0x89 ∷ 0x48 ∷ []) 2 0 is refused (CanonicalOrder 0)
    ∷ decode (0x89 ∷ 0xC0 ∷ []) 2 0 is refused (Jet 1)
    -- 2,049 and 4,096 nodes may be, and the first is missing here; 4,097 may not
    ∷ decode (0xEB ∷ 0 ∷ 0x20 ∷ []) 2049 0 is refused (StreamEnded 0)
    ∷ decode (0xEC ∷ 0 ∷ 0 ∷ []) 4096 0 is refused (StreamEnded 0)
    ∷ decode (0xEC ∷ 0 ∷ 0x10 ∷ []) 0 0 is refused (BadNatural 0)
    -- above the dossier's limit before all else
    ∷ decode (zeros (dossier_bytes + 1)) 0 0 is refused (Header 0)
    -- at the limit it is read: its count has a length that is too long
    ∷ decode (0xF1 ∷ zeros (dossier_bytes - 1)) 0 0 is refused (Overlong 0)
    ∷ [])
unfolding Hold decode
decoded = refl

-- a refusal leaves zeros alone; else the table, and zeros after it
left_in_stores : Hold (
    nodes_left (passed (table (row 9 0 0 ∷ []) (7 ∷ []) 6)) (1 ∷ 1 ∷ 1 ∷ 1 ∷ 1 ∷ []) is (9 ∷ 0 ∷ 0 ∷ 0 ∷ 0 ∷ [])
    ∷ nodes_left (refused (Jet 1)) (1 ∷ 1 ∷ []) is (0 ∷ 0 ∷ [])
    ∷ hashes_left (passed (table (row 9 0 0 ∷ []) (7 ∷ []) 6)) (1 ∷ 1 ∷ []) is (7 ∷ 0 ∷ [])
    ∷ hashes_left (refused (Jet 1)) (1 ∷ 1 ∷ []) is (0 ∷ 0 ∷ [])
    ∷ [])
unfolding Hold nodes_left hashes_left
left_in_stores = refl
