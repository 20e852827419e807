-- The order of the checks, computed on whole dossiers: each has two faults of neighbouring numbers, and the first one is told.
-- 6 to 9 within one step of the walk stand in WalkRows, 4, 26, 1 and 2 of the stages in StageRows.
use Rattle.std.specs.Prelude.{refl, List, [], ◌∷◌, ◌++◌, ℕ, replicate}
use Rattle.refusal.specs.Answers.{Answer}
use Rattle.std.specs.Prelude.{Err as Refused}
use Rattle.refusal.specs.declared.Refusal.TheVariants.{Header, TypeRecord as BadTypeRecord, Jet, NodeRepeated, BothHidden, CanonicalOrder, Closing, OneChildDisconnect, Arrow as BadArrow, Hash, OverLimit, Witness, Input, StoreShort, FailReached, PrunedReached}
use Rattle.report.specs.Lines.{◌is◌, Hold}
use Rattle.report.specs.Naturals.{code_natural, code_by, log2_by, low_bits}
use Rattle.report.specs.Nodes.{Node, comp, case, pair, disconnect1, injl, iden, unit, fail, hidden, code_nodes}
use Rattle.scope.specs.Numbers.{zeros, tabulate}
use Rattle.scope.specs.Types.{TypeRecord}
use Rattle.scope.specs.Rows.{lent}
use Rattle.scope.specs.Shorthand.{ty, to}
use Rattle.scope.specs.Assembled.{packed_up, code, dossier, job}

-- what is said, in stores with room for 20 nodes and 128 bytes of hashes, and of so many bytes of cells, frames and bytes of answer
abbrev said_in : (cells frames answer : ℕ) → List ℕ → Answer
said_in c f a d = (job (lent 20 128 c f a 255) d).says

abbrev said : List ℕ → Answer
said d = said_in 1 2 1 d

-- unit; unit and a bit; unit, a bit, a bit beside unit, unit beside unit
abbrev one : List TypeRecord
one = ty 0 0 0 ∷ []

abbrev two : List TypeRecord
two = ty 0 0 0 ∷ ty 1 0 0 ∷ []

abbrev four : List TypeRecord
four = ty 0 0 0 ∷ ty 1 0 0 ∷ ty 2 1 0 ∷ ty 2 0 0 ∷ []

-- a hidden node, of one byte again and again
abbrev h : Node
h = hidden (replicate 32 90)

-- iden, then 18 times a comp of the last node with itself: it costs too much
abbrev dear : List Node
dear = iden ∷ tabulate 18 (λ k. comp k k)

orders : Hold (
    -- 1 and 2: a byte behind the last section; two units
    said (dossier (ty 0 0 0 ∷ ty 0 0 0 ∷ []) [] [] [] [] [] ++ 0 ∷ []) is Refused (Header 52)
    -- 2 and 3: two units; no program
    ∷ said (dossier (ty 0 0 0 ∷ ty 0 0 0 ∷ []) [] [] [] [] []) is Refused (BadTypeRecord 1)
    -- 5 and 6: a unit that is never used, and then a jet
    ∷ said (dossier one (0xA9 ∷ 0x4F ∷ []) [] [] [] []) is Refused (Jet 2)
    -- 5 and 7: a hidden node under injl, and then a jet
    ∷ said (dossier one (packed_up (code_natural 3 ++ code_nodes 0 (h ∷ injl 0 ∷ []) ++ 1 ∷ 1 ∷ [])) [] [] [] []) is Refused (Jet 2)
    -- 6 and 9: two equal hidden nodes, the right one first
    ∷ said (dossier one (code (h ∷ h ∷ case 1 0 ∷ [])) [] [] [] []) is Refused (CanonicalOrder 0)
    -- 8 and 10, 9 and 10: both hidden, or two equal ones, and a byte more
    ∷ said (dossier one (code (h ∷ case 0 0 ∷ []) ++ 0 ∷ []) [] [] [] []) is Refused (BothHidden 1)
    ∷ said (dossier one (code (h ∷ h ∷ case 0 1 ∷ []) ++ 0 ∷ []) [] [] [] []) is Refused (NodeRepeated 1)
    -- 10 and 11: a one-child disconnect, and a byte more
    ∷ said (dossier one (code (unit ∷ disconnect1 0 ∷ []) ++ 0 ∷ []) [] [] [] []) is Refused (Closing 2)
    -- 11 and 12: a one-child disconnect, and no arrow
    ∷ said (dossier one (code (unit ∷ disconnect1 0 ∷ [])) [] [] [] []) is Refused (OneChildDisconnect 1)
    -- 11 and 9 of equal nodes, 12 of the count and 9, 9 and 12 of a later node, 12 of an earlier node and 9
    ∷ said (dossier two (code (unit ∷ unit ∷ pair 0 1 ∷ disconnect1 2 ∷ [])) (replicate 4 (to 0 0)) [] [] []) is Refused (OneChildDisconnect 3)
    ∷ said (dossier two (code (iden ∷ iden ∷ pair 0 1 ∷ [])) (replicate 2 (to 1 1)) [] [] []) is Refused (BadArrow 3)
    ∷ said (dossier two (code (iden ∷ iden ∷ pair 0 1 ∷ [])) (replicate 3 (to 1 1)) [] [] []) is Refused (NodeRepeated 1)
    ∷ said (dossier two (code (iden ∷ iden ∷ pair 0 1 ∷ [])) (replicate 3 (to 0 1)) [] [] []) is Refused (BadArrow 0)
    -- 9 of equal nodes and 13: a hash too many
    ∷ said (dossier two (code (iden ∷ iden ∷ pair 0 1 ∷ [])) (replicate 3 (to 1 1)) [] [] (zeros 32)) is Refused (NodeRepeated 1)
    -- 12 and 13: no arrow, or a wrong one, and a hash too many
    ∷ said (dossier one (code (unit ∷ [])) [] [] [] (zeros 32)) is Refused (BadArrow 1)
    ∷ said (dossier two (code (unit ∷ [])) (to 0 1 ∷ []) [] [] (zeros 32)) is Refused (BadArrow 0)
    -- 13 and 14: a hash too many, and it costs too much
    ∷ said (dossier one (code dear) (replicate 19 (to 0 0)) [] [] (zeros 32)) is Refused (Hash 1)
    -- 14 and 15: it costs too much, and a witness bit is left over
    ∷ said (dossier one (code dear) (replicate 19 (to 0 0)) (1 ∷ []) [] []) is Refused (OverLimit 2)
    -- 15 and 16: a witness bit and an input bit left over
    ∷ said (dossier one (code (unit ∷ [])) (to 0 0 ∷ []) (1 ∷ []) (1 ∷ []) []) is Refused (Witness 1)
    -- 16 and 17: no input bit, and no stores
    ∷ said_in 0 0 0 (dossier two (code (iden ∷ [])) (to 1 1 ∷ []) [] [] []) is Refused (Input 0)
    -- the three of 17: all too short, frames and answer, the answer alone, none
    ∷ said_in 0 0 0 (dossier two (code (unit ∷ injl 0 ∷ [])) (to 0 0 ∷ to 0 1 ∷ []) [] [] []) is Refused (StoreShort 0)
    ∷ said_in 1 1 0 (dossier two (code (unit ∷ injl 0 ∷ [])) (to 0 0 ∷ to 0 1 ∷ []) [] [] []) is Refused (StoreShort 1)
    ∷ said_in 1 2 0 (dossier two (code (unit ∷ injl 0 ∷ [])) (to 0 0 ∷ to 0 1 ∷ []) [] [] []) is Refused (StoreShort 2)
    -- 17 and 18, 17 and 19: a store too short for a run that would fail
    ∷ said_in 0 1 0 (dossier one (code (fail (zeros 64) ∷ [])) (to 0 0 ∷ []) [] [] []) is Refused (StoreShort 1)
    -- 18 and 19 come as the run meets them
    ∷ said (dossier four (code (unit ∷ h ∷ case 0 1 ∷ fail (zeros 64) ∷ pair 2 3 ∷ [])) (to 3 0 ∷ to 0 0 ∷ to 2 0 ∷ to 2 0 ∷ to 2 3 ∷ []) [] (1 ∷ []) [])
    is Refused (PrunedReached 2)
    ∷ said (dossier four (code (fail (zeros 64) ∷ unit ∷ h ∷ case 1 2 ∷ pair 0 3 ∷ [])) (to 2 0 ∷ to 3 0 ∷ to 0 0 ∷ to 2 0 ∷ to 2 3 ∷ []) [] (1 ∷ []) [])
    is Refused (FailReached 0)
    ∷ [])
unfolding Hold job dossier code packed_up code_nodes code_by log2_by low_bits tabulate
orders = refl
