-- The number and the place of each refusal, as the requirements' table has them, and whether it keeps the decoded table.
use Rattle.std.specs.Prelude.{Bool, true, false, ℕ, ltb}
use Rattle.refusal.specs.declared.Refusal.{Refusal}
use Rattle.refusal.specs.declared.Refusal.TheVariants.{Header, TypeRecord, StreamEnded, Natural, Jet, CanonicalOrder, HiddenElsewhere, BothHidden, NodeRepeated, Closing, OneChildDisconnect, Arrow, Hash, OverLimit, Witness, Input, StoreShort, FailReached, PrunedReached, Overlong, NodeRecord}

abbrev pub number_of : Refusal → ℕ
number_of (Header at) = 1
number_of (TypeRecord at) = 2
number_of (StreamEnded at) = 3
number_of (Natural at) = 4
number_of (Jet at) = 5
number_of (CanonicalOrder at) = 6
number_of (HiddenElsewhere at) = 7
number_of (BothHidden at) = 8
number_of (NodeRepeated at) = 9
number_of (Closing at) = 10
number_of (OneChildDisconnect at) = 11
number_of (Arrow at) = 12
number_of (Hash at) = 13
number_of (OverLimit at) = 14
number_of (Witness at) = 15
number_of (Input at) = 16
number_of (StoreShort at) = 17
number_of (FailReached at) = 18
number_of (PrunedReached at) = 19
number_of (Overlong at) = 21
number_of (NodeRecord at) = 26

abbrev pub place_of : Refusal → ℕ
place_of (Header at) = at
place_of (TypeRecord at) = at
place_of (StreamEnded at) = at
place_of (Natural at) = at
place_of (Jet at) = at
place_of (CanonicalOrder at) = at
place_of (HiddenElsewhere at) = at
place_of (BothHidden at) = at
place_of (NodeRepeated at) = at
place_of (Closing at) = at
place_of (OneChildDisconnect at) = at
place_of (Arrow at) = at
place_of (Hash at) = at
place_of (OverLimit at) = at
place_of (Witness at) = at
place_of (Input at) = at
place_of (StoreShort at) = at
place_of (FailReached at) = at
place_of (PrunedReached at) = at
place_of (Overlong at) = at
place_of (NodeRecord at) = at

-- whether the node and hash stores keep the decoded table: they are zero after 1 to 13 and 21, and after 17 at 3 and 4
abbrev pub keeps_table : Refusal → Bool
keeps_table (Header at) = false
keeps_table (TypeRecord at) = false
keeps_table (StreamEnded at) = false
keeps_table (Natural at) = false
keeps_table (Jet at) = false
keeps_table (CanonicalOrder at) = false
keeps_table (HiddenElsewhere at) = false
keeps_table (BothHidden at) = false
keeps_table (NodeRepeated at) = false
keeps_table (Closing at) = false
keeps_table (OneChildDisconnect at) = false
keeps_table (Arrow at) = false
keeps_table (Hash at) = false
keeps_table (OverLimit at) = true
keeps_table (Witness at) = true
keeps_table (Input at) = true
keeps_table (StoreShort at) = ltb at 3
keeps_table (FailReached at) = true
keeps_table (PrunedReached at) = true
keeps_table (Overlong at) = false
keeps_table (NodeRecord at) = true
