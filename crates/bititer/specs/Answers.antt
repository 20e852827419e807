-- What each answer says, in the words of the requirements' readers: one line for each of its cases.
-- And what reading whole bytes into a lent store leaves: what was said, and the store.
use Rattle.std.specs.Prelude.{true, false, Option, Some, None, Result, Ok, Err, List, ◌++◌, ℕ, ◌+◌, leb, length, take, drop}
use Rattle.scope.specs.Reading.{Got, got, fault, Fault, stream_ended, length_too_long, over_bound, hashes_short}
use Rattle.bititer.specs.declared.NaturalFault.{NaturalFault}
use Rattle.bititer.specs.declared.BytesFault.{BytesFault}

abbrev pub got_code : Option (ℕ × ℕ) → Got ℕ
got_code (Some (value, next)) = got value next
got_code None = fault stream_ended

abbrev pub natural_fault : NaturalFault → Fault
natural_fault NaturalFault.Ended = stream_ended
natural_fault NaturalFault.TooLong = length_too_long
natural_fault NaturalFault.OverBound = over_bound

-- a natural that was read at a position
abbrev pub got_natural : (at : ℕ) → Result (ℕ × ℕ) NaturalFault → Got ℕ
got_natural at (Ok (n, bits)) = got n (at + bits)
got_natural at (Err f) = fault (natural_fault f)

-- a number that was read, unless it is over its bound
abbrev pub at_most : (bound n next : ℕ) → Got ℕ
at_most bound n next = elim (leb n bound) [ true ↦ got n next | false ↦ fault over_bound ]

abbrev pub bytes_fault : BytesFault → Fault
bytes_fault BytesFault.Ended = stream_ended
bytes_fault BytesFault.NoRoom = hashes_short

abbrev pub got_bytes : Result ℕ BytesFault → Got (Unit {0})
got_bytes (Ok next) = got tt next
got_bytes (Err f) = fault (bytes_fault f)

-- what was said, and the store as it is left
pub record Stored : Type 0 where
  pub says : Got (Unit {0})
  pub store : List ℕ

abbrev pub stored : Got (Unit {0}) → List ℕ → Stored
stored says store = record { says = says; store = store }

-- a store with these bytes from an index on, and else as it was
abbrev pub placed : (store : List ℕ) → (at : ℕ) → (bytes : List ℕ) → List ℕ
placed store at bytes = take at store ++ (bytes ++ drop (at + length bytes) store)

-- bytes that were read go into the store where it has room for them; else it is as it was
unfoldable pub storing : Got (List ℕ) → (store : List ℕ) → (at : ℕ) → Stored
storing (got bytes next) store at = elim (leb (at + length bytes) (length store)) [
  | true ↦ stored (got tt next) (placed store at bytes)
  | false ↦ stored (fault hashes_short) store
]
storing (fault e) store at = stored (fault e) store
