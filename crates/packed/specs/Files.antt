-- What comes of a file of records, one after the other: the first of them, with the file after it left; or none, now and later.
use Rattle.std.specs.Prelude.{◌≡◌, ℕ, List, Option, Some, None, length}
use Rattle.std.specs.Borrow.{Bor}
use Rattle.packed.specs.declared.FileRecords.{FileRecords}
use Rattle.packed.specs.Records.{first_record, after_first}

abbrev pub GivesRecord : (before : FileRecords) → Option (Bor (List ℕ)) → (after : FileRecords) → Type 0
GivesRecord before None after = (length before.rest.now ≡ 0) × (after.rest.now ≡ before.rest.now)
GivesRecord before (Some given) after = (given.now ≡ first_record before.rest.now) × (after.rest.now ≡ after_first before.rest.now)
