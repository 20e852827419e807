-- What the code's answers say in the words of the requirements, one line for each case: a number that was read, the bytes that follow a node, a decoded table.
use Rattle.std.specs.Prelude.{ℕ, Result, Ok, Err}
use Rattle.limits.specs.Limits.{hash_bytes, fail_bytes}
use Rattle.refusal.specs.declared.Refusal.{Refusal}
use Rattle.scope.specs.Check.{Check, passed, refused}
use Rattle.decode.specs.declared.Follows.{Follows}
use Rattle.decode.specs.declared.Sizes.{Sizes}

-- a number that was read
abbrev pub number_of : Result (ℕ × ℕ) Refusal → Check (ℕ × ℕ)
number_of (Ok (n, next)) = passed (n, next)
number_of (Err why) = refused why

-- how many bytes follow
abbrev pub size_of : Follows → ℕ
size_of Follows.Nothing = 0
size_of Follows.Hash = hash_bytes
size_of Follows.Fail = fail_bytes

-- a decoded table's sizes
abbrev pub said_of : Result Sizes Refusal → Check Sizes
said_of (Ok sizes) = passed sizes
said_of (Err why) = refused why
