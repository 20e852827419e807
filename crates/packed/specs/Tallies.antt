-- Counting records, modulo 2^32.
use Rattle.std.specs.Prelude.{ℕ, ◌+◌, ◌%◌, ◌^◌, Bool, true, false}
use Rattle.packed.specs.declared.Tally.{Tally}

abbrev pub one_more : ℕ → ℕ
one_more n = (n + 1) % 2 ^ 32

-- a record more, right or wrong
abbrev pub counted : Tally → Bool → Tally
counted t true = record { count = one_more t.count; wrong = t.wrong }
counted t false = record { count = one_more t.count; wrong = one_more t.wrong }
