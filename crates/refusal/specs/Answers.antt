-- What a run says: the count of the output's compact bits, or why there is none.
use Rattle.std.specs.Prelude.{Result, ℕ}
use Rattle.refusal.specs.declared.Refusal.{Refusal}

abbrev pub Answer : Type 0
Answer = Result ℕ Refusal
