-- What is told of the first number of the header against its rule: its place, or that there is none.
use Rattle.std.specs.Prelude.{◌≡◌, ℕ, List, Option, Some, None, ◌<◌}
use Rattle.scope.specs.Check.{first_failing}
use Rattle.scope.specs.Header.{header_rule}

abbrev pub WrongFirst : (dossier : List ℕ) → Option ℕ → Type 0
WrongFirst dossier None = first_failing (header_rule dossier) 14 0 ≡ 14
WrongFirst dossier (Some j) = (j ≡ first_failing (header_rule dossier) 14 0) × (j < 14)
