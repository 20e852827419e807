-- Bounds as the code holds them: a number over its limit is held at the limit plus one, which no answer shows.
-- `held` takes a bound of the definitions to the code's, `plain` takes the code's back to its numbers.
use Rattle.std.specs.Prelude.{ℕ, ◌+◌, min}
use Rattle.limits.specs.Limits.{cell_count, frame_count, cost_limit}
use Rattle.scope.specs.Bounds as scope
use Rattle.analysis.specs.declared.Bound.{Bound}

-- a number, or one above its limit
abbrev pub up_to : (limit n : ℕ) → ℕ
up_to limit n = min n (limit + 1)

abbrev pub held : scope.Bound → Bound
held b = record { cells = up_to cell_count b.cells; frames = up_to frame_count b.frames; cost = record { units = up_to cost_limit b.cost } }

abbrev pub plain : Bound → scope.Bound
plain b = record { cells = b.cells; frames = b.frames; cost = b.cost.units }
