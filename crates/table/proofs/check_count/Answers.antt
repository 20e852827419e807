-- `table::check_count` meets its contract: the records are a fourth of the numbers.
use mathlib.Core.Path.{sym, ap, ◌∙◌}
use Prim.Native.Nat.{ℕ}
use Rattle.limits.specs.Limits.{node_count}
use Rattle.scope.specs.Stages.{counted}
use Rattle.common.specs.Nodes.{length_records}
use Rattle.table.proofs.check_count.Goals as goal

pub returns : goal.returns
returns c = c.check_count.ensures ∙ ap (λ (n : ℕ). counted n node_count) (sym (length_records c.args.nodes.now))
