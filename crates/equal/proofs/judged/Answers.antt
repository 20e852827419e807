-- `equal::judged` meets its contract.
use mathlib.Core.Path.{sym, ap, ◌∙◌}
use Prim.Native.Nat.{ℕ, min}
use Rattle.limits.specs.Limits.{node_count}
use Rattle.common.specs.Nodes.{length_records}
use Rattle.equal.proofs.judged.Goals as goal

pub returns : goal.returns
returns c = c.min.ensures ∙ ap (λ (n : ℕ). min n node_count) (sym (length_records c.args.nodes.now))
