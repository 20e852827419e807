-- `types::types_hold` meets its contract.
use mathlib.Core.Path.{◌∙◌}
use Rattle.types.proofs.Check.{answer_says}
use Rattle.types.proofs.types_hold.Goals as goal

pub returns : goal.returns
returns c =
    c.without_count.ensures ∙ answer_says c.args.types.now c.check_types.result
    c.check_types.ensures
