-- `ready::held` meets its contract: the part from the front.
use mathlib.Core.Path.{ap}
use Rattle.promise.specs.Parts.{Part}
use Rattle.ready.proofs.held.Goals as goal

pub returns : goal.returns
returns c = ap (λ (p : Part). p.bytes) c.part.ensures
