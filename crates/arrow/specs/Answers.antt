-- What the code's arrow stands for in the definitions.
use Rattle.scope.specs.Arrows.{Arrow}
use Rattle.arrow.specs.declared.Arrow.{Arrow as Lent}

abbrev pub arrow_of : Lent → Arrow
arrow_of a = record { source = a.source; target = a.target }
