-- `header::section` meets its contract: the part that start and size name; past the last section they name the end of all.
use mathlib.Core.Path.{ap₂, ◌∙◌}
use Rattle.promise.specs.Parts.{part_of, cut}
use Rattle.header.proofs.Rules.{part_up_to}
use Rattle.header.proofs.section.Goals as goal

pub returns : goal.returns
returns c =
    let whole = part_of c.args.dossier in
    c.part.ensures ∙ ap₂ (cut whole) c.start.ensures.0 c.size.ensures.0 ∙ part_up_to whole c.args.k c.min-j.result c.min-j.ensures
