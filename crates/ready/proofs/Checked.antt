-- What the type of checked shapes says, as a fact of their tables, and what such a fact says of a table that has to be checked.
use mathlib.Core.Path.{◌≡◌, ap, ◌∙◌}
use mathlib.Core.List.{List}
use Prim.Native.Nat.{ℕ}
use lib.ListN.{length}
use Rattle.scope.specs.Check.{passed}
use Rattle.scope.specs.Types.{type_records}
use Rattle.types.specs.Table.{check_table}
use Rattle.types.proofs.Sound.{passed_table}
use Rattle.ready.specs.Lent.{TypesShown}
use Rattle.ready.specs.declared.CheckedShapes.{CheckedShapes}

-- the tables of checked shapes are shown to be right
pub shapes_shown : (checked : CheckedShapes) → TypesShown checked.shapes.types.now checked.shapes.widths.now checked.shapes.next.now
shapes_shown checked = record {
  count = length (type_records checked.shapes.types.now);
  passes = checked.types_pass;
  widths_are = checked.widths_are;
  next_are = checked.next_are;
}

-- the check of a table that is shown to be right passes with how many records there are
pub types_counted : (types widths next : List ℕ) → TypesShown types widths next → check_table types ≡ passed (length (type_records types))
types_counted types widths next shown = shown.passes ∙ ap passed (passed_table types shown.count shown.passes).count
