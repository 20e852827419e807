-- The parts of a record of a type table that passed.
use mathlib.Core.Path.{◌≡◌}
use mathlib.Core.List.{List}
use Prim.Native.Nat.{ℕ}
use Rattle.report.specs.Types.{left_of, right_of}
use Rattle.scope.specs.Types.{TypeRecord, type_records, ty_at, left_at, right_at}
use Rattle.types.proofs.Parts.{left_type, right_type}
use Rattle.types.proofs.Sound.{Passed, passed_table}
use Rattle.ready.specs.Lent.{TypesShown}

module _ (types widths next : List ℕ) (shown : TypesShown types widths next) where
  abbrev T : List TypeRecord
  T = type_records types

  passes : Passed types shown.count
  passes = passed_table types shown.count shown.passes

  -- the parts of a record stand for the parts of its type
  pub left_found : (k : ℕ) → left_of (ty_at T k) ≡ ty_at T (left_at T k)
  left_found = left_type T passes.sound

  pub right_found : (k : ℕ) → right_of (ty_at T k) ≡ ty_at T (right_at T k)
  right_found = right_type T passes.sound
