-- The checks before decoding, in the steps in which the code makes them.
use mathlib.Core.Path.{◌≡◌, sym, ap, ◌∙◌}
use mathlib.Core.List.{List}
use Prim.Native.Nat.{ℕ}
use lib.ListN.{length}
use Rattle.limits.specs.Limits.{type_count}
use Rattle.refusal.specs.declared.Refusal.{Refusal}
use Rattle.scope.specs.Check.{passed, refused, ◌>>=◌}
use Rattle.scope.specs.Header.{check_header, section, s_types}
use Rattle.scope.specs.Types.{type_records, check_types}
use Rattle.scope.specs.Stages.{counted}
use Rattle.common.specs.Checks.{then_passes}
use Rattle.common.specs.Answers.{check_of}
use Rattle.std.specs.Prelude.{Result, Ok, Err}
use Rattle.types.specs.Table.{counted_types}
use Rattle.dossier.specs.Ends.{front}
use Rattle.dossier.proofs.Decoded.{types_counted}

module _ (d : List ℕ) (header : Result (Unit {0}) Refusal) (checks : check_of header ≡ check_header d) where
  -- a wrong header is the answer
  pub front_refused : (why : Refusal) → header ≡ Err why → check_of header ≡ front d
  unfolding front ◌>>=◌
  front_refused why e =
      let wrong : check_header d ≡ refused why = sym checks ∙ ap check_of e in
      rw (wrong, ◌>>=◌) (ap check_of e)

  -- and else what the type table's check says, which then has a record and not too many
  pub front_types : header ≡ Ok tt → (typed : Result (Unit {0}) Refusal) → check_of typed ≡ counted_types (section d s_types) → check_of typed ≡ front d
  unfolding front counted_types
  front_types e typed h =
      let right : check_header d ≡ passed tt = sym checks ∙ ap check_of e in
      h
      ∙ then_passes (counted (length (type_records (section d s_types))) type_count)
      (λ some. check_types (type_records (section d s_types))) tt (types_counted d right)
      ∙ sym (then_passes (check_header d) (λ header. check_types (type_records (section d s_types))) tt right)
