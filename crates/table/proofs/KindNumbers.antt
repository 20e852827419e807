-- Kinds and their numbers: what a record's number says of its kind, and the test of a kind as the test of its number.
use mathlib.Core.Path.{◌≡◌, refl, sym, ap, ap₂, ◌∙◌}
use mathlib.Core.Bool.{Bool, true, false}
use Prim.Native.Nat.{ℕ, ◌<◌, ◌≤◌}
use native.Mathlib.Omega.{arith}
use lib.Dec.{eqb}
use borrow.Author.Tests.{ne_eqb, eqb-true, eqb-false}
use denote.Enum.Bare.{tag_one}
use denote.Enum.Declared.{tag_of}
use Rattle.std.specs.Prelude.{Option, Some, None, Result, Ok, Err, MatchOption}
use Rattle.std.specs.Option.{option_eq}
use Rattle.std.specs.Result.{result_ok}
use Rattle.scope.specs.Nodes.{kind_of, kind_number}
use Rattle.table.specs.declared.Kind.{Kind as Known}
use Rattle.table.specs.declared.Kind.TheVariants.{Comp, Case, Pair, Disconnect, Injl, Injr, Take, Drop, Iden, Unit, Fail, Disconnect1, Witness, Hidden, Word}
use Rattle.table.specs.declared.UnknownKind.{UnknownKind}
use Rattle.table.specs.contracts.Kind.{the_type}
use Rattle.table.specs.contracts.KindPartialEq.TheImpl as same
use Rattle.table.specs.Answers.{Numbered, kind_meant, kind_said}
use Rattle.table.proofs.Groups.{unknown}

-- the kind with a number, if any has it
abbrev pub Told : (kind : Option Known) → ℕ → Type 0
Told kind n = MatchOption kind (14 < n) (λ k. n ≡ kind_number (kind_meant k))

-- what the conversion from a number says
pub told : (r : Result Known UnknownKind) (n : ℕ) → Numbered n r → Told (result_ok r) n
told (Ok kind) n e = sym e
told (Err why) n e = e.1

-- a kind has the number of the kind that it stands for
meant : (kind : Known) → kind_meant kind ≡ kind_of (kind_number (kind_meant kind))
unfolding kind_of
meant Comp = refl
meant Case = refl
meant Pair = refl
meant Disconnect = refl
meant Injl = refl
meant Injr = refl
meant Take = refl
meant Drop = refl
meant Iden = refl
meant Unit = refl
meant Fail = refl
meant Disconnect1 = refl
meant Witness = refl
meant Hidden = refl
meant Word = refl

pub said : (kind : Option Known) (n : ℕ) → Told kind n → kind_said kind ≡ kind_of n
said (Some kind) n e = meant kind ∙ ap kind_of (sym e)
said None n h = sym (unknown n h)

-- its tag is that number
tagged : (kind : Known) → tag_of the_type kind ≡ kind_number (kind_meant kind)
tagged Comp = refl
tagged Case = refl
tagged Pair = refl
tagged Disconnect = refl
tagged Injl = refl
tagged Injr = refl
tagged Take = refl
tagged Drop = refl
tagged Iden = refl
tagged Unit = refl
tagged Fail = refl
tagged Disconnect1 = refl
tagged Witness = refl
tagged Hidden = refl
tagged Word = refl

known : (kind : Known) → kind_number (kind_meant kind) ≤ 14
known Comp = omega arith
known Case = omega arith
known Pair = omega arith
known Disconnect = omega arith
known Injl = omega arith
known Injr = omega arith
known Take = omega arith
known Drop = omega arith
known Iden = omega arith
known Unit = omega arith
known Fail = omega arith
known Disconnect1 = omega arith
known Witness = omega arith
known Hidden = omega arith
known Word = omega arith

-- so a record is of a kind exactly if it has the kind's number
pub is_kind : (told : Option Known) (kind : Known) (n : ℕ) → Told told n → option_eq same.eq-value.it told (Some kind) ≡ eqb n (kind_number (kind_meant kind))
is_kind (Some k) kind n e = ap₂ eqb (tagged k ∙ sym e) (tagged kind)
is_kind None kind n h = sym (ne_eqb n _ (omega (arith, known kind)))

-- what a test of its kind shows
module _ {b : Bool} (told : Option Known) (kind : Known) (n : ℕ) (test : b ≡ option_eq same.eq-value.it told (Some kind)) (told_n : Told told n) where
  pub of_kind : b ≡ true → n ≡ kind_number (kind_meant kind)
  of_kind e = eqb-true n _ (sym (test ∙ is_kind told kind n told_n) ∙ e)

  pub not_of_kind : b ≡ false → n ≡ kind_number (kind_meant kind) → ⊥
  not_of_kind e = eqb-false n _ (sym (test ∙ is_kind told kind n told_n) ∙ e)

-- and no two kinds stand for one
pub kind_tells : (k l : Option Known) → kind_said k ≡ kind_said l → k ≡ l
kind_tells (Some a) (Some b) e = ap Some (tag_one the_type tt a b (tagged a ∙ ap kind_number e ∙ sym (tagged b)))
kind_tells (Some a) None e = absurd (omega (arith, known a, ap kind_number e))
kind_tells None (Some b) e = absurd (omega (arith, known b, ap kind_number e))
kind_tells None None e = refl
