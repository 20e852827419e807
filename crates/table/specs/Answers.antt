-- What the code's answers stand for in the definitions of `scope`: a kind, a record, a walk's count. Each is one to one.
use Rattle.std.specs.Prelude.{◌≡◌, ℕ, ◌<◌, Option, None, Some, Result, Ok, Err, MatchResult}
use Rattle.refusal.specs.declared.Refusal.{Refusal}
use Rattle.scope.specs.Check.{Check, passed, refused}
use Rattle.scope.specs.Nodes.{Kind, k_comp, k_case, k_pair, k_disconnect, k_injl, k_injr, k_take, k_drop, k_iden, k_unit, k_fail, k_disconnect1, k_witness, k_hidden, k_word, k_unknown, kind_number, NodeRecord}
use Rattle.table.specs.declared.Kind.{Kind as Known}
use Rattle.table.specs.declared.Kind.TheVariants.{Comp, Case, Pair, Disconnect, Injl, Injr, Take, Drop, Iden, Unit, Fail, Disconnect1, Witness, Hidden, Word}
use Rattle.table.specs.declared.UnknownKind.{UnknownKind}
use Rattle.table.specs.declared.NodeRecord.{NodeRecord as Lent}

abbrev pub kind_meant : Known → Kind
kind_meant Comp = k_comp
kind_meant Case = k_case
kind_meant Pair = k_pair
kind_meant Disconnect = k_disconnect
kind_meant Injl = k_injl
kind_meant Injr = k_injr
kind_meant Take = k_take
kind_meant Drop = k_drop
kind_meant Iden = k_iden
kind_meant Unit = k_unit
kind_meant Fail = k_fail
kind_meant Disconnect1 = k_disconnect1
kind_meant Witness = k_witness
kind_meant Hidden = k_hidden
kind_meant Word = k_word

abbrev pub kind_said : Option Known → Kind
kind_said (Some kind) = kind_meant kind
kind_said None = k_unknown

-- the kind with this number, or the number where no kind has it
abbrev pub Numbered : ℕ → Result Known UnknownKind → Type 0
Numbered n r = MatchResult r (λ kind. kind_number (kind_meant kind) ≡ n) (λ e. (e.0 ≡ n) × (14 < n))

abbrev pub record_of : Lent → NodeRecord
record_of r = record { kind = r.kind; first = r.first; second = r.second; third = r.third }

abbrev pub walked_of : Result ℕ Refusal → Check ℕ
walked_of (Ok k) = passed k
walked_of (Err why) = refused why
