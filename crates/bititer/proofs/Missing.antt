-- What `o.ok_or(fault)?` tells: the value that was there, or that none was, and the fault is handed on.
use mathlib.Core.Path.{◌≡◌, refl, ap, ◌∙◌}
use Rattle.std.specs.Prelude.{Option, Some, None, Result, Ok, Err, IsErrAnd}
use Rattle.std.specs.Option.{ok_or}
use Rattle.std.proofs.lemmas.Result.{err_from_is_err_and}

pub was_there : {X E : Type 0} (o : Option X) (fault : E) {x : X} → Ok x ≡ ok_or o fault → o ≡ Some x
was_there (Some y) fault h = cc
was_there None fault h = cc

pub was_missing : {X Y E : Type 0} (o : Option X) (fault : E) {told : E} (handed : Result Y E) → Err told ≡ ok_or o fault
    → IsErrAnd handed (λ other. other ≡ told) → (o ≡ None) × (handed ≡ Err fault)
was_missing (Some x) fault handed h said = cc
was_missing None fault {told} handed h said =
    let p = err_from_is_err_and handed said in
    let e : told ≡ fault = cc in
    (refl, p.1 ∙ ap Err (p.2 ∙ e))
