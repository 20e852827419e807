-- `ready::all_used` meets its contract: bytes above the limit fail it and bits that are left over, else it is whether the count closes the bytes.
use mathlib.Core.Path.{ap, ◌∙◌}
use native.Mathlib.Omega.{arith}
use Rattle.scope.specs.Numbers.{stream_of}
use Rattle.scope.specs.Closing.{closes}
use Rattle.ready.proofs.Ends.{used_over, used_short, used_all}
use Rattle.ready.proofs.all_used.Goals as goal

pub returns-then-s-gt-DOSSIER_BYTES : goal.returns-then-s-gt-DOSSIER_BYTES
returns-then-s-gt-DOSSIER_BYTES c =
    let a = c.args in
    used_over a.s.now a.end a.count (omega arith)

pub returns-then-end-all : goal.returns-then-end-all
returns-then-end-all c =
    let a = c.args in
    used_short a.s.now a.end a.count (omega arith) (omega arith)

pub returns : goal.returns
returns c =
    let a = c.args in
    c.closes.ensures
    ∙ ap (closes (stream_of a.s.now)) c.place-all.ensures.0
    ∙ used_all a.s.now a.end a.count (omega arith) (omega arith)
