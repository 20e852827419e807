use mathlib.Core.Path.{sym, ap, ◌∙◌, subst}
use mathlib.Core.List.{[]}
use Rattle.layout.specs.Mach.{Mach}
use Rattle.layout.specs.Safe.{DropOk}
use Rattle.layout.specs.Rules.{dropped}
use Rattle.bit_machine.proofs.Needs.{third_needs, third_pair, third_comp, third_disconnect}
use Rattle.bit_machine.proofs.engine.third.Goals as goal

pub drop_read-requires : goal.drop_read-requires
drop_read-requires c = (third_needs [] _ c.in-Composing.is c.requires)

pub drop_read-t-requires : goal.drop_read-t-requires
drop_read-t-requires c = (third_needs [] _ c.in-Disconnecting.is c.requires).0

pub drop_read-requires-in-Disconnecting : goal.drop_read-requires-in-Disconnecting
drop_read-requires-in-Disconnecting c =
    subst (λ (z : Mach). DropOk z) (sym (c.drop_read-t.ensures [])) (third_needs [] _
    c.in-Disconnecting.is c.requires).1

pub returns-in-Pairing : goal.returns-in-Pairing
returns-in-Pairing c = λ hash b. sym (third_pair hash _ c.in-Pairing.is)

pub returns-in-Composing : goal.returns-in-Composing
returns-in-Composing c = λ hash b. c.drop_read.ensures b ∙ sym (third_comp hash _ c.in-Composing.is)

pub returns-in-Disconnecting : goal.returns-in-Disconnecting
returns-in-Disconnecting c =
    λ hash b. c.drop_read-in-Disconnecting.ensures b
    ∙ ap dropped (c.drop_read-t.ensures b)
    ∙ sym (third_disconnect hash _ c.in-Disconnecting.is)
