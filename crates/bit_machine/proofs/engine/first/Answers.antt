use native.Mathlib.Omega.{arith}
use mathlib.Core.Path.{sym, ◌∙◌}
use mathlib.Core.List.{[]}
use Rattle.layout.proofs.Safe.{push_over, fed_bits}
use Rattle.bit_machine.proofs.Needs.{first_needs, first_pair, first_comp, first_disconnect}
use Rattle.bit_machine.proofs.engine.first.Goals as goal

pub new_write_frame-requires : goal.new_write_frame-requires
new_write_frame-requires c = push_over [] (fed_bits c.requires.fed) (first_needs _ _ c.in-Composing.is c.requires.first_ok)

pub overflow_add-target : goal.overflow_add-target
overflow_add-target c =
    let h = (first_needs _ _ c.in-Disconnecting.is c.requires.first_ok).last.fits in
    omega (arith, fed_bits c.requires.fed)

pub hand-requires : goal.hand-requires
hand-requires c =
    record {
      fed = c.requires.fed;
      hand_ok = (first_needs _ _ c.in-Disconnecting.is c.requires.first_ok);
    }

pub returns-in-Pairing : goal.returns-in-Pairing
returns-in-Pairing c = sym (first_pair _ _ c.in-Pairing.is)

pub returns-in-Composing : goal.returns-in-Composing
returns-in-Composing c = c.new_write_frame.ensures _ ∙ sym (first_comp _ _ c.in-Composing.is)

pub returns-in-Disconnecting : goal.returns-in-Disconnecting
returns-in-Disconnecting c =
    c.hand.ensures
    ∙ sym (first_disconnect _ _ c.in-Disconnecting.is)
