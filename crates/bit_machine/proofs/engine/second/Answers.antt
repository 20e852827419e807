use mathlib.Core.Path.{refl, sym, ap, ◌∙◌}
use mathlib.Core.List.{[]}
use Rattle.layout.proofs.Safe.{move_over, fed_kept, fed_bits}
use Rattle.layout.specs.Rules.{copied, forwarded}
use Rattle.bit_machine.proofs.Needs.{second_needs, second_pair, second_comp, second_disconnect, copy_as, read_need}
use Rattle.bit_machine.proofs.engine.second.Goals as goal

pub move_to_read-requires : goal.move_to_read-requires
move_to_read-requires c = move_over [] (second_needs [] _ c.in-Composing.is c.requires.second_ok)

pub move_to_read-t-requires : goal.move_to_read-t-requires
move_to_read-t-requires c = move_over [] (second_needs [] _ c.in-Disconnecting.is c.requires.second_ok).move

pub copy-requires : goal.copy-requires
copy-requires c =
    let move-to-read2-call = c.move_to_read-t in record {
      fed = fed_kept c.requires.fed refl move-to-read2-call.auto.frames;
      copy_ok = λ pos. copy_as (move-to-read2-call.ensures _) refl
          ((second_needs [] _ c.in-Disconnecting.is c.requires.second_ok).copy pos);
    }

pub forward-requires : goal.forward-requires
forward-requires c =
    let move-to-read2-call = c.move_to_read-t in
    λ pos.
    read_need (c.copy.ensures ∙ ap (copied c.in-Disconnecting.kept) (move-to-read2-call.ensures _))
    (fed_bits c.requires.fed) ((second_needs [] _ c.in-Disconnecting.is c.requires.second_ok).pass pos)

pub returns-in-Pairing : goal.returns-in-Pairing
returns-in-Pairing c = λ hash. sym (second_pair hash _ c.in-Pairing.is)

pub returns-in-Composing : goal.returns-in-Composing
returns-in-Composing c = λ hash. c.move_to_read.ensures _ ∙ sym (second_comp hash _ c.in-Composing.is)

pub returns-in-Disconnecting : goal.returns-in-Disconnecting
returns-in-Disconnecting c =
    let move-to-read2-call = c.move_to_read-t in
    let copy-call = c.copy in
    λ hash.
    c.forward.ensures _
    ∙ ap (forwarded c.in-Disconnecting.kept)
    (copy-call.ensures ∙ ap (copied c.in-Disconnecting.kept) (move-to-read2-call.ensures _))
    ∙ sym (second_disconnect hash _ c.in-Disconnecting.is)
