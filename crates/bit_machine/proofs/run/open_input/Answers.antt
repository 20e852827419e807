use Rattle.bit_machine.proofs.Whole.{no_input, open_push, open_write, open_move, opened_is}
use Rattle.bit_machine.proofs.Needs.{within_fed, within_kept}
use Rattle.layout.proofs.Safe.{push_over, move_over, fed_bits}
use Rattle.bit_machine.proofs.Written.{value_long}
use mathlib.Core.List.{[]}
use mathlib.Core.Path.{refl, sym, ◌∙◌}
use Rattle.ready.proofs.Checked.{shapes_shown}
use Rattle.bit_machine.proofs.run.open_input.Goals as goal

pub returns-then-n-eq0 : goal.returns-then-n-eq0
returns-then-n-eq0 c = no_input _ _ _ (sym c.entry_or-n.ensures ∙ c.if-n-eq0.true)

pub new_write_frame-a-requires : goal.new_write_frame-a-requires
new_write_frame-a-requires c = push_over [] (fed_bits (within_fed c.requires.within)) (open_push _ _ c.entry_or-n.ensures c.if-n-eq0.false c.requires.input_ok)

pub write_value-requires : goal.write_value-requires
write_value-requires c =
    let new-write-frame-call = c.new_write_frame-a in record {
      within = within_kept c.requires.within refl new-write-frame-call.auto.frames;
      reads = c.requires.reads;
      write_ok = open_write _ _ c.entry_or-n.ensures
          c.if-n-eq0.false c.requires.input_ok
          (value_long (shapes_shown c.args.shapes.now) c.args.k _ 0 c.requires.reads _ refl) _ (new-write-frame-call.ensures _);
    }

pub move_to_read-requires : goal.move_to_read-requires
move_to_read-requires c =
    let width-call = c.entry_or-n in
    let if1-found = c.if-n-eq0 in
    let new-write-frame-call = c.new_write_frame-a in
    move_over []
    (open_move _ _ width-call.ensures if1-found.false c.requires.input_ok _ _ (new-write-frame-call.ensures _)
    c.write_value.ensures)

pub returns : goal.returns
returns c =
    let width-call = c.entry_or-n in
    let if1-found = c.if-n-eq0 in
    let new-write-frame-call = c.new_write_frame-a in
    let write-value-call = c.write_value in
    opened_is _ _ width-call.ensures if1-found.false _ _ _ (new-write-frame-call.ensures _) write-value-call.ensures
    (c.move_to_read.ensures _)
