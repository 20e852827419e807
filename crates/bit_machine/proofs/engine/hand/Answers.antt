use native.Mathlib.Omega.{arith}
use mathlib.Core.Path.{refl, ap, ◌∙◌}
use mathlib.Core.List.{[]}
use Rattle.layout.proofs.Safe.{push_over, fed_kept, fed_bits}
use Rattle.layout.specs.Rules.{pushed, moved, copied, bits_written}
use Rattle.bit_machine.proofs.Needs.{hash_size, hash_pushed, hash_fits, write_as, copy_as, bits_kept, move_need, push_need}
use Rattle.bit_machine.proofs.engine.hand.Goals as goal

pub overflow_add-size : goal.overflow_add-size
overflow_add-size c =
    let h = hash_fits c.args.source (fed_bits c.requires.fed) c.requires.hand_ok.push in
    omega arith

pub new_write_frame-a-requires : goal.new_write_frame-a-requires
new_write_frame-a-requires c = push_over [] (fed_bits c.requires.fed) (hash_size c.args.source c.requires.hand_ok.push)

pub write_hash-requires : goal.write_hash-requires
write_hash-requires c =
    let new-write-frame-call = c.new_write_frame-a in record {
      fed = fed_kept c.requires.fed refl new-write-frame-call.auto.frames;
      write_ok = λ pos. write_as (hash_pushed _ _ (new-write-frame-call.ensures _)) refl (c.requires.hand_ok.write pos);
    }

pub copy-requires : goal.copy-requires
copy-requires c =
    let new-write-frame-call = c.new_write_frame-a in
    let write-hash-call = c.write_hash in record {
      fed = fed_kept c.requires.fed write-hash-call.auto.cells (write-hash-call.auto.frames ∙ new-write-frame-call.auto.frames);
      copy_ok = λ pos. copy_as (write-hash-call.ensures ∙ ap (bits_written _) (hash_pushed _ _ (new-write-frame-call.ensures _)))
          (bits_kept _ _ write-hash-call.auto.cells) (c.requires.hand_ok.copy pos);
    }

pub move_to_read-b-requires : goal.move_to_read-b-requires
move_to_read-b-requires c =
    let new-write-frame-call = c.new_write_frame-a in
    let write-hash-call = c.write_hash in
    move_need (c.copy.ensures ∙ ap (copied c.args.source)
    (write-hash-call.ensures ∙ ap (bits_written _) (hash_pushed _ _ (new-write-frame-call.ensures _)))) c.requires.hand_ok.move

pub new_write_frame-requires : goal.new_write_frame-requires
new_write_frame-requires c =
    let new-write-frame-call = c.new_write_frame-a in
    let write-hash-call = c.write_hash in
    let copy-call = c.copy in
    push_need (c.move_to_read-b.ensures _ ∙ ap moved (copy-call.ensures ∙ ap (copied c.args.source)
    (write-hash-call.ensures ∙ ap (bits_written _) (hash_pushed _ _ (new-write-frame-call.ensures _))))) (fed_bits c.requires.fed)
    c.requires.hand_ok.last

pub returns : goal.returns
returns c =
    let new-write-frame-call = c.new_write_frame-a in
    let write-hash-call = c.write_hash in
    let copy-call = c.copy in
    c.new_write_frame.ensures _
    ∙ ap (pushed c.args.target)
    (c.move_to_read-b.ensures _ ∙ ap moved (copy-call.ensures ∙ ap
    (copied c.args.source) (write-hash-call.ensures ∙ ap (bits_written _) (hash_pushed _ _ (new-write-frame-call.ensures _)))))
