-- `decode::Reader::next_node` meets its contract: the bytes and the record stand behind those of the nodes before.
use native.Mathlib.Omega.{arith}
use mathlib.Core.Path.{sym, subst}
use Rattle.std.specs.Prelude.{Result}
use Rattle.refusal.specs.declared.Refusal.{Refusal}
use Rattle.scope.specs.Numbers.{stream_of}
use Rattle.common.specs.Answers.{handed_on}
use Rattle.decode.specs.declared.Progress.{Progress}
use Rattle.decode.specs.Stores.{StepMeans}
use Rattle.decode.proofs.Tables.{step_refused, step_read}
use Rattle.decode.proofs.Nodes.{size_most}
use Rattle.decode.proofs.Reader.next_node.Goals as goal

pub returns-in_err-h : goal.returns-in_err-h
returns-in_err-h c =
    let bits = stream_of c.args.self.now.program.now in
    let nodes = c.args.nodes.now in
    let hashes = c.args.hashes.now in
    let done = c.args.done in
    subst (λ (r : Result Progress Refusal). StepMeans bits nodes hashes done r nodes c.read_node.new.hashes)
    (sym (handed_on c.from_residual.result c.in_err-h.was c.from_residual.ensures.1))
    (step_refused bits nodes hashes done c.requires _ c.in_err-h.ensures)

pub returns : goal.returns
returns c =
    let bits = stream_of c.args.self.now.program.now in
    let nodes = c.args.nodes.now in
    let hashes = c.args.hashes.now in
    let bytes_of = c.bytes_of in
    step_read bits nodes hashes c.args.done c.requires c.in_ok-h.h c.in_ok-h.next _ _ c.in_ok-h.ensures
    c.put_record.ensures bytes_of.result bytes_of.ensures
    (omega (arith, bytes_of.ensures, size_most c.in_ok-h.h.follows))
