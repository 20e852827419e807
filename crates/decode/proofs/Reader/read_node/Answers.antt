-- `decode::Reader::read_node` meets its contract: the head is refused, or its bytes are, or they stand in the store.
use mathlib.Core.Path.{sym, subst}
use Rattle.std.specs.Prelude.{Result}
use Prim.Native.Nat.{ℕ}
use Rattle.refusal.specs.declared.Refusal.{Refusal}
use Rattle.scope.specs.Numbers.{stream_of}
use Rattle.common.specs.Answers.{handed_on}
use Rattle.decode.specs.declared.NodeHead.{NodeHead}
use Rattle.decode.specs.Stores.{NodeMeans}
use Rattle.decode.proofs.Nodes.{head_stops, node_in_lem, node_out}
use Rattle.decode.proofs.Reader.read_node.Goals as goal

pub returns-in_err-h : goal.returns-in_err-h
returns-in_err-h c =
    let bits = stream_of c.args.self.now.program.now in
    let a = c.args in
    let store = a.hashes.now in
    subst (λ (r : Result (NodeHead × ℕ) Refusal). NodeMeans bits a.i a.held a.at store r store)
    (sym (handed_on c.from_residual.result c.in_err-h.was c.from_residual.ensures.1))
    (head_stops bits a.i a.held a.at store _ c.in_err-h.ensures)

pub returns-in-Ok : goal.returns-in-Ok
returns-in-Ok c =
    let bits = stream_of c.args.self.now.program.now in
    let head = c.in_ok-h in
    node_in_lem bits c.args.i c.args.held c.args.at c.args.hashes.now head.h head.middle head.ensures _ _ c.place.ensures.0 _ c.in-Ok.ensures

pub returns-in-Err : goal.returns-in-Err
returns-in-Err c =
    let bits = stream_of c.args.self.now.program.now in
    let head = c.in_ok-h in
    node_out bits c.args.i c.args.held c.args.at c.args.hashes.now head.h head.middle head.ensures _ _ c.place.ensures.0 _ _ c.in-Err.ensures
    c.bytes_refusal.ensures
