-- `decode::Reader::read_nodes` meets its contract: a turn reads one node more or stops, and what the nodes that are left come to stays what is wanted.
use mathlib.Core.Path.{refl, sym, subst, ◌∙◌}
use mathlib.Core.List.{[]}
use Prim.Native.Nat.{◌<◌}
use native.Mathlib.Omega.{arith}
use lib.ListN.{length}
use Rattle.std.specs.Prelude.{Result}
use Rattle.refusal.specs.declared.Refusal.{Refusal}
use Rattle.scope.specs.Reading.{nodes_from}
use Rattle.scope.specs.Numbers.{stream_of}
use Rattle.common.specs.Answers.{handed_on}
use Rattle.decode.specs.declared.Progress.{Progress}
use Rattle.decode.specs.Stores.{ReadMeans}
use Rattle.decode.proofs.Tables.{begun_more, ended_more, turn_stops}
use Rattle.decode.proofs.Reader.read_nodes.Goals as goal

pub loop-init : goal.loop-init
loop-init c =
    let a = c.args in (
      begun_more (stream_of a.self.now.program.now) (length a.hashes.now) a.count a.nodes.now a.hashes.now a.first,
      refl,
      omega arith,
      omega arith,
      refl,
      refl,
    )

pub returns-in_err-done : goal.returns-in_err-done
returns-in_err-done c =
    let l = c.loop in
    let bits = stream_of c.args.self.now.program.now in
    let count = c.args.count in
    let room = length c.args.hashes.now in
    let wanted = nodes_from bits room count 0 [] [] c.args.first in
    let left : l.done.nodes < count = omega arith in
    let after = c.next_node.new in
    subst (λ (r : Result Progress Refusal). ReadMeans wanted r after.nodes after.hashes)
    (sym (handed_on c.from_residual.result c.in_err-done.was c.from_residual.ensures.1))
    (turn_stops bits wanted room count l.nodes l.hashes l.done l.invariant.0 left l.invariant.5 after.nodes after.hashes _ c.in_err-done.ensures)

pub returns : goal.returns
returns c =
    let l = c.loop in
    (l.invariant.0 ∙ ended_more (stream_of c.args.self.now.program.now) _ _ l.nodes l.hashes l.done (omega arith), omega arith, omega arith, omega arith, l.invariant.2)
