-- `decode::checked_table` meets its contract: what reading refuses is refused; else the filled fronts of the stores are judged.
use mathlib.Core.Path.{sym, subst}
use Prim.Native.Nat.{◌/◌}
use lib.ListN.{length}
use Rattle.limits.specs.Limits.{node_numbers}
use Rattle.std.specs.Prelude.{Result}
use Rattle.refusal.specs.declared.Refusal.{Refusal}
use Rattle.scope.specs.Closing.{decode}
use Rattle.common.specs.Answers.{handed_on}
use Rattle.decode.specs.declared.Sizes.{Sizes}
use Rattle.decode.specs.Stores.{DecodedMeans}
use Rattle.decode.proofs.Tables.{decode_stops, fronts_mean}
use Rattle.decode.proofs.checked_table.Goals as goal

pub returns-in_err-done : goal.returns-in_err-done
returns-in_err-done c =
    let program = c.args.program.now in
    let room = length c.args.nodes.now / node_numbers in
    let bytes = length c.args.hashes.now in
    let left = c.read_table.new in
    subst (λ (r : Result Sizes Refusal). DecodedMeans (decode program room bytes) r left.nodes left.hashes)
    (sym (handed_on c.from_residual.result c.in_err-done.was c.from_residual.ensures.1))
    (decode_stops program room bytes _ c.in_err-done.ensures)

pub returns : goal.returns
returns c =
    let place2 = c.place-2 in
    let place = c.place in
    let read_table = c.read_table in
    let nodes = read_table.new.nodes in
    let hashes = read_table.new.hashes in
    let done = c.in_ok-done.done in
    let m = c.in_ok-done.ensures in
    fronts_mean _ _ _ nodes hashes done c.judged.result m place.result place2.result place.ensures.0 place2.ensures.0 c.judged.ensures
