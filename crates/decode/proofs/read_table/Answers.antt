-- `decode::read_table` meets its contract: the program is too long, the count is refused, or the nodes are read.
use mathlib.Core.Path.{sym, subst}
use Prim.Native.Nat.{◌/◌}
use native.Mathlib.Omega.{arith}
use lib.ListN.{length}
use Rattle.limits.specs.Limits.{node_numbers}
use Rattle.std.specs.Prelude.{Result}
use Rattle.refusal.specs.declared.Refusal.{Refusal}
use Rattle.scope.specs.Numbers.{stream_of}
use Rattle.common.specs.Answers.{handed_on}
use Rattle.decode.specs.declared.Progress.{Progress}
use Rattle.decode.specs.Stores.{ReadMeans, read_all}
use Rattle.decode.proofs.Tables.{too_long_lem, count_refused, count_passed, count_bounds, read_means}
use Rattle.decode.proofs.read_table.Goals as goal

pub returns-then-program-gt-DOSSIER_BYTES : goal.returns-then-program-gt-DOSSIER_BYTES
returns-then-program-gt-DOSSIER_BYTES c =
    let program = c.args.program.now in
    let room = length c.args.nodes.now / node_numbers in
    let bytes = length c.args.hashes.now in
    too_long_lem program room bytes c.if-program-gt-DOSSIER_BYTES.true

pub returns-in_err-count : goal.returns-in_err-count
returns-in_err-count c =
    let program = c.args.program.now in
    let nodes = c.args.nodes.now in
    let hashes = c.args.hashes.now in
    let room = length nodes / node_numbers in
    subst (λ (r : Result Progress Refusal). ReadMeans (read_all program room (length hashes)) r nodes hashes)
    (sym (handed_on c.from_residual.result c.in_err-count.was c.from_residual.ensures.1))
    (count_refused program room (length hashes) _ c.if-program-gt-DOSSIER_BYTES.false (sym c.in_err-count.ensures))

pub read_nodes-requires : goal.read_nodes-requires
read_nodes-requires c =
    let room = length c.args.nodes.now / node_numbers in
    let b = count_bounds (stream_of c.args.program.now) room _ _ (sym c.in_ok-count.ensures) in
    (b.0, b.1, omega arith)

pub returns : goal.returns
returns c =
    let program = c.args.program.now in
    let room = length c.args.nodes.now / node_numbers in
    let bytes = length c.args.hashes.now in
    let read-nodes = c.read_nodes in
    read_means _ _ read-nodes.result read-nodes.new.nodes read-nodes.new.hashes
    (count_passed program room bytes _ _ c.if-program-gt-DOSSIER_BYTES.false (sym c.in_ok-count.ensures)) read-nodes.ensures
