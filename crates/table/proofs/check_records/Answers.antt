-- `table::check_records` meets its contract. The loop's invariant: the first record that breaks its rule is the first from place i on.
use mathlib.Core.Path.{sym, ap, ◌∙◌}
use mathlib.Core.List.{List}
use Prim.Native.Nat.{ℕ}
use native.Mathlib.Omega.{arith}
use lib.ListN.{length}
use Rattle.std.specs.Borrow.{Bor}
use Rattle.refusal.specs.declared.Refusal.TheVariants.{NodeRecord as BadNodeRecord}
use Rattle.scope.specs.Nodes.{node_records}
use Rattle.common.specs.Nodes.{length_records}
use Rattle.common.specs.Passes.{pass_start, pass_more, pass_fails, pass_ends}
use Rattle.table.specs.Stage.{counted_records}
use Rattle.table.proofs.Stages.{refusal_stands, rule_is, records_then}
use Rattle.table.proofs.check_records.Goals as goal

pub returns-in_err-table : goal.returns-in_err-table
unfolding counted_records
returns-in_err-table c = refusal_stands c.from_residual.result c.in_err-table.ensures.verdict c.from_residual.ensures.1 _

pub loop-i-init : goal.loop-i-init
loop-i-init c = pass_start _ _

pub returns-then-not-record_holds : goal.returns-then-not-record_holds
returns-then-not-record_holds c =
    let n = ap (λ (nodes : Bor (List ℕ)). length (node_records nodes.now)) c.in_ok-table.ensures.table in
    let breaks = sym (c.if-not-record_holds.ensures ∙ rule_is c.args.program.now c.args.hashes.now c.args.nodes.now c.loop-i.i _ c.record_at.ensures) in
    pass_fails _ _ BadNodeRecord c.loop-i.i (omega (arith, n, length_records c.args.nodes.now)) breaks c.loop-i.invariant
    ∙ records_then _ _ _ (sym c.in_ok-table.ensures.verdict)

pub loop-i-preserved : goal.loop-i-preserved
loop-i-preserved c =
    let n = ap (λ (nodes : Bor (List ℕ)). length (node_records nodes.now)) c.in_ok-table.ensures.table in
    let holds = sym (c.if-not-record_holds.ensures ∙ rule_is c.args.program.now c.args.hashes.now c.args.nodes.now c.loop-i.i _ c.record_at.ensures) in
    pass_more _ _ c.loop-i.i (omega (arith, n, length_records c.args.nodes.now)) holds c.loop-i.invariant

pub returns : goal.returns
returns c =
    let n = ap (λ (nodes : Bor (List ℕ)). length (node_records nodes.now)) c.in_ok-table.ensures.table in
    pass_ends _ _ BadNodeRecord c.loop-i.i (omega (arith, n, length_records c.args.nodes.now)) c.loop-i.invariant
    ∙ records_then _ _ _ (sym c.in_ok-table.ensures.verdict)
