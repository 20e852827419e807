-- `hashes::check_hashes` meets its contract.
use mathlib.Core.Path.{◌≡◌, sym, ap, ◌∙◌}
use mathlib.Core.List.{List, []}
use native.Mathlib.Omega.{arith}
use Prim.Native.Nat.{ℕ}
use lib.ListN.{length, take}
use lib.Seq.{length-take-le}
use Rattle.std.specs.Borrow.{Bor}
use Rattle.refusal.specs.declared.Refusal.TheVariants.{Hash}
use Rattle.scope.specs.Hashes.{rights}
use Rattle.table.specs.Lent.{lent_nodes}
use Rattle.scope.specs.Check.{refused}
use Rattle.common.specs.Nodes.{length_records}
use Rattle.table.proofs.Stages.{refusal_stands}
use Rattle.hashes.specs.Hashes.{counted_hashes}
use Rattle.hashes.proofs.Rights.{rights_few, front, front_within}
use Rattle.hashes.proofs.Entries.{hashes_stop, hashes_judged}
use Rattle.hashes.proofs.check_hashes.Goals as goal

pub returns-in_err-table : goal.returns-in_err-table
unfolding counted_hashes
returns-in_err-table c = refusal_stands c.from_residual.result c.in_err-table.ensures.verdict c.from_residual.ensures.1 _

pub returns-then-held-count : goal.returns-then-held-count
returns-then-held-count c =
    let a = c.args in
    let some = sym c.in_ok-table.ensures.verdict in
    let all = ap (λ (nodes : Bor (List ℕ)). length (rights (lent_nodes [] nodes.now))) c.in_ok-table.ensures.table in
    ap (λ p. refused (Hash p)) c.place_of.ensures
    ∙ hashes_stop a.nodes.now a.given.now some (λ e. c.if-held-count.true (e ∙ sym (c.rights_of-count.ensures.0 ∙ all)))

pub slice_bounds-children-end : goal.slice_bounds-children-end
slice_bounds-children-end c =
    let found = c.rights_of-count in
    front_within (rights (lent_nodes [] c.in_ok-table.table.nodes.now)) _ found.new.children
    found.result found.ensures.0 found.ensures.1

pub slice_bounds-none_clashes-end : goal.slice_bounds-none_clashes-end
slice_bounds-none_clashes-end c =
    let found = c.rights_of-count in
    sym (length-take-le found.result found.new.children
    (front_within (rights (lent_nodes [] c.in_ok-table.table.nodes.now)) _
    found.new.children found.result found.ensures.0 found.ensures.1))

pub none_clashes-requires : goal.none_clashes-requires
none_clashes-requires c =
    let table = c.in_ok-table.table in
    let nodes = table.nodes.now in
    let found = c.rights_of-count in
    let own : take found.result found.new.children ≡ rights (lent_nodes [] nodes) =
    front (rights (lent_nodes [] nodes)) _ found.new.children found.result found.ensures.0 found.ensures.1 in (
      omega (arith, ap length own, rights_few nodes, table.few, length_records nodes),
      omega
          (arith, ap length own, found.ensures.0, c.if-held-count.false),
    )

pub returns : goal.returns
returns c =
    let a = c.args in
    let nodes = c.in_ok-table.table.nodes.now in
    let found = c.rights_of-count in
    let all = ap (λ (lent : Bor (List ℕ)). rights (lent_nodes [] lent.now)) c.in_ok-table.ensures.table in
    let own : take found.result found.new.children ≡ rights (lent_nodes [] nodes) =
    front (rights (lent_nodes [] nodes)) _ found.new.children found.result found.ensures.0 found.ensures.1 in
    let some = sym c.in_ok-table.ensures.verdict in
    c.none_clashes.ensures
    ∙ hashes_judged a.nodes.now a.given.now some (take found.result found.new.children) (own ∙ all) (c.if-held-count.false ∙ found.ensures.0 ∙ ap length all)
