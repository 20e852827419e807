-- What each public call promises has one outcome: over the call's own promise, `Post`, two results are the same.
use mathlib.Core.Path.{◌≡◌, sym, ap, ◌∙◌}
use Rattle.std.specs.Prelude.{List, ℕ, Result, Ok, Err, IfOk}
use Rattle.std.specs.Borrow.{Bor}
use Rattle.promise.specs.Outcomes.{OneResult, OneSeen}
use Rattle.refusal.specs.declared.Refusal.{Refusal}
use Rattle.scope.specs.Check.{Check}
use Rattle.scope.specs.Nodes.{NodeRecord}
use Rattle.table.specs.declared.NodeRecord.{NodeRecord as Lent}
use Rattle.common.specs.Checks.{clash}
use Rattle.common.specs.Answers.{check_tells}
use Rattle.table.specs.Stage.{passed_of}
use Rattle.table.specs.declared.NodeTable.{NodeTable}
use Rattle.table.specs.Answers.{record_of}
use Rattle.table.proofs.KindNumbers.{kind_tells}
use Rattle.table.proofs.NodeTable.of.Kinds as node-table-of-kinds
use Rattle.table.proofs.NodeTable.of.Reads as node-table-of-reads
use Rattle.table.proofs.NodeTable.count.Kinds as node-table-count-kinds
use Rattle.table.proofs.NodeTable.count.Reads as node-table-count-reads
use Rattle.table.proofs.check_count.Kinds as check-count-kinds
use Rattle.table.proofs.check_count.Reads as check-count-reads
use Rattle.table.proofs.check_records.Kinds as check-records-kinds
use Rattle.table.proofs.check_records.Reads as check-records-reads
use Rattle.table.proofs.hidden_at.Kinds as hidden-at-kinds
use Rattle.table.proofs.hidden_at.Reads as hidden-at-reads
use Rattle.table.proofs.kind_of.Kinds as kind-of-kinds
use Rattle.table.proofs.kind_of.Reads as kind-of-reads
use Rattle.table.proofs.record_at.Kinds as record-at-kinds
use Rattle.table.proofs.record_at.Reads as record-at-reads
use Rattle.table.proofs.record_holds.Kinds as record-holds-kinds
use Rattle.table.proofs.record_holds.Reads as record-holds-reads
use Rattle.table.proofs.walk.Kinds as walk-kinds
use Rattle.table.proofs.walk.Reads as walk-reads
use Rattle.table.proofs.walk_stage.Kinds as walk-stage-kinds
use Rattle.table.proofs.walk_stage.Reads as walk-stage-reads
use Rattle.table.proofs.record_in.Kinds as record-in-kinds
use Rattle.table.proofs.record_in.Reads as record-in-reads

-- the numbers that a table is lent as, and where they stand
abbrev pub numbers_of : Result NodeTable Refusal → Result (Bor (List ℕ)) Refusal
numbers_of (Ok table) = Ok table.nodes
numbers_of (Err why) = Err why

-- a record's numbers tell it
pub record_tells : (r q : Lent) → record_of r ≡ record_of q → r ≡ q
record_tells r q e = ap (λ (x : NodeRecord). record { kind = x.kind; first = x.first; second = x.second; third = x.third }) e

pub kind_of : OneResult 0 kind-of-kinds.ps kind-of-kinds.r kind-of-reads.Post
kind_of κs a s t x y p q = kind_tells s t (p.1 ∙ sym q.1)

pub record_in : OneResult 1 record-in-kinds.ps record-in-kinds.r record-in-reads.Post
record_in κs a s t x y p q = record_tells s t (p ∙ sym q)

pub record_at_lem : OneResult 1 record-at-kinds.ps record-at-kinds.r record-at-reads.Post
record_at_lem κs a s t x y p q = record_tells s t (p ∙ sym q)

pub record_holds : OneResult 0 record-holds-kinds.ps record-holds-kinds.r record-holds-reads.Post
record_holds κs a s t x y p q = p ∙ sym q

-- a table is told by its numbers, where the count is one check's
pub table_tells : {count : Check (Unit {0})} (nodes : Bor (List ℕ)) (s t : Result NodeTable Refusal) → passed_of s ≡ count → passed_of t ≡ count
    → IfOk s (λ (table : NodeTable). table.nodes ≡ nodes) → IfOk t (λ (table : NodeTable). table.nodes ≡ nodes) → numbers_of s ≡ numbers_of t
table_tells nodes (Ok x) (Ok y) p q e f = ap Ok (e ∙ sym f)
table_tells nodes (Ok x) (Err why) p q e f = clash (let h = p ∙ sym q in cc)
table_tells nodes (Err why) (Ok x) p q e f = clash (let h = p ∙ sym q in cc)
table_tells nodes (Err why) (Err other) p q e f = let h = p ∙ sym q in ap Err (cc)

pub node_table_of : OneSeen 1 node-table-of-kinds.ps node-table-of-kinds.r (λ κs. numbers_of) node-table-of-reads.Post
node_table_of κs a s t x y p q = table_tells _ s t p.0 q.0 p.1 q.1

pub node_table_count : OneResult 2 node-table-count-kinds.ps node-table-count-kinds.r node-table-count-reads.Post
node_table_count κs a s t x y p q = p ∙ sym q

pub check_count : OneResult 1 check-count-kinds.ps check-count-kinds.r check-count-reads.Post
check_count κs a s t x y p q = check_tells s t (p ∙ sym q)

pub check_records_lem : OneResult 3 check-records-kinds.ps check-records-kinds.r check-records-reads.Post
check_records_lem κs a s t x y p q = check_tells s t (p ∙ sym q)

pub walk : OneResult 2 walk-kinds.ps walk-kinds.r walk-reads.Post
walk κs a s t x y p q = check_tells s t (p ∙ sym q)

pub walk_stage_lem : OneResult 3 walk-stage-kinds.ps walk-stage-kinds.r walk-stage-reads.Post
walk_stage_lem κs a s t x y p q = check_tells s t (p ∙ sym q)

pub hidden_at_lem : OneResult 1 hidden-at-kinds.ps hidden-at-kinds.r hidden-at-reads.Post
hidden_at_lem κs a s t x y p q = p ∙ sym q
