-- What each public call promises has one outcome: over the call's own promise, `Post`, two results are the same.
use mathlib.Core.Path.{◌≡◌, sym, ap, ◌∙◌}
use Prim.Native.Nat.{ℕ}
use Rattle.scope.specs.Bounds as scope
use Rattle.common.specs.Checks.{clash}
use Rattle.promise.specs.Outcomes.{OneResult}
use Rattle.analysis.specs.Limits.{bounded_of}
use Rattle.std.specs.Prelude.{Result, Ok, Err}
use Rattle.refusal.specs.declared.Refusal.{Refusal}
use Rattle.analysis.specs.declared.Totals.{Totals}
use Rattle.analysis.proofs.Cost.add.Kinds as add-kinds
use Rattle.analysis.proofs.Cost.add.Reads as add_reads
use Rattle.analysis.proofs.node_rows.Kinds as node-rows-kinds
use Rattle.analysis.proofs.node_rows.Reads as node-rows-reads
use Rattle.analysis.proofs.bounds.Kinds as bounds-kinds
use Rattle.analysis.proofs.bounds.Reads as bounds-reads
use Rattle.analysis.proofs.bounds_stage.Kinds as bounds-stage-kinds
use Rattle.analysis.proofs.bounds_stage.Reads as bounds-stage-reads

-- an answer's numbers tell it, and its refusal does
bounds_tell : (r q : Result Totals Refusal) → bounded_of r ≡ bounded_of q → r ≡ q
bounds_tell (Ok b) (Ok d) p =
    let own : ◌≡◌ {A = scope.Bound} (record { cells = b.cells; frames = b.frames; cost = b.cost }) (record { cells = d.cells; frames = d.frames; cost = d.cost }) = cc in
    ap (λ (x : scope.Bound). Ok (record { cells = x.cells; frames = x.frames; cost = x.cost })) own
bounds_tell (Ok b) (Err why) p = clash (cc)
bounds_tell (Err why) (Ok b) p = clash (cc)
bounds_tell (Err why) (Err other) p = ap Err (cc)

pub cost_add : OneResult 0 add-kinds.ps add-kinds.r add_reads.Post
cost_add κs a s t x y p q = ap (λ (n : ℕ). record { units = n }) (p ∙ sym q)

pub node_rows : OneResult 4 node-rows-kinds.ps node-rows-kinds.r node-rows-reads.Post
node_rows κs a s t x y p q = p ∙ sym q

pub bounds : OneResult 4 bounds-kinds.ps bounds-kinds.r bounds-reads.Post
bounds κs a s t x y p q = bounds_tell s t (p ∙ sym q)

pub bounds_stage_lem : OneResult 2 bounds-stage-kinds.ps bounds-stage-kinds.r bounds-stage-reads.Post
bounds_stage_lem κs a s t x y p q = bounds_tell s t (p ∙ sym q)
