-- What each public call promises has one outcome: over the call's own promise, `Post`, two results are the same.
use mathlib.Core.Path.{◌≡◌, sym, ap, ◌∙◌}
use Rattle.common.specs.Answers.{check_tells}
use Rattle.promise.specs.Outcomes.{OneResult}
use Rattle.std.specs.Prelude.{Result, Ok, Err}
use Rattle.common.specs.Checks.{clash}
use Rattle.types.specs.declared.TypeTable.{TypeTable}
use Rattle.stages.specs.declared.Refused.{Refused}
use Rattle.stages.specs.Answers.{verdict_of, table_of}
use Rattle.stages.proofs.arrow_tables.Kinds as arrow-tables-kinds
use Rattle.stages.proofs.arrow_tables.Reads as arrow-tables-reads
use Rattle.stages.proofs.hash_tables.Kinds as hash-tables-kinds
use Rattle.stages.proofs.hash_tables.Reads as hash-tables-reads
use Rattle.stages.proofs.arrow_stage.Kinds as arrow-stage-kinds
use Rattle.stages.proofs.arrow_stage.Reads as arrow-stage-reads
use Rattle.stages.proofs.hash_stage.Kinds as hash-stage-kinds
use Rattle.stages.proofs.hash_stage.Reads as hash-stage-reads

-- a verdict and a table tell what a stage hands back
staged_tells : (s t : Result TypeTable Refused) → verdict_of s ≡ verdict_of t → table_of s ≡ table_of t → s ≡ t
staged_tells (Ok x) (Ok y) e f = ap Ok f
staged_tells (Ok x) (Err y) e f = clash (cc)
staged_tells (Err x) (Ok y) e f = clash (cc)
staged_tells (Err x) (Err y) e f =
    let says : x.why ≡ y.why = cc in
    λ k. Err (record { why = says k; table = f k })

pub arrow_tables : OneResult 2 arrow-tables-kinds.ps arrow-tables-kinds.r arrow-tables-reads.Post
arrow_tables κs a s t x y p q = staged_tells s t (p.0 ∙ sym q.0) (p.1 ∙ sym q.1)

pub hash_tables : OneResult 3 hash-tables-kinds.ps hash-tables-kinds.r hash-tables-reads.Post
hash_tables κs a s t x y p q = staged_tells s t (p.0 ∙ sym q.0) (p.1 ∙ sym q.1)

pub arrow_stage_lem : OneResult 2 arrow-stage-kinds.ps arrow-stage-kinds.r arrow-stage-reads.Post
arrow_stage_lem κs a s t x y p q = check_tells s t (p ∙ sym q)

pub hash_stage_lem : OneResult 3 hash-stage-kinds.ps hash-stage-kinds.r hash-stage-reads.Post
hash_stage_lem κs a s t x y p q = check_tells s t (p ∙ sym q)
