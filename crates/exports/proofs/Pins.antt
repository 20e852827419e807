-- What each call promises has one outcome: over the call's own promise, `Post`, two numbers, what is told beside them and the stores that
-- are left are the same.
use mathlib.Core.Path.{sym, ◌∙◌}
use Rattle.promise.specs.Outcomes.{OneOutcome, ◌&◌}
use Rattle.exports.proofs.drevaloci_arrows.Kinds as arrows-kinds
use Rattle.exports.proofs.drevaloci_arrows.Reads as arrows-reads
use Rattle.exports.proofs.drevaloci_bounds.Kinds as bounds-kinds
use Rattle.exports.proofs.drevaloci_bounds.Reads as bounds-reads
use Rattle.exports.proofs.drevaloci_decode.Kinds as decode-kinds
use Rattle.exports.proofs.drevaloci_decode.Reads as decode-reads
use Rattle.exports.proofs.drevaloci_hashes.Kinds as hashes-kinds
use Rattle.exports.proofs.drevaloci_hashes.Reads as hashes-reads
use Rattle.exports.proofs.drevaloci_natural.Kinds as natural-kinds
use Rattle.exports.proofs.drevaloci_natural.Reads as natural-reads
use Rattle.exports.proofs.drevaloci_run.Kinds as run-kinds
use Rattle.exports.proofs.drevaloci_run.Reads as run-reads
use Rattle.exports.proofs.drevaloci_run_tables.Kinds as run-tables-kinds
use Rattle.exports.proofs.drevaloci_run_tables.Reads as run-tables-reads
use Rattle.exports.proofs.drevaloci_walk.Kinds as walk-kinds
use Rattle.exports.proofs.drevaloci_walk.Reads as walk-reads

pub drevaloci_run : OneOutcome 7 run-kinds.ps run-kinds.r run-reads.Post
drevaloci_run κs a s t v w p q =
    let e =
    p
    ∙ sym q in (λ i. (e i).code, λ i. tt & (e i).nodes & (e i).hashes & (e i).cells & (e i).frames & (e i).answer & (e i).place & tt)

pub drevaloci_decode : OneOutcome 5 decode-kinds.ps decode-kinds.r decode-reads.Post
drevaloci_decode κs a s t v w p q = let e = p ∙ sym q in (λ i. (e i).code, λ i. tt & (e i).nodes & (e i).hashes & (e i).place & (e i).bytes & tt)

pub drevaloci_walk : OneOutcome 4 walk-kinds.ps walk-kinds.r walk-reads.Post
drevaloci_walk κs a s t v w p q = let e = p ∙ sym q in (λ i. (e i).code, λ i. tt & tt & tt & (e i).place & tt)

pub drevaloci_arrows : OneOutcome 6 arrows-kinds.ps arrows-kinds.r arrows-reads.Post
drevaloci_arrows κs a s t v w p q = let e = p ∙ sym q in (λ i. (e i).code, λ i. tt & tt & tt & tt & tt & (e i).place & tt)

pub drevaloci_hashes : OneOutcome 7 hashes-kinds.ps hashes-kinds.r hashes-reads.Post
drevaloci_hashes κs a s t v w p q = let e = p ∙ sym q in (λ i. (e i).code, λ i. tt & tt & tt & tt & tt & tt & (e i).place & tt)

pub drevaloci_bounds : OneOutcome 8 bounds-kinds.ps bounds-kinds.r bounds-reads.Post
drevaloci_bounds κs a s t v w p q = let e = p ∙ sym q in (λ i. (e i).code, λ i. tt & tt & tt & tt & tt & (e i).cells & (e i).frames & (e i).cost & tt)

pub drevaloci_run_tables : OneOutcome 5 run-tables-kinds.ps run-tables-kinds.r run-tables-reads.Post
drevaloci_run_tables κs a s t v w p q =
    let e =
    p
    ∙ sym q in (
      λ i. (e i).code,
      λ i. tt & tt & tt & tt & tt & tt & tt & tt & tt & tt & (e i).cells & (e i).frames & (e i).answer & (e i).place & tt,
    )

pub drevaloci_natural : OneOutcome 3 natural-kinds.ps natural-kinds.r natural-reads.Post
drevaloci_natural κs a s t v w p q = let e = p ∙ sym q in (λ i. (e i).code, λ i. tt & tt & tt & (e i).value & (e i).next & tt)
