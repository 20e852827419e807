-- `types::check_types` meets its contract. The loop goes up: what is found from the first record on is what is found from record i on,
-- and both arrays hold the numbers of the records before i.
use mathlib.Core.Path.{◌≡◌, ap, ap₂, sym, ◌∙◌}
use mathlib.Core.Logic.{⊎_elim}
use mathlib.Core.List.{List}
use Prim.Native.Nat.{ℕ, ◌/◌}
use native.Mathlib.Omega.{arith}
use lib.ListN.{length, set, length-set}
use Rattle.limits.specs.Limits.{type_count, type_bytes}
use Rattle.scope.specs.Types.{type_records, type_at, type_rule}
use Rattle.common.specs.Checks.{counted_none, counted_over}
use Rattle.common.specs.Passes.{pass_more}
use Rattle.types.specs.Records.{record_judged, record_next, next_at}
use Rattle.types.specs.Table.{array_of}
use Rattle.types.proofs.Check.{array_more, width_for, good_record, next_record, table_uncounted}
use Rattle.types.proofs.Records.{length_records}
use Rattle.types.proofs.check_types.Goals as goal

pub returns-then-count-eq0 : goal.returns-then-count-eq0
unfolding array_of
returns-then-count-eq0 c =
    let b = c.args.types.now in
    let s : length (type_records b) ≡ length b / type_bytes = length_records b in
    table_uncounted b (⊎_elim (λ w. counted_none (length (type_records b)) type_count (omega arith))
    (λ w. counted_over (length (type_records b)) type_count (omega arith)) c.then-count-eq0.either)

pub loop-i-preserved : goal.loop-i-preserved
loop-i-preserved c =
    let l = c.loop-i in
    let b = c.args.types.now in
    let T = type_records b in
    let n = length b / type_bytes in
    let s : length T ≡ n = length_records b in
    let r = good_record T l.i (omega arith) c.in-Some.width
    (sym c.in-Some.is ∙ c.judge.ensures ∙ ap (λ (w : List ℕ). record_judged T w l.i) l.invariant.1) in
    let x : c.next_record.result ≡ next_at T l.i =
    c.next_record.ensures
    ∙ ap₂ (λ (w y : List ℕ). record_next (type_at T l.i) w y l.i) l.invariant.1 l.invariant.2
    ∙ next_record T l.i (omega arith) r.0 in (
      pass_more (type_rule T) n l.i (omega arith) r.1 l.invariant.0,
      ap (λ (w : List ℕ). set w l.i c.in-Some.width) l.invariant.1 ∙ array_more (width_for T) l.i c.in-Some.width (omega arith) r.2,
      ap (λ (w : List ℕ). set w l.i c.next_record.result) l.invariant.2 ∙ array_more (next_at T) l.i c.next_record.result (omega arith) x,
      l.invariant.3,
      length-set l.widths l.i c.in-Some.width ∙ l.invariant.4,
      length-set l.next l.i c.next_record.result ∙ l.invariant.5,
    )
