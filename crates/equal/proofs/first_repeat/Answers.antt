-- `equal::first_repeat` meets its contract: no node so far repeats an earlier one, and both arrays lead through the buckets.
use mathlib.Core.Path.{refl, sym, ap, ◌∙◌}
use mathlib.Core.List.{List}
use Prim.Native.Nat.{ℕ}
use native.Mathlib.Omega.{arith}
use lib.ListN.{length, length-set, length-replicate, get_or-replicate}
use Rattle.limits.specs.Limits.{node_count}
use Rattle.scope.specs.Numbers.{zeros}
use Rattle.common.specs.Passes.{pass_start, pass_more, first_failed, none_failed}
use Rattle.equal.specs.Keys.{fresh}
use Rattle.equal.specs.Buckets.{buckets}
use Rattle.equal.proofs.Chains.{repeat_found, none_repeats, unbucketed, latest_empty, chained_empty, latest_passed, chained_passed, latest_entered, chained_entered}
use Rattle.equal.proofs.KindKeys.{bucket_within}
use Rattle.equal.proofs.first_repeat.Goals as goal
use Rattle.equal.proofs.first_repeat.Goals.{in-Some+else-met, in_default}

pub loop-i-init : goal.loop-i-init
loop-i-init c =
    let a = c.args in (
      pass_start (fresh a.nodes.now a.arrows.now a.program.now a.hashes.now) _,
      latest_empty a.nodes.now a.arrows.now a.program.now a.hashes.now (zeros buckets) (λ b l. get_or-replicate {A = ℕ} buckets b 0 0 l),
      chained_empty a.nodes.now a.arrows.now a.program.now a.hashes.now (zeros node_count),
      length-replicate {A = ℕ} buckets 0,
      length-replicate {A = ℕ} node_count 0,
    )

pub met-requires : goal.met-requires
met-requires c =
    let l = c.loop-i in
    (omega (arith, c.judged-i-end.ensures), l.invariant.2, (c.in-Some.b, sym c.in-Some.ensures, l.invariant.1 c.in-Some.b (bucket_within _ _ _ _ _ _ c.in-Some.ensures)))

pub returns-then-met : goal.returns-then-met
returns-then-met c =
    repeat_found _ _ _ _ _ c.loop-i.i refl (omega (arith, c.judged-i-end.ensures))
    (first_failed _ _ c.loop-i.i (omega (arith, c.judged-i-end.ensures)) (sym c.if-met.ensures) c.loop-i.invariant.0)

pub loop-i-preserved : goal.loop-i-preserved
loop-i-preserved c =
    let a = c.args in
    let l = c.loop-i in
    elim c.match-bucket.branch [
      | in-Some+else-met w ↦
          let b = w.in-Some.b in
          let own = sym w.in-Some.ensures in
          let within = bucket_within a.nodes.now a.arrows.now a.program.now a.hashes.now l.i b w.in-Some.ensures in (
            pass_more _ _ l.i (omega (arith, c.judged-i-end.ensures)) (sym w.if-met.ensures) l.invariant.0,
            rw w.latest-is (latest_entered _ _ _ _ l.i l.latest l.before l.invariant.1 l.invariant.2 b own (omega (arith, l.invariant.3, within))),
            rw w.before-is (chained_entered _ _ _ _ l.i l.latest l.before l.invariant.1 l.invariant.2 b own
                (omega (arith, c.judged-i-end.ensures, l.invariant.4)) within),
            ap (λ (xs : List ℕ). length xs) w.latest-is ∙ length-set l.latest b _ ∙ l.invariant.3,
            ap (λ (xs : List ℕ). length xs) w.before-is ∙ length-set l.before l.i _ ∙ l.invariant.4,
          )
      | in_default w ↦
          let none = sym w.in_default.ensures in (
            pass_more _ _ l.i (omega (arith, c.judged-i-end.ensures)) (unbucketed _ _ _ _ l.i none) l.invariant.0,
            rw w.latest-is (latest_passed _ _ _ _ l.i l.latest l.before l.invariant.1 l.invariant.2 none),
            rw w.before-is (chained_passed _ _ _ _ l.i l.latest l.before l.invariant.1 l.invariant.2 none),
            ap (λ (xs : List ℕ). length xs) w.latest-is ∙ l.invariant.3,
            ap (λ (xs : List ℕ). length xs) w.before-is ∙ l.invariant.4,
          )
    ]

pub returns : goal.returns
returns c = none_repeats _ _ _ _ _ _ refl (omega arith) (none_failed _ _ c.loop-i.i (omega (arith, c.judged-i-end.ensures)) c.loop-i.invariant.0)
