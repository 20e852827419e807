-- `equal::met` meets its contract: the search along the bucket.
use mathlib.Core.Path.{sym, ◌∙◌}
use native.Mathlib.Omega.{arith}
use Rattle.equal.proofs.Chains.{search_starts, search_finds, search_goes_on, search_ends}
use Rattle.equal.proofs.met.Goals as goal

pub loop-m-init : goal.loop-m-init
loop-m-init c = rw c.from-m.ensures (search_starts _ _ _ _ _ _ c.requires.2)

pub returns-then-equal : goal.returns-then-equal
returns-then-equal c = search_finds _ _ _ _ _ _ c.loop-m.invariant c.loop-m-test.true (sym c.equal.ensures ∙ c.if-equal.true)

pub loop-m-smaller : goal.loop-m-smaller
loop-m-smaller c =
    rw c.from-m-in-loop-m.ensures
    (search_goes_on _ _ _ _ _ _ _ _ c.loop-m.invariant c.loop-m-test.true c.requires.2.1 c.requires.1 (sym c.equal.ensures ∙ c.if-equal.false)).0

pub loop-m-preserved : goal.loop-m-preserved
loop-m-preserved c =
    rw c.from-m-in-loop-m.ensures
    (search_goes_on _ _ _ _ _ _ _ _ c.loop-m.invariant c.loop-m-test.true c.requires.2.1 c.requires.1 (sym c.equal.ensures ∙ c.if-equal.false)).1

pub returns : goal.returns
returns c = search_ends _ _ _ _ _ _ c.loop-m.invariant (omega arith)
