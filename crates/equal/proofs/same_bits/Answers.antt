-- `equal::same_bits` meets its contract: whether the bits that are left are the same decides.
use mathlib.Core.Path.{sym, ◌∙◌}
use Prim.Native.Nat.{◌+◌, ◌-◌}
use native.Mathlib.Omega.{arith}
use Rattle.equal.proofs.Digits.{same_starts, same_turn, same_by_eight, unlike_by_eight, same_by_one, unlike_by_one, same_ends}
use Rattle.equal.proofs.same_bits.Goals as goal

pub loop-k-init : goal.loop-k-init
loop-k-init c =
    let a = c.args in
    (same_starts a.s.now a.p a.q a.n, omega arith, c.requires.0, c.requires.1)

pub returns-then-x-y : goal.returns-then-x-y
returns-then-x-y c =
    let l = c.loop-k in
    sym (l.invariant.0 ∙ unlike_by_eight c.args.s.now
    (c.args.p + l.k)
    (c.args.q + l.k)
    (c.args.n - l.k) c.read_eight-x.result
    c.read_eight-y.result
    c.read_eight-x.ensures c.read_eight-y.ensures
    c.if-n-k-ge8.true c.if-x-y.true)

pub loop-k-preserved-then-n-k-ge8 : goal.loop-k-preserved-then-n-k-ge8
loop-k-preserved-then-n-k-ge8 c =
    let l = c.loop-k in (
      l.invariant.0
          ∙ same_by_eight c.args.s.now
          (c.args.p + l.k)
          (c.args.q + l.k)
          (c.args.n - l.k) c.read_eight-x.result
          c.read_eight-y.result
          c.read_eight-x.ensures c.read_eight-y.ensures
          c.if-n-k-ge8.true c.if-x-y.false
          ∙ same_turn c.args.s.now
          c.args.p
          c.args.q
          c.args.n l.k 8,
      omega (arith, c.if-n-k-ge8.true, l.invariant.1),
      l.invariant.2,
      l.invariant.3,
    )

pub returns-then-x-y-2 : goal.returns-then-x-y-2
returns-then-x-y-2 c =
    let l = c.loop-k in
    sym (l.invariant.0 ∙ unlike_by_one c.args.s.now
    (c.args.p + l.k)
    (c.args.q + l.k)
    (c.args.n - l.k) c.read_eight-x.result
    c.read_eight-y.result
    c.read_eight-x.ensures c.read_eight-y.ensures
    (omega (arith, c.loop-k-test.true)) (omega arith) (omega arith) c.if-x-y-2.true)

pub loop-k-preserved : goal.loop-k-preserved
loop-k-preserved c =
    let l = c.loop-k in (
      l.invariant.0
          ∙ same_by_one c.args.s.now
          (c.args.p + l.k)
          (c.args.q + l.k)
          (c.args.n - l.k) c.read_eight-x.result
          c.read_eight-y.result
          c.read_eight-x.ensures c.read_eight-y.ensures
          (omega (arith, c.loop-k-test.true)) (omega arith) (omega arith) c.if-x-y-2.false
          ∙ same_turn c.args.s.now
          c.args.p
          c.args.q
          c.args.n l.k 1,
      omega (arith, c.loop-k-test.true),
      l.invariant.2,
      l.invariant.3,
    )

pub returns : goal.returns
returns c =
    let l = c.loop-k in
    sym (l.invariant.0 ∙ same_ends c.args.s.now (c.args.p + l.k)
    (c.args.q + l.k) (c.args.n - l.k)
    (omega (arith, c.loop-k-test.false)))
