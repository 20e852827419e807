-- The closing, by what is left of the stream: nothing, a whole byte, or the rest of the last byte.
use mathlib.Core.Path.{sym}
use Prim.Native.Nat.{◌/◌}
use native.Mathlib.Omega.{arith}
use Rattle.scope.specs.Numbers.{stream_of}
use Rattle.bititer.proofs.Streams.{stream_inside}
use Rattle.bititer.proofs.Closing.{closes_past, closes_long, closes_end, closes_rest}
use Rattle.bititer.proofs.closes.Goals.{then-all-p-via-then-all-p, then-all-p-via-else-all-p+then-all-p-ge8}
use Rattle.bititer.proofs.closes.Goals as goal

pub returns-then-all-p : goal.returns-then-all-p
returns-then-all-p c =
    let s = stream_of c.args.s.now in
    let p = c.args.p in
    elim c.then-all-p.branch [
      | then-all-p-via-then-all-p w ↦ sym (closes_past s p (omega (arith, c.stream_length-all.ensures)))
      | then-all-p-via-else-all-p+then-all-p-ge8 w ↦ sym (closes_long s p (omega (arith, c.stream_length-all.ensures)) (omega (arith, c.stream_length-all.ensures)))
    ]

pub returns-then-all-p-2 : goal.returns-then-all-p-2
returns-then-all-p-2 c =
    let a = c.args in
    sym (closes_end (stream_of a.s.now) a.p (omega (arith, c.stream_length-all.ensures)))

pub bounds-s-i : goal.bounds-s-i
bounds-s-i c =
    let a = c.args in
    stream_inside a.s.now a.p (omega (arith, c.stream_length-all.ensures))

pub returns : goal.returns
returns c =
    let a = c.args in
    sym (closes_rest a.s.now a.p (omega (arith, c.stream_length-all.ensures))
    (omega (arith, c.stream_length-all.ensures)) (omega (arith, c.type_inv.s (a.p / 8))))
