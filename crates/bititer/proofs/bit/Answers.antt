-- The bit at a position: past the stream it has ended, and within it the bit is computed from its byte.
use mathlib.Core.Path.{sym}
use Prim.Native.Nat.{◌<◌}
use native.Mathlib.Omega.{arith}
use lib.ListN.{length}
use Rattle.scope.specs.Numbers.{stream_of}
use Rattle.bititer.proofs.Streams.{stream_inside, code_past, bit_here}
use Rattle.bititer.proofs.bit.Goals as goal

pub returns-then-stream_length-p : goal.returns-then-stream_length-p
returns-then-stream_length-p c =
    let s = c.args.s.now in
    sym (code_past (stream_of s) 1 c.args.p (omega (arith, c.stream_length.ensures)))

pub bounds-s-i : goal.bounds-s-i
bounds-s-i c =
    let s = c.args.s.now in
    let p = c.args.p in
    let h : p < length (stream_of s) = omega (arith, c.stream_length.ensures) in
    stream_inside s p h

pub returns : goal.returns
returns c =
    let s = c.args.s.now in
    let p = c.args.p in
    let h : p < length (stream_of s) = omega (arith, c.stream_length.ensures) in
    sym (bit_here s p h)
