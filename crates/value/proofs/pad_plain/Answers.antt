-- `value::pad_plain` meets its contract: the value lies in the stream, so that its place is a number of 32 bits.
use Prim.Native.Nat.{◌≤◌}
use native.Mathlib.Omega.{arith}
use lib.ListN.{length, drop, length-drop}
use Rattle.bititer.proofs.Streams.{length_stream}
use Rattle.scope.specs.Numbers.{stream_of}
use Rattle.value.proofs.Plain.{plain_there}
use Rattle.value.proofs.pad_plain.Goals as goal

pub overflow_cast-p : goal.overflow_cast-p
overflow_cast-p c =
    let a = c.args in
    let bits = stream_of a.s.now in
    let some : a.width ≤ length (drop a.p bits) = plain_there a.width a.p (drop a.p bits) c.in_ok-end.end c.in_ok-end.ensures in
    let most = length_stream a.s.now in
    omega (arith, length-drop a.p bits)
