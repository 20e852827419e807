-- Whole bytes into a store: refused where the stream or the store is too short, and else each at its place.
use borrow.Author.Tests.{leb-true, leb-false}
use mathlib.Core.Path.{◌≡◌, ap, ap₂, sym, ◌∙◌}
use mathlib.Core.List.{List}
use Prim.Native.Nat.{ℕ, ◌+◌, ◌*◌}
use native.Mathlib.Numerals.{add-one}
use native.Mathlib.Omega.{arith}
use lib.ListN.{length, get_or, set, drop, length-set}
use lib.Seq.{paste, paste-suc}
use Rattle.report.specs.Bits.{bytes_of}
use Rattle.scope.specs.Numbers.{stream_of}
use Rattle.scope.specs.Reading.{got}
use Rattle.bititer.specs.Answers.{stored, placed}
use Rattle.bititer.proofs.Streams.{length_stream}
use Rattle.common.specs.Bits.{length_bytes}
use Rattle.bititer.proofs.Octets.{byte_here, pasted, bytes_ended, bytes_short, bytes_read}
use Rattle.bititer.proofs.bytes.Goals as goal

pub returns-then-not-has_room : goal.returns-then-not-has_room
returns-then-not-has_room c =
    let a = c.args in
    let s = stream_of a.s.now in
    let h = leb-false (a.p + 8 * a.n) c.stream_length.result
    (sym c.has_room.ensures ∙ c.if-not-has_room.true) in
    sym (bytes_ended s a.n a.p a.store.now a.at (omega (arith, c.stream_length.ensures)))

pub returns-then-not-has_room-2 : goal.returns-then-not-has_room-2
returns-then-not-has_room-2 c =
    let a = c.args in
    let s = stream_of a.s.now in
    let h = leb-true (a.p + 8 * a.n) c.stream_length.result
    (sym c.has_room.ensures
    ∙ c.if-not-has_room.false) in
    let k = leb-false (a.at + a.n) (length a.store.now) (sym c.has_room-2.ensures ∙ c.if-not-has_room-2.true) in
    sym (bytes_short s a.n a.p a.store.now a.at (omega (arith, c.stream_length.ensures)) k)

pub byte_from-b-requires : goal.byte_from-b-requires
byte_from-b-requires c =
    let a = c.args in
    let s = stream_of a.s.now in
    let l = c.loop-j in
    (omega arith, omega (arith, length_stream a.s.now))

pub loop-j-preserved : goal.loop-j-preserved
loop-j-preserved c =
    let a = c.args in
    let s = stream_of a.s.now in
    let l = c.loop-j in
    let w = bytes_of a.n (drop a.p s) in
    let d = length_bytes a.n (drop a.p s) in
    let b : c.byte_from-b.result ≡ get_or w l.j 0 =
    c.byte_from-b.ensures ∙ byte_here a.s.now a.p a.n l.j c.loop-j-test.true l.invariant.2 in (
      ap₂ (λ (x : List ℕ) (v : ℕ). set x (a.at + l.j) v) l.invariant.0 b
          ∙ paste-suc a.store.now a.at w l.j 0 (omega arith) (omega arith)
          ∙ ap (paste a.store.now a.at w) (sym (add-one l.j)),
      simp length-set l.invariant.1,
      l.invariant.2,
      l.invariant.3,
    )

pub returns : goal.returns
returns c =
    let a = c.args in
    let s = stream_of a.s.now in
    let l = c.loop-j in
    let w = bytes_of a.n (drop a.p s) in
    let j : l.j ≡ a.n = omega arith in
    let e : l.store ≡ placed a.store.now a.at w =
    l.invariant.0 ∙ ap (paste a.store.now a.at w) j ∙ pasted a.store.now w a.at a.n (length_bytes a.n (drop a.p s)) in
    ap (stored (got tt (a.p + 8 * a.n))) e ∙ sym (bytes_read s a.n a.p a.store.now a.at l.invariant.2 l.invariant.3)
