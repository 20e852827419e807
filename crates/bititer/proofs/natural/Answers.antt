-- A natural with its bound: the one that its window begins with, or else the one that is read length by length.
use mathlib.Core.Path.{sym, ap, ◌∙◌}
use Prim.Native.Nat.{◌+◌}
use native.Mathlib.Omega.{arith}
use lib.ListN.{drop, length-drop}
use lib.Seq.{drop-drop}
use Rattle.scope.specs.Numbers.{stream_of}
use Rattle.scope.specs.Naturals.{natural}
use Rattle.bititer.proofs.Naturals.{up_to_natural}
use Rattle.bititer.proofs.Windows.{window_read}
use Rattle.bititer.proofs.natural.Goals as goal

pub returns : goal.returns
returns c =
    let a = c.args in
    let s = stream_of a.s.now in
    let begun = c.in-Some-natural_in in
    let window = window_read a.s.now a.p c.in-Some.w (sym c.in-Some.ensures) in
    let m = begun.ensures (drop a.p s) window in
    c.within.ensures a.p
    ∙ sym (up_to_natural s a.bound a.p begun.n (a.p + begun.bits)
    (m.0 ∙ ap (natural begun.n) (drop-drop begun.bits a.p s)) (omega arith)
    (omega (arith, m.1, window.1, length-drop a.p s)))
