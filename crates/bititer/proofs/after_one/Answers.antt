-- The number that is 1 followed by some bits of a window: a power of two and a part of the window's number, which is below it.
use mathlib.Core.Path.{◌≡◌, sym}
use Prim.Native.Nat.{◌+◌, ◌-◌}
use native.Mathlib.Omega.{arith}
use Rattle.bititer.proofs.Windows.{after_one_is, after_one_past, one_shifted}
use Rattle.bititer.proofs.after_one.Goals as goal

pub returns-then-count-gt-WINDOW_BITS : goal.returns-then-count-gt-WINDOW_BITS
returns-then-count-gt-WINDOW_BITS c = let a = c.args in sym (after_one_past a.w a.at a.count (omega arith))

pub returns : goal.returns
returns c =
    let a = c.args in
    let e = one_shifted a.count (omega arith) in
    let f : 25 - a.count - a.at ≡ 25 - (a.at + a.count) = omega arith in
    rw (e, f) (sym (after_one_is a.w a.at a.count (omega arith)))
