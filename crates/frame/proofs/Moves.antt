-- The frame with another cursor is what each move of the requirements makes of it; where nothing is held, forward is theirs too.
use mathlib.Core.Path.{◌≡◌, refl, ap}
use Prim.Native.Nat.{ℕ, ◌+◌, ◌-◌, ◌≤◌, min}
use native.Mathlib.Omega.{arith}
use Rattle.scope.specs.Machine.{cursor_at, forward, backward, reset}
use Rattle.scope.specs.Machine as Machine
use Rattle.frame.specs.Cursor.{frame_of, largest, held}
use Rattle.frame.specs.declared.Frame.{Frame}

module _ (f : Frame) (n c : ℕ) where
  pub moved_on : c ≡ min (f.cursor + n) largest → cursor_at c (frame_of f) ≡ held (forward n (frame_of f))
  unfolding forward
  moved_on e = ap (λ (x : ℕ). cursor_at x (frame_of f)) e

  pub moved_back : c ≡ f.cursor - n → cursor_at c (frame_of f) ≡ backward n (frame_of f)
  unfolding backward
  moved_back e = ap (λ (x : ℕ). cursor_at x (frame_of f)) e

pub moved_to_start : (f : Frame) → cursor_at f.start (frame_of f) ≡ reset (frame_of f)
unfolding reset
moved_to_start f = refl

pub not_held : (f : Machine.Frame) (n : ℕ) → f.cursor + n ≤ largest → held (forward n f) ≡ forward n f
unfolding forward
not_held f n h = ap (λ (x : ℕ). cursor_at x f) (let e : min (f.cursor + n) largest ≡ f.cursor + n = omega arith in e)
