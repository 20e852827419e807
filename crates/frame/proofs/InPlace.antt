-- What a frame is in the machine's memory: its machine value, that its cursor and its start fit there, and the frame with another cursor,
-- which fits too.
use mathlib.Core.Path.{refl}
use mathlib.Core.List.{[], ◌∷◌}
use Prim.Native.Nat.{ℕ, ◌<◌, ◌^◌}
use mir.Val.{Val}
use denote.Laws.{Is}
use denote.Steps.{only}
use denote.Struct.Laws as LL
use Rattle.scope.specs.Machine.{cursor_at}
use Rattle.frame.specs.Cursor.{frame_of, code_of}
use Rattle.frame.specs.declared.Frame.{Frame}
use Rattle.frame.specs.contracts.Frame as T
use Rattle.frame.proofs.Frame.TheLaws as T'

abbrev pub machine_value : Frame → Val
machine_value h = only (LL.vals T.the_type T'.the_laws h)

-- the frame with its cursor at c
abbrev pub with_cursor : ℕ → Frame → Frame
with_cursor c h = code_of (cursor_at c (frame_of h))

module _ (h : Frame) (was : Is T.the_row h (LL.vals T.the_type T'.the_laws h)) where
  pub cursor_fits : h.cursor < 2 ^ 32
  cursor_fits = (LL.owed T.the_type T'.the_laws h (LL.vals T.the_type T'.the_laws h) was).0.1

  pub start_fits : h.start < 2 ^ 32
  start_fits = (LL.owed T.the_type T'.the_laws h (LL.vals T.the_type T'.the_laws h) was).1.0.1

  pub cursor_made : (c : ℕ) → c < 2 ^ 32 → Is T.the_row (with_cursor c h) (machine_value (with_cursor c h) ∷ [])
  cursor_made c fits =
      LL.owes T.the_type T'.the_laws (with_cursor c h) ((refl, fits), (LL.owed T.the_type T'.the_laws h (LL.vals T.the_type T'.the_laws h) was).1)
