-- A frame of the code as a frame of the requirements and back, and a cursor that is held at the largest number.
-- A cursor that is moved back past 0 needs no word: the requirements' difference is then 0.
use Rattle.std.specs.Prelude.{ℕ, min}
use Rattle.scope.specs.Machine as Machine
use Rattle.scope.specs.Machine.{frame, cursor_at}
use Rattle.frame.specs.declared.Frame.{Frame}

abbrev pub frame_of : Frame → Machine.Frame
frame_of f = frame f.cursor f.start f.len

abbrev pub code_of : Machine.Frame → Frame
code_of f = record { cursor = f.cursor; start = f.start; len = f.len }

-- the largest number of 32 bits
abbrev pub largest : ℕ
largest = 4294967295

-- the frame with its cursor held at the largest number
abbrev pub held : Machine.Frame → Machine.Frame
held f = cursor_at (min f.cursor largest) f
