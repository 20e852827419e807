-- So many bytes of the buffer are read.
use Rattle.std.proofs.Common.{length, ◌-◌, ◌≤◌}
use Rattle.drevaloci.proofs.read_input.Given as goal

abbrev pub invariant-loop-count : goal.invariant-loop-count
invariant-loop-count g l = l.count ≤ length l.buf

-- Each turn reads more.
abbrev pub decreases-loop-count : goal.decreases-loop-count
decreases-loop-count g l = length l.buf - l.count
