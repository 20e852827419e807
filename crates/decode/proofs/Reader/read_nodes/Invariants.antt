-- The invariant of `decode::Reader::read_nodes`: what is wanted is what the nodes that are left come to after what the stores hold.
use mathlib.Core.Path.{◌≡◌}
use mathlib.Core.List.{[]}
use Prim.Native.Nat.{◌*◌, ◌-◌, ◌≤◌}
use lib.ListN.{length}
use Rattle.limits.specs.Limits.{fail_bytes}
use Rattle.scope.specs.Reading.{nodes_from}
use Rattle.scope.specs.Numbers.{stream_of}
use Rattle.decode.specs.Stores.{more}
use Rattle.decode.proofs.Reader.read_nodes.Given as goal

abbrev pub invariant-loop : goal.invariant-loop
invariant-loop l =
    (nodes_from (stream_of l.self.program.now) (length l.initial.hashes) l.count 0 [] [] l.first ≡ more (stream_of l.self.program.now) (length l.initial.hashes) (l.count - l.done.nodes) l.nodes l.hashes l.done)
    × (l.done.nodes ≡ l.counter) × (l.done.hashes ≤ length l.hashes) × (l.done.hashes ≤ fail_bytes * l.done.nodes) × (length l.nodes ≡ length l.initial.nodes)
    × (length l.hashes ≡ length l.initial.hashes)
