-- A frame put into its record: among the records it stands at its place, and no other is changed.
use mathlib.Core.Path.{◌≡◌, ap, ◌∙◌}
use mathlib.Core.List.{List}
use Prim.Native.Nat.{ℕ, ◌+◌, ◌^◌, ◌<◌}
use native.Mathlib.Omega.{arith}
use lib.ListN.{get_or, set}
use Rattle.scope.specs.Machine.{Frame, forward}
use Rattle.layout.specs.Mach.{no_frame, records_of}
use Rattle.frame.specs.Cursor.{held}
use Rattle.frame.specs.Store.{with_records}
use Rattle.frame.proofs.Moves.{not_held}
use Rattle.frame.proofs.Records.{records_put}
use Rattle.bit_machine.specs.Machine.{advanced}

pub stored : {ns' : List ℕ} (ns : List ℕ) (k : ℕ) (f : Frame) {g : Frame} → ns' ≡ with_records (set (records_of ns) k f) ns → f ≡ g
    → records_of ns' ≡ set (records_of ns) k g
stored ns k f e h = ap records_of e ∙ records_put ns k f ∙ ap (set (records_of ns) k) h

-- a frame that was read, put back with its cursor n cells on
pub put_on : (ns : List ℕ) (k n : ℕ) {f g : Frame} → f ≡ get_or (records_of ns) k no_frame → f.cursor + n < 2 ^ 32 → g ≡ held (forward n f)
    → {ns' : List ℕ} → ns' ≡ with_records (set (records_of ns) k g) ns → records_of ns' ≡ advanced n k (records_of ns)
put_on ns k n {f} {g} is fits moved e = stored ns k g e (moved ∙ not_held f n (omega arith) ∙ ap (forward n) is)
