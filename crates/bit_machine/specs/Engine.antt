-- What the engine's answers say, with the cells and the frame records beside them; and what a node's own work promises.
use Rattle.std.specs.Prelude.{◌≡◌, Result, Ok, Err, List, ℕ, ◌+◌, ◌<◌, ◌≤◌}
use Rattle.report.specs.Bits.{Bit}
use Rattle.report.specs.Types.{width, word_ty}
use Rattle.report.specs.Meaning.{done, failed, pruned}
use Rattle.scope.specs.Program.{Program, term_at}
use Rattle.layout.specs.Mach.{Mach}
use Rattle.layout.specs.Rules.{pushed, moved, copied, bits_written}
use Rattle.layout.specs.Exec as Layout
use Rattle.layout.specs.Exec.{Outcome, returning, run_term, pairing, composing, disconnecting}
use Rattle.layout.specs.Safe.{Safe, ReturnOk}
use Rattle.bit_machine.specs.Machine.{machine_of}
use Rattle.lookup.specs.Lookup.{record_at}
use Rattle.lookup.specs.declared.Around.{Around}
use Rattle.lookup.specs.declared.Around.TheVariants.{Pairing, Composing, Disconnecting}
use Rattle.bit_machine.specs.declared.Reason.{Reason}
use Rattle.bit_machine.specs.declared.Reason.TheVariants.{Failed, Pruned}
use Rattle.bit_machine.specs.declared.Heights.{Heights}
use Rattle.bit_machine.specs.declared.Stopped.{Stopped}
use Rattle.bit_machine.specs.declared.Plan.{Plan}
use Rattle.bit_machine.specs.declared.Plan.TheVariants.{Rest, Stop, One, Two}

-- a stop with the machine that it leaves
abbrev pub stop_of : Reason → Mach → Outcome
stop_of (Failed place) m = failed place m
stop_of (Pruned place) m = pruned place m

-- an answer with the cells and the frame store's numbers
abbrev pub out_of : Result Heights Stopped → (bits numbers : List ℕ) → Outcome
out_of (Ok h) bits numbers = done (machine_of bits numbers h)
out_of (Err stop) bits numbers = stop_of stop.why (machine_of bits numbers stop.heights)

-- what is done around two children, with the hash of a disconnect's right child
abbrev pub around_of : Around → (hash : List Bit) → Layout.Around
around_of Pairing hash = pairing
around_of (Composing n) hash = composing n
around_of (Disconnecting a b c) hash = disconnecting hash a b c

-- before the left child of a disconnect
abbrev pub handed : (hash : List Bit) → (source target : ℕ) → Mach → Mach
handed hash source target m = pushed target (moved (copied source (bits_written hash (pushed (width (word_ty 8) + source) m))))

-- a node that is a comp, a pair or a disconnect: its kind is at most 3, and not 1
abbrev pub TwoKind : (nodes : List ℕ) → (i : ℕ) → Type 0
TwoKind nodes i = ((record_at nodes i).kind ≤ 3) × ((record_at nodes i).kind ≡ 1 → ⊥)

-- node i on m is child x on m', and then the read cursor n cells back
pub record OneOk (P : Program) (i : ℕ) (m m' : Mach) (x n : ℕ) : Type 0 where
  pub below : x < i
  pub child : ReturnOk (λ z. Safe (term_at P x) z) (λ z. run_term (term_at P x) z) n m'
  pub runs : run_term (term_at P i) m ≡ returning n (run_term (term_at P x) m')

-- node i of a program on m, whose own work left m': what is left of it
abbrev pub Planned : Plan → (nodes : List ℕ) → Program → (i : ℕ) → (m m' : Mach) → Type 0
Planned Rest nodes P i m m' = run_term (term_at P i) m ≡ done m'
Planned (Stop why) nodes P i m m' = run_term (term_at P i) m ≡ stop_of why m'
Planned (One x n) nodes P i m m' = OneOk P i m m' x n
Planned Two nodes P i m m' = (m' ≡ m) × TwoKind nodes i
