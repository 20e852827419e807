-- The cycle of calls: a child's answer as the child's run, and from it the answer of its parent.
use mathlib.Core.Path.{◌≡◌, refl, sym, ap, ◌∙◌, subst}
use mathlib.Core.List.{List}
use Prim.Native.Nat.{ℕ}
use Rattle.report.specs.Terms.{Term}
use Rattle.report.specs.Canonical.{children}
use Rattle.report.specs.Meaning.{done}
use Rattle.scope.specs.Nodes.{node_at}
use Rattle.scope.specs.Program.{Program, term_at}
use Rattle.common.specs.Bits.{AllBelow}
use Rattle.layout.specs.Mach.{Mach}
use Rattle.layout.specs.Rules.{backed}
use Rattle.layout.specs.Exec.{Outcome, Around, first_of, second_of, third_of, run_term, NotDone}
use Rattle.layout.proofs.Exec.{stop_stays, done_goes_on, left_stops, right_stops, both_done}
use Rattle.layout.specs.Safe.{Safe}
use Rattle.bit_machine.specs.Machine.{machine_of}
use Rattle.bit_machine.specs.Engine.{stop_of, out_of, OneOk, Planned}
use Rattle.bit_machine.specs.declared.Heights.{Heights}
use Rattle.bit_machine.specs.declared.Reason.{Reason}
use Rattle.bit_machine.specs.declared.Reason.TheVariants.{Failed, Pruned}
use Rattle.std.specs.Prelude.{Result, Ok, Err, IsErrAnd}
use Rattle.std.proofs.lemmas.Result.{err_from_is_err_and}
use Rattle.bit_machine.specs.declared.Stopped.{Stopped}
use Rattle.bit_machine.specs.declared.Plan.{Plan}
use Rattle.bit_machine.proofs.Nodes.{TwoOk}

-- a stop is no end that something follows
stopped : (stop : Stopped) (bits numbers : List ℕ) → NotDone (out_of (Err stop) bits numbers)
stopped stop bits numbers = go stop.why
  where
    go : (why : Reason) → NotDone (stop_of why (machine_of bits numbers stop.heights))
    go (Failed place) = tt
    go (Pruned place) = tt

-- an answer of the run of t on m', which is m
module _ (r : Result Heights Stopped) (bits numbers : List ℕ) (t : Term) {m m' : Mach} (e : out_of r bits numbers ≡ run_term t m') (em : m' ≡ m) where
  ran : out_of r bits numbers ≡ run_term t m
  ran = e ∙ ap (λ (z : Mach). run_term t z) em

  pub ran_done : (h : Heights) → r ≡ Ok h → run_term t m ≡ done (machine_of bits numbers h)
  ran_done h g = sym ran ∙ ap (λ (r : Result Heights Stopped). out_of r bits numbers) g

  ran_stopped : (stop : Stopped) → r ≡ Err stop → NotDone (run_term t m)
  ran_stopped stop g = subst (λ (o : Outcome). NotDone o) (sym (ap (λ (r : Result Heights Stopped). out_of r bits numbers) g) ∙ ran) (stopped stop bits numbers)

-- a plan by another name
pub planned_as : (nodes : List ℕ) (P : Program) (i : ℕ) (m m' : Mach) {r r' : Plan} → r ≡ r' → Planned r nodes P i m m' → Planned r' nodes P i m m'
planned_as nodes P i m m' e h = subst (λ (r : Plan). Planned r nodes P i m m') e h

-- the same machine is safe too
pub safe_as : (t : Term) {m m' : Mach} → m' ≡ m → Safe t m → Safe t m'
safe_as t e h = subst (λ (z : Mach). Safe t z) (sym e) h

-- a node with one child, by how the child ended
module _ {P : Program} {i : ℕ} {m m' : Mach} {x n : ℕ} (one : OneOk P i m m' x n) (r : Result Heights Stopped) (bits numbers : List ℕ)
    (e : out_of r bits numbers ≡ run_term (term_at P x) m') where
  pub one_ran : (h : Heights) → r ≡ Ok h → run_term (term_at P x) m' ≡ done (machine_of bits numbers h)
  one_ran h g = ran_done r bits numbers (term_at P x) e refl h g

  pub one_stops : (stop : Stopped) → r ≡ Err stop → out_of r bits numbers ≡ run_term (term_at P i) m
  one_stops stop g =
      e ∙ sym (one.runs ∙ stop_stays (run_term (term_at P x) m') (λ z. done (backed n z)) (ran_stopped r bits numbers (term_at P x) e refl stop g))

  pub one_ends : (h : Heights) → r ≡ Ok h → (numbers' : List ℕ) → machine_of bits numbers' h ≡ backed n (machine_of bits numbers h)
      → done (machine_of bits numbers' h) ≡ run_term (term_at P i) m
  one_ends h g numbers' b =
      ap done b ∙ sym (one.runs ∙ done_goes_on (run_term (term_at P x) m') (λ z. done (backed n z)) (machine_of bits numbers h) (one_ran h g))

-- a node with two children, by how they ended
module _ {P : Program} {below : (i : ℕ) → AllBelow i (children (node_at P.nodes i))} {i : ℕ} {m : Mach} {k : Around} {x y : ℕ}
    (two : TwoOk P below i m k x y) where
  pub left_ends : (r : Result Heights Stopped) (bits numbers : List ℕ) {m1 : Mach} → out_of r bits numbers ≡ run_term (term_at P x) m1 → m1 ≡ first_of k m
      → (stop : Stopped) → r ≡ Err stop → out_of r bits numbers ≡ run_term (term_at P i) m
  left_ends r bits numbers e em stop g =
      ran r bits numbers (term_at P x) e em
      ∙ sym (two.runs ∙ left_stops k (λ z. run_term (term_at P x) z) (λ z. run_term (term_at P y) z) m (ran_stopped r bits numbers (term_at P x) e em stop g))

  module _ (m2 : Mach) (d : run_term (term_at P x) (first_of k m) ≡ done m2) where
    pub right_ends : (r : Result Heights Stopped) (bits numbers : List ℕ) {m3 : Mach} → out_of r bits numbers ≡ run_term (term_at P y) m3 → m3 ≡ second_of k m2
        → (stop : Stopped) → r ≡ Err stop → out_of r bits numbers ≡ run_term (term_at P i) m
    right_ends r bits numbers e em stop g =
        ran r bits numbers (term_at P y) e em
        ∙ sym (two.runs ∙ right_stops k (λ z. run_term (term_at P x) z) (λ z. run_term (term_at P y) z) m m2 d
        (ran_stopped r bits numbers (term_at P y) e em stop g))

    pub both_end : (m4 : Mach) → run_term (term_at P y) (second_of k m2) ≡ done m4 → (m5 : Mach) → m5 ≡ third_of k m4 → done m5 ≡ run_term (term_at P i) m
    both_end m4 g m5 e =
        ap done e ∙ sym (two.runs ∙ both_done k (λ z. run_term (term_at P x) z) (λ z. run_term (term_at P y) z) m m2 m4 d g)

-- what `?` hands on of a run that stopped
pub handed_on : {r : Result Heights Stopped} (handed : Result Heights Stopped) {stop : Stopped} (bits numbers : List ℕ)
    → r ≡ Err stop → IsErrAnd handed (λ other. other ≡ stop) → out_of handed bits numbers ≡ out_of r bits numbers
handed_on handed bits numbers e said =
    let p = err_from_is_err_and handed said in
    ap (λ (r : Result Heights Stopped). out_of r bits numbers) (p.1 ∙ ap Err p.2 ∙ sym e)
