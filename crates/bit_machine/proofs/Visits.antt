-- The engine's own function at every node that a run enters: lent the tables and a state's layout, its condition holds, and what it
-- promises is the layout of how the node's run ends. Only this module knows the list of the function's arguments: what it is lent, what it
-- answers and what it promises are handed on by name.
use mathlib.Core.Path.{◌≡◌, ap, ap₂, ◌∙◌}
use mathlib.Core.List.{List}
use Prim.Native.Nat.{ℕ, ◌*◌, ◌≤◌}
use native.Mathlib.Omega.{arith}
use lib.ListN.{length}
use borrow.Fn.Kinds.{Dens, ended_of, res_t}
use contract.Lifetimes.{Lfts}
use denote.Triple.Clauses.{AtExit}
use Rattle.bit_machine.proofs.engine.node.Kinds as kinds
use Rattle.bit_machine.proofs.engine.node.Reads as reads
use Rattle.limits.specs.Limits.{cell_count, frame_count}
use Rattle.report.specs.Bits.{bits_of}
use Rattle.report.specs.Values.{HasTy, value_at}
use Rattle.report.specs.Meaning.{eval}
use Rattle.scope.specs.Check.{passed}
use Rattle.scope.specs.Numbers.{bytes_for}
use Rattle.scope.specs.Types.{type_records}
use Rattle.scope.specs.Arrows.{arrow_records}
use Rattle.scope.specs.Program.{Program, source_ty, target_ty, term_at, whole_source}
use Rattle.scope.specs.Bounds.{whole_cells, whole_frames}
use Rattle.scope.specs.Machine.{State, Step, exec}
use Rattle.scope.specs.Run.{Ready, check_ready, cells_of}
use Rattle.scope.specs.Stages.{tables_lent, hash_stage}
use Rattle.layout.specs.Mach.{Mach, records_of}
use Rattle.layout.proofs.Mach.{length-records_of}
use Rattle.layout.specs.Exec.{Outcome, run_term}
use Rattle.common.specs.Bits.{length_bits}
use Rattle.layout.specs.Safe.{Safe}
use Rattle.layout.specs.Layout.{layout}
use Rattle.layout.specs.Follow.{Fits}
use Rattle.layout.specs.Match.{laid_out}
use Rattle.theory.specs.Sound.{Sound}
use Rattle.theory.proofs.Accepted.{Checked, ready_sound, ready_input}
use Rattle.theory.proofs.LentTables.{lent_checked}
use Rattle.theory.specs.Entered.{Entered}
use Rattle.theory.specs.Entry.{cursor_of}
use Rattle.theory.proofs.Entry.{entry_fits}
use Rattle.theory.proofs.AtNodes.{AtNode, entered_at}
use Rattle.theory.specs.NodeEnds.{NodeEnds}
use Rattle.theory.proofs.NodeEnds.{node_means, node_goes}
use Rattle.theory.proofs.Theorems as Theorems
use Rattle.types.specs.Table.{type_widths, type_next}
use Rattle.ready.specs.Lent.{program_nodes, program_at, Shown}
use Rattle.ready.specs.Positions.{positions_of}
use Rattle.ready.proofs.Shown as Shows
use Rattle.bit_machine.specs.Machine.{machine_of, Within}
use Rattle.bit_machine.specs.Engine.{out_of}
use Rattle.bit_machine.specs.Tables.{program_in}
use Rattle.bit_machine.specs.declared.Heights.{Heights}

module _ (κs : Lfts 4) where
  -- what the function is lent, what it answers, and the stores as it leaves them
  abbrev pub Args : Type 0
  Args = Dens κs kinds.ps

  abbrev pub Result : Type 0
  Result = (res_t kinds.r κs).Denot

  abbrev pub Exit : Type 0
  Exit = AtExit (ended_of 4 kinds.ps kinds.r) κs

  -- what it asks for, and what it promises
  abbrev pub Pre : Args → Type 0
  Pre a = reads.Pre κs a

  abbrev pub Post : Args → Result → Exit → Type 0
  Post a r x = reads.Post κs a r x

  -- the tables that it is lent
  pub record Lends (a : Args) (types widths next nodes arrows program hashes given witness positions : List ℕ) : Type 0 where
    pub types_are : a.0.now.types.now ≡ types
    pub widths_are : a.0.now.widths.now ≡ widths
    pub next_are : a.0.now.next.now ≡ next
    pub nodes_are : a.0.now.nodes.now ≡ nodes
    pub arrows_are : a.0.now.arrows.now ≡ arrows
    pub program_is : a.0.now.program.now ≡ program
    pub hashes_are : a.0.now.hashes.now ≡ hashes
    pub given_are : a.0.now.given.now ≡ given
    pub witness_is : a.0.now.witness.now ≡ witness
    pub positions_are : a.0.now.positions.now ≡ positions

  -- the machine in the stores that it is lent, with the heights; and the node
  abbrev pub machine_in : Args → Mach
  machine_in a =
      machine_of (bits_of a.1.0.now) a.1.1.0.now
      a.1.1.1.1.0

  abbrev pub node_in : Args → ℕ
  node_in a = a.1.1.1.0

  -- the tables of a run, beside them the widths and the entries of the types and the positions of the witness values
  abbrev pub LendsRun : Args → (types nodes arrows program hashes given witness : List ℕ) → (witness_bits : ℕ) → Type 0
  LendsRun a types nodes arrows program hashes given witness witness_bits =
      Lends a types (type_widths types) (type_next types) nodes arrows program hashes given witness
      (positions_of (type_records types) (program_nodes nodes program hashes) (arrow_records arrows) witness witness_bits)

  -- how it ended, with the machine in the stores as it leaves them
  abbrev pub outcome : Result → Exit → Outcome
  outcome r x = out_of r (bits_of x.1.0.now) x.1.1.0.now

-- the same tables, shown and read as a program
tables_shown : {t w n m r p h g v q t' w' n' m' r' p' h' g' v' q' : List ℕ} → t ≡ t' → w ≡ w' → n ≡ n' → m ≡ m' → r ≡ r' → p ≡ p' → h ≡ h'
    → g ≡ g' → v ≡ v' → q ≡ q'
    → Shown t' w' n' m' r' p' h' g' v' q' → Shown t w n m r p h g v q
tables_shown t w n m r p h g v q shown = rw (t, w, n, m, r, p, h, g, v, q) shown

tables_program : {t m r p h g v q t' m' r' p' h' g' v' q' : List ℕ} → t ≡ t' → m ≡ m' → r ≡ r' → p ≡ p' → h ≡ h' → g ≡ g' → v ≡ v' → q ≡ q'
    → program_at t m r p h g v q ≡ program_at t' m' r' p' h' g' v' q'
tables_program t m r p h g v q = rw (t, m, r, p, h, g, v, q)

-- stores that hold the layout of a state are within the limits of a run
stores_within : (bytes numbers : List ℕ) (heights : Heights) (lent_cells size most : ℕ) (s : State) → Fits size most s
    → lent_cells ≤ cell_count → most ≤ frame_count
    → machine_of (bits_of bytes) numbers heights ≡ layout lent_cells most s → Within bytes numbers
stores_within bytes numbers heights lent_cells size most s fits c f e =
    let l = Theorems.layout_size lent_cells size most s fits in
    let b : length (bits_of bytes) ≡ lent_cells = ap (λ (m : Mach). length m.bits) e ∙ l.0 in
    let n : length (records_of numbers) ≡ most = ap (λ (m : Mach). length m.records) e ∙ l.1 in
    record { cells = omega (arith, length_bits bytes); frames = omega (arith, length-records_of numbers) }

-- a run over lent tables that passed their checks
module _ (types nodes arrows program hashes given witness : List ℕ) (witness_bits : ℕ) (input : List ℕ) (input_bits : ℕ)
    (tables : hash_stage types nodes arrows program hashes given ≡ passed tt) (cells frames answer : List ℕ) (R : Ready)
    (ready : check_ready (tables_lent types nodes arrows program hashes given witness witness_bits input input_bits) cells frames answer ≡ passed R) where
  abbrev P : Program
  P = R.program

  checked : Checked (tables_lent types nodes arrows program hashes given witness witness_bits input input_bits)
  checked = lent_checked types nodes arrows program hashes given witness witness_bits input input_bits tables

  sound : Sound P
  sound = ready_sound (tables_lent types nodes arrows program hashes given witness witness_bits input input_bits) checked cells frames answer R ready

  typed : HasTy R.input (whole_source P)
  typed = ready_input (tables_lent types nodes arrows program hashes given witness witness_bits input input_bits) checked cells frames answer R ready

  -- the cells that are lent to the engine: those of the bytes that hold the bound's
  abbrev pub lent_cells : ℕ
  lent_cells = 8 * bytes_for (whole_cells P)

  -- the run enters node i in state s
  module _ (i : ℕ) (s : State) (entered : Entered P R.input (cells_of cells) i s) where
    here : AtNode P i s
    here = entered_at P sound R.input typed (cells_of cells) entered

    -- the node's run at that state
    abbrev step : Step
    step = exec (whole_cells P) (whole_frames P) (term_at P i) s

    -- how it ends, by the meaning of the value that is read
    abbrev pub Ends : Step → Type 0
    Ends e = NodeEnds (target_ty P i) s (eval (term_at P i) (value_at (source_ty P i) s.cells (cursor_of s.reads))) e

    means : Ends step
    means = node_means P sound here

    fits : Fits (whole_cells P) (whole_frames P) s
    fits = entry_fits here.entry

    safe : Safe (term_at P i) (layout lent_cells (whole_frames P) s)
    safe = Theorems.term_safe lent_cells (whole_cells P) (whole_frames P) (omega arith) (term_at P i) s fits (node_goes means)

    same : run_term (term_at P i) (layout lent_cells (whole_frames P) s) ≡ laid_out lent_cells (whole_frames P) step
    same = Theorems.term_same lent_cells (whole_cells P) (whole_frames P) (omega arith) (term_at P i) s fits (node_goes means)

    -- the engine's function is lent the tables, node i and that state's layout
    module _ (κs : Lfts 4) (a : Args κs) (lends : LendsRun κs a types nodes arrows program hashes given witness witness_bits)
        (node : node_in κs a ≡ i) (holds : machine_in κs a ≡ layout lent_cells (whole_frames P) s) where
      -- the program of its tables is the run's, so its term is the node's
      term_is : term_at (program_in a.0.now) (node_in κs a) ≡ term_at P i
      term_is =
          ap₂ term_at
          (tables_program lends.types_are lends.nodes_are lends.arrows_are lends.program_is lends.hashes_are lends.given_are
          lends.witness_is lends.positions_are
          ∙ Shows.program_is_lem types nodes arrows program hashes given witness witness_bits input input_bits tables cells frames answer R ready)
          node

      -- WHAT THE FUNCTION ASKS FOR HOLDS
      pub visit_asks : Pre κs a
      visit_asks = (
        tables_shown lends.types_are lends.widths_are lends.next_are lends.nodes_are lends.arrows_are lends.program_is
            lends.hashes_are lends.given_are lends.witness_is lends.positions_are
            (Shows.shown types nodes arrows program hashes given witness witness_bits input input_bits tables cells frames answer R ready),
        (
          (let w = Shows.within_limits types nodes arrows program hashes given witness witness_bits input input_bits tables cells frames answer R ready in
              stores_within _ _ _ lent_cells (whole_cells P) (whole_frames P) s fits (omega (arith, w.0)) w.1 holds),
          rw (term_is, holds) safe,
        ),
      )

      -- WHAT IT PROMISES IS THE LAYOUT OF HOW THE NODE'S RUN ENDS, by the meaning
      pub visit_ends : (r : Result κs) (x : Exit κs) → Post κs a r x → (e : Step) × (outcome κs r x ≡ laid_out lent_cells (whole_frames P) e) × Ends e
      visit_ends r x post = (step, post ∙ ap₂ run_term term_is holds ∙ same, means)
