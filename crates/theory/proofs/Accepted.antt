-- Tables that pass the checks 2 to 13, with values that pass 14 to 17, make a sound program and a value of its source.
-- So what a run over such tables says and leaves is told by the program's meaning.
use Rattle.std.specs.Prelude.{◌≡◌, ℕ, ◌-◌, ◌^◌, ◌<◌}
use Rattle.std.proofs.Common.{sym, ap, ◌∙◌, arith}
use Rattle.std.proofs.Math.Path.{subst}
use Rattle.std.proofs.Math.Bool.{false}
use mathlib.Core.List.{List, [], ◌∷◌}
use Rattle.std.proofs.Math.Decide.{dec_lt}
use Rattle.std.proofs.Math.ListN.{length, get_or-eq_default}
use Rattle.report.specs.Bits.{Bit}
use Rattle.report.specs.Values.{Val, HasTy}
use Rattle.report.specs.Meaning.{eval}
use Rattle.report.specs.Nodes.{Node, disconnect, word}
use Rattle.report.specs.Canonical.{children}
use Rattle.scope.specs.Check.{passed, ◌>>=◌}
use Rattle.scope.specs.Types.{check_types}
use Rattle.scope.specs.Nodes.{no_node, node_at}
use Rattle.scope.specs.Walk.{hidden_at, allowed, check_walk}
use Rattle.scope.specs.Arrows.{check_arrows}
use Rattle.scope.specs.Hashes.{check_hashes}
use Rattle.scope.specs.Program.{Program, whole, whole_source, source_ty, target_ty, last}
use Rattle.scope.specs.Bounds.{check_bounds, whole_cells, whole_frames}
use Rattle.scope.specs.Witness.{check_witness}
use Rattle.scope.specs.Input.{check_input}
use Rattle.scope.specs.Stores.{check_stores}
use Rattle.scope.specs.Run.{Tables, program_of, Ready, check_tables, check_ready, Left, cells_of, cleared, ran, run_tables}
use Rattle.common.specs.Checks.{clash, both_passed}
use Rattle.common.specs.Bits.{AllBelow}
use Rattle.exactness.specs.Types.{types_pass}
use Rattle.exactness.proofs.Arrows.{arrows_pass}
use Rattle.exactness.specs.Hidden.{HiddenPlaces}
use Rattle.exactness.proofs.Places.{places_allowed, places_last}
use Rattle.exactness.proofs.Canonical.{walk_canonical}
use Rattle.theory.proofs.Supplied.{witness_typed, input_typed}
use Rattle.theory.proofs.HashTyped.{hash_typed}
use Rattle.theory.specs.Sound.{Sound}
use Rattle.theory.proofs.Sound.{none_hidden_lem}
use Rattle.theory.specs.Programs.{run_of}
use Rattle.theory.specs.Answers.{told, output}
use Rattle.theory.proofs.Answers.{run_says, run_output, run_frames}
use Rattle.theory.specs.Left.{CellsLeft}
use Rattle.theory.proofs.Left.{run_cells}

-- tables that passed 2 to 13: types, node records, walk, arrows and hashes
pub record Checked (T : Tables) : Type 0 where
  pub types : check_types T.types ≡ passed tt
  pub some : 0 < length T.nodes
  pub below : (i : ℕ) → i < length T.nodes → AllBelow i (children (node_at T.nodes i))
  pub words : (i n : ℕ) (bits : List Bit) → node_at T.nodes i ≡ word n bits → length bits ≡ 2 ^ (n - 1)
  pub walk : check_walk T.nodes ≡ passed tt
  pub tables : check_tables T ≡ passed tt

module _ (T : Tables) (ok : Checked T) where
  -- the walk has told where hidden nodes stand
  places : HiddenPlaces T.nodes
  places = (walk_canonical T.nodes ok.some ok.walk).1

  -- a disconnect is in the table, and its right child is not hidden
  right_shown : (i a b : ℕ) → node_at T.nodes i ≡ disconnect a b → hidden_at T.nodes b ≡ false
  unfolding node_at allowed
  right_shown i a b e = go (dec_lt i (length T.nodes))
    where
      go : Dec (i < length T.nodes) → hidden_at T.nodes b ≡ false
      go (yes h) =
          let f : allowed T.nodes i (disconnect a b) ≡ passed tt =
          subst (λ (n : Node). allowed T.nodes i n ≡ passed tt) e (places_allowed T.nodes places i h) in
          (none_hidden_lem T.nodes i (a ∷ b ∷ []) f).1.0
      go (no h) = let f : node_at T.nodes i ≡ no_node = get_or-eq_default T.nodes no_node {n = i} (omega arith) in clash (cc)

  -- the program of checked tables with values that passed is sound
  pub sound : (values : List Val) → check_witness T.types T.nodes T.arrows T.witness T.witness_bits ≡ passed values → Sound (program_of T values)
  unfolding check_tables program_of last target_ty
  sound values e =
      let p = both_passed (check_arrows T.types T.nodes T.arrows) (λ arrows. check_hashes T.nodes T.given) tt ok.tables in
      record {
        type_rules = types_pass T.types ok.types;
        arrow_rules = (arrows_pass T.types T.nodes T.arrows p.1).0.1;
        children_below = ok.below;
        hidden_rules = λ i h shown. places_allowed T.nodes places i h;
        some_node = ok.some;
        last_shown = places_last T.nodes places;
        word_bits = ok.words;
        witness_values = witness_typed T.types T.arrows T.nodes T.witness T.witness_bits values e;
        hash_values = λ i a b q. hash_typed T.nodes T.given p.2 i a b q (right_shown i a b q);
      }

  module _ (cells frames answer : List ℕ) (R : Ready) (e : check_ready T cells frames answer ≡ passed R) where
    -- what 14 to 17 have told: bounds, values, input, stores
    ready : (values : List Val) × (v : Val) × (check_witness T.types T.nodes T.arrows T.witness T.witness_bits ≡ passed values)
        × (check_input (whole_source (program_of T [])) T.input T.input_bits ≡ passed v) × (R ≡ record { program = program_of T values; input = v })
    unfolding check_ready
    ready =
        let T₀ : Program = program_of T [] in
        let a = both_passed (check_bounds T₀) (λ bounded. check_witness T.types T.nodes T.arrows T.witness T.witness_bits >>= λ values.
        check_input (whole_source T₀) T.input T.input_bits >>= λ v.
        check_stores T₀ cells frames answer >>= λ stored. passed (record { program = program_of T values; input = v })) R e in
        let b = both_passed (check_witness T.types T.nodes T.arrows T.witness T.witness_bits) (λ values.
        check_input (whole_source T₀) T.input T.input_bits >>= λ v.
        check_stores T₀ cells frames answer >>= λ stored. passed (record { program = program_of T values; input = v })) R a.2 in
        let c = both_passed (check_input (whole_source T₀) T.input T.input_bits) (λ v.
        check_stores T₀ cells frames answer >>= λ stored. passed (record { program = program_of T b.0; input = v })) R b.2 in
        let d = both_passed (check_stores T₀ cells frames answer) (λ stored. passed (record { program = program_of T b.0; input = c.0 })) R c.2 in
        (b.0, c.0, b.1, c.1, cc)

    -- A PROGRAM THAT PASSED ALL CHECKS IS SOUND
    pub ready_sound : Sound R.program
    ready_sound = let r = ready in subst (λ (Q : Ready). Sound Q.program) (sym r.4) (sound r.0 r.2)

    -- and its input is a value of its source
    pub ready_input : HasTy R.input (whole_source R.program)
    unfolding whole_source source_ty last program_of
    ready_input =
        let r = ready in
        subst (λ (Q : Ready). HasTy Q.input (whole_source Q.program)) (sym r.4)
        (input_typed (whole_source (program_of T [])) T.input T.input_bits r.1 r.3)

    -- the run over such tables
    ran_tables : run_tables T cells frames answer ≡ ran R cells frames answer
    unfolding run_tables
    ran_tables = rw (e, run_tables)

    -- WHAT THE RUN SAYS AND LEAVES IS TOLD BY THE MEANING
    pub tables_say : (run_tables T cells frames answer).says ≡ told (eval (whole R.program) R.input)
    tables_say = ap (λ (l : Left). l.says) ran_tables ∙ run_says R.program ready_sound R.input ready_input cells frames answer

    -- the answer store, by the meaning
    pub tables_output : (run_tables T cells frames answer).answer ≡ output (eval (whole R.program) R.input) answer
    tables_output = ap (λ (l : Left). l.answer) ran_tables ∙ run_output R.program ready_sound R.input ready_input cells frames answer

    -- the frame store: what the bound covers is zero
    pub tables_frames : (run_tables T cells frames answer).frames ≡ cleared (whole_frames R.program) frames
    tables_frames = ap (λ (l : Left). l.frames) ran_tables ∙ run_frames R.program ready_sound R.input ready_input cells frames answer

    -- the cells: those of the machine's last state, from the bound on as they were
    pub tables_cells : CellsLeft (run_of R.program R.input (cells_of cells)) (whole_cells R.program) cells (run_tables T cells frames answer).cells
    tables_cells =
        subst (λ (l : Left). CellsLeft (run_of R.program R.input (cells_of cells)) (whole_cells R.program) cells l.cells) (sym ran_tables)
        (run_cells R.program ready_sound R.input ready_input cells frames answer)
