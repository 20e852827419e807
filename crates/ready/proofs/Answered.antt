-- What is answered of a whole run's checks, one after the other: the tables, the bounds, and what the run is supplied with.
use Rattle.std.specs.Prelude.{Result, Ok, Err}
use mathlib.Core.Path.{◌≡◌, refl, ap, ap₂, sym, ◌∙◌}
use mathlib.Core.List.{List, []}
use Prim.Native.Nat.{ℕ, ◌-◌}
use lib.ListN.{length, length-replicate}
use Rattle.refusal.specs.declared.Refusal.{Refusal}
use Rattle.report.specs.Types.{width}
use Rattle.report.specs.Values.{Val}
use Rattle.scope.specs.Check.{Check, passed, refused, ◌>>=◌}
use Rattle.scope.specs.Numbers.{zeros, stream_of}
use Rattle.scope.specs.Types.{type_records, ty_at}
use Rattle.scope.specs.Nodes.{node_records, nodes_of}
use Rattle.scope.specs.Arrows.{arrow_records, source, target}
use Rattle.scope.specs.Program.{Program, source_ty, target_ty, last, whole_source, whole_target}
use Rattle.scope.specs.Bounds.{check_bounds, whole_cells, whole_frames}
use Rattle.scope.specs.Witness.{check_witness}
use Rattle.scope.specs.Input.{check_input}
use Rattle.scope.specs.Stores.{check_stores}
use Rattle.scope.specs.Run.{Tables, program_of, Ready, check_ready}
use Rattle.scope.specs.Stages.{tables_lent, arrow_stage, hash_stage}
use Rattle.common.specs.Checks.{clash, then_passes, then_refuses}
use Rattle.theory.proofs.NodeTerms.{cells_alike, frames_alike}
use Rattle.stages.proofs.Passed.{hashes_passed}
use Rattle.analysis.specs.Limits.{bounded_of, counted_bounds}
use Rattle.analysis.specs.declared.Totals.{Totals}
use Rattle.analysis.proofs.Stage.{judged_bounds, bounded_says, refused_says, whole_judged}
use Rattle.types.specs.Table.{type_widths, type_next}
use Rattle.ready.specs.Positions.{positions_of}
use Rattle.ready.specs.Answers.{stores_rule, supplied, supplied_table, prepared}
use Rattle.ready.specs.declared.Prepared.{Prepared}

module _ (types nodes arrows program hashes given witness : List ℕ) (witness_bits : ℕ) (input : List ℕ) (input_bits : ℕ) (cells frames answer : ℕ) where
  abbrev pub T : Tables
  T = tables_lent types nodes arrows program hashes given witness witness_bits input input_bits

  -- the program of the tables, without values
  abbrev pub P : Program
  P = program_of T []

  abbrev tables : Check (Unit {0})
  tables = hash_stage types nodes arrows program hashes given

  abbrev ready : Check Ready
  ready = check_ready T (zeros cells) (zeros frames) (zeros answer)

  abbrev positions : List ℕ
  positions = positions_of T.types T.nodes T.arrows witness witness_bits

  -- the answer, by what the checks say
  abbrev answered : Check Ready → Result Prepared Refusal
  answered c = elim c [
    | passed R ↦ Ok (record {
      cells = whole_cells R.program;
      frames = whole_frames R.program;
      widths = type_widths types;
      next = type_next types;
      positions = positions;
    })
    | refused why ↦ Err why
  ]

  answer_is : answered (tables >>= λ held. ready)
      ≡ prepared types nodes arrows program hashes given witness witness_bits input input_bits (zeros cells) (zeros frames) (zeros answer)
  unfolding prepared
  answer_is = refl

  -- the tables are refused
  pub tables-refused : (why : Refusal) → tables ≡ refused why
      → Err why ≡ prepared types nodes arrows program hashes given witness witness_bits input input_bits (zeros cells) (zeros frames) (zeros answer)
  tables-refused why e = sym (ap answered (then_refuses tables (λ held. ready) why e)) ∙ answer_is

  module _ (held : tables ≡ passed tt) where
    prepared_by : (c : Check Ready) → ready ≡ c
        → answered c ≡ prepared types nodes arrows program hashes given witness witness_bits input input_bits (zeros cells) (zeros frames) (zeros answer)
    prepared_by c e = sym (ap answered (then_passes tables (λ held. ready) tt held ∙ e)) ∙ answer_is

    abbrev read : Check (List Val)
    read = check_witness T.types T.nodes T.arrows witness witness_bits

    abbrev taken : Check Val
    taken = check_input (ty_at T.types (source T.arrows (length T.nodes - 1))) input input_bits

    abbrev stored : Check (Unit {0})
    stored = stores_rule (whole_cells P) (whole_frames P) (width (ty_at T.types (target T.arrows (length T.nodes - 1)))) cells frames answer

    -- a run made ready of these values
    abbrev made : List Val → Val → Ready
    made values v = record { program = program_of T values; input = v }

    stores_are : check_stores P (zeros cells) (zeros frames) (zeros answer) ≡ stored
    unfolding check_stores stores_rule whole_target target_ty last program_of
    stores_are =
        λ k. stores_rule (whole_cells P) (whole_frames P) (width (whole_target P)) (length-replicate {A = ℕ} cells 0 k)
        (length-replicate {A = ℕ} frames 0 k) (length-replicate {A = ℕ} answer 0 k)

    ready_is : ready ≡ (check_bounds P >>= λ bounded. read >>= λ values. taken >>= λ v. stored >>= λ kept. passed (made values v))
    unfolding check_ready whole_source source_ty last program_of tables_lent
    ready_is = ap (λ (s : Check (Unit {0})). check_bounds P >>= λ bounded. read >>= λ values. taken >>= λ v. s >>= λ kept. passed (made values v)) stores_are

    -- the bounds are refused
    pub bounds_refused : (why : Refusal) → check_bounds P ≡ refused why
        → Err why ≡ prepared types nodes arrows program hashes given witness witness_bits input input_bits (zeros cells) (zeros frames) (zeros answer)
    bounds_refused why e =
        prepared_by (refused why)
        (ready_is ∙ then_refuses (check_bounds P) (λ bounded. read >>= λ values. taken >>= λ v. stored >>= λ kept. passed (made values v)) why e)

    module _ (within : check_bounds P ≡ passed tt) where
      ready_then : (a : Check (List Val)) (b : Check Val) (c : Check (Unit {0})) → read ≡ a → taken ≡ b → stored ≡ c
          → ready ≡ (a >>= λ values. b >>= λ v. c >>= λ kept. passed (made values v))
      ready_then a b c x y z =
          ready_is ∙ then_passes (check_bounds P) (λ bounded. read >>= λ values. taken >>= λ v. stored >>= λ kept. passed (made values v)) tt within
          ∙ (λ k. x k >>= λ values. y k >>= λ v. z k >>= λ kept. passed (made values v))

      -- the bounds of a run do not depend on its values
      same_bounds : (values : List Val) → (whole_cells P ≡ whole_cells (program_of T values)) × (whole_frames P ≡ whole_frames (program_of T values))
      unfolding program_of
      same_bounds values = (cells_alike P (program_of T values) refl refl refl, frames_alike P (program_of T values) refl refl refl)

      -- what is supplied, by what its checks say
      abbrev supplied_by : Check (Unit {0}) → Result (List ℕ) Refusal
      supplied_by c = elim c [ passed x ↦ Ok positions | refused why ↦ Err why ]

      module _ (r : Result (List ℕ) Refusal)
          (is : r ≡ supplied_table T.types T.nodes T.arrows witness witness_bits input input_bits (whole_cells P)
          (whole_frames P) cells frames answer) where
        supplied_is : r ≡ supplied_by (read >>= λ values. taken >>= λ v. stored)
        unfolding supplied_table supplied
        supplied_is = is

        -- it is refused
        pub supplied_refused : (why : Refusal) → r ≡ Err why
            → Err why ≡ prepared types nodes arrows program hashes given witness witness_bits input input_bits (zeros cells) (zeros frames) (zeros answer)
        unfolding ◌>>=◌
        supplied_refused why e = go read taken stored refl refl refl supplied_is
          where
            named : (w : Refusal) → r ≡ Err w → ready ≡ refused w
                → Err why ≡ prepared types nodes arrows program hashes given witness witness_bits input input_bits (zeros cells)
                (zeros frames) (zeros answer)
            named w f g =
                let h : Err w ≡ Err why = sym f ∙ e in
                let k : w ≡ why = cc in
                ap Err (sym k) ∙ prepared_by (refused w) g

            go : (a : Check (List Val)) (b : Check Val) (c : Check (Unit {0})) → read ≡ a → taken ≡ b → stored ≡ c
                → r ≡ supplied_by (a >>= λ values. b >>= λ v. c)
                → Err why ≡ prepared types nodes arrows program hashes given witness witness_bits input input_bits (zeros cells)
                (zeros frames) (zeros answer)
            go (refused w) b c x y z f = named w f (ready_then (refused w) b c x y z)
            go (passed vs) (refused w) c x y z f = named w f (ready_then (passed vs) (refused w) c x y z)
            go (passed vs) (passed v) (refused w) x y z f = named w f (ready_then (passed vs) (passed v) (refused w) x y z)
            go (passed vs) (passed v) (passed u) x y z f = let h : Ok positions ≡ Err why = sym f ∙ e in clash (cc)

        -- it passed
        pub supplied_passed : (held : List ℕ) → r ≡ Ok held
            → Ok (record { cells = whole_cells P; frames = whole_frames P; widths = type_widths types; next = type_next types; positions = held })
            ≡ prepared types nodes arrows program hashes given witness witness_bits input input_bits (zeros cells) (zeros frames) (zeros answer)
        unfolding ◌>>=◌
        supplied_passed held e = go read taken stored refl refl refl supplied_is
          where
            refused_not : (w : Refusal) → r ≡ Err w
                → Ok (record { cells = whole_cells P; frames = whole_frames P; widths = type_widths types; next = type_next types; positions = held })
                ≡ prepared types nodes arrows program hashes given witness witness_bits input input_bits (zeros cells) (zeros frames) (zeros answer)
            refused_not w f = let h : Err w ≡ Ok held = sym f ∙ e in clash (cc)

            go : (a : Check (List Val)) (b : Check Val) (c : Check (Unit {0})) → read ≡ a → taken ≡ b → stored ≡ c
                → r ≡ supplied_by (a >>= λ values. b >>= λ v. c)
                → Ok (record { cells = whole_cells P; frames = whole_frames P; widths = type_widths types; next = type_next types; positions = held })
                ≡ prepared types nodes arrows program hashes given witness witness_bits input input_bits (zeros cells) (zeros frames) (zeros answer)
            go (refused w) b c x y z f = refused_not w f
            go (passed vs) (refused w) c x y z f = refused_not w f
            go (passed vs) (passed v) (refused w) x y z f = refused_not w f
            go (passed vs) (passed v) (passed u) x y z f =
                let h : Ok held ≡ Ok positions = sym e ∙ f in
                let g : held ≡ positions = cc in
                (λ k. Ok (record {
                  cells = (same_bounds vs).0 k;
                  frames = (same_bounds vs).1 k;
                  widths = type_widths types;
                  next = type_next types;
                  positions = g k;
                }))
                ∙ prepared_by (passed (made vs v)) (ready_then (passed vs) (passed v) (passed u) x y z)

    -- the stage of the arrows passed
    arrowed : arrow_stage types nodes arrows program hashes ≡ passed tt
    arrowed = (hashes_passed types nodes program hashes arrows given held).0

    -- what the bounds of the lent tables say of the program
    judged : counted_bounds types (type_widths types) nodes arrows ≡ judged_bounds P
    judged = whole_judged types nodes arrows program hashes arrowed given witness witness_bits input input_bits []

    pub bounds_stop : (why : Refusal) → bounded_of (Err why) ≡ counted_bounds types (type_widths types) nodes arrows
        → Err why ≡ prepared types nodes arrows program hashes given witness witness_bits input input_bits (zeros cells) (zeros frames) (zeros answer)
    bounds_stop why e = bounds_refused why (refused_says P why (e ∙ judged))

    module _ (b : Totals) (e : bounded_of (Ok b) ≡ counted_bounds types (type_widths types) nodes arrows)
        (r : Result (List ℕ) Refusal) (is : r ≡ supplied_table (type_records types) (nodes_of (stream_of program) hashes (node_records nodes)) (arrow_records arrows)
        witness witness_bits input input_bits b.cells b.frames cells frames answer) where
      said : (check_bounds P ≡ passed tt) × (b.cells ≡ whole_cells P) × (b.frames ≡ whole_frames P)
      said = let s = bounded_says P b (e ∙ judged) in (s.0, s.1, s.2)

      same : r ≡ supplied_table T.types T.nodes T.arrows witness witness_bits input input_bits (whole_cells P) (whole_frames P) cells frames answer
      unfolding tables_lent
      same =
          is ∙ ap₂ (λ (c f : ℕ). supplied_table (type_records types) (nodes_of (stream_of program) hashes (node_records nodes)) (arrow_records arrows)
          witness witness_bits input input_bits c f cells frames answer) said.1 said.2

      pub supplies_stop : (why : Refusal) → r ≡ Err why
          → Err why ≡ prepared types nodes arrows program hashes given witness witness_bits input input_bits (zeros cells) (zeros frames) (zeros answer)
      supplies_stop why f = supplied_refused said.0 r same why f

      pub run_ready : (held : List ℕ) → r ≡ Ok held
          → Ok (record { cells = b.cells; frames = b.frames; widths = type_widths types; next = type_next types; positions = held })
          ≡ prepared types nodes arrows program hashes given witness witness_bits input input_bits (zeros cells) (zeros frames) (zeros answer)
      run_ready held f =
          ap₂ (λ (c d : ℕ). Ok (record { cells = c; frames = d; widths = type_widths types; next = type_next types; positions = held })) said.1 said.2
          ∙ supplied_passed said.0 r same held f
