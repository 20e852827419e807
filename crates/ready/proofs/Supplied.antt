-- What is said of all that a run is supplied with, check by check as the code makes them: witness bits, input bits, stores.
use Rattle.std.specs.Prelude.{Result, Ok, Err}
use mathlib.Core.Path.{◌≡◌, refl, ap, sym, ◌∙◌}
use mathlib.Core.List.{List}
use Prim.Native.Nat.{ℕ, ◌-◌}
use lib.ListN.{length, get_or}
use Rattle.refusal.specs.declared.Refusal.{Refusal}
use Rattle.report.specs.Types.{width}
use Rattle.report.specs.Values.{Val}
use Rattle.report.specs.Nodes.{Node}
use Rattle.scope.specs.Check.{Check, passed, refused, ◌>>=◌}
use Rattle.scope.specs.Types.{TypeRecord, ty_at}
use Rattle.scope.specs.Arrows.{Arrow, no_arrow, source, target}
use Rattle.scope.specs.Witness.{check_witness}
use Rattle.scope.specs.Input.{check_input}
use Rattle.common.specs.Checks.{clash}
use Rattle.ready.specs.Positions.{positions_of}
use Rattle.ready.specs.Answers.{verdict, witness_table, stores_rule, supplied, supplied_table}

-- what a verdict tells of its check
pub verdict-refused : {X : Type 0} (c : Check X) (why : Refusal) → Err why ≡ verdict c → c ≡ refused why
unfolding verdict
verdict-refused (passed x) why e = clash (cc)
verdict-refused (refused r) why e = ap (λ (w : Refusal). refused w) (cc)

pub verdict-passed : {X : Type 0} (c : Check X) → Ok tt ≡ verdict c → (x : X) × (c ≡ passed x)
unfolding verdict
verdict-passed (passed x) e = (x, refl)
verdict-passed (refused r) e = clash (cc)

module _ (types : List TypeRecord) (nodes : List Node) (arrows : List Arrow) (witness : List ℕ) (witness_bits : ℕ) (input : List ℕ) (input_bits : ℕ)
    (cell_bound frame_bound cells frames answer : ℕ) where
  abbrev read : Check (List Val)
  read = check_witness types nodes arrows witness witness_bits

  abbrev taken : Check Val
  taken = check_input (ty_at types (source arrows (length nodes - 1))) input input_bits

  abbrev stored : Check (Unit {0})
  stored = stores_rule cell_bound frame_bound (width (ty_at types (target arrows (length nodes - 1)))) cells frames answer

  -- the answer of each of the two passes, by what its check says
  abbrev pub placed : Result (List ℕ) Refusal
  placed = Ok (positions_of types nodes arrows witness witness_bits)

  abbrev read_by : Check (List Val) → Result (List ℕ) Refusal
  read_by c = elim c [ passed values ↦ placed | refused why ↦ Err why ]

  abbrev supplied_by : Check (Unit {0}) → Result (List ℕ) Refusal
  supplied_by c = elim c [ passed x ↦ placed | refused why ↦ Err why ]

  read_is : read_by read ≡ witness_table types nodes arrows witness witness_bits
  unfolding witness_table
  read_is = refl

  supplied_is : (a : Check (List Val)) (b : Check Val) (c : Check (Unit {0})) → read ≡ a → taken ≡ b → stored ≡ c
      → supplied_by (a >>= λ values. b >>= λ v. c)
      ≡ supplied_table types nodes arrows witness witness_bits input input_bits cell_bound frame_bound cells frames answer
  unfolding supplied_table supplied
  supplied_is a b c x y z = λ k. supplied_by (sym x k >>= λ values. sym y k >>= λ v. sym z k)

  module _ (r : Result (List ℕ) Refusal) (is : r ≡ witness_table types nodes arrows witness witness_bits) where
    -- the witness bits are refused
    pub read_refused : (why : Refusal) → r ≡ Err why
        → r ≡ supplied_table types nodes arrows witness witness_bits input input_bits cell_bound frame_bound cells frames answer
    unfolding ◌>>=◌
    read_refused why e = go read refl (is ∙ sym read_is)
      where
        go : (a : Check (List Val)) → read ≡ a → r ≡ read_by a
            → r ≡ supplied_table types nodes arrows witness witness_bits input input_bits cell_bound frame_bound cells frames answer
        go (passed values) x f = let g : placed ≡ Err why = sym f ∙ e in clash (cc)
        go (refused w) x f = f ∙ supplied_is (refused w) taken stored x refl refl

    module _ (positions : List ℕ) (passes : r ≡ Ok positions) where
      -- they passed
      pub read-passed : (values : List Val) × (read ≡ passed values) × (r ≡ placed)
      read-passed = go read refl (is ∙ sym read_is)
        where
          go : (a : Check (List Val)) → read ≡ a → r ≡ read_by a → (values : List Val) × (read ≡ passed values) × (r ≡ placed)
          go (passed values) x f = (values, x, f)
          go (refused w) x f = let g : Err w ≡ Ok positions = sym f ∙ passes in clash (cc)

      -- the last node's arrow
      module _ (a : Arrow) (own : a ≡ get_or arrows (length nodes - 1) no_arrow) where
        taken_is : check_input (ty_at types a.source) input input_bits ≡ taken
        unfolding source
        taken_is = ap (λ (b : Arrow). check_input (ty_at types b.source) input input_bits) own

        -- the input bits are refused
        pub input_refused : (why : Refusal) → Err why ≡ verdict (check_input (ty_at types a.source) input input_bits)
            → Err why ≡ supplied_table types nodes arrows witness witness_bits input input_bits cell_bound frame_bound cells frames answer
        unfolding ◌>>=◌
        input_refused why e =
            let p = read-passed in
            supplied_is (passed p.0) (refused why) stored p.1
            (sym taken_is ∙ verdict-refused (check_input (ty_at types a.source) input input_bits) why e) refl

        module _ (fits : Ok tt ≡ verdict (check_input (ty_at types a.source) input input_bits)) (w : ℕ) (wide : w ≡ width (ty_at types a.target)) where
          stored_is : stores_rule cell_bound frame_bound w cells frames answer ≡ stored
          unfolding target
          stored_is =
              ap (λ (n : ℕ). stores_rule cell_bound frame_bound n cells frames answer) wide
              ∙ ap (λ (b : Arrow). stores_rule cell_bound frame_bound (width (ty_at types b.target)) cells frames answer) own

          took : (v : Val) × (taken ≡ passed v)
          took = let q = verdict-passed (check_input (ty_at types a.source) input input_bits) fits in (q.0, sym taken_is ∙ q.1)

          -- a store is too short
          pub stores_refused : (why : Refusal) → Err why ≡ verdict (stores_rule cell_bound frame_bound w cells frames answer)
              → Err why ≡ supplied_table types nodes arrows witness witness_bits input input_bits cell_bound frame_bound cells frames answer
          unfolding ◌>>=◌
          stores_refused why e =
              supplied_is (passed read-passed.0) (passed took.0) (refused why) read-passed.1 took.1
              (sym stored_is ∙ verdict-refused (stores_rule cell_bound frame_bound w cells frames answer) why e)

          -- all passed
          pub all_passed : Ok tt ≡ verdict (stores_rule cell_bound frame_bound w cells frames answer)
              → r ≡ supplied_table types nodes arrows witness witness_bits input input_bits cell_bound frame_bound cells frames answer
          unfolding ◌>>=◌
          all_passed e =
              let s = verdict-passed (stores_rule cell_bound frame_bound w cells frames answer) e in
              read-passed.2 ∙ supplied_is (passed read-passed.0) (passed took.0) (passed tt) read-passed.1 took.1 (sym stored_is ∙ s.1)
