-- What the answer of a run's checks tells the stage that runs: with bounds the checks have passed and the arrays are right, and the stage is the run;
-- with a refusal the stage is refused by it and leaves all stores untouched.
use mathlib.Core.Path.{◌≡◌, refl, ap, sym, ◌∙◌}
use mathlib.Core.List.{List}
use Prim.Native.Nat.{ℕ}
use lib.ListN.{length, length-replicate}
use Rattle.refusal.specs.declared.Refusal.{Refusal}
use Rattle.std.specs.Prelude.{Result, Ok, Err}
use Rattle.scope.specs.Check.{Check, passed, refused, ◌>>=◌}
use Rattle.scope.specs.Numbers.{zeros}
use Rattle.scope.specs.Bounds.{whole_cells, whole_frames}
use Rattle.scope.specs.Stores.{check_stores}
use Rattle.scope.specs.Run.{Tables, Ready, check_ready, Left, left_with, ran, run_tables}
use Rattle.scope.specs.Stages.{tables_lent, hash_stage, run_stage}
use Rattle.common.specs.Checks.{clash, both_passed}
use Rattle.types.specs.Table.{type_widths, type_next}
use Rattle.ready.specs.Positions.{positions_of}
use Rattle.ready.specs.Answers.{prepared}
use Rattle.ready.specs.declared.Prepared.{Prepared}

-- the checks look at the lengths of the stores alone
pub ready_by_lengths : (T : Tables) (cells frames answer : List ℕ)
    → check_ready T (zeros (length cells)) (zeros (length frames)) (zeros (length answer)) ≡ check_ready T cells frames answer
unfolding check_ready check_stores
ready_by_lengths T cells frames answer =
    rw (length-replicate {A = ℕ} (length cells) 0, length-replicate {A = ℕ} (length frames) 0, length-replicate {A = ℕ} (length answer) 0)

module _ (types nodes arrows program hashes given witness : List ℕ) (witness_bits : ℕ) (input : List ℕ) (input_bits : ℕ) (cells frames answer : List ℕ) where
  abbrev T : Tables
  T = tables_lent types nodes arrows program hashes given witness witness_bits input input_bits

  -- what the check of the run answers
  abbrev pub found : Result Prepared Refusal
  found =
      prepared types nodes arrows program hashes given witness witness_bits input input_bits (zeros (length cells)) (zeros (length frames))
      (zeros (length answer))

  -- the run is ready
  pub record IsReady (r : Prepared) : Type 0 where
    pub ready : Ready
    pub tables_pass : hash_stage types nodes arrows program hashes given ≡ passed tt
    pub ready_pass : check_ready T cells frames answer ≡ passed ready
    pub cells_are : r.cells ≡ whole_cells ready.program
    pub frames_are : r.frames ≡ whole_frames ready.program
    pub widths_are : r.widths ≡ type_widths types
    pub next_are : r.next ≡ type_next types
    pub positions_are : r.positions ≡ positions_of T.types T.nodes T.arrows witness witness_bits

  -- all checks in a row
  abbrev checks : Check Ready
  checks = hash_stage types nodes arrows program hashes given >>= λ tables. check_ready T cells frames answer

  -- a run made ready, with its tables
  abbrev with_tables : Ready → Prepared
  with_tables R = record {
    cells = whole_cells R.program;
    frames = whole_frames R.program;
    widths = type_widths types;
    next = type_next types;
    positions = positions_of T.types T.nodes T.arrows witness witness_bits;
  }

  abbrev answered : Check Ready → Result Prepared Refusal
  answered c = elim c [ passed R ↦ Ok (with_tables R) | refused why ↦ Err why ]

  found_is : answered checks ≡ found
  unfolding prepared
  found_is =
      ap (λ (c : Check Ready). answered (hash_stage types nodes arrows program hashes given >>= λ tables. c)) (sym (ready_by_lengths T cells frames answer))

  module _ (r : Result Prepared Refusal) (is : r ≡ found) where
    -- A RUN: THE CHECKS HAVE PASSED
    pub told_ready : (p : Prepared) → r ≡ Ok p → IsReady p
    told_ready p e = go checks refl (is ∙ sym found_is)
      where
        go : (c : Check Ready) → checks ≡ c → r ≡ answered c → IsReady p
        go (passed R) x f =
            let both = both_passed (hash_stage types nodes arrows program hashes given) (λ tables. check_ready T cells frames answer) R x in
            let same : Ok p ≡ Ok (with_tables R) = sym e ∙ f in
            let g : p ≡ with_tables R = cc in
            record {
              ready = R;
              tables_pass = both.1;
              ready_pass = both.2;
              cells_are = ap (λ (q : Prepared). q.cells) g;
              frames_are = ap (λ (q : Prepared). q.frames) g;
              widths_are = ap (λ (q : Prepared). q.widths) g;
              next_are = ap (λ (q : Prepared). q.next) g;
              positions_are = ap (λ (q : Prepared). q.positions) g;
            }
        go (refused why) x f = let g : Ok p ≡ Err why = sym e ∙ f in clash (cc)

    -- and the stage is the run
    pub stage_runs : (p : Prepared) (ok : IsReady p)
        → run_stage types nodes arrows program hashes given witness witness_bits input input_bits cells frames answer ≡ ran ok.ready cells frames answer
    unfolding run_stage run_tables
    stage_runs p ok = rw (ok.tables_pass, run_stage) (rw (ok.ready_pass, run_tables))

    -- A REFUSAL: THE STAGE IS REFUSED, ALL STORES UNTOUCHED
    pub told_refused : (why : Refusal) → r ≡ Err why
        → run_stage types nodes arrows program hashes given witness witness_bits input input_bits cells frames answer ≡ left_with (Err why) cells frames answer
    unfolding run_stage run_tables ◌>>=◌
    told_refused why e = go (hash_stage types nodes arrows program hashes given) (check_ready T cells frames answer) refl refl
      where
        says : (c : Check Ready) → checks ≡ c → Err why ≡ answered c
        says c x = sym e ∙ is ∙ sym found_is ∙ ap answered x

        stage : Check (Unit {0}) → Check Ready → Left
        stage a b = elim a [
          | passed x ↦ (elim b [ passed R ↦ ran R cells frames answer | refused w ↦ left_with (Err w) cells frames answer ])
          | refused w ↦ left_with (Err w) cells frames answer
        ]

        go : (a : Check (Unit {0})) (b : Check Ready) → hash_stage types nodes arrows program hashes given ≡ a → check_ready T cells frames answer ≡ b
            → run_stage types nodes arrows program hashes given witness witness_bits input input_bits cells frames answer
            ≡ left_with (Err why) cells frames answer
        go (refused w) b x y =
            let f : Err why ≡ Err w = says (refused w) (λ k. x k >>= λ tables. y k) in
            (λ k. stage (x k) (y k)) ∙ ap (λ (z : Refusal). left_with (Err z) cells frames answer) (let g : w ≡ why = cc in g)
        go (passed u) (refused w) x y =
            let f : Err why ≡ Err w = says (refused w) (λ k. x k >>= λ tables. y k) in
            (λ k. stage (x k) (y k)) ∙ ap (λ (z : Refusal). left_with (Err z) cells frames answer) (let g : w ≡ why = cc in g)
        go (passed u) (passed R) x y =
            let f : Err why ≡ Ok (with_tables R) = says (passed R) (λ k. x k >>= λ tables. y k) in
            clash (cc)
