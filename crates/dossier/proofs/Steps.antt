-- The job's ends, from what the calls that it makes promise: each end of the code is the end of the definition `run`, with all five stores.
use mathlib.Core.Path.{◌≡◌, refl, sym, ap, ap₂, ◌∙◌}
use mathlib.Core.List.{List}
use Prim.Native.Nat.{ℕ, ◌*◌, ◌-◌, ◌/◌, ◌≤◌}
use native.Mathlib.Omega.{arith}
use lib.ListN.{length, take, length-append}
use lib.Seq.{take_at}
use Rattle.common.specs.Nodes.{length_numbers}
use Rattle.limits.specs.Limits.{node_numbers}
use Rattle.refusal.specs.declared.Refusal.{Refusal}
use Rattle.refusal.specs.Answers.{Answer}
use Rattle.scope.specs.Check.{Check, passed, refused}
use Rattle.scope.specs.Numbers.{zeros, filled}
use Rattle.scope.specs.Header.{count, check_header, section, s_types, s_program, s_arrows, s_witness, s_input, s_hashes}
use Rattle.scope.specs.Types.{type_records, check_types}
use Rattle.scope.specs.Nodes.{node_numbers_of}
use Rattle.scope.specs.Reading.{NodeTable}
use Rattle.scope.specs.Closing as Closing
use Rattle.scope.specs.Closing.{nodes_left, hashes_left}
use Rattle.scope.specs.Stages.{run_stage}
use Rattle.scope.specs.Run.{check_tables, tables_of, left_with, ended_with, run}
use Rattle.common.specs.Checks.{clash, both_passed}
use Rattle.common.specs.Answers.{check_of, answer_of}
use Rattle.std.specs.Prelude.{Result, Ok, Err}
use Rattle.decode.specs.declared.Sizes.{Sizes}
use Rattle.decode.specs.Answers.{said_of}
use Rattle.common.specs.Stores.{cleared, all_cleared}
use Rattle.decode.specs.Stores.{left, table_sizes, left_by}
use Rattle.decode.specs.Stores as Stores
use Rattle.dossier.specs.Ends.{front, settled, sections_run}
use Rattle.dossier.proofs.Decoded.{stage, stage_own}
use Rattle.dossier.proofs.Job.{job_front, job_read, job_ran}

-- the run stage on slices that are the sections of a dossier
pub sections_run_lem : (d nodes hashes cells frames answer types arrows program given witness input : List ℕ) (witness_bits input_bits : ℕ)
    → types ≡ section d s_types → arrows ≡ section d s_arrows → program ≡ section d s_program → given ≡ section d s_hashes
    → witness ≡ section d s_witness → witness_bits ≡ count d s_witness → input ≡ section d s_input → input_bits ≡ count d s_input
    → run_stage types nodes arrows program hashes given witness witness_bits input input_bits cells frames answer ≡ sections_run d nodes hashes cells frames answer
unfolding sections_run
sections_run_lem d nodes hashes cells frames answer types arrows program given witness input witness_bits input_bits t a p g w wb i ib = rw (t, a, p, g, w, wb, i, ib)

module _ (d nodes hashes cells frames answer : List ℕ) (checked : Result (Unit {0}) Refusal) (checks : check_of checked ≡ front d) where
  -- 1 or 2: both stores are cleared
  pub ends_front : (why : Refusal) → checked ≡ Err why → (said : Answer) → said ≡ answer_of checked → (n h : List ℕ)
      → n ≡ cleared nodes 0 → h ≡ cleared hashes 0
      → ended_with said n h cells frames answer ≡ run d nodes hashes cells frames answer
  ends_front why e said q n h cn ch =
      ap₂ (λ (n h : List ℕ). ended_with said n h cells frames answer) (cn ∙ all_cleared nodes) (ch ∙ all_cleared hashes)
      ∙ ap (λ (s : Answer). ended_with s (zeros (length nodes)) (zeros (length hashes)) cells frames answer) (q ∙ ap answer_of e)
      ∙ job_front d nodes hashes cells frames answer why (sym checks ∙ ap check_of e)

  -- a dossier that passed 1 and 2, and what decoding promises of it
  module _ (passes : checked ≡ Ok tt) (program : List ℕ) (is : program ≡ section d s_program) (r : Result Sizes Refusal) (n h : List ℕ)
      (decodes : left (said_of r) n h ≡ left_by (Closing.decode program (length nodes / node_numbers) (length hashes)) nodes hashes) where
    typed : front d ≡ passed tt
    typed = sym checks ∙ ap check_of passes

    abbrev read : Check NodeTable
    read = Closing.decode (section d s_program) (length nodes / node_numbers) (length hashes)

    decodes_own : left (said_of r) n h ≡ left_by read nodes hashes
    decodes_own = decodes ∙ ap (λ (p : List ℕ). left_by (Closing.decode p (length nodes / node_numbers) (length hashes)) nodes hashes) is

    -- 3 to 10
    pub ends_undecoded : (why : Refusal) → r ≡ Err why → (said : Answer) → said ≡ Err why
        → ended_with said n h cells frames answer ≡ run d nodes hashes cells frames answer
    unfolding left_by table_sizes nodes_left hashes_left
    ends_undecoded why e said q = go read refl
      where
        told : (c : Check NodeTable) → read ≡ c → left (refused why) n h ≡ left_by c nodes hashes
        told c f = ap (λ (r : Result Sizes Refusal). left (said_of r) n h) (sym e) ∙ decodes_own ∙ ap (λ (c : Check NodeTable). left_by c nodes hashes) f

        go : (c : Check NodeTable) → read ≡ c → ended_with said n h cells frames answer ≡ run d nodes hashes cells frames answer
        go (passed t) f = clash (let y = ap (λ (l : Stores.Left). l.says) (told (passed t) f) in cc)
        go (refused w) f =
            let x : left (refused why) n h ≡ left_by (refused w) nodes hashes = told (refused w) f in
            let says : ◌≡◌ {A = Check Sizes} (refused why) (refused w) = ap (λ (l : Stores.Left). l.says) x in
            let same : w ≡ why = cc in
            let cn : n ≡ zeros (length nodes) = ap (λ (l : Stores.Left). l.nodes) x in
            let ch : h ≡ zeros (length hashes) = ap (λ (l : Stores.Left). l.hashes) x in
            ap₂ (λ (n h : List ℕ). ended_with said n h cells frames answer) cn ch
            ∙ ap (λ (s : Answer). ended_with s (zeros (length nodes)) (zeros (length hashes)) cells frames answer) q
            ∙ job_read d nodes hashes cells frames answer typed why (f ∙ ap refused same)

    -- a program that was decoded
    module _ (sizes : Sizes) (told : r ≡ Ok sizes) where
      -- the table that stands at the front of the stores
      pub record Stands (t : NodeTable) : Type 0 where
        pub read_is : read ≡ passed t
        pub nodes_are : n ≡ filled (node_numbers_of t.records) nodes
        pub hashes_are : h ≡ filled t.hashes hashes
        pub nodes_size : node_numbers * sizes.nodes ≡ length (node_numbers_of t.records)
        pub hashes_size : sizes.hashes ≡ length t.hashes

      stands : (t : NodeTable) × Stands t
      unfolding left_by table_sizes nodes_left hashes_left
      stands = go read refl
        where
          left_by_lem : (c : Check NodeTable) → read ≡ c → left (passed sizes) n h ≡ left_by c nodes hashes
          left_by_lem c f = ap (λ (r : Result Sizes Refusal). left (said_of r) n h) (sym told) ∙ decodes_own ∙ ap (λ (c : Check NodeTable). left_by c nodes hashes) f

          go : (c : Check NodeTable) → read ≡ c → (t : NodeTable) × Stands t
          go (refused w) f = clash (let y = ap (λ (l : Stores.Left). l.says) (left_by_lem (refused w) f) in cc)
          go (passed t) f =
              let x = left_by_lem (passed t) f in
              let says : ◌≡◌ {A = Check Sizes} (passed sizes) (passed (record { nodes = length t.records; hashes = length t.hashes })) =
              ap (λ (l : Stores.Left). l.says) x in
              let same : sizes ≡ record { nodes = length t.records; hashes = length t.hashes } = cc in
              let count : sizes.nodes ≡ length t.records = ap (λ (s : Sizes). s.nodes) same in (
                t,
                record {
                  read_is = f;
                  nodes_are = ap (λ (l : Stores.Left). l.nodes) x;
                  hashes_are = ap (λ (l : Stores.Left). l.hashes) x;
                  nodes_size = omega (arith, count, length_numbers t.records);
                  hashes_size = ap (λ (s : Sizes). s.hashes) same;
                },
              )

      -- a store that begins with numbers is long enough for them
      front_within : (numbers store begun : List ℕ) → begun ≡ filled numbers store → length numbers ≤ length begun
      unfolding filled
      front_within numbers store begun e = omega (arith, ap length e, length-append numbers (zeros (length store - length numbers)))

      pub nodes_within : node_numbers * sizes.nodes ≤ length n
      nodes_within = omega (arith, stands.1.nodes_size, front_within (node_numbers_of stands.0.records) nodes n stands.1.nodes_are)

      pub hashes_within : sizes.hashes ≤ length h
      hashes_within = omega (arith, stands.1.hashes_size, front_within stands.0.hashes hashes h stands.1.hashes_are)

      -- the front of such a store
      front_is : (numbers store begun : List ℕ) (k : ℕ) → k ≡ length numbers → begun ≡ filled numbers store → take k begun ≡ numbers
      unfolding filled
      front_is numbers store begun k e f = ap (take k) f ∙ take_at numbers (zeros (length store - length numbers)) k (sym e)

      -- 11 to 19, or an output: the stores are settled by what the run stage answered
      pub ends_settled : (said : Answer) (c f a : List ℕ)
          → left_with said c f a ≡ sections_run d (take (node_numbers * sizes.nodes) n) (take sizes.hashes h) cells frames answer
          → (n' h' : List ℕ) → n' ≡ settled said n → h' ≡ settled said h → ended_with said n' h' c f a ≡ run d nodes hashes cells frames answer
      unfolding sections_run left_with front
      ends_settled said c f a e n' h' en eh =
          let t : NodeTable = stands.0 in
          let s : Stands t = stands.1 in
          let both = both_passed (check_header d) (λ header. check_types (type_records (section d s_types))) tt typed in
          let own : left_with said c f a ≡ stage (check_tables (tables_of d t)) (tables_of d t) cells frames answer = e
          ∙ ap₂ (λ (ns hs : List ℕ). sections_run d ns hs cells frames answer)
          (front_is (node_numbers_of t.records) nodes n (node_numbers * sizes.nodes) s.nodes_size s.nodes_are)
          (front_is t.hashes hashes h sizes.hashes s.hashes_size s.hashes_are)
          ∙ stage_own d (length nodes / node_numbers) (length hashes) t both.1 both.2 s.read_is cells frames answer in
          ap₂ (λ (x y : List ℕ). ended_with said x y c f a) (en ∙ ap (settled said) s.nodes_are) (eh ∙ ap (settled said) s.hashes_are)
          ∙ job_ran d nodes hashes cells frames answer typed t s.read_is (left_with said c f a) own
