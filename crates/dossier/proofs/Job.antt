-- The whole job in the steps in which the code takes them: the checks before decoding, decoding, and the run stage on what was decoded.
-- Each step that ends the job ends it as the definition `run` does, with all five stores.
use mathlib.Core.Path.{◌≡◌, refl, sym, ap, ap₂, ◌∙◌, subst}
use mathlib.Core.Bool.{true, false}
use mathlib.Core.List.{List}
use Prim.Native.Nat.{ℕ, ◌-◌, ◌/◌, ◌≤◌}
use native.Mathlib.Omega.{arith}
use lib.ListN.{length, length-append, length-replicate}
use Rattle.common.specs.Nodes.{length_numbers}
use Rattle.limits.specs.Limits.{node_numbers}
use Rattle.refusal.specs.declared.Refusal.{Refusal}
use Rattle.refusal.specs.Answers.{Answer}
use Rattle.std.specs.Prelude.{Ok as Value, Err as Refused}
use Rattle.report.specs.Nodes.{Node}
use Rattle.report.specs.Naturals.{code_natural}
use Rattle.scope.specs.Check.{Check, passed, refused, ◌>>=◌}
use Rattle.scope.specs.Numbers.{zeros, filled}
use Rattle.scope.specs.Header.{count, check_header, section, s_types, s_program, s_arrows, s_witness, s_input, s_hashes}
use Rattle.scope.specs.Types.{type_records, check_types}
use Rattle.scope.specs.Nodes.{node_numbers_of}
use Rattle.scope.specs.Reading.{NodeTable}
use Rattle.scope.specs.Closing.{decode}
use Rattle.scope.specs.Stages.{tables_lent, hash_stage}
use Rattle.scope.specs.Run.{check_tables, tables_of, check_dossier, Left, left_with, run_tables, Ended, ended_with, run}
use Rattle.common.specs.Checks.{both_passed, then_passes, then_then}
use Rattle.exactness.specs.Nodes.{layout}
use Rattle.exactness.proofs.Decoding.{decoded_is_program}
use Rattle.dossier.specs.Ends.{front, keeps, settled}
use Rattle.dossier.proofs.Refusing.{LateAnswer, tables_refuse, tables_late}
use Rattle.dossier.proofs.Decoded.{length_records, stage, stage_hashes, lent_own}

-- an output keeps the table, and so does a refusal that says so
late_keeps : (said : Answer) → LateAnswer said → keeps said ≡ true
late_keeps (Value n) h = refl
late_keeps (Refused r) h = h

-- a store keeps its length
length-filled : (numbers store : List ℕ) → length numbers ≤ length store → length (filled numbers store) ≡ length store
unfolding filled
length-filled numbers store h =
    omega (arith, length-append numbers (zeros (length store - length numbers)), length-replicate {A = ℕ} (length store - length numbers) 0)

module _ (d nodes hashes cells frames answer : List ℕ) where
  abbrev pub read : Check NodeTable
  read = decode (section d s_program) (length nodes / node_numbers) (length hashes)

  abbrev later : Check NodeTable
  later = read >>= λ t. (check_tables (tables_of d t) >>= λ tables. passed t)

  -- the checks of a dossier, as the job makes them
  in_steps : check_dossier d nodes hashes ≡ (front d >>= λ typed. later)
  unfolding check_dossier front
  in_steps = sym (then_then (check_header d) (λ header. check_types (type_records (section d s_types))) (λ typed. later))

  -- an end without a table
  abbrev pub refused_end : Refusal → Ended
  refused_end r = ended_with (Refused r) (zeros (length nodes)) (zeros (length hashes)) cells frames answer

  dossier_refused : (r : Refusal) → check_dossier d nodes hashes ≡ refused r → refused_end r ≡ run d nodes hashes cells frames answer
  unfolding run
  dossier_refused r e = rw (e, run)

  -- 1 or 2
  pub job_front : (r : Refusal) → front d ≡ refused r → refused_end r ≡ run d nodes hashes cells frames answer
  unfolding ◌>>=◌
  job_front r e = dossier_refused r (in_steps ∙ rw (e, ◌>>=◌))

  module _ (typed : front d ≡ passed tt) where
    -- 3 to 10, and 17 at 3 and 4
    pub job_read : (r : Refusal) → read ≡ refused r → refused_end r ≡ run d nodes hashes cells frames answer
    unfolding ◌>>=◌
    job_read r e = dossier_refused r (in_steps ∙ then_passes (front d) (λ typed. later) tt typed ∙ rw (e, ◌>>=◌))

    module _ (t : NodeTable) (decodes : read ≡ passed t) where
      -- the stores hold what was decoded
      pub nodes_fit : length (filled (node_numbers_of t.records) nodes) ≡ length nodes
      unfolding layout
      nodes_fit =
          let p = decoded_is_program (section d s_program) (length nodes / node_numbers) (length hashes) t decodes in
          let ns : List Node = p.0 in
          let n : length t.records ≡ length ns =
          ap (λ (u : NodeTable). length u.records) p.2 ∙ length_records 0 0 (length (code_natural (length ns))) ns in
          length-filled (node_numbers_of t.records) nodes (omega (arith, length_numbers t.records, p.1.records_fit))

      pub hashes_fit : length (filled t.hashes hashes) ≡ length hashes
      unfolding layout
      hashes_fit =
          let p = decoded_is_program (section d s_program) (length nodes / node_numbers) (length hashes) t decodes in
          let n = ap (λ (u : NodeTable). length u.hashes) p.2 in
          length-filled t.hashes hashes (omega (arith, p.1.bytes_fit))

      -- the end of a job whose program was decoded, by how its run stage ended
      abbrev pub job_end : Left → Ended
      job_end left =
          ended_with left.says (settled left.says (filled (node_numbers_of t.records) nodes))
          (settled left.says (filled t.hashes hashes)) left.cells left.frames left.answer

      tables_checked : (c : Check (Unit {0})) → check_tables (tables_of d t) ≡ c → check_dossier d nodes hashes ≡ (c >>= λ tables. passed t)
      unfolding ◌>>=◌
      tables_checked c e =
          in_steps ∙ then_passes (front d) (λ typed. later) tt typed ∙ then_passes read (λ t. (check_tables (tables_of d t) >>= λ tables. passed t)) t decodes
          ∙ ap (λ (c : Check (Unit {0})). c >>= λ tables. passed t) e

      -- what is refused with its tables leaves none
      job_tables : (r : Refusal) → check_tables (tables_of d t) ≡ refused r
          → job_end (left_with (Refused r) cells frames answer) ≡ run d nodes hashes cells frames answer
      unfolding settled left_with ◌>>=◌
      job_tables r q =
          let clears : keeps (Refused r) ≡ false = tables_refuse (tables_of d t) r q in
          rw (clears, settled)
          (ap₂ (λ (n h : ℕ). ended_with (Refused r) (zeros n) (zeros h) cells frames answer) nodes_fit hashes_fit
          ∙ dossier_refused r (tables_checked (refused r) q))

      -- an output, or 14 to 19, keeps it
      job_kept : {x : Unit {0}} → check_tables (tables_of d t) ≡ passed x
          → job_end (run_tables (tables_of d t) cells frames answer) ≡ run d nodes hashes cells frames answer
      unfolding run settled ◌>>=◌
      job_kept q =
          let left : Left = run_tables (tables_of d t) cells frames answer in
          let stays : keeps left.says ≡ true = late_keeps left.says (tables_late (tables_of d t) cells frames answer) in
          let e : check_dossier d nodes hashes ≡ passed t = tables_checked (passed tt) q in
          rw (stays, settled) (rw (e, run))

      pub job_ran : (left : Left) → left ≡ stage (check_tables (tables_of d t)) (tables_of d t) cells frames answer
          → job_end left ≡ run d nodes hashes cells frames answer
      job_ran left e = ap job_end e ∙ go (check_tables (tables_of d t)) refl
        where
          go : (c : Check (Unit {0})) → check_tables (tables_of d t) ≡ c
              → job_end (stage c (tables_of d t) cells frames answer) ≡ run d nodes hashes cells frames answer
          go (passed x) q = job_kept q
          go (refused r) q = job_tables r q

-- what a dossier that passes 1 to 13 has passed: its header, its types, decoding and the checks of its tables
pub record Parts (d nodes hashes : List ℕ) (t : NodeTable) : Type 0 where
  pub header : check_header d ≡ passed tt
  pub types : check_types (type_records (section d s_types)) ≡ passed tt
  pub decodes : decode (section d s_program) (length nodes / node_numbers) (length hashes) ≡ passed t
  pub tables : check_tables (tables_of d t) ≡ passed tt

pub dossier_parts : (d nodes hashes : List ℕ) (t : NodeTable) → check_dossier d nodes hashes ≡ passed t → Parts d nodes hashes t
unfolding check_dossier
dossier_parts d nodes hashes t e =
    let reads : Check NodeTable = decode (section d s_program) (length nodes / node_numbers) (length hashes) in
    let a = both_passed (check_header d)
    (λ header. check_types (type_records (section d s_types)) >>= λ types. reads >>= λ t. check_tables (tables_of d t) >>= λ tables. passed t) t e in
    let b = both_passed (check_types (type_records (section d s_types))) (λ types. reads >>= λ t. check_tables (tables_of d t) >>= λ tables. passed t) t a.2 in
    let c = both_passed reads (λ t. check_tables (tables_of d t) >>= λ tables. passed t) t b.2 in
    let f = both_passed (check_tables (tables_of d c.0)) (λ tables. passed c.0) t c.2 in
    let q : c.0 ≡ t = cc in
    record {
      header = a.1;
      types = b.1;
      decodes = c.1 ∙ ap (λ (u : NodeTable). passed u) q;
      tables = subst (λ (u : NodeTable). check_tables (tables_of d u) ≡ passed tt) q f.1;
    }

-- its own tables pass as lent ones, and are those of the dossier
module _ (d nodes hashes : List ℕ) (t : NodeTable) (passes : check_dossier d nodes hashes ≡ passed t) where
  pub own_stage : hash_stage (section d s_types) (node_numbers_of t.records) (section d s_arrows) (section d s_program) t.hashes (section d s_hashes) ≡ passed tt
  own_stage =
      let p = dossier_parts d nodes hashes t passes in
      stage_hashes d (length nodes / node_numbers) (length hashes) t p.header p.types p.decodes ∙ p.tables

  pub own_tables : tables_of d t
      ≡ tables_lent (section d s_types) (node_numbers_of t.records) (section d s_arrows) (section d s_program) t.hashes (section d s_hashes)
      (section d s_witness) (count d s_witness) (section d s_input) (count d s_input)
  unfolding tables_of
  own_tables =
      let p = dossier_parts d nodes hashes t passes in
      sym (lent_own d (length nodes / node_numbers) (length hashes) t p.header p.types p.decodes (section d s_hashes)
      (section d s_witness) (count d s_witness) (section d s_input) (count d s_input))
