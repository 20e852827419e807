-- The whole job, from a dossier's bytes: where all checks pass, what is said and what is left in the answer store is told by the meaning of
-- the dossier's program. And the checks look at no more of the five stores than their sizes (what follows of old contents: OldStores).
use Rattle.std.specs.Prelude.{◌≡◌, List, [], ◌++◌, ℕ, ◌-◌, ◌/◌, ◌^◌, ◌<◌, length}
use Rattle.std.proofs.Math.Path.{refl, sym, ap, subst}
use Rattle.std.proofs.Common.{ap₂, ◌∙◌, arith}
use Rattle.std.proofs.Math.Decide.{dec_lt}
use Rattle.std.proofs.Math.ListN.{get_or-eq_default}
use Rattle.limits.specs.Limits.{node_numbers}
use Rattle.refusal.specs.declared.Refusal.{Refusal}
use Rattle.std.specs.Prelude.{Err as Refused}
use Rattle.report.specs.Bits.{Bit, bytes_of}
use Rattle.report.specs.Values.{HasTy, compact}
use Rattle.report.specs.Nodes.{Node, word}
use Rattle.report.specs.Canonical.{children}
use Rattle.report.specs.Meaning.{done, failed, pruned, stuck, Means, eval}
use Rattle.scope.specs.Check.{Check, passed, refused, ◌>>=◌}
use Rattle.scope.specs.Numbers.{zeros, bytes_for, stream_of}
use Rattle.scope.specs.Header.{check_header, section, s_types, s_program}
use Rattle.scope.specs.Types.{type_records, check_types}
use Rattle.scope.specs.Nodes.{node_at, no_node, nodes_of}
use Rattle.scope.specs.Reading.{NodeTable}
use Rattle.scope.specs.Walk.{check_walk}
use Rattle.scope.specs.Closing.{decode}
use Rattle.scope.specs.Program.{whole, whole_source}
use Rattle.scope.specs.Bounds.{whole_cells, whole_frames}
use Rattle.scope.specs.Stores.{check_stores}
use Rattle.scope.specs.Run.{Tables, Ready, check_tables, check_ready, tables_of, check_dossier, left_with, run_tables, cells_of, cleared, ended_with, run}
use Rattle.common.specs.Checks.{clash, both_passed}
use Rattle.common.specs.Bits.{AllBelow}
use Rattle.exactness.specs.Nodes.{ContentFits, WellFormed, fit_at}
use Rattle.exactness.proofs.Canonical.{canonical_walk}
use Rattle.exactness.proofs.Decoding.{decoded_is_program, decoded_nodes}
use Rattle.theory.specs.Sound.{Sound}
use Rattle.theory.specs.Answers.{told, output}
use Rattle.theory.specs.Programs.{run_of}
use Rattle.theory.specs.Left.{CellsLeft, output_bytes}
use Rattle.theory.proofs.Left.{written_bytes}
use Rattle.theory.proofs.Accepted.{Checked, ready_sound, ready_input, tables_say, tables_output, tables_frames, tables_cells}

-- nodes that stand above their children, with words of the right length, and that pass the walk
abbrev pub Stand : List Node → Type 0
Stand ns = (0 < length ns) × ((i : ℕ) → i < length ns → AllBelow i (children (node_at ns i)))
    × ((i n : ℕ) (bits : List Bit) → node_at ns i ≡ word n bits → length bits ≡ 2 ^ (n - 1)) × (check_walk ns ≡ passed tt)

-- words of a well formed table have their bits
words_whole : (ns : List Node) → WellFormed ns → (i n : ℕ) (bits : List Bit) → node_at ns i ≡ word n bits → length bits ≡ 2 ^ (n - 1)
unfolding node_at
words_whole ns h i n bits e = elim (dec_lt i (length ns)) [
  | yes l ↦ (subst ContentFits e (fit_at ns i h.fit l).content).2
  | no m ↦ let f : node_at ns i ≡ no_node = get_or-eq_default ns no_node {n = i} (omega arith) in clash (cc)
]

-- so are the nodes that a decoded program stands for
pub decoded : (program : List ℕ) (records bytes : ℕ) (t : NodeTable) → decode program records bytes ≡ passed t
    → Stand (nodes_of (stream_of program) t.hashes t.records)
decoded program records bytes t e =
    let p = decoded_is_program program records bytes t e in
    let ns : List Node = p.0 in
    let same : nodes_of (stream_of program) t.hashes t.records ≡ ns =
    ap (λ (u : NodeTable). nodes_of (stream_of program) u.hashes u.records) p.2 ∙ decoded_nodes program records bytes ns p.1 in
    subst Stand (sym same) (
      p.1.formed.some,
      (λ i l. (fit_at ns i p.1.formed.fit l).below),
      words_whole ns p.1.formed,
      canonical_walk ns p.1.canonical p.1.hidden_places,
    )

-- the bytes of a meaning's value
unfoldable pub meant_bytes : Means → List ℕ
unfolding compact bytes_of
meant_bytes (done w) = bytes_of (bytes_for (length (compact w))) (compact w ++ zeros 7)
meant_bytes (failed p y) = []
meant_bytes (pruned p y) = []
meant_bytes stuck = []

meant_bytes_lem : (o : Means) (answer : List ℕ) → output_bytes (told o) (output o answer) ≡ meant_bytes o
unfolding meant_bytes output_bytes told output
meant_bytes_lem (done w) answer = written_bytes (compact w) answer
meant_bytes_lem (failed p y) answer = refl
meant_bytes_lem (pruned p y) answer = refl
meant_bytes_lem stuck answer = refl

module _ (d nodes hashes : List ℕ) (t : NodeTable) (e : check_dossier d nodes hashes ≡ passed t) where
  -- A DOSSIER THAT PASSED 1 TO 13 HOLDS CHECKED TABLES
  pub dossier_checked : Checked (tables_of d t)
  unfolding check_dossier tables_of
  dossier_checked =
      let tables : NodeTable → Check (Unit {0}) = λ t. check_tables (tables_of d t) in
      let read : Check NodeTable = decode (section d s_program) (length nodes / node_numbers) (length hashes) in
      let a = both_passed (check_header d)
      (λ header. check_types (type_records (section d s_types)) >>= λ types. read >>= λ t. tables t >>= λ passing. passed t) t e in
      let b = both_passed (check_types (type_records (section d s_types))) (λ types. read >>= λ t. tables t >>= λ passing. passed t) t a.2 in
      let c = both_passed read (λ t. tables t >>= λ passing. passed t) t b.2 in
      let f = both_passed (tables c.0) (λ passing. passed c.0) t c.2 in
      let q : c.0 ≡ t = cc in
      let r = decoded (section d s_program) (length nodes / node_numbers) (length hashes) t (subst (λ (u : NodeTable). read ≡ passed u) q c.1) in
      record {
        types = b.1;
        some = r.0;
        below = r.1;
        words = r.2;
        walk = r.3;
        tables = subst (λ (u : NodeTable). tables u ≡ passed tt) q f.1;
      }

  module _ (cells frames answer : List ℕ) (R : Ready) (p : check_ready (tables_of d t) cells frames answer ≡ passed R) where
    -- its program is sound, and its input is a value of the program's source
    pub job_sound : Sound R.program
    job_sound = ready_sound (tables_of d t) dossier_checked cells frames answer R p

    -- its input is a value of the source
    pub job_input : HasTy R.input (whole_source R.program)
    job_input = ready_input (tables_of d t) dossier_checked cells frames answer R p

    -- THE JOB SAYS WHAT THE PROGRAM MEANS, and leaves that value's bits in the answer store
    pub job_says : (run d nodes hashes cells frames answer).says ≡ told (eval (whole R.program) R.input)
    unfolding run ended_with
    job_says = rw (e, run) (tables_say (tables_of d t) dossier_checked cells frames answer R p)

    -- the answer store
    pub job_output : (run d nodes hashes cells frames answer).answer ≡ output (eval (whole R.program) R.input) answer
    unfolding run ended_with
    job_output = rw (e, run) (tables_output (tables_of d t) dossier_checked cells frames answer R p)

    -- the frame store: what the bound covers is zero, the rest as it was
    pub job_frames : (run d nodes hashes cells frames answer).frames ≡ cleared (whole_frames R.program) frames
    unfolding run ended_with
    job_frames = rw (e, run) (tables_frames (tables_of d t) dossier_checked cells frames answer R p)

    -- the cells: those of the machine's last state, from the bound on as they were
    pub job_cells : CellsLeft (run_of R.program R.input (cells_of cells)) (whole_cells R.program) cells (run d nodes hashes cells frames answer).cells
    unfolding run ended_with
    job_cells = rw (e, run) (tables_cells (tables_of d t) dossier_checked cells frames answer R p)

    -- the bytes that hold the output are those of the meaning's value alone
    pub job_bytes : output_bytes (run d nodes hashes cells frames answer).says (run d nodes hashes cells frames answer).answer
        ≡ meant_bytes (eval (whole R.program) R.input)
    job_bytes = ap₂ output_bytes job_says job_output ∙ meant_bytes_lem (eval (whole R.program) R.input) answer

-- a dossier that is refused by 1 to 13, or by 14 to 17, is told so
pub job_refused : (d nodes hashes cells frames answer : List ℕ) (r : Refusal) → check_dossier d nodes hashes ≡ refused r
    → (run d nodes hashes cells frames answer).says ≡ Refused r
unfolding run ended_with
job_refused d nodes hashes cells frames answer r e = rw (e, run)

-- refused by 14 to 17
pub job_unready : (d nodes hashes cells frames answer : List ℕ) (t : NodeTable) (r : Refusal) → check_dossier d nodes hashes ≡ passed t
    → check_ready (tables_of d t) cells frames answer ≡ refused r → (run d nodes hashes cells frames answer).says ≡ Refused r
unfolding run ended_with run_tables left_with
job_unready d nodes hashes cells frames answer t r e p = rw (e, run) (rw (p, run_tables))

-- the same dossier with stores of the same sizes
module _ (d nodes nodes' hashes hashes' cells cells' frames frames' answer answer' : List ℕ)
    (n : length nodes ≡ length nodes') (h : length hashes ≡ length hashes')
    (c : length cells ≡ length cells') (f : length frames ≡ length frames') (a : length answer ≡ length answer') where
  -- the checks look at the sizes alone
  pub same_dossier : check_dossier d nodes hashes ≡ check_dossier d nodes' hashes'
  unfolding check_dossier
  same_dossier = rw (n, h)

  -- also those of the stores
  pub same_ready : (T : Tables) → check_ready T cells frames answer ≡ check_ready T cells' frames' answer'
  unfolding check_ready check_stores
  same_ready T = rw (c, f, a)
