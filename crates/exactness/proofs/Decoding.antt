-- Decoding a program passes exactly if its stream is the report's code of a well-formed, canonical table of nodes whose hidden nodes stand
-- where they may, closed by fewer than eight zeros, and the table fits the stores. What is left in the stores is then the layout of that
-- table, which stands for just those nodes.
use Rattle.std.specs.Prelude.{◌≡◌, Bool, true, false, leb}
use Rattle.std.proofs.Math.Path.{refl, sym, ap, ap₂}
use Rattle.std.proofs.Common.{◌∙◌, subst, zero-add, drop-drop}
use mathlib.Core.List.{List, [], ◌∷◌, ◌++◌, append_assoc, append-nil}
use Prim.Native.Nat.{ℕ, zero, suc, ◌+◌, ◌-◌, ◌^◌, ◌≤◌}
use native.Mathlib.Omega.{arith}
use Rattle.std.proofs.Math.Dec.{ltb}
use Rattle.std.proofs.Math.ListN.{length, take as take_l, drop as drop_l, length-append, length-drop}
use Rattle.std.proofs.lemmas.List.{length-replicate}
use Rattle.std.proofs.Math.Seq.{take_at, drop_at}
use borrow.Author.Tests.{leb-true, le-leb, ltb-true, lt-ltb}
use Rattle.limits.specs.Limits.{dossier_bytes}
use Rattle.refusal.specs.declared.Refusal.TheVariants.{Header, Closing}
use Rattle.report.specs.Bits.{Bit, bits_of}
use Rattle.report.specs.Naturals.{code_natural}
use Rattle.report.specs.Nodes.{Node, comp, case, pair, disconnect, injl, injr, take, drop, disconnect1, iden, unit, witness, fail, hidden, word}
use Rattle.report.specs.Nodes.{code_node, code_nodes, code_program}
use Rattle.scope.specs.Check.{Check, passed, ◌>>=◌, require}
use Rattle.scope.specs.Numbers.{zeros, stream_of, all_zero}
use Rattle.scope.specs.Nodes.{NodeRecord, kind_of, node_of, nodes_of}
use Rattle.scope.specs.Reading.{NodeTable, read_nodes}
use Rattle.scope.specs.Walk.{check_walk}
use Rattle.scope.specs.Closing.{closes, decode}
use Rattle.common.specs.Checks.{clash, every_all, all_every, require_holds, holds_require, both_passed, then_passes}
use Rattle.common.specs.Bits.{AreBits, are_bits}
use Rattle.exactness.proofs.Naturals.{code_some}
use Rattle.exactness.specs.Nodes.{NodeFits, NodesFit, stored_by, record_of, records_from, hashes_of, layout}
use Rattle.exactness.proofs.Stream.{Stands, stands_split, front_stands}
use Rattle.exactness.specs.Programs.{Closed, IsProgram}
use Rattle.exactness.proofs.Canonical.{walk_canonical, canonical_walk}
use Rattle.exactness.proofs.Reading.{IsTable, read_is_table, table_is_read}

module _ (bits : List Bit) (hashes : List ℕ) where
  -- the node that a record stands for
  abbrev node_of_record : NodeRecord → Node
  node_of_record r = node_of bits hashes (kind_of r.kind) r.first r.second

  stored_there : (held k : ℕ) (bytes more : List ℕ) → length bytes ≡ k → drop_l held hashes ≡ bytes ++ more → take_l k (drop_l held hashes) ≡ bytes
  stored_there held k bytes more n e = ap (take_l k) e ∙ take_at bytes more k n

  -- a node's record stands for that node
  record_node : (i held at p : ℕ) (n : Node) (more : List ℕ) → NodeFits i n → Stands bits at p (code_node i n) → drop_l held hashes ≡ stored_by n ++ more
      → node_of_record (record_of held at n) ≡ n
  unfolding node_of kind_of record_of stored_by code_node
  record_node i held at p (comp a b) more f h e = refl
  record_node i held at p (case a b) more f h e = refl
  record_node i held at p (pair a b) more f h e = refl
  record_node i held at p (disconnect a b) more f h e = refl
  record_node i held at p (injl a) more f h e = refl
  record_node i held at p (injr a) more f h e = refl
  record_node i held at p (take a) more f h e = refl
  record_node i held at p (drop a) more f h e = refl
  record_node i held at p (disconnect1 a) more f h e = refl
  record_node i held at p iden more f h e = refl
  record_node i held at p unit more f h e = refl
  record_node i held at p witness more f h e = refl
  record_node i held at p (fail bytes) more f h e = ap fail (stored_there held _ bytes more f.content.0 e)
  record_node i held at p (hidden bytes) more f h e = ap hidden (stored_there held _ bytes more f.content.0 e)
  record_node i held at p (word n bs) more f h e =
      let s = stands_split bits at p (1 ∷ 0 ∷ code_natural n) bs h in
      let from : at + length (1 ∷ 0 ∷ code_natural n) ≡ at + 2 + length (code_natural n) = omega arith in
      ap (word n)
      (ap (λ (k : ℕ). take_l (2 ^ (n - 1)) (drop_l k bits)) (sym from) ∙ ap (take_l (2 ^ (n - 1))) s.1.bits_there
      ∙ take_at bs _ (2 ^ (n - 1)) f.content.2)

  -- the records of a table stand for its nodes
  records_nodes : (i held at p : ℕ) (ns : List Node) (more : List ℕ) → NodesFit i ns → Stands bits at p (code_nodes i ns)
      → drop_l held hashes ≡ hashes_of ns ++ more
      → nodes_of bits hashes (records_from i held at ns) ≡ ns
  unfolding nodes_of records_from hashes_of code_nodes
  records_nodes i held at p [] more f h e = refl
  records_nodes i held at p (n ∷ ns) more f h e =
      let s = stands_split bits at p (code_node i n) (code_nodes (suc i) ns) h in
      let stored : drop_l held hashes ≡ stored_by n ++ (hashes_of ns ++ more) = e ∙ append_assoc (stored_by n) (hashes_of ns) more in
      let later : drop_l (held + length (stored_by n)) hashes ≡ hashes_of ns ++ more =
      sym (drop-drop (length (stored_by n)) held hashes) ∙ ap (drop_l (length (stored_by n))) stored
      ∙ drop_at (stored_by n) (hashes_of ns ++ more) (length (stored_by n)) refl in
      ap₂ ◌∷◌ (record_node i held at (at + length (code_node i n)) n (hashes_of ns ++ more) f.0 s.0 stored)
      (records_nodes (suc i) (held + length (stored_by n)) (at + length (code_node i n)) p ns more f.1 s.1 later)

-- the layout of a table stands for its nodes
pub layout_nodes : (bits : List Bit) (records bytes : ℕ) (ns : List Node) → IsTable bits records bytes ns
    → nodes_of bits (layout ns).hashes (layout ns).records ≡ ns
unfolding layout code_program
layout_nodes bits records bytes ns h =
    let s = stands_split bits 0 (length (code_program ns)) (code_natural (length ns)) (code_nodes 0 ns) h.stands in
    let front : Stands bits (length (code_natural (length ns))) (length (code_program ns)) (code_nodes 0 ns) =
    subst (λ (k : ℕ). Stands bits k (length (code_program ns)) (code_nodes 0 ns)) (zero-add (length (code_natural (length ns)))) s.1 in
    records_nodes bits (hashes_of ns) 0 0 (length (code_natural (length ns))) (length (code_program ns)) ns [] h.formed.fit front
    (sym (append-nil (hashes_of ns)))

-- a list of zeros
zeros_all : (n : ℕ) → all_zero (zeros n) ≡ true
unfolding all_zero
zeros_all zero = refl
zeros_all (suc n) = zeros_all n

all_zeros : (l : List Bit) → all_zero l ≡ true → l ≡ zeros (length l)
unfolding all_zero
all_zeros [] e = refl
all_zeros (zero ∷ l) e = ap (λ (r : List Bit). 0 ∷ r) (all_zeros l e)
all_zeros (suc b ∷ l) e = clash (cc)

module _ (bits x : List Bit) where
  -- the closing test holds after a part exactly if the bits end with it
  pub closed_stands : Stands bits 0 (length x) x → closes bits (length x) ≡ true → Closed bits x
  unfolding closes
  closed_stands h e =
      let at : ℕ = length x in
      let p = every_all (leb at (length bits) ∷ ltb (length bits - at) 8 ∷ all_zero (drop_l at bits) ∷ []) e in
      let few = ltb-true (length bits - at) 8 p.1.0 in
      record {
        padding = length (drop_l at bits);
        short = omega (arith, length-drop at bits);
        whole = h.bits_there ∙ ap (λ (r : List Bit). x ++ r) (all_zeros (drop_l at bits) p.1.1.0);
      }

  pub closed_closes : Closed bits x → closes bits (length x) ≡ true
  unfolding closes
  closed_closes c =
      let at : ℕ = length x in
      let rest : drop_l at bits ≡ zeros c.padding = ap (drop_l at) c.whole ∙ drop_at x (zeros c.padding) at refl in
      let size : length bits ≡ at + c.padding =
      ap length c.whole ∙ length-append x (zeros c.padding) ∙ ap (λ (k : ℕ). at + k) (length-replicate {A = ℕ} c.padding 0) in
      let few = c.short in
      all_every (leb at (length bits) ∷ ltb (length bits - at) 8 ∷ all_zero (drop_l at bits) ∷ []) (
        le-leb at (length bits) (omega arith),
        (lt-ltb (length bits - at) 8 (omega arith), (ap all_zero rest ∙ zeros_all c.padding, tt)),
      )

  stands_closed : 1 ≤ length x → Closed bits x → Stands bits 0 (length x) x
  stands_closed some c = subst (λ (k : ℕ). Stands bits 0 k x) (zero-add (length x)) (front_stands bits 0 x (zeros c.padding) some c.whole)

-- the stream of a program is bits
pub stream_bits : (program : List ℕ) → AreBits (stream_of program)
unfolding stream_of
stream_bits program = go (ltb dossier_bytes (length program))
  where
    go : (b : Bool) → AreBits (elim b [ true ↦ [] | false ↦ bits_of program ])
    go true = tt
    go false = are_bits program

-- no program's code is empty
program_some : (ns : List Node) → 1 ≤ length (code_program ns)
unfolding code_program
program_some ns = omega (arith, length-append (code_natural (length ns)) (code_nodes 0 ns), code_some (length ns))

module _ (program : List ℕ) (records bytes : ℕ) where
  -- its table stands at the front of its stream
  pub program_table : (ns : List Node) → IsProgram program records bytes ns → IsTable (stream_of program) records bytes ns
  program_table ns h = record {
    formed = h.formed;
    stands = stands_closed (stream_of program) (code_program ns) (program_some ns) h.coded;
    records_fit = h.records_fit;
    bytes_fit = h.bytes_fit;
  }

  -- the decoded records stand for the nodes of the table
  pub decoded_nodes : (ns : List Node) → IsProgram program records bytes ns → nodes_of (stream_of program) (layout ns).hashes (layout ns).records ≡ ns
  decoded_nodes ns h = layout_nodes (stream_of program) records bytes ns (program_table ns h)

  -- what follows once all nodes are read
  closing : NodeTable → Check NodeTable
  closing t = require (closes (stream_of program) t.end) (Closing (length t.records)) >>= λ closed. passed t

  after_reading : NodeTable → Check NodeTable
  after_reading t = check_walk (nodes_of (stream_of program) t.hashes t.records) >>= λ walked. closing t

  table_program : (ns : List Node) → length program ≤ dossier_bytes → IsTable (stream_of program) records bytes ns
      → check_walk (nodes_of (stream_of program) (layout ns).hashes (layout ns).records) ≡ passed tt
      → closes (stream_of program) (layout ns).end ≡ true
      → IsProgram program records bytes ns
  unfolding layout
  table_program ns l h w c =
      let walked = walk_canonical ns h.formed.some (ap check_walk (sym (layout_nodes (stream_of program) records bytes ns h)) ∙ w) in
      record {
        within = l;
        formed = h.formed;
        coded = closed_stands (stream_of program) (code_program ns) h.stands c;
        canonical = walked.0;
        hidden_places = walked.1;
        records_fit = h.records_fit;
        bytes_fit = h.bytes_fit;
      }

  read_program : (t u : NodeTable) (ns : List Node) → length program ≤ dossier_bytes → IsTable (stream_of program) records bytes ns
      → u ≡ layout ns → after_reading u ≡ passed t
      → (ns : List Node) × IsProgram program records bytes ns × (t ≡ layout ns)
  unfolding after_reading closing
  read_program t u ns l h q e =
      let w = both_passed (check_walk (nodes_of (stream_of program) u.hashes u.records)) (λ walked. closing u) t e in
      let c = both_passed (require (closes (stream_of program) u.end) (Closing (length u.records))) (λ closed. passed u) t w.2 in
      let same : u ≡ t = (let e = c.2 in cc) in
      let closed = require_holds (closes (stream_of program) u.end) (Closing (length u.records)) c.0 c.1 in (
        ns,
        table_program ns l h (ap (λ (t : NodeTable). check_walk (nodes_of (stream_of program) t.hashes t.records)) (sym q) ∙ w.1)
            (ap (λ (t : NodeTable). closes (stream_of program) t.end) (sym q) ∙ closed),
        sym same ∙ q,
      )

  -- a program that decodes is the code of a table, and what is decoded is its layout
  pub decoded_is_program : (t : NodeTable) → decode program records bytes ≡ passed t
      → (ns : List Node) × IsProgram program records bytes ns × (t ≡ layout ns)
  unfolding decode after_reading closing
  decoded_is_program t e =
      let a = both_passed (require (leb (length program) dossier_bytes) (Header 0))
      (λ fits. read_nodes (stream_of program) records bytes >>= after_reading) t e in
      let b = both_passed (read_nodes (stream_of program) records bytes) after_reading t a.2 in
      let r = read_is_table (stream_of program) (stream_bits program) records bytes b.0 b.1 in
      read_program t b.0 r.0 (leb-true (length program) dossier_bytes
      (require_holds (leb (length program) dossier_bytes) (Header 0) a.0 a.1)) r.1 r.2 b.2

  -- and such a program decodes
  pub program_is_decoded : (ns : List Node) → IsProgram program records bytes ns → decode program records bytes ≡ passed (layout ns)
  unfolding decode after_reading closing layout
  program_is_decoded ns h =
      let t : NodeTable = layout ns in
      then_passes (require (leb (length program) dossier_bytes) (Header 0)) (λ fits. read_nodes (stream_of program) records bytes >>= after_reading) tt
      (holds_require (leb (length program) dossier_bytes) (Header 0) (le-leb (length program) dossier_bytes h.within))
      ∙ then_passes (read_nodes (stream_of program) records bytes) after_reading t
      (table_is_read (stream_of program) (stream_bits program) records bytes ns (program_table ns h))
      ∙ then_passes (check_walk (nodes_of (stream_of program) t.hashes t.records)) (λ walked. closing t) tt
      (ap check_walk (decoded_nodes ns h) ∙ canonical_walk ns h.canonical h.hidden_places)
      ∙ then_passes (require (closes (stream_of program) t.end) (Closing (length t.records))) (λ closed. passed t) tt
      (holds_require (closes (stream_of program) t.end) (Closing (length t.records)) (closed_closes (stream_of program) (code_program ns) h.coded))

  -- a program is the code of one table at most
  pub one_table : (ns ms : List Node) → IsProgram program records bytes ns → IsProgram program records bytes ms → ns ≡ ms
  one_table ns ms h k =
      let same : layout ns ≡ layout ms = (let e = program_is_decoded ns h in let f = program_is_decoded ms k in cc) in
      sym (decoded_nodes ns h) ∙ ap (λ (t : NodeTable). nodes_of (stream_of program) t.hashes t.records) same ∙ decoded_nodes ms k
