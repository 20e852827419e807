-- Reading all nodes passes exactly if the code of a well-formed table of nodes stands at the stream's front and the table fits the stores.
-- What is read is then the layout of that table.
use Rattle.std.specs.Prelude.{◌≡◌, Bool}
use Rattle.std.proofs.Math.Path.{refl, ap, ap₂, subst}
use Rattle.std.proofs.Common.{sym, ◌∙◌, zero-add, arith}
use Rattle.std.proofs.Math.Bool.{true, false}
use mathlib.Core.List.{List, [], ◌∷◌, ◌++◌, append_assoc, append-nil}
use Prim.Native.Nat.{ℕ, zero, suc, ◌+◌, ◌≤◌}
use Rattle.std.proofs.Math.Dec.{leb}
use Rattle.std.proofs.Math.ListN.{length, length-append}
use borrow.Author.Tests.{leb-true, le-leb}
use Rattle.limits.specs.Limits.{node_count}
use Rattle.refusal.specs.declared.Refusal.TheVariants.{StoreShort}
use Rattle.report.specs.Bits.{Bit}
use Rattle.report.specs.Naturals.{code_natural}
use Rattle.report.specs.Nodes.{Node, code_node, code_nodes, code_program}
use Rattle.scope.specs.Check.{passed, refused}
use Rattle.scope.specs.Nodes.{NodeRecord}
use Rattle.scope.specs.Reading.{refusal_at, hashes_short, Got, got, fault, Reader, give, stop, Item, natural_up_to, node, node_in, NodeTable, nodes_from, read_nodes}
use Rattle.common.specs.Checks.{clash}
use Rattle.common.specs.Bits.{AreBits}
use Rattle.exactness.specs.Naturals.{natural_bound}
use Rattle.exactness.specs.Nodes.{NodesFit, WellFormed, stored_by, record_of, records_from, hashes_of, layout}
use Rattle.exactness.proofs.Stream.{both_got, then_reads, Stands, stands_none, stands_then, stands_split, natural_stands, stands_natural}
use Rattle.exactness.proofs.Coding.{item_of, IsNode, node_is_code, code_is_node}

abbrev table_with : List NodeRecord → List ℕ → (end : ℕ) → NodeTable
table_with records hashes end = record { records = records; hashes = hashes; end = end }

module _ (bits : List Bit) (are : AreBits bits) (room : ℕ) where
  -- a node that fits the hash store
  room_left : (i held at : ℕ) (x : Item) (p : ℕ) → node_in bits room i held at ≡ got x p
      → (node bits i held at ≡ got x p) × (held + length x.stored ≤ room)
  unfolding node_in give stop
  room_left i held at x p e =
      let r = both_got (node bits i held) (λ x. elim (leb (held + length x.stored) room) [ true ↦ give x | false ↦ stop hashes_short ]) at x p e in
      go r.0 r.1 (leb (held + length r.0.stored) room) refl r.2 r.3
    where
      go : (y : Item) (q : ℕ) (b : Bool) → leb (held + length y.stored) room ≡ b → node bits i held at ≡ got y q
          → (elim b as (λ b. Reader Item) [ true ↦ give y | false ↦ stop hashes_short ]) q ≡ got x p
          → (node bits i held at ≡ got x p) × (held + length x.stored ≤ room)
      go y q true l n e =
          let same : y ≡ x = cc in
          let to : q ≡ p = cc in
          (n ∙ ap₂ got same to, leb-true (held + length x.stored) room (ap (λ (z : Item). leb (held + length z.stored) room) (sym same) ∙ l))
      go y q false l n e = clash (cc)

  left_room : (i held at : ℕ) (x : Item) (p : ℕ) → node bits i held at ≡ got x p → held + length x.stored ≤ room
      → node_in bits room i held at ≡ got x p
  unfolding node_in give stop
  left_room i held at x p e l =
      then_reads (node bits i held) (λ x. elim (leb (held + length x.stored) room) [ true ↦ give x | false ↦ stop hashes_short ]) at x p e
      ∙ rw (le-leb (held + length x.stored) room l)

  -- the table that is left after some nodes, with those before
  abbrev table_after : (i : ℕ) → List NodeRecord → List ℕ → (at p : ℕ) → List Node → NodeTable
  table_after i records hashes at p ns = table_with (records ++ records_from i (length hashes) at ns) (hashes ++ hashes_of ns) p

  -- nodes that stand between two positions, and are read as t
  record AreNodes (k i : ℕ) (records : List NodeRecord) (hashes : List ℕ) (at : ℕ) (t : NodeTable) : Type 0 where
    nodes : List Node
    count : length nodes ≡ k
    fit : NodesFit i nodes
    stand : Stands bits at t.end (code_nodes i nodes)
    held : length hashes + length (hashes_of nodes) ≤ room
    read_as : t ≡ table_after i records hashes at t.end nodes

  -- one node more
  table_more : (i : ℕ) (records : List NodeRecord) (hashes : List ℕ) (at p q : ℕ) (n : Node) (ns : List Node) → p ≡ at + length (code_node i n)
      → table_after (suc i) (records ++ record_of (length hashes) at n ∷ []) (hashes ++ stored_by n) p q ns ≡ table_after i records hashes at q (n ∷ ns)
  unfolding records_from hashes_of
  table_more i records hashes at p q n ns e =
      ap₂ (λ (r : List NodeRecord) (h : List ℕ). table_with r h q)
      (append_assoc records (record_of (length hashes) at n ∷ []) (records_from (suc i) (length (hashes ++ stored_by n)) p ns)
      ∙ ap₂ (λ (h a : ℕ). records ++ record_of (length hashes) at n ∷ records_from (suc i) h a ns) (length-append hashes (stored_by n)) e)
      (append_assoc hashes (stored_by n) (hashes_of ns))

  are_more : (k i : ℕ) (records : List NodeRecord) (hashes : List ℕ) (at p : ℕ) (x : Item) (t : NodeTable) → IsNode bits i (length hashes) at x p
      → AreNodes k (suc i) (records ++ x.node ∷ []) (hashes ++ x.stored) p t → AreNodes (suc k) i records hashes at t
  unfolding code_nodes hashes_of item_of
  are_more k i records hashes at p x t n a =
      let x-stored : x.stored ≡ stored_by n.the = ap (λ (y : Item). y.stored) n.read_as in
      record {
        nodes = n.the ∷ a.nodes;
        count = ap suc a.count;
        fit = (n.fits, a.fit);
        stand = stands_then bits at p t.end (code_node i n.the) (code_nodes (suc i) a.nodes) n.stands a.stand;
        held = omega (arith, a.held, length-append hashes x.stored, ap length x-stored, length-append (stored_by n.the) (hashes_of a.nodes));
        read_as = a.read_as
            ∙ ap (λ (y : Item). table_after (suc i) (records ++ y.node ∷ []) (hashes ++ y.stored) p t.end a.nodes) n.read_as
            ∙ table_more i records hashes at p t.end n.the a.nodes n.stands.ends_at;
      }

  nodes_are_code : (k i : ℕ) (records : List NodeRecord) (hashes : List ℕ) (at : ℕ) (t : NodeTable) → at ≤ length bits → length hashes ≤ room
      → nodes_from bits room k i records hashes at ≡ passed t → AreNodes k i records hashes at t
  unfolding nodes_from code_nodes records_from hashes_of
  nodes_are_code zero i records hashes at t l h e =
      let same : table_with records hashes at ≡ t = cc in
      subst (AreNodes 0 i records hashes at) same (record {
        nodes = [];
        count = refl;
        fit = tt;
        stand = stands_none bits at l;
        held = omega arith;
        read_as = ap₂ (λ (r : List NodeRecord) (h : List ℕ). table_with r h at) (sym (append-nil records)) (sym (append-nil hashes));
      })
  nodes_are_code (suc k) i records hashes at t l h e =
      go (node_in bits room i (length hashes) at) refl (λ x p. nodes_are_code k (suc i) (records ++ x.node ∷ []) (hashes ++ x.stored) p t) e
    where
      go : (g : Got Item) → node_in bits room i (length hashes) at ≡ g
          → ((x : Item) (p : ℕ) → p ≤ length bits → length (hashes ++ x.stored) ≤ room
          → nodes_from bits room k (suc i) (records ++ x.node ∷ []) (hashes ++ x.stored) p ≡ passed t
          → AreNodes k (suc i) (records ++ x.node ∷ []) (hashes ++ x.stored) p t)
          → elim g [
            | got x next ↦ nodes_from bits room k (suc i) (records ++ x.node ∷ []) (hashes ++ x.stored) next
            | fault e ↦ refused (refusal_at i e)
          ] ≡ passed t
          → AreNodes (suc k) i records hashes at t
      go (got x p) q ih e =
          let r = room_left i (length hashes) at x p q in
          let n = node_is_code bits are i (length hashes) at x p r.0 in
          are_more k i records hashes at p x t n (ih x p n.stands.inside (omega (arith, r.1, length-append hashes x.stored)) e)
      go (fault b) q ih e = clash (cc)

  nodes_step : (k i : ℕ) (records : List NodeRecord) (hashes : List ℕ) (at : ℕ) (x : Item) (p : ℕ) → node_in bits room i (length hashes) at ≡ got x p
      → nodes_from bits room (suc k) i records hashes at ≡ nodes_from bits room k (suc i) (records ++ x.node ∷ []) (hashes ++ x.stored) p
  unfolding nodes_from
  nodes_step k i records hashes at x p e =
      ap (λ (g : Got Item). elim g [
        | got x next ↦ nodes_from bits room k (suc i) (records ++ x.node ∷ []) (hashes ++ x.stored) next
        | fault e ↦ refused (refusal_at i e)
      ]) e

  code_is_nodes : (i : ℕ) (ns : List Node) (records : List NodeRecord) (hashes : List ℕ) (at p : ℕ) → i + length ns ≤ natural_bound → NodesFit i ns
      → Stands bits at p (code_nodes i ns) → length hashes + length (hashes_of ns) ≤ room
      → nodes_from bits room (length ns) i records hashes at ≡ passed (table_after i records hashes at p ns)
  unfolding nodes_from code_nodes records_from hashes_of item_of
  code_is_nodes i [] records hashes at p b f h l =
      let to : at ≡ p = omega (arith, h.ends_at) in
      ap passed (ap₂ (λ (r : List NodeRecord) (h : List ℕ). table_with r h at) (sym (append-nil records)) (sym (append-nil hashes)))
      ∙ ap (λ (q : ℕ). passed (table_after i records hashes at q [])) to
  code_is_nodes i (n ∷ ns) records hashes at p b f h l =
      let s = stands_split bits at p (code_node i n) (code_nodes (suc i) ns) h in
      let mid : ℕ = at + length (code_node i n) in
      let x : Item = item_of (length hashes) at n in
      let size : length hashes + length (stored_by n) + length (hashes_of ns) ≤ room = omega (arith, length-append (stored_by n) (hashes_of ns)) in
      nodes_step (length ns) i records hashes at x mid
      (left_room i (length hashes) at x mid (code_is_node bits are i (length hashes) (omega arith) n f.0 at mid s.0) (omega arith))
      ∙ code_is_nodes (suc i) ns (records ++ record_of (length hashes) at n ∷ []) (hashes ++ stored_by n) mid p (omega arith) f.1 s.1
      (omega (arith, length-append hashes (stored_by n)))
      ∙ ap passed (table_more i records hashes at mid p n ns refl)

-- a table of nodes at the front of the stream that fits the stores
pub record IsTable (bits : List Bit) (records bytes : ℕ) (ns : List Node) : Type 0 where
  pub formed : WellFormed ns
  pub stands : Stands bits 0 (length (code_program ns)) (code_program ns)
  pub records_fit : length ns ≤ records
  pub bytes_fit : length (hashes_of ns) ≤ bytes

module _ (bits : List Bit) (are : AreBits bits) (records bytes : ℕ) where
  counted : (n mid : ℕ) (t : NodeTable) → natural_up_to bits node_count 0 ≡ got n mid → n ≤ records → nodes_from bits bytes n 0 [] [] mid ≡ passed t
      → (ns : List Node) × IsTable bits records bytes ns × (t ≡ layout ns)
  unfolding layout code_program
  counted n mid t e l h =
      let c = natural_stands bits are node_count 0 n mid e in
      let a = nodes_are_code bits are bytes n 0 [] [] mid t c.0.inside (omega arith) h in
      let ns : List Node = a.nodes in
      let front : Stands bits 0 mid (code_natural (length ns)) = subst (λ (k : ℕ). Stands bits 0 mid (code_natural k)) (sym a.count) c.0 in
      let whole = stands_then bits 0 mid t.end (code_natural (length ns)) (code_nodes 0 ns) front a.stand in
      let end : t.end ≡ length (code_program ns) = omega (arith, whole.ends_at) in
      let from : mid ≡ length (code_natural (length ns)) = omega (arith, front.ends_at) in (
        ns,
        record {
          formed = record { some = omega (arith, a.count, c.1); most = omega (arith, a.count, c.2); fit = a.fit };
          stands = subst (λ (p : ℕ). Stands bits 0 p (code_program ns)) end whole;
          records_fit = omega (arith, a.count);
          bytes_fit = omega (arith, a.held);
        },
        a.read_as ∙ ap₂ (λ (p q : ℕ). table_with (records_from 0 0 p ns) (hashes_of ns) q) from end,
      )

  -- what is read is the layout of such a table
  pub read_is_table : (t : NodeTable) → read_nodes bits records bytes ≡ passed t → (ns : List Node) × IsTable bits records bytes ns × (t ≡ layout ns)
  unfolding read_nodes
  read_is_table t e = go (natural_up_to bits node_count 0) refl e
    where
      fits : (n mid : ℕ) → natural_up_to bits node_count 0 ≡ got n mid → (b : Bool) → leb n records ≡ b
          → elim b [ true ↦ nodes_from bits bytes n 0 [] [] mid | false ↦ refused (StoreShort 3) ] ≡ passed t
          → (ns : List Node) × IsTable bits records bytes ns × (t ≡ layout ns)
      fits n mid q true l e = counted n mid t q (leb-true n records l) e
      fits n mid q false l e = clash (cc)

      go : (g : Got ℕ) → natural_up_to bits node_count 0 ≡ g
          → elim g [
            | got n next ↦ elim (leb n records) [ true ↦ nodes_from bits bytes n 0 [] [] next | false ↦ refused (StoreShort 3) ]
            | fault e ↦ refused (refusal_at 0 e)
          ] ≡ passed t
          → (ns : List Node) × IsTable bits records bytes ns × (t ≡ layout ns)
      go (got n mid) q e = fits n mid q (leb n records) refl e
      go (fault b) q e = clash (cc)

  -- and such a table is read
  pub table_is_read : (ns : List Node) → IsTable bits records bytes ns → read_nodes bits records bytes ≡ passed (layout ns)
  unfolding read_nodes layout code_program
  table_is_read ns h =
      let s = stands_split bits 0 (length (code_program ns)) (code_natural (length ns)) (code_nodes 0 ns) h.stands in
      let mid : ℕ = 0 + length (code_natural (length ns)) in
      let count : natural_up_to bits node_count 0 ≡ got (length ns) mid =
      stands_natural bits are node_count 0 (length ns) mid (omega arith) h.formed.some h.formed.most s.0 in
      let all = code_is_nodes bits are bytes 0 ns [] [] mid (length (code_program ns)) (omega (arith, h.formed.most)) h.formed.fit
      s.1 (omega (arith, h.bytes_fit)) in
      ap (λ (g : Got ℕ). elim g [
        | got n next ↦ elim (leb n records) [ true ↦ nodes_from bits bytes n 0 [] [] next | false ↦ refused (StoreShort 3) ]
        | fault e ↦ refused (refusal_at 0 e)
      ]) count
      ∙ rw (le-leb (length ns) records h.records_fit)
      (all ∙ ap (λ (p : ℕ). passed (table_with (records_from 0 0 p ns) (hashes_of ns) (length (code_program ns))))
      (zero-add (length (code_natural (length ns)))))
