-- Which tables of nodes a program may have: children stand before their node, a word of number n has 2 ^ (n - 1) bits,
-- fail and hidden nodes have their bytes; there is a node, and not too many.
-- And how such a table lies in the stores: `layout` gives each node its record, with the bytes and the bits before it counted.
use Rattle.std.specs.Prelude.{◌≡◌, List, [], ◌∷◌, ◌++◌, ℕ, zero, suc, ◌+◌, ◌-◌, ◌^◌, ◌≤◌, ◌<◌, length}
use Rattle.std.proofs.Common.{subst, not-suc-le-zero, arith}
use Rattle.limits.specs.Limits.{node_count, word_most, hash_bytes, fail_bytes}
use Rattle.report.specs.Naturals.{code_natural}
use Rattle.report.specs.Nodes.{Node, comp, case, pair, disconnect, injl, injr, take, drop, disconnect1, iden, unit, witness, fail, hidden, word}
use Rattle.report.specs.Nodes.{code_node, code_program}
use Rattle.report.specs.Canonical.{children}
use Rattle.scope.specs.Nodes.{NodeRecord, node_at}
use Rattle.scope.specs.Reading.{NodeTable}
use Rattle.common.specs.Bits.{AllBelow, AreBits, AreBytes}

-- what a node holds is of the right size
abbrev pub ContentFits : Node → Type 0
ContentFits (comp a b) = Unit {0}
ContentFits (case a b) = Unit {0}
ContentFits (pair a b) = Unit {0}
ContentFits (disconnect a b) = Unit {0}
ContentFits (injl a) = Unit {0}
ContentFits (injr a) = Unit {0}
ContentFits (take a) = Unit {0}
ContentFits (drop a) = Unit {0}
ContentFits (disconnect1 a) = Unit {0}
ContentFits iden = Unit {0}
ContentFits unit = Unit {0}
ContentFits witness = Unit {0}
ContentFits (fail bytes) = (length bytes ≡ fail_bytes) × AreBytes bytes
ContentFits (hidden bytes) = (length bytes ≡ hash_bytes) × AreBytes bytes
ContentFits (word n bits) = (1 ≤ n) × (n ≤ word_most) × (length bits ≡ 2 ^ (n - 1)) × AreBits bits

-- the node may stand at index i
pub record NodeFits (i : ℕ) (n : Node) : Type 0 where
  pub below : AllBelow i (children n)
  pub content : ContentFits n

-- the nodes may stand from index i on
abbrev pub NodesFit : (i : ℕ) → List Node → Type 0
NodesFit i [] = Unit {0}
NodesFit i (n ∷ ns) = NodeFits i n × NodesFit (suc i) ns

-- a table of nodes
pub record WellFormed (ns : List Node) : Type 0 where
  pub some : 1 ≤ length ns
  pub most : length ns ≤ node_count
  pub fit : NodesFit 0 ns

-- each node of a table may stand where it does
fit_from : (a : ℕ) (ns : List Node) (i : ℕ) → NodesFit a ns → i < length ns → NodeFits (a + i) (node_at ns i)
unfolding node_at
fit_from a [] i h l = absurd (not-suc-le-zero l)
fit_from a (n ∷ ns) zero h l = subst (λ (k : ℕ). NodeFits k n) (let e : a ≡ a + 0 = omega arith in e) h.0
fit_from a (n ∷ ns) (suc i) h l =
    subst (λ (k : ℕ). NodeFits k (node_at ns i)) (let e : suc a + i ≡ a + suc i = omega arith in e) (fit_from (suc a) ns i h.1 (omega arith))

pub fit_at : (ns : List Node) (i : ℕ) → NodesFit 0 ns → i < length ns → NodeFits i (node_at ns i)
fit_at ns i h l = subst (λ (k : ℕ). NodeFits k (node_at ns i)) (let e : 0 + i ≡ i = omega arith in e) (fit_from 0 ns i h l)

-- the bytes that a node puts into the hash store
unfoldable pub stored_by : Node → List ℕ
stored_by (comp a b) = []
stored_by (case a b) = []
stored_by (pair a b) = []
stored_by (disconnect a b) = []
stored_by (injl a) = []
stored_by (injr a) = []
stored_by (take a) = []
stored_by (drop a) = []
stored_by (disconnect1 a) = []
stored_by iden = []
stored_by unit = []
stored_by witness = []
stored_by (fail bytes) = bytes
stored_by (hidden bytes) = bytes
stored_by (word n bits) = []

-- a record of these numbers, the fourth of which no node uses
abbrev pub record_with : (kind first second : ℕ) → NodeRecord
record_with kind first second = record { kind = kind; first = first; second = second; third = 0 }

-- the record of a node that begins at a bit position, with so many bytes in the hash store before it
unfoldable pub record_of : (held at : ℕ) → Node → NodeRecord
record_of held at (comp a b) = record_with 0 a b
record_of held at (case a b) = record_with 1 a b
record_of held at (pair a b) = record_with 2 a b
record_of held at (disconnect a b) = record_with 3 a b
record_of held at (injl a) = record_with 4 a 0
record_of held at (injr a) = record_with 5 a 0
record_of held at (take a) = record_with 6 a 0
record_of held at (drop a) = record_with 7 a 0
record_of held at iden = record_with 8 0 0
record_of held at unit = record_with 9 0 0
record_of held at (fail bytes) = record_with 10 held 0
record_of held at (disconnect1 a) = record_with 11 a 0
record_of held at witness = record_with 12 0 0
record_of held at (hidden bytes) = record_with 13 held 0
record_of held at (word n bits) = record_with 14 n (at + 2 + length (code_natural n))

-- the records of the nodes from node i on
unfoldable pub records_from : (i held at : ℕ) → List Node → List NodeRecord
unfolding record_of stored_by code_node
records_from i held at [] = []
records_from i held at (n ∷ ns) = record_of held at n ∷ records_from (suc i) (held + length (stored_by n)) (at + length (code_node i n)) ns

-- the hash store's bytes
unfoldable pub hashes_of : List Node → List ℕ
unfolding stored_by
hashes_of [] = []
hashes_of (n ∷ ns) = stored_by n ++ hashes_of ns

-- a table of nodes as it lies in the stores, and where its code ends
unfoldable pub layout : List Node → NodeTable
unfolding records_from hashes_of code_program
layout ns = record {
  records = records_from 0 0 (length (code_natural (length ns))) ns;
  hashes = hashes_of ns;
  end = length (code_program ns);
}
