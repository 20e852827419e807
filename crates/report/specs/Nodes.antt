-- A program as the report codes it: a table of nodes, each with the indices of its children, told by distances.
-- `disconnect1` is the disconnect that has one child; jets are left out.
use Rattle.std.specs.Prelude.{List, [], ◌∷◌, ◌++◌, ℕ, suc, ◌-◌, length}
use Rattle.report.specs.Bits.{Bit, bits_of}
use Rattle.report.specs.Naturals.{code_natural}

-- a node: children are indices of earlier nodes, `fail` holds 64 bytes, `hidden` 32, `word` its number n and 2 ^ (n - 1) bits
pub data Node : Type 0 where
  comp case pair disconnect : (left right : ℕ) → Node
  injl injr take drop disconnect1 : (child : ℕ) → Node
  iden unit witness : Node
  fail hidden : (bytes : List ℕ) → Node
  word : (n : ℕ) → (bits : List Bit) → Node

-- the code of node i
unfoldable pub code_node : (i : ℕ) → Node → List Bit
unfolding bits_of
code_node i (comp a b) = 0 ∷ 0 ∷ 0 ∷ 0 ∷ 0 ∷ (code_natural (i - a) ++ code_natural (i - b))
code_node i (case a b) = 0 ∷ 0 ∷ 0 ∷ 0 ∷ 1 ∷ (code_natural (i - a) ++ code_natural (i - b))
code_node i (pair a b) = 0 ∷ 0 ∷ 0 ∷ 1 ∷ 0 ∷ (code_natural (i - a) ++ code_natural (i - b))
code_node i (disconnect a b) = 0 ∷ 0 ∷ 0 ∷ 1 ∷ 1 ∷ (code_natural (i - a) ++ code_natural (i - b))
code_node i (injl a) = 0 ∷ 0 ∷ 1 ∷ 0 ∷ 0 ∷ code_natural (i - a)
code_node i (injr a) = 0 ∷ 0 ∷ 1 ∷ 0 ∷ 1 ∷ code_natural (i - a)
code_node i (take a) = 0 ∷ 0 ∷ 1 ∷ 1 ∷ 0 ∷ code_natural (i - a)
code_node i (drop a) = 0 ∷ 0 ∷ 1 ∷ 1 ∷ 1 ∷ code_natural (i - a)
code_node i iden = 0 ∷ 1 ∷ 0 ∷ 0 ∷ 0 ∷ []
code_node i unit = 0 ∷ 1 ∷ 0 ∷ 0 ∷ 1 ∷ []
code_node i (fail bytes) = 0 ∷ 1 ∷ 0 ∷ 1 ∷ 0 ∷ bits_of bytes
code_node i (disconnect1 a) = 0 ∷ 1 ∷ 0 ∷ 1 ∷ 1 ∷ code_natural (i - a)
code_node i (hidden bytes) = 0 ∷ 1 ∷ 1 ∷ 0 ∷ bits_of bytes
code_node i witness = 0 ∷ 1 ∷ 1 ∷ 1 ∷ []
code_node i (word n bits) = 1 ∷ 0 ∷ (code_natural n ++ bits)

-- the nodes from node i on
unfoldable pub code_nodes : (i : ℕ) → List Node → List Bit
unfolding code_node
code_nodes i [] = []
code_nodes i (n ∷ ns) = code_node i n ++ code_nodes (suc i) ns

-- a program: the count of its nodes, then the nodes
unfoldable pub code_program : List Node → List Bit
unfolding code_nodes
code_program ns = code_natural (length ns) ++ code_nodes 0 ns
