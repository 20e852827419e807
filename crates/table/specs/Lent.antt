-- A lent table as the report's nodes, and what a walk reads off one record: its children, whether it is hidden, its hash.
use Rattle.std.specs.Prelude.{Bool, true, false, List, [], ℕ, length, get_or}
use Rattle.report.specs.Nodes.{Node}
use Rattle.report.specs.Canonical.{children}
use Rattle.scope.specs.Nodes.{k_word, kind_of, NodeRecord, node_records, node_of, nodes_of, on_hidden}
use Rattle.scope.specs.Stages.{numbers_rule}

-- the nodes of a lent table; a word's bits play no part in a walk and are left out
abbrev pub lent_nodes : (hashes nodes : List ℕ) → List Node
lent_nodes hashes nodes = nodes_of [] hashes (node_records nodes)

-- the node that a record stands for
abbrev pub node_is : (hashes : List ℕ) → NodeRecord → Node
node_is hashes r = node_of [] hashes (kind_of r.kind) r.first r.second

-- how many children a kind has, and whether it is hidden
unfoldable pub child_count : (kind : ℕ) → ℕ
child_count kind = length (children (node_of [] [] (kind_of kind) 0 0))

unfoldable pub hidden_kind : (kind : ℕ) → Bool
hidden_kind kind = on_hidden (node_of [] [] (kind_of kind) 0 0) (λ hash. true) false

-- the left and the right child of node i, or i itself where there is none
abbrev pub left_of : Node → (i : ℕ) → ℕ
left_of n i = get_or (children n) 0 i

abbrev pub right_of : Node → (i : ℕ) → ℕ
right_of n i = get_or (children n) 1 i

-- a hidden node's hash, and no bytes of any other node
abbrev pub hash_is : Node → List ℕ
hash_is n = on_hidden n (λ hash. hash) []

-- the rule of a word's numbers, where the program has so many bits
abbrev pub word_rule : (bits a b c : ℕ) → Bool
word_rule bits a b c = numbers_rule bits 0 0 k_word a b c
