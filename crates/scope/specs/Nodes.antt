-- The node store: four numbers a node, and the report's node that a record stands for.
-- The numbers are the kind; then children, or a word's n and its first bit position in the program, or the byte position in the hash store; unused ones are 0.
use Rattle.std.specs.Prelude.{List, [], ◌∷◌, ℕ, ◌+◌, ◌*◌, ◌-◌, ◌/◌, ◌^◌, length, get_or, take as take_l, drop as drop_l}
use Rattle.limits.specs.Limits.{node_numbers, hash_bytes, fail_bytes}
use Rattle.report.specs.Bits.{Bit}
use Rattle.report.specs.Nodes.{Node, comp, case, pair, disconnect, injl, injr, take, drop, disconnect1, iden, unit, witness, fail, hidden, word}
use Rattle.scope.specs.Numbers.{tabulate}

-- the kinds of nodes; `k_unknown` is any number above 14
pub data Kind : Type 0 where
  k_comp k_case k_pair k_disconnect k_injl k_injr k_take k_drop k_iden k_unit k_fail k_disconnect1 k_witness k_hidden k_word k_unknown : Kind

-- the kinds have the numbers 0 to 14
unfoldable pub kind_of : ℕ → Kind
kind_of n =
    get_or (k_comp ∷ k_case ∷ k_pair ∷ k_disconnect ∷ k_injl ∷ k_injr ∷ k_take ∷ k_drop ∷ k_iden ∷ k_unit ∷ k_fail ∷ k_disconnect1 ∷ k_witness ∷ k_hidden
    ∷ k_word ∷ []) n k_unknown

-- and back
abbrev pub kind_number : Kind → ℕ
kind_number k_comp = 0
kind_number k_case = 1
kind_number k_pair = 2
kind_number k_disconnect = 3
kind_number k_injl = 4
kind_number k_injr = 5
kind_number k_take = 6
kind_number k_drop = 7
kind_number k_iden = 8
kind_number k_unit = 9
kind_number k_fail = 10
kind_number k_disconnect1 = 11
kind_number k_witness = 12
kind_number k_hidden = 13
kind_number k_word = 14
kind_number k_unknown = 15

pub record NodeRecord : Type 0 where
  pub kind : ℕ
  pub first : ℕ
  pub second : ℕ
  pub third : ℕ

-- record i of a table of four numbers each
unfoldable pub node_record : List ℕ → (i : ℕ) → NodeRecord
node_record numbers i = record {
  kind = get_or numbers (node_numbers * i) 0;
  first = get_or numbers (node_numbers * i + 1) 0;
  second = get_or numbers (node_numbers * i + 2) 0;
  third = get_or numbers (node_numbers * i + 3) 0;
}

unfoldable pub node_records : List ℕ → List NodeRecord
unfolding tabulate node_record
node_records numbers = tabulate (length numbers / node_numbers) (node_record numbers)

-- the records as the numbers of a store
unfoldable pub node_numbers_of : List NodeRecord → List ℕ
node_numbers_of [] = []
node_numbers_of (r ∷ rs) = r.kind ∷ r.first ∷ r.second ∷ r.third ∷ node_numbers_of rs

-- what a record of no kind stands for, and what stands past a table's end: a node that can only fail; it is not hidden and has no children
abbrev pub no_node : Node
no_node = fail []

-- the node of a kind with its first two numbers; words take their bits from the program's, hidden and fail nodes their bytes from the hash
-- store (26 refuses an unknown kind first)
unfoldable pub node_of : (bits : List Bit) → (hashes : List ℕ) → Kind → (a b : ℕ) → Node
node_of bits hashes k_comp a b = comp a b
node_of bits hashes k_case a b = case a b
node_of bits hashes k_pair a b = pair a b
node_of bits hashes k_disconnect a b = disconnect a b
node_of bits hashes k_injl a b = injl a
node_of bits hashes k_injr a b = injr a
node_of bits hashes k_take a b = take a
node_of bits hashes k_drop a b = drop a
node_of bits hashes k_iden a b = iden
node_of bits hashes k_unit a b = unit
node_of bits hashes k_fail a b = fail (take_l fail_bytes (drop_l a hashes))
node_of bits hashes k_disconnect1 a b = disconnect1 a
node_of bits hashes k_witness a b = witness
node_of bits hashes k_hidden a b = hidden (take_l hash_bytes (drop_l a hashes))
node_of bits hashes k_word a b = word a (take_l (2 ^ (a - 1)) (drop_l b bits))
node_of bits hashes k_unknown a b = no_node

-- the nodes of a table
unfoldable pub nodes_of : (bits : List Bit) → (hashes : List ℕ) → List NodeRecord → List Node
unfolding kind_of node_of
nodes_of bits hashes [] = []
nodes_of bits hashes (r ∷ rs) = node_of bits hashes (kind_of r.kind) r.first r.second ∷ nodes_of bits hashes rs

-- node i of a table
unfoldable pub node_at : List Node → (i : ℕ) → Node
node_at nodes i = get_or nodes i no_node

-- The four kinds that some check singles out: a hidden node by its hash, a disconnect by its two children or its one child, a witness; any other node alike
unfoldable pub single : {X : Type 0} → Node → (hash : List ℕ → X) → (two : ℕ → ℕ → X) → (one : ℕ → X) → (wit other : X) → X
single (comp a b) hash two one wit other = other
single (case a b) hash two one wit other = other
single (pair a b) hash two one wit other = other
single (disconnect a b) hash two one wit other = two a b
single (injl a) hash two one wit other = other
single (injr a) hash two one wit other = other
single (take a) hash two one wit other = other
single (drop a) hash two one wit other = other
single (disconnect1 a) hash two one wit other = one a
single iden hash two one wit other = other
single unit hash two one wit other = other
single witness hash two one wit other = wit
single (fail bytes) hash two one wit other = other
single (hidden bytes) hash two one wit other = hash bytes
single (word n bits) hash two one wit other = other

-- what is made of a hidden node's hash, or of any other node
unfoldable pub on_hidden : {X : Type 0} → Node → (List ℕ → X) → (other : X) → X
unfolding single
on_hidden n f other = single n f (λ a b. other) (λ a. other) other other

-- of the children of a disconnect that has two, or of any other node
unfoldable pub on_disconnect : {X : Type 0} → Node → (ℕ → ℕ → X) → (other : X) → X
unfolding single
on_disconnect n f other = single n (λ hash. other) f (λ a. other) other other

-- of the child of a disconnect that has one, or of any other node
unfoldable pub on_one_child : {X : Type 0} → Node → (ℕ → X) → (other : X) → X
unfolding single
on_one_child n f other = single n (λ hash. other) (λ a b. other) f other other

-- one answer for a witness, one for any other node
unfoldable pub on_witness : {X : Type 0} → Node → (for other : X) → X
unfolding single
on_witness n for other = single n (λ hash. other) (λ a b. other) (λ a. other) for other
