-- What makes two nodes equal, but for their arrows: the same kind, the same children, the same word or fail bits.
-- Children are compared by index, bits and bytes by content, wherever they stand. Witness nodes and disconnects are exempt, and hidden
-- nodes have a check of their own in the walk.
use Rattle.std.specs.Prelude.{Bool, false, List, [], ◌∷◌, ℕ}
use Rattle.report.specs.Nodes.{Node, comp, case, pair, disconnect, injl, injr, take, drop, disconnect1, iden, unit, witness, fail, hidden, word}
use Rattle.scope.specs.Numbers.{same}
use Rattle.scope.specs.Nodes.{k_comp, k_case, k_pair, k_injl, k_injr, k_take, k_drop, k_iden, k_unit, k_fail, k_word, kind_number}

-- what tells a node from others: its kind, then its children, or a word's n and bits, or a fail node's bytes; an exempt node has no key
unfoldable pub key_of : Node → List ℕ
key_of (comp a b) = kind_number k_comp ∷ a ∷ b ∷ []
key_of (case a b) = kind_number k_case ∷ a ∷ b ∷ []
key_of (pair a b) = kind_number k_pair ∷ a ∷ b ∷ []
key_of (disconnect a b) = []
key_of (injl a) = kind_number k_injl ∷ a ∷ []
key_of (injr a) = kind_number k_injr ∷ a ∷ []
key_of (take a) = kind_number k_take ∷ a ∷ []
key_of (drop a) = kind_number k_drop ∷ a ∷ []
key_of (disconnect1 a) = []
key_of iden = kind_number k_iden ∷ []
key_of unit = kind_number k_unit ∷ []
key_of witness = []
key_of (fail bytes) = kind_number k_fail ∷ bytes
key_of (hidden hash) = []
key_of (word n bits) = kind_number k_word ∷ n ∷ bits

-- there is a key, and the other one is the same
unfoldable pub same_key : List ℕ → List ℕ → Bool
unfolding same
same_key [] other = false
same_key (x ∷ xs) other = same (x ∷ xs) other
