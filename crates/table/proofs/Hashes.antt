-- Hidden nodes and their hashes in a lent table: which nodes are hidden, what a hash is, and how two are compared.
use mathlib.Core.Path.{◌≡◌, ap, ◌∙◌, sym}
use mathlib.Core.Bool.{true, false}
use mathlib.Core.List.{List, []}
use Prim.Native.Nat.{ℕ}
use lib.ListN.{get_or, take, drop}
use Rattle.limits.specs.Limits.{hash_bytes}
use Rattle.report.specs.Nodes.{Node}
use Rattle.scope.specs.Numbers.{same, every}
use Rattle.scope.specs.Nodes.{kind_of, NodeRecord, node_of, nodes_of, on_hidden}
use Rattle.scope.specs.Walk.{hidden_at, hides}
use Rattle.scope.specs.Stages.{no_record}
use Rattle.common.specs.Checks.{every_one}
use Rattle.table.specs.Lent.{node_is, hidden_kind, hash_is}
use Rattle.common.specs.Nodes.{node_at_lem}
use Rattle.table.proofs.Groups.{by_hidden}

-- a node of a table is hidden where its record's kind is
pub hidden_kind_lem : (bits hashes : List ℕ) (rs : List NodeRecord) (j : ℕ) → hidden_at (nodes_of bits hashes rs) j ≡ hidden_kind (get_or rs j no_record).kind
unfolding hidden_at hidden_kind every
hidden_kind_lem bits hashes rs j =
    ap (λ (n : Node). on_hidden n (λ hash. true) false) (node_at_lem bits hashes rs j)
    ∙ by_hidden bits hashes (kind_of (get_or rs j no_record).kind) (get_or rs j no_record).first (get_or rs j no_record).second (λ hash. true) false
    ∙ every_one (hidden_kind (get_or rs j no_record).kind)

-- so it is hidden or not whatever the bits of words and the bytes of hashes
pub hidden_alike : (bits hashes : List ℕ) (rs : List NodeRecord) (j : ℕ) → hidden_at (nodes_of bits hashes rs) j ≡ hidden_at (nodes_of [] [] rs) j
hidden_alike bits hashes rs j = hidden_kind_lem bits hashes rs j ∙ sym (hidden_kind_lem [] [] rs j)

-- and it has a hash where its record's bytes are that hash
pub hides-kind : (bits hashes : List ℕ) (rs : List NodeRecord) (hash : List ℕ) (j : ℕ) → hides (nodes_of bits hashes rs) hash j
    ≡ elim (hidden_kind (get_or rs j no_record).kind) [ true ↦ same (hash_is (node_is hashes (get_or rs j no_record))) hash | false ↦ false ]
unfolding hides hidden_kind
hides-kind bits hashes rs hash j =
    ap (λ (n : Node). on_hidden n (λ other. same other hash) false) (node_at_lem bits hashes rs j)
    ∙ by_hidden bits hashes (kind_of (get_or rs j no_record).kind) (get_or rs j no_record).first (get_or rs j no_record).second (λ other. same other hash) false

-- a hidden node's hash: the bytes from its position on, as far as there are any, and 32 at most
pub hash_at : (hashes : List ℕ) (k a b at : ℕ) → k ≡ 13 → at ≡ a → take hash_bytes (drop at hashes) ≡ hash_is (node_of [] hashes (kind_of k) a b)
unfolding on_hidden node_of kind_of
hash_at hashes k a b at is e = rw (is, e)
