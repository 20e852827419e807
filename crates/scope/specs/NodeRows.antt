-- The node store, computed: the numbers of the kinds, the records of a store, the node that each stands for, and what tells the kinds apart.
use Rattle.std.specs.Prelude.{refl, List, [], ◌∷◌, ℕ, ◌+◌, ◌*◌}
use Rattle.limits.specs.Limits.{hash_bytes, fail_bytes}
use Rattle.report.specs.Lines.{◌is◌, Hold}
use Rattle.report.specs.Nodes.{Node, comp, case, pair, disconnect, injl, injr, take, drop, disconnect1, iden, unit, witness, fail, hidden, word}
use Rattle.scope.specs.Numbers.{tabulate}
use Rattle.scope.specs.Nodes.{k_comp, k_case, k_pair, k_disconnect, k_injl, k_injr, k_take, k_drop, k_iden, k_unit, k_fail, k_disconnect1, k_witness, k_hidden, k_word, k_unknown, kind_of, NodeRecord, node_record, node_records, node_numbers_of, no_node, nodes_of, node_at, on_hidden, on_disconnect, on_one_child, on_witness}

kinds : Hold (
    tabulate 16 kind_of
    is (k_comp ∷ k_case ∷ k_pair ∷ k_disconnect ∷ k_injl ∷ k_injr ∷ k_take ∷ k_drop ∷ k_iden ∷ k_unit ∷ k_fail ∷ k_disconnect1 ∷ k_witness ∷ k_hidden ∷ k_word ∷ k_unknown ∷ [])
    ∷ [])
unfolding Hold tabulate kind_of
kinds = refl

abbrev row : (kind first second third : ℕ) → NodeRecord
row k a b c = record { kind = k; first = a; second = b; third = c }

-- four numbers a record; odd numbers at the end are of none
records : Hold (
    node_records (1 ∷ 2 ∷ 3 ∷ 4 ∷ 5 ∷ 6 ∷ 7 ∷ 8 ∷ 9 ∷ 9 ∷ 9 ∷ []) is (row 1 2 3 4 ∷ row 5 6 7 8 ∷ [])
    -- a number past the end is 0
    ∷ (node_record [] 0 ∷ node_record (1 ∷ 2 ∷ 3 ∷ 4 ∷ 5 ∷ []) 1 ∷ []) is (row 0 0 0 0 ∷ row 5 0 0 0 ∷ [])
    ∷ [])
unfolding Hold node_records node_record
records = refl

stored : Hold (
    node_numbers_of (row 1 2 3 4 ∷ row 5 6 7 8 ∷ []) is (1 ∷ 2 ∷ 3 ∷ 4 ∷ 5 ∷ 6 ∷ 7 ∷ 8 ∷ [])
    ∷ [])
unfolding Hold node_numbers_of
stored = refl

-- each kind with the numbers 2 and 3, beside the bits 0 0 0 1 0 1 1 and a hash store of the bytes 0, 1, 2, ..
abbrev node_of_kind : ℕ → List Node
node_of_kind k = nodes_of (0 ∷ 0 ∷ 0 ∷ 1 ∷ 0 ∷ 1 ∷ 1 ∷ []) (tabulate 80 (λ j. j)) (row k 2 3 0 ∷ [])

nodes : Hold (
    node_of_kind 0 is (comp 2 3 ∷ [])
    ∷ node_of_kind 1 is (case 2 3 ∷ [])
    ∷ node_of_kind 2 is (pair 2 3 ∷ [])
    ∷ node_of_kind 3 is (disconnect 2 3 ∷ [])
    ∷ node_of_kind 4 is (injl 2 ∷ [])
    ∷ node_of_kind 5 is (injr 2 ∷ [])
    ∷ node_of_kind 6 is (take 2 ∷ [])
    ∷ node_of_kind 7 is (drop 2 ∷ [])
    ∷ node_of_kind 8 is (iden ∷ [])
    ∷ node_of_kind 9 is (unit ∷ [])
    ∷ node_of_kind 10 is (fail (tabulate fail_bytes (λ j. j + 2)) ∷ [])
    ∷ node_of_kind 11 is (disconnect1 2 ∷ [])
    ∷ node_of_kind 12 is (witness ∷ [])
    ∷ node_of_kind 13 is (hidden (tabulate hash_bytes (λ j. j + 2)) ∷ [])
    ∷ node_of_kind 14 is (word 2 (1 ∷ 0 ∷ []) ∷ [])
    -- a number above the kinds, and what stands past the table: a node that can only fail
    ∷ node_of_kind 15 is (fail [] ∷ [])
    ∷ node_of_kind 4294967295 is (no_node ∷ [])
    ∷ (node_at (iden ∷ unit ∷ []) 2 ∷ []) is (no_node ∷ [])
    ∷ nodes_of [] [] (row 8 0 0 0 ∷ row 9 0 0 0 ∷ []) is (iden ∷ unit ∷ [])
    ∷ (node_at (iden ∷ unit ∷ []) 0 ∷ node_at (iden ∷ unit ∷ []) 1 ∷ []) is (iden ∷ unit ∷ [])
    ∷ [])
unfolding Hold nodes_of node_at tabulate
nodes = refl

-- a node of each kind, in the order of the kinds
abbrev each : (Node → ℕ) → List ℕ
each f =
    f (comp 4 5) ∷ f (case 4 5) ∷ f (pair 4 5) ∷ f (disconnect 4 5) ∷ f (injl 4) ∷ f (injr 4) ∷ f (take 4) ∷ f (drop 4) ∷ f iden ∷ f unit
    ∷ f (fail (6 ∷ [])) ∷ f (disconnect1 4) ∷ f witness ∷ f (hidden (6 ∷ [])) ∷ f (word 1 (0 ∷ [])) ∷ []

told_apart : Hold (
    each (λ n. on_hidden n (λ hash. 7) 0) is (0 ∷ 0 ∷ 0 ∷ 0 ∷ 0 ∷ 0 ∷ 0 ∷ 0 ∷ 0 ∷ 0 ∷ 0 ∷ 0 ∷ 0 ∷ 7 ∷ 0 ∷ [])
    ∷ each (λ n. on_disconnect n (λ a b. 10 * a + b) 0) is (0 ∷ 0 ∷ 0 ∷ 45 ∷ 0 ∷ 0 ∷ 0 ∷ 0 ∷ 0 ∷ 0 ∷ 0 ∷ 0 ∷ 0 ∷ 0 ∷ 0 ∷ [])
    ∷ each (λ n. on_one_child n (λ a. a) 0) is (0 ∷ 0 ∷ 0 ∷ 0 ∷ 0 ∷ 0 ∷ 0 ∷ 0 ∷ 0 ∷ 0 ∷ 0 ∷ 4 ∷ 0 ∷ 0 ∷ 0 ∷ [])
    ∷ each (λ n. on_witness n 7 0) is (0 ∷ 0 ∷ 0 ∷ 0 ∷ 0 ∷ 0 ∷ 0 ∷ 0 ∷ 0 ∷ 0 ∷ 0 ∷ 0 ∷ 7 ∷ 0 ∷ 0 ∷ [])
    ∷ on_hidden (hidden (6 ∷ 8 ∷ [])) (λ hash. hash) [] is (6 ∷ 8 ∷ [])
    ∷ [])
unfolding Hold on_hidden on_disconnect on_one_child on_witness
told_apart = refl
