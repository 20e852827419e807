-- The report's code, computed: bits and bytes, naturals, each kind of node, programs; and the order in which a walk does the nodes.
use Rattle.std.specs.Prelude.{refl, [], ◌∷◌, ◌++◌, true, false, ◌+◌, ◌*◌, length, replicate}
use Rattle.report.specs.Lines.{◌is◌, Hold}
use Rattle.report.specs.Bits.{byte_bits, bits_of, number_from, bytes_of}
use Rattle.report.specs.Table.{entries_from, entries}
use Rattle.report.specs.Naturals.{low_bits, log2_by, log2, code_by, code_natural}
use Rattle.report.specs.Nodes.{comp, case, pair, disconnect, injl, injr, take, drop, disconnect1, iden, unit, witness, fail, hidden, word, code_node, code_nodes, code_program}
use Rattle.report.specs.Canonical.{children, is_done, order, up_from, Canonical}

-- each bit of a byte alone, and all bits below it; of a larger number the last byte
bytes_to_bits : Hold (
    byte_bits 128 is (1 ∷ 0 ∷ 0 ∷ 0 ∷ 0 ∷ 0 ∷ 0 ∷ 0 ∷ [])
    ∷ byte_bits 127 is (0 ∷ 1 ∷ 1 ∷ 1 ∷ 1 ∷ 1 ∷ 1 ∷ 1 ∷ [])
    ∷ byte_bits 64 is (0 ∷ 1 ∷ 0 ∷ 0 ∷ 0 ∷ 0 ∷ 0 ∷ 0 ∷ [])
    ∷ byte_bits 63 is (0 ∷ 0 ∷ 1 ∷ 1 ∷ 1 ∷ 1 ∷ 1 ∷ 1 ∷ [])
    ∷ byte_bits 32 is (0 ∷ 0 ∷ 1 ∷ 0 ∷ 0 ∷ 0 ∷ 0 ∷ 0 ∷ [])
    ∷ byte_bits 31 is (0 ∷ 0 ∷ 0 ∷ 1 ∷ 1 ∷ 1 ∷ 1 ∷ 1 ∷ [])
    ∷ byte_bits 16 is (0 ∷ 0 ∷ 0 ∷ 1 ∷ 0 ∷ 0 ∷ 0 ∷ 0 ∷ [])
    ∷ byte_bits 15 is (0 ∷ 0 ∷ 0 ∷ 0 ∷ 1 ∷ 1 ∷ 1 ∷ 1 ∷ [])
    ∷ byte_bits 8 is (0 ∷ 0 ∷ 0 ∷ 0 ∷ 1 ∷ 0 ∷ 0 ∷ 0 ∷ [])
    ∷ byte_bits 7 is (0 ∷ 0 ∷ 0 ∷ 0 ∷ 0 ∷ 1 ∷ 1 ∷ 1 ∷ [])
    ∷ byte_bits 4 is (0 ∷ 0 ∷ 0 ∷ 0 ∷ 0 ∷ 1 ∷ 0 ∷ 0 ∷ [])
    ∷ byte_bits 3 is (0 ∷ 0 ∷ 0 ∷ 0 ∷ 0 ∷ 0 ∷ 1 ∷ 1 ∷ [])
    ∷ byte_bits 2 is (0 ∷ 0 ∷ 0 ∷ 0 ∷ 0 ∷ 0 ∷ 1 ∷ 0 ∷ [])
    ∷ byte_bits 256 is replicate 8 0
    ∷ byte_bits 511 is replicate 8 1
    ∷ bits_of [] is []
    ∷ bits_of (128 ∷ 3 ∷ []) is (1 ∷ 0 ∷ 0 ∷ 0 ∷ 0 ∷ 0 ∷ 0 ∷ 0 ∷ 0 ∷ 0 ∷ 0 ∷ 0 ∷ 0 ∷ 0 ∷ 1 ∷ 1 ∷ [])
    ∷ [])
unfolding Hold bits_of
bytes_to_bits = refl

bits_to_bytes : Hold (
    bytes_of 0 (1 ∷ []) is []
    ∷ bytes_of 1 (1 ∷ 0 ∷ []) is (2 ∷ [])
    ∷ bytes_of 2 (1 ∷ 0 ∷ 0 ∷ 0 ∷ 0 ∷ 0 ∷ 0 ∷ 1 ∷ 0 ∷ 1 ∷ 0 ∷ 0 ∷ 0 ∷ 0 ∷ 1 ∷ 1 ∷ 1 ∷ []) is (129 ∷ 67 ∷ [])
    ∷ (number_from 5 [] ∷ number_from 5 (1 ∷ 0 ∷ []) ∷ []) is (5 ∷ 22 ∷ [])
    ∷ [])
unfolding Hold bytes_of number_from
bits_to_bytes = refl

logarithms : Hold (
    log2 1 is 0
    ∷ log2 2 is 1
    ∷ log2 3 is 1
    ∷ log2 4 is 2
    ∷ log2 31 is 4
    ∷ log2 32 is 5
    -- with too few halvings, and of 0
    ∷ log2_by 2 16 is 2
    ∷ log2_by 1 0 is 0
    ∷ [])
unfolding Hold log2_by
logarithms = refl

naturals : Hold (
    code_natural 1 is (0 ∷ [])
    ∷ code_natural 2 is (1 ∷ 0 ∷ 0 ∷ [])
    ∷ code_natural 3 is (1 ∷ 0 ∷ 1 ∷ [])
    ∷ code_natural 4 is (1 ∷ 1 ∷ 0 ∷ 0 ∷ 0 ∷ 0 ∷ [])
    ∷ code_natural 8 is (1 ∷ 1 ∷ 0 ∷ 1 ∷ 0 ∷ 0 ∷ 0 ∷ [])
    ∷ code_natural 13 is (1 ∷ 1 ∷ 0 ∷ 1 ∷ 1 ∷ 0 ∷ 1 ∷ [])
    ∷ code_natural 16 is (1 ∷ 1 ∷ 1 ∷ 0 ∷ 0 ∷ 0 ∷ 0 ∷ 0 ∷ 0 ∷ 0 ∷ 0 ∷ [])
    -- with too little depth, and of 0
    ∷ code_by 2 16 is (1 ∷ 1 ∷ 0 ∷ 0 ∷ 0 ∷ 0 ∷ 0 ∷ 0 ∷ 0 ∷ [])
    ∷ code_by 1 0 is (0 ∷ [])
    ∷ code_by 0 2 is (0 ∷ [])
    ∷ [])
unfolding Hold code_by log2_by low_bits
naturals = refl

-- each kind of node at index 3, with children 1 and 0, at distances 2 and 3
node_codes : Hold (
    code_node 3 (comp 1 0) is (0 ∷ 0 ∷ 0 ∷ 0 ∷ 0 ∷ 1 ∷ 0 ∷ 0 ∷ 1 ∷ 0 ∷ 1 ∷ [])
    ∷ code_node 3 (case 1 0) is (0 ∷ 0 ∷ 0 ∷ 0 ∷ 1 ∷ 1 ∷ 0 ∷ 0 ∷ 1 ∷ 0 ∷ 1 ∷ [])
    ∷ code_node 3 (pair 1 0) is (0 ∷ 0 ∷ 0 ∷ 1 ∷ 0 ∷ 1 ∷ 0 ∷ 0 ∷ 1 ∷ 0 ∷ 1 ∷ [])
    ∷ code_node 3 (disconnect 1 0) is (0 ∷ 0 ∷ 0 ∷ 1 ∷ 1 ∷ 1 ∷ 0 ∷ 0 ∷ 1 ∷ 0 ∷ 1 ∷ [])
    ∷ code_node 3 (injl 1) is (0 ∷ 0 ∷ 1 ∷ 0 ∷ 0 ∷ 1 ∷ 0 ∷ 0 ∷ [])
    ∷ code_node 3 (injr 1) is (0 ∷ 0 ∷ 1 ∷ 0 ∷ 1 ∷ 1 ∷ 0 ∷ 0 ∷ [])
    ∷ code_node 3 (take 1) is (0 ∷ 0 ∷ 1 ∷ 1 ∷ 0 ∷ 1 ∷ 0 ∷ 0 ∷ [])
    ∷ code_node 3 (drop 1) is (0 ∷ 0 ∷ 1 ∷ 1 ∷ 1 ∷ 1 ∷ 0 ∷ 0 ∷ [])
    ∷ code_node 3 iden is (0 ∷ 1 ∷ 0 ∷ 0 ∷ 0 ∷ [])
    ∷ code_node 3 unit is (0 ∷ 1 ∷ 0 ∷ 0 ∷ 1 ∷ [])
    ∷ code_node 3 (fail (254 ∷ [])) is (0 ∷ 1 ∷ 0 ∷ 1 ∷ 0 ∷ 1 ∷ 1 ∷ 1 ∷ 1 ∷ 1 ∷ 1 ∷ 1 ∷ 0 ∷ [])
    ∷ code_node 3 (disconnect1 1) is (0 ∷ 1 ∷ 0 ∷ 1 ∷ 1 ∷ 1 ∷ 0 ∷ 0 ∷ [])
    ∷ code_node 3 (hidden (1 ∷ [])) is (0 ∷ 1 ∷ 1 ∷ 0 ∷ 0 ∷ 0 ∷ 0 ∷ 0 ∷ 0 ∷ 0 ∷ 0 ∷ 1 ∷ [])
    ∷ code_node 3 witness is (0 ∷ 1 ∷ 1 ∷ 1 ∷ [])
    ∷ code_node 3 (word 2 (0 ∷ 1 ∷ [])) is (1 ∷ 0 ∷ 1 ∷ 0 ∷ 0 ∷ 0 ∷ 1 ∷ [])
    ∷ [])
unfolding Hold code_node code_by log2_by low_bits
node_codes = refl

-- comp of unit and iden is A9 40 20 once it is filled up with two zeros
program_code : Hold (
    bytes_of 3 (code_program (unit ∷ iden ∷ comp 0 1 ∷ []) ++ 0 ∷ 0 ∷ []) is (0xA9 ∷ 0x40 ∷ 0x20 ∷ [])
    ∷ code_nodes 4 (injl 3 ∷ injl 3 ∷ []) is (0 ∷ 0 ∷ 1 ∷ 0 ∷ 0 ∷ 0 ∷ 0 ∷ 0 ∷ 1 ∷ 0 ∷ 0 ∷ 1 ∷ 0 ∷ 0 ∷ [])
    ∷ [])
unfolding Hold bytes_of code_program code_by log2_by low_bits
program_code = refl

-- each entry is made of those before it and of its record
tables : Hold (
    entries (λ before r. length before * 10 + r) (1 ∷ 2 ∷ 3 ∷ []) is (1 ∷ 12 ∷ 23 ∷ [])
    ∷ entries_from (λ before r. length before * 10 + r) (7 ∷ []) (1 ∷ 2 ∷ []) is (7 ∷ 11 ∷ 22 ∷ [])
    ∷ [])
unfolding Hold entries entries_from
tables = refl

children_of_each : Hold (
    children (comp 1 2) is (1 ∷ 2 ∷ [])
    ∷ children (case 1 2) is (1 ∷ 2 ∷ [])
    ∷ children (pair 1 2) is (1 ∷ 2 ∷ [])
    ∷ children (disconnect 1 2) is (1 ∷ 2 ∷ [])
    ∷ children (injl 1) is (1 ∷ [])
    ∷ children (injr 1) is (1 ∷ [])
    ∷ children (take 1) is (1 ∷ [])
    ∷ children (drop 1) is (1 ∷ [])
    ∷ children (disconnect1 1) is (1 ∷ [])
    ∷ children iden is []
    ∷ children unit is []
    ∷ children witness is []
    ∷ children (fail (1 ∷ [])) is []
    ∷ children (hidden (1 ∷ [])) is []
    ∷ children (word 1 (1 ∷ [])) is []
    ∷ [])
unfolding Hold children
children_of_each = refl

-- a node is done where it is one of the list
done_before : Hold (
    is_done 2 [] is false
    ∷ is_done 2 (1 ∷ 2 ∷ []) is true
    ∷ is_done 2 (2 ∷ 1 ∷ []) is true
    ∷ is_done 2 (1 ∷ 1 ∷ 3 ∷ []) is false
    ∷ [])
unfolding Hold is_done
done_before = refl

-- the walk goes left first and does each node once, after its children
walks : Hold (
    order (unit ∷ iden ∷ comp 0 1 ∷ pair 2 0 ∷ []) is (0 ∷ 1 ∷ 2 ∷ 3 ∷ [])
    -- the children changed about; a node that nothing uses; a node used twice, under each of its parents
    ∷ order (unit ∷ iden ∷ comp 1 0 ∷ []) is (1 ∷ 0 ∷ 2 ∷ [])
    ∷ order (unit ∷ iden ∷ injl 0 ∷ []) is (0 ∷ 2 ∷ [])
    ∷ order (unit ∷ injl 0 ∷ injr 0 ∷ pair 2 1 ∷ []) is (0 ∷ 2 ∷ 1 ∷ 3 ∷ [])
    -- a child that is no earlier node is passed over
    ∷ order (injl 7 ∷ []) is (0 ∷ [])
    ∷ order [] is []
    ∷ up_from 2 3 is (2 ∷ 3 ∷ 4 ∷ [])
    ∷ [])
unfolding Hold order up_from
walks = refl

in_order : Canonical (unit ∷ iden ∷ comp 0 1 ∷ [])
unfolding order up_from
in_order = refl
