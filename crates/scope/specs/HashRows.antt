-- The supplied hashes, computed: which disconnect each belongs to, refusal 13, and the hash of a branch.
use Rattle.std.specs.Prelude.{refl, true, false, List, [], ◌∷◌, ◌++◌, ℕ, replicate}
use Rattle.limits.specs.Limits.{hash_bytes}
use Rattle.refusal.specs.declared.Refusal.TheVariants.{Hash}
use Rattle.report.specs.Lines.{◌is◌, Hold}
use Rattle.report.specs.Nodes.{Node, comp, disconnect, disconnect1, iden, unit, fail, hidden}
use Rattle.scope.specs.Check.{passed, refused}
use Rattle.scope.specs.Nodes.{nodes_of}
use Rattle.scope.specs.Shorthand.{row}
use Rattle.scope.specs.Hashes.{rights, whole_hash, entry, count_place, clash, check_hashes, branch_hash}

-- a hash of one byte again and again
abbrev hash : ℕ → List ℕ
hash b = replicate hash_bytes b

-- the disconnects are nodes 3, 4 and 6; their right children are 2, 1 and 2
abbrev nodes : List Node
nodes =
    iden ∷ unit ∷ unit ∷ disconnect 0 2 ∷ disconnect 0 1 ∷ comp 3 4 ∷ disconnect 5 2 ∷ hidden (hash 4) ∷ hidden (4 ∷ []) ∷ fail (hash 5)
    ∷ disconnect1 1 ∷ []

-- a damaged record, of kind 15, is the right child of a disconnect; the next one is of no disconnect
abbrev damaged : List Node
damaged = nodes_of [] (hash 4) (row 9 0 0 ∷ row 15 0 0 ∷ row 3 0 1 ∷ row 15 0 0 ∷ [])

entries : Hold (
    rights nodes is (2 ∷ 1 ∷ 2 ∷ [])
    ∷ whole_hash (hash 7) is hash 7
    ∷ whole_hash (7 ∷ hash 7) is []
    ∷ whole_hash (7 ∷ []) is []
    ∷ entry (hash 7 ++ hash 8) 0 is hash 7
    ∷ entry (hash 7 ++ hash 8) 1 is hash 8
    ∷ [])
unfolding Hold rights whole_hash entry
entries = refl

-- the first entry of a right child, in the order of the disconnects; a hidden node's own; nothing for other nodes, nor where the bytes are not all there
branch_hashes : Hold (
    branch_hash nodes (hash 7 ++ hash 8 ++ hash 9) 2 is hash 7
    ∷ branch_hash nodes (hash 7 ++ hash 8 ++ hash 9) 1 is hash 8
    ∷ branch_hash nodes (hash 7 ++ 8 ∷ []) 1 is []
    ∷ branch_hash nodes (hash 7 ++ hash 8 ++ hash 9) 0 is []
    ∷ branch_hash nodes (hash 7 ++ hash 8 ++ hash 9) 5 is []
    ∷ branch_hash nodes (hash 7 ++ hash 8 ++ hash 9) 7 is hash 4
    ∷ branch_hash nodes (hash 7 ++ hash 8 ++ hash 9) 8 is []
    ∷ branch_hash nodes (hash 7 ++ hash 8 ++ hash 9) 9 is []
    ∷ branch_hash nodes (hash 7 ++ hash 8 ++ hash 9) 99 is []
    -- a node of no kind is not hidden: it gets the supplied hash if it is a right child, else none; so does what stands past the table
    ∷ branch_hash damaged (hash 7) 1 is hash 7
    ∷ branch_hash damaged (hash 7) 3 is []
    ∷ branch_hash (unit ∷ disconnect 0 9 ∷ []) (hash 7) 9 is hash 7
    ∷ [])
unfolding Hold branch_hash nodes_of
branch_hashes = refl

-- as many as disconnects, at the count given; equal hashes for one child, unlike ones for two; a clash at the later entry
refusals : Hold (
    check_hashes nodes (hash 7 ++ hash 8 ++ hash 7) is passed tt
    ∷ check_hashes nodes (hash 7 ++ hash 7 ++ hash 7) is passed tt
    ∷ check_hashes nodes (hash 7 ++ hash 8) is refused (Hash 2)
    ∷ check_hashes nodes (hash 7 ++ hash 8 ++ hash 7 ++ hash 7) is refused (Hash 4)
    ∷ check_hashes (unit ∷ unit ∷ disconnect 0 0 ∷ disconnect 0 1 ∷ []) (hash 7) is refused (Hash 1)
    ∷ check_hashes nodes (hash 7 ++ hash 8 ++ hash 9) is refused (Hash 2)
    -- odd bytes at the end are of no hash
    ∷ check_hashes nodes (hash 7 ++ hash 8 ++ hash 7 ++ 7 ∷ []) is passed tt
    -- the count before a clash; of two clashes the first
    ∷ check_hashes nodes (hash 7 ++ hash 8 ++ hash 9 ++ hash 9) is refused (Hash 4)
    ∷ check_hashes (unit ∷ disconnect 0 0 ∷ disconnect 1 0 ∷ disconnect 2 0 ∷ []) (hash 7 ++ hash 8 ++ hash 9) is refused (Hash 1)
    ∷ check_hashes (unit ∷ []) [] is passed tt
    ∷ [])
unfolding Hold check_hashes
refusals = refl

-- an entry unlike an earlier one of its child; past the disconnects an entry is of node 0
clashes : Hold (
    clash nodes (hash 7 ++ hash 8 ++ hash 9) 2 is true
    ∷ clash nodes (hash 7 ++ hash 8 ++ hash 7) 2 is false
    ∷ clash (unit ∷ []) (hash 7 ++ hash 8) 1 is true
    ∷ [])
unfolding Hold clash
clashes = refl

-- a count is its own place up to the last place there is, which stands for every larger one
count_places : Hold (
    count_place 0 is 0
    ∷ count_place 4294967295 is 4294967295
    ∷ count_place 4294967296 is 4294967295
    ∷ [])
unfolding Hold
count_places = refl
