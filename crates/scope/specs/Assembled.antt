-- What rows on whole dossiers are written with: a dossier put together from its parts, the job done on it in stores that are filled with
-- one byte, and what is left in stores with room to spare.
use Rattle.std.specs.Prelude.{List, [], ◌∷◌, ◌++◌, ℕ, ◌+◌, ◌*◌, ◌/◌, ◌-◌, length, replicate}
use Rattle.limits.specs.Limits.{header_bytes, type_bytes, arrow_bytes, hash_bytes, node_numbers, frame_numbers}
use Rattle.refusal.specs.declared.Refusal.{Refusal}
use Rattle.refusal.specs.Answers.{Answer}
use Rattle.std.specs.Prelude.{Err as Refused}
use Rattle.report.specs.Bits.{Bit, bytes_of}
use Rattle.report.specs.Nodes.{Node, code_program}
use Rattle.report.specs.Naturals.{code_by, log2_by, low_bits}
use Rattle.scope.specs.Numbers.{bytes_for, zeros}
use Rattle.scope.specs.Types.{TypeRecord}
use Rattle.scope.specs.Nodes.{NodeRecord, node_numbers_of}
use Rattle.scope.specs.Arrows.{Arrow}
use Rattle.scope.specs.Run.{Ended, run}
use Rattle.scope.specs.Rows.{Lent, lent, digits, bytes}

-- bits as bytes, the last one filled up with zeros
unfoldable pub packed_up : List Bit → List ℕ
unfolding bytes_of
packed_up bits = bytes_of (bytes_for (length bits)) (bits ++ zeros 7)

-- the bytes of a program
unfoldable pub code : List Node → List ℕ
unfolding packed_up code_program code_by log2_by low_bits
code nodes = packed_up (code_program nodes)

unfoldable pub type_section : List TypeRecord → List ℕ
unfolding digits
type_section [] = []
type_section (r ∷ rs) = r.tag ∷ (bytes 2 r.left ++ bytes 2 r.right ++ type_section rs)

unfoldable pub arrow_section : List Arrow → List ℕ
unfolding digits
arrow_section [] = []
arrow_section (a ∷ rest) = bytes 2 a.source ++ bytes 2 a.target ++ arrow_section rest

unfoldable pub header_section : List ℕ → List ℕ
unfolding digits
header_section [] = []
header_section (n ∷ ns) = bytes 4 n ++ header_section ns

-- a dossier of these parts, the supplied hashes as one run of bytes
unfoldable pub dossier : (types : List TypeRecord) → (program : List ℕ) → (arrows : List Arrow) → (witness input : List Bit) → (hashes : List ℕ) → List ℕ
unfolding header_section type_section arrow_section packed_up
dossier types program arrows witness input hashes =
    let p = header_bytes + type_bytes * length types in
    let a = p + length program in
    let w = a + arrow_bytes * length arrows in
    let i = w + bytes_for (length witness) in
    let h = i + bytes_for (length input) in
    header_section (1 ∷ length types ∷ header_bytes ∷ length program ∷ p ∷ length arrows ∷ a ∷ length witness ∷ w ∷ length input ∷ i
    ∷ (length hashes / hash_bytes) ∷ h ∷ (h + length hashes) ∷ [])
    ++ type_section types ++ program ++ arrow_section arrows ++ packed_up witness ++ packed_up input ++ hashes

-- the whole job, in stores of so many records and bytes that are all filled with one byte
unfoldable pub job : Lent → (dossier : List ℕ) → Ended
unfolding run
job s d =
    run d (replicate (node_numbers * s.nodes) (s.fill * 0x01010101)) (replicate s.hashes s.fill)
    (replicate s.cells s.fill) (replicate (frame_numbers * s.frames) (s.fill * 0x01010101)) (replicate s.answer s.fill)

-- what is left: the answer, and the five stores
abbrev pub leaves : Answer → (nodes hashes cells frames answer : List ℕ) → Ended
leaves says n h c f a = record { says = says; nodes = n; hashes = h; cells = c; frames = f; answer = a }

-- room for 9 nodes, 97 bytes of hashes, 4 bytes of cells, 4 frames and 3 bytes of answer, all ones
abbrev pub spacious : Lent
spacious = lent 9 97 4 4 3 255

abbrev pub ones : (n : ℕ) → List ℕ
ones n = replicate n 255

abbrev pub frame_ones : (records : ℕ) → List ℕ
frame_ones k = replicate (frame_numbers * k) 0xffffffff

-- a refusal before the tables are known to fit: node and hash store are zero, all else is as it was
unfoldable pub wiped : Refusal → Ended
wiped r = leaves (Refused r) (zeros 36) (zeros 97) (ones 4) (frame_ones 4) (ones 3)

-- the node store after any later end: these records, the rest zero; and the hash store
unfoldable pub nodes_kept : List NodeRecord → List ℕ
unfolding node_numbers_of
nodes_kept records = node_numbers_of records ++ zeros (36 - node_numbers * length records)

unfoldable pub hashes_kept : List ℕ → List ℕ
hashes_kept hashes = hashes ++ zeros (97 - length hashes)

-- a refusal that leaves the table, and all else as it was
unfoldable pub kept : Refusal → List NodeRecord → (hashes : List ℕ) → Ended
unfolding nodes_kept hashes_kept
kept r records hashes = leaves (Refused r) (nodes_kept records) (hashes_kept hashes) (ones 4) (frame_ones 4) (ones 3)
