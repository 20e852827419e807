-- The limits of the requirements and the sizes of records, as definitions.
-- Each is a short name of a number, so that sums and tests with it compute, and no other file writes the number.
use Rattle.std.specs.Prelude.{List, [], ◌∷◌, ℕ}

-- the most bytes of a dossier
abbrev pub dossier_bytes : ℕ
dossier_bytes = 49152

-- the most records of a type table; the least is one
abbrev pub type_count : ℕ
type_count = 1024

-- the most nodes of a program
abbrev pub node_count : ℕ
node_count = 4096

-- the largest width of a type, in cells
abbrev pub type_width : ℕ
type_width = 32768

-- the most cells in all, and the most frames in all
abbrev pub cell_count : ℕ
cell_count = 262144

abbrev pub frame_count : ℕ
frame_count = 1024

-- the most that a program may cost, and what a node costs by itself
abbrev pub cost_limit : ℕ
cost_limit = 50000000

abbrev pub node_cost : ℕ
node_cost = 100

-- the largest length inside a natural's code, and the largest natural that begins a word
abbrev pub natural_length : ℕ
natural_length = 31

abbrev pub word_most : ℕ
word_most = 32

-- bytes of the header, of a type record, of an arrow, of a hash, of a fail node
abbrev pub header_bytes : ℕ
header_bytes = 56

abbrev pub type_bytes : ℕ
type_bytes = 5

abbrev pub arrow_bytes : ℕ
arrow_bytes = 4

abbrev pub hash_bytes : ℕ
hash_bytes = 32

abbrev pub fail_bytes : ℕ
fail_bytes = 64

-- numbers of a node's record and of a frame's
abbrev pub node_numbers : ℕ
node_numbers = 4

abbrev pub frame_numbers : ℕ
frame_numbers = 3

-- all of them, which the constants of the code are held to
abbrev pub every_limit : List ℕ
every_limit =
    dossier_bytes ∷ type_count ∷ node_count ∷ type_width ∷ cell_count ∷ frame_count ∷ cost_limit ∷ node_cost ∷ natural_length ∷ word_most
    ∷ header_bytes ∷ type_bytes ∷ arrow_bytes ∷ hash_bytes ∷ fail_bytes ∷ node_numbers ∷ frame_numbers ∷ []
