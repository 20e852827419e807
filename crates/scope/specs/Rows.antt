-- A computed run as a row of a table: a dossier and five stores in; an answer, the bounds and five stores out; compared by one test.
-- Bytes and numbers are written as one long hexadecimal number, the first byte highest, as a dossier's own numbers are.
use Rattle.std.specs.Prelude.{Bool, true, false, List, [], ◌∷◌, ℕ, zero, suc, ◌+◌, ◌*◌, ◌/◌, ◌%◌, ◌^◌, replicate}
use Rattle.limits.specs.Limits.{node_numbers, frame_numbers}
use Rattle.refusal.specs.Answers.{Answer}
use Rattle.std.specs.Prelude.{Ok as Value, Err as Refused}
use Rattle.refusal.specs.Numbers.{number_of, place_of}
use Rattle.scope.specs.Check.{Check, passed, refused, ◌>>=◌}
use Rattle.scope.specs.Numbers.{every, same}
use Rattle.scope.specs.Program.{Program}
use Rattle.scope.specs.Bounds.{check_bounds, whole_cells, whole_frames, whole_cost}
use Rattle.scope.specs.Run.{run, check_dossier, tables_of, program_of}

-- k digits of a number to a base, the highest first
unfoldable pub digits : (base k n : ℕ) → List ℕ
digits base zero n = []
digits base (suc k) n = n / base ^ k % base ∷ digits base k n

abbrev pub bytes : (k n : ℕ) → List ℕ
bytes k n = digits 256 k n

abbrev pub numbers : (k n : ℕ) → List ℕ
numbers k n = digits 4294967296 k n

-- a long number in two parts, the second of k bytes
abbrev pub joined : (high k low : ℕ) → ℕ
joined high k low = high * 256 ^ k + low

-- the stores that are lent, in records and bytes, all filled with one byte
pub record Lent : Type 0 where
  pub nodes : ℕ
  pub hashes : ℕ
  pub cells : ℕ
  pub frames : ℕ
  pub answer : ℕ
  pub fill : ℕ

abbrev pub lent : (nodes hashes cells frames answer fill : ℕ) → Lent
lent n h c f a b = record { nodes = n; hashes = h; cells = c; frames = f; answer = a; fill = b }

-- what is left in each store
pub record Stores : Type 0 where
  pub nodes : ℕ
  pub hashes : ℕ
  pub cells : ℕ
  pub frames : ℕ
  pub answer : ℕ

abbrev pub left : (nodes hashes cells frames answer : ℕ) → Stores
left n h c f a = record { nodes = n; hashes = h; cells = c; frames = f; answer = a }

-- `size` bytes of a dossier; what is said: 0 and the count of bits, or a refusal's number and place; cells, frames and cost, or nothing
-- where they are refused or not reached
pub record Row : Type 0 where
  pub size : ℕ
  pub dossier : ℕ
  pub stores : Lent
  pub says : List ℕ
  pub needs : List ℕ
  pub leaves : Stores

abbrev pub row : (size dossier : ℕ) → Lent → (says needs : List ℕ) → Stores → Row
row n d s a b l = record { size = n; dossier = d; stores = s; says = a; needs = b; leaves = l }

unfoldable pub said : Answer → List ℕ
said (Value count) = 0 ∷ count ∷ []
said (Refused r) = number_of r ∷ place_of r ∷ []

-- cells, frames and cost of the whole program
unfoldable pub needed : Check Program → List ℕ
unfolding whole_cells whole_frames whole_cost
needed (passed P) = whole_cells P ∷ whole_frames P ∷ whole_cost P ∷ []
needed (refused r) = []

-- the program of a dossier that passes up to 14
unfoldable pub program_in : (dossier nodes hashes : List ℕ) → Check Program
unfolding ◌>>=◌ check_dossier program_of tables_of check_bounds
program_in d nodes hashes = do
  t ← check_dossier d nodes hashes
  bounded ← check_bounds (program_of (tables_of d t) [])
  passed (program_of (tables_of d t) [])

-- the run says and leaves what the row has
unfoldable pub holds : Row → Bool
unfolding run program_in needed digits said every same
holds r =
    let s = r.stores in
    let l = r.leaves in
    let d = bytes r.size r.dossier in
    let nodes = replicate (node_numbers * s.nodes) (s.fill * 0x01010101) in
    let hashes = replicate s.hashes s.fill in
    let e = run d nodes hashes (replicate s.cells s.fill)
    (replicate (frame_numbers * s.frames) (s.fill * 0x01010101)) (replicate s.answer s.fill) in
    every (same (said e.says) r.says
    ∷ same (needed (program_in d nodes hashes)) r.needs
    ∷ same e.nodes (numbers (node_numbers * s.nodes) l.nodes)
    ∷ same e.hashes (bytes s.hashes l.hashes)
    ∷ same e.cells (bytes s.cells l.cells)
    ∷ same e.frames (numbers (frame_numbers * s.frames) l.frames)
    ∷ same e.answer (bytes s.answer l.answer)
    ∷ [])

unfoldable pub all_hold : List Row → Bool
unfolding holds
all_hold [] = true
all_hold (r ∷ rs) = elim (holds r) [ true ↦ all_hold rs | false ↦ false ]
