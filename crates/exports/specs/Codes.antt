-- What a controller is told: 0 or a refusal's number as the result, and beside it a place or a count, and the stores as they are left.
use Rattle.std.specs.Prelude.{ℕ, List, length}
use Rattle.refusal.specs.Answers.{Answer}
use Rattle.std.specs.Prelude.{Ok as Value, Err as Refused}
use Rattle.refusal.specs.Numbers.{number_of, place_of}
use Rattle.scope.specs.Check.{Check, passed, refused}
use Rattle.scope.specs.Reading.{NodeTable, Got, got, fault, Fault, refusal_at}
use Rattle.scope.specs.Closing.{nodes_left, hashes_left}
use Rattle.scope.specs.Bounds.{Bound}
use Rattle.scope.specs.Run.{Left, Ended}

-- the number of an answer, and what it tells beside: the count of an output's bits, or a place
abbrev pub answer_code : Answer → ℕ
answer_code (Value n) = 0
answer_code (Refused r) = number_of r

abbrev pub answer_told : Answer → ℕ
answer_told (Value n) = n
answer_told (Refused r) = place_of r

-- what a stage that checks hands back
pub record Judged : Type 0 where
  pub code : ℕ
  pub place : ℕ

abbrev pub judged : (code place : ℕ) → Judged
judged code place = record { code = code; place = place }

unfoldable pub judged_by : Check (Unit {0}) → Judged
judged_by (passed x) = judged 0 0
judged_by (refused r) = judged (number_of r) (place_of r)

-- what decoding hands back: of a table its count of nodes and its hash bytes
pub record Decoding : Type 0 where
  pub code : ℕ
  pub place : ℕ
  pub bytes : ℕ
  pub nodes : List ℕ
  pub hashes : List ℕ

abbrev pub decoding : (code place bytes : ℕ) → (nodes hashes : List ℕ) → Decoding
decoding code place bytes nodes hashes = record { code = code; place = place; bytes = bytes; nodes = nodes; hashes = hashes }

unfoldable pub decoding_by : Check NodeTable → (nodes hashes : List ℕ) → Decoding
unfolding nodes_left hashes_left
decoding_by (passed t) nodes hashes = decoding 0 (length t.records) (length t.hashes) (nodes_left (passed t) nodes) (hashes_left (passed t) hashes)
decoding_by (refused r) nodes hashes = decoding (number_of r) (place_of r) 0 (nodes_left (refused r) nodes) (hashes_left (refused r) hashes)

-- what the stage of the bounds hands back; of a refusal its place stands for the cells
pub record Bounding : Type 0 where
  pub code : ℕ
  pub cells : ℕ
  pub frames : ℕ
  pub cost : ℕ

abbrev pub bounding : (code cells frames cost : ℕ) → Bounding
bounding code cells frames cost = record { code = code; cells = cells; frames = frames; cost = cost }

unfoldable pub bounding_by : Check Bound → Bounding
bounding_by (passed b) = bounding 0 b.cells b.frames b.cost
bounding_by (refused r) = bounding (number_of r) (place_of r) 0 0

-- what the run stage hands back
pub record Staged : Type 0 where
  pub code : ℕ
  pub place : ℕ
  pub cells : List ℕ
  pub frames : List ℕ
  pub answer : List ℕ

abbrev pub staged : (code place : ℕ) → (cells frames answer : List ℕ) → Staged
staged code place cells frames answer = record { code = code; place = place; cells = cells; frames = frames; answer = answer }

unfoldable pub staged_by : Left → Staged
staged_by left = staged (answer_code left.says) (answer_told left.says) left.cells left.frames left.answer

-- what the whole job hands back
pub record Finished : Type 0 where
  pub code : ℕ
  pub place : ℕ
  pub nodes : List ℕ
  pub hashes : List ℕ
  pub cells : List ℕ
  pub frames : List ℕ
  pub answer : List ℕ

abbrev pub finished : (code place : ℕ) → (nodes hashes cells frames answer : List ℕ) → Finished
finished code place nodes hashes cells frames answer =
    record { code = code; place = place; nodes = nodes; hashes = hashes; cells = cells; frames = frames; answer = answer }

unfoldable pub finished_by : Ended → Finished
finished_by e = finished (answer_code e.says) (answer_told e.says) e.nodes e.hashes e.cells e.frames e.answer

-- what the reading of one natural hands back: a fault is told by the number of its refusal
pub record Read : Type 0 where
  pub code : ℕ
  pub value : ℕ
  pub next : ℕ

abbrev pub read : (code value next : ℕ) → Read
read code value next = record { code = code; value = value; next = next }

abbrev pub fault_code : Fault → ℕ
fault_code e = number_of (refusal_at 0 e)

unfoldable pub read_by : Got ℕ → Read
read_by (got n next) = read 0 n next
read_by (fault e) = read (fault_code e) 0 0
