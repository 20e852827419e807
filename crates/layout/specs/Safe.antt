-- What each rule needs of the machine, and what a term's run needs.
-- `Safe t m` goes along the run of t on m: plain bounds in records at each rule, and of what follows a child only for the machine that the child leaves.
use Rattle.std.specs.Prelude.{◌≡◌, List, ℕ, ◌+◌, ◌*◌, ◌^◌, ◌<◌, ◌≤◌, length}
use Rattle.report.specs.Bits.{Bit}
use Rattle.report.specs.Types.{Ty, width, pad_l, pad_r, word_ty}
use Rattle.report.specs.Values.{Val, padded}
use Rattle.report.specs.Terms.{Term, iden, comp, unit, injl, injr, case, pair, take, drop, assertl, assertr, fail, witness, word, disconnect, bad}
use Rattle.report.specs.Meaning.{done}
use Rattle.layout.specs.Mach.{Mach, active_write, active_read}
use Rattle.layout.specs.Rules.{pushed, moved, dropped, bit_written, bits_written, skipped, copied, forwarded, peeked}
use Rattle.layout.specs.Exec.{Outcome, Around, pairing, composing, disconnecting, first_of, second_of, run_term, with_input, with_output}

-- A rule's needs take the number of cells, `cap`, by itself: a function that is not lent the cells states them over no cells.

-- room for a frame of n cells
pub record PushOk (cap n : ℕ) (m : Mach) : Type 0 where
  pub room : m.write_frames + m.read_frames < length m.records
  pub fits : m.next + n ≤ cap

-- a write frame stands and can be moved
pub record MoveOk (m : Mach) : Type 0 where
  pub some : 0 < m.write_frames
  pub held : m.write_frames + m.read_frames ≤ length m.records

-- a read frame stands
pub record DropOk (m : Mach) : Type 0 where
  pub some : 0 < m.read_frames
  pub held : m.read_frames ≤ length m.records

-- a write frame stands, and n cells from its cursor on
pub record WriteOk (cap n : ℕ) (m : Mach) : Type 0 where
  pub some : 0 < m.write_frames
  pub held : m.write_frames ≤ length m.records
  pub fits : (active_write m).cursor + n ≤ cap

-- a read frame stands, and n cells from its cursor on
pub record ReadOk (cap n : ℕ) (m : Mach) : Type 0 where
  pub some : 0 < m.read_frames
  pub held : m.read_frames ≤ length m.records
  pub fits : (active_read m).cursor + n ≤ cap

-- a read frame stands, and its cursor can go n cells back
pub record BackOk (n : ℕ) (m : Mach) : Type 0 where
  pub some : 0 < m.read_frames
  pub held : m.read_frames ≤ length m.records
  pub least : n ≤ (active_read m).cursor

-- n cells can be copied from the read cursor on to the write cursor
pub record CopyOk (cap n : ℕ) (m : Mach) : Type 0 where
  pub from : ReadOk cap n m
  pub to : WriteOk cap n m

-- before the children of a disconnect: the hash and the source in a frame, which is moved, and a frame for the left child
pub record HandOk (hash : List Bit) (source target : ℕ) (m : Mach) : Type 0 where
  pub push : PushOk (length m.bits) (width (word_ty 8) + source) m
  pub write : 0 < length hash → WriteOk (length m.bits) (length hash) (pushed (width (word_ty 8) + source) m)
  pub copy : 0 < source → CopyOk (length m.bits) source (bits_written hash (pushed (width (word_ty 8) + source) m))
  pub move : MoveOk (copied source (bits_written hash (pushed (width (word_ty 8) + source) m)))
  pub last : PushOk (length m.bits) target (moved (copied source (bits_written hash (pushed (width (word_ty 8) + source) m))))

-- between the children of a disconnect: what the left child made is moved, and its first part copied and passed over
pub record KeepOk (kept : ℕ) (m : Mach) : Type 0 where
  pub move : MoveOk m
  pub copy : 0 < kept → CopyOk (length m.bits) kept (moved m)
  pub pass : 0 < kept → ReadOk (length m.bits) kept (copied kept (moved m))

-- what is needed before the left child, between the children and after the right one
abbrev pub FirstOk : Around → Mach → Type 0
FirstOk pairing m = Unit {0}
FirstOk (composing n) m = PushOk (length m.bits) n m
FirstOk (disconnecting h a b c) m = HandOk h a (b + c) m

abbrev pub SecondOk : Around → Mach → Type 0
SecondOk pairing m = Unit {0}
SecondOk (composing n) m = MoveOk m
SecondOk (disconnecting h a b c) m = KeepOk b m

abbrev pub ThirdOk : Around → Mach → Type 0
ThirdOk pairing m = Unit {0}
ThirdOk (composing n) m = DropOk m
ThirdOk (disconnecting h a b c) m = DropOk m × DropOk (dropped m)

-- a child, by what its run needs and by its run
module _ (SafeChild : Mach → Type 0) (run_child : Mach → Outcome) where
  -- a child on m, then the read cursor n cells back
  pub record ReturnOk (n : ℕ) (m : Mach) : Type 0 where
    pub body : SafeChild m
    pub home : (m2 : Mach) → run_child m ≡ done m2 → 0 < n → BackOk n m2

  -- a child with the read cursor n cells on
  pub record UnderOk (n : ℕ) (m : Mach) : Type 0 where
    pub pass : 0 < n → ReadOk (length m.bits) n m
    pub child : ReturnOk n (forwarded n m)

  -- a child behind a tag and n cells of padding
  pub record TagOk (b : Bit) (n : ℕ) (m : Mach) : Type 0 where
    pub write : WriteOk (length m.bits) 1 m
    pub skip : 0 < n → WriteOk (length m.bits) n (bit_written b m)
    pub child : ReturnOk 0 (skipped n (bit_written b m))

-- what follows a left child that left m2
pub record AfterLeft (k : Around) (SafeRight : Mach → Type 0) (run_right : Mach → Outcome) (m2 : Mach) : Type 0 where
  pub second : SecondOk k m2
  pub right : SafeRight (second_of k m2)
  pub third : (m4 : Mach) → run_right (second_of k m2) ≡ done m4 → ThirdOk k m4

-- two children
pub record AroundOk (k : Around) (SafeLeft SafeRight : Mach → Type 0) (run_left run_right : Mach → Outcome) (m : Mach) : Type 0 where
  pub first : FirstOk k m
  pub left : SafeLeft (first_of k m)
  pub then : (m2 : Mach) → run_left (first_of k m) ≡ done m2 → AfterLeft k SafeRight run_right m2

-- a branch: the bit at the read cursor can be read, and what it picks is safe
pub record BranchOk (Left Right : Type 0) (m : Mach) : Type 0 where
  pub look : ReadOk (length m.bits) 1 m
  pub left : peeked m ≡ 0 → Left
  pub right : (peeked m ≡ 0 → ⊥) → Right

-- the run of a term stays within the cells and the records, and never lacks a frame
unfoldable pub Safe : Term → Mach → Type 0
Safe (iden A) m = 0 < width A → CopyOk (length m.bits) (width A) m
Safe (comp B s t) m = AroundOk (composing (width B)) (λ z. Safe s z) (λ z. Safe t z) (λ z. run_term s z) (λ z. run_term t z) m
Safe unit m = Unit {0}
Safe (injl B C t) m = TagOk (λ z. Safe t z) (λ z. run_term t z) 0 (pad_l B C) m
Safe (injr B C t) m = TagOk (λ z. Safe t z) (λ z. run_term t z) 1 (pad_r B C) m
Safe (case A B s t) m =
    BranchOk (UnderOk (λ z. Safe s z) (λ z. run_term s z) (1 + pad_l A B) m) (UnderOk (λ z. Safe t z) (λ z. run_term t z) (1 + pad_r A B) m) m
Safe (pair B s t) m = AroundOk pairing (λ z. Safe s z) (λ z. Safe t z) (λ z. run_term s z) (λ z. run_term t z) m
Safe (take t) m = UnderOk (λ z. Safe t z) (λ z. run_term t z) 0 m
Safe (drop A t) m = UnderOk (λ z. Safe t z) (λ z. run_term t z) (width A) m
Safe (assertl p A B s) m = BranchOk (UnderOk (λ z. Safe s z) (λ z. run_term s z) (1 + pad_l A B) m) (Unit {0}) m
Safe (assertr p A B t) m = BranchOk (Unit {0}) (UnderOk (λ z. Safe t z) (λ z. run_term t z) (1 + pad_r A B) m) m
Safe (fail p) m = Unit {0}
Safe (witness A v) m = 0 < length (padded A v) → WriteOk (length m.bits) (length (padded A v)) m
Safe (word A v) m = 0 < length (padded A v) → WriteOk (length m.bits) (length (padded A v)) m
Safe (disconnect A B C h s t) m =
    AroundOk (disconnecting (padded (word_ty 8) h) (width A) (width B) (width C)) (λ z. Safe s z) (λ z. Safe t z) (λ z. run_term s z) (λ z. run_term t z) m
Safe bad m = ⊥

-- an input of n cells can be written and its frame moved, where n is not 0
pub record InputOk (n : ℕ) (bits : List Bit) (m : Mach) : Type 0 where
  pub push : PushOk (length m.bits) n m
  pub write : 0 < length bits → WriteOk (length m.bits) (length bits) (pushed n m)
  pub move : MoveOk (bits_written bits (pushed n m))

-- a whole run does so, with the frames of its input and its output
pub record WholeOk (t : Term) (A B : Ty) (v : Val) (m : Mach) : Type 0 where
  pub input : 0 < width A → InputOk (width A) (padded A v) m
  pub output : 0 < width B → PushOk (length m.bits) (width B) (with_input (width A) (padded A v) m)
  pub term : Safe t (with_output (width B) (with_input (width A) (padded A v) m))

-- the stores lent, in bytes and in numbers, are so small that no place in them and no sum up to their end passes 32 bits
pub record Fed (bytes numbers : List ℕ) : Type 0 where
  pub cells : 8 * length bytes ≤ 2 ^ 31
  pub frames : length numbers ≤ 2 ^ 31
