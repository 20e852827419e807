-- How the store machine runs a term: the same terms as the machine of the requirements runs, with widths for types.
-- A term with one child prepares, runs the child and goes back; a term with two children does something before, between and after them.
-- A run ends with the machine, or stops at a fail node or a pruned branch with the machine at the stop.
use Rattle.std.specs.Prelude.{List, ℕ, zero, suc, ◌+◌}
use Rattle.report.specs.Bits.{Bit}
use Rattle.report.specs.Types.{Ty, width, pad_l, pad_r, word_ty}
use Rattle.report.specs.Values.{Val, padded}
use Rattle.report.specs.Terms.{Term, iden, comp, unit, injl, injr, case, pair, take, drop, assertl, assertr, fail, witness, word, disconnect, bad}
use Rattle.report.specs.Meaning.{Out, done, failed, pruned, stuck, ◌>>=◌}
use Rattle.layout.specs.Mach.{Mach}
use Rattle.layout.specs.Rules.{pushed, moved, dropped, bit_written, bits_written, skipped, copied, forwarded, backed, peeked}

-- how the store machine ends
abbrev pub Outcome : Type 0
Outcome = Out Mach Mach

-- the terms with two children, by what is done around them: a middle of so many cells; a hash of 256 bits with a source of so many cells,
-- and the two parts of the left child's target
pub data Around : Type 0 where
  pairing : Around
  composing : (middle : ℕ) → Around
  disconnecting : (hash : List Bit) → (source kept handed : ℕ) → Around

-- before the left child
unfoldable pub first_of : Around → Mach → Mach
first_of pairing m = m
first_of (composing n) m = pushed n m
first_of (disconnecting h a b c) m = pushed (b + c) (moved (copied a (bits_written h (pushed (width (word_ty 8) + a) m))))

-- between the children
unfoldable pub second_of : Around → Mach → Mach
second_of pairing m = m
second_of (composing n) m = moved m
second_of (disconnecting h a b c) m = forwarded b (copied b (moved m))

-- after the right child
unfoldable pub third_of : Around → Mach → Mach
third_of pairing m = m
third_of (composing n) m = dropped m
third_of (disconnecting h a b c) m = dropped (dropped m)

-- two children
abbrev pub around : Around → (left right : Mach → Outcome) → Mach → Outcome
around k left right m = left (first_of k m) >>= λ m. (right (second_of k m) >>= λ m. done (third_of k m))

-- a child's outcome, then the read cursor n cells back
abbrev pub returning : ℕ → Outcome → Outcome
returning n o = o >>= λ m. done (backed n m)

-- one child with the read cursor n cells on
abbrev pub under : ℕ → (child : Mach → Outcome) → Mach → Outcome
under n child m = returning n (child (forwarded n m))

-- one child behind a tag and so many cells of padding
abbrev pub tagged : Bit → (padding : ℕ) → (child : Mach → Outcome) → Mach → Outcome
tagged b n child m = returning 0 (child (skipped n (bit_written b m)))

-- a term on the store machine
unfoldable pub run_term : Term → Mach → Outcome
run_term (iden A) m = done (copied (width A) m)
run_term (comp B s t) m = around (composing (width B)) (λ z. run_term s z) (λ z. run_term t z) m
run_term unit m = done m
run_term (injl B C t) m = tagged 0 (pad_l B C) (λ z. run_term t z) m
run_term (injr B C t) m = tagged 1 (pad_r B C) (λ z. run_term t z) m
run_term (case A B s t) m = elim (peeked m) [
  | zero ↦ under (1 + pad_l A B) (λ z. run_term s z) m
  | suc b ↦ under (1 + pad_r A B) (λ z. run_term t z) m
]
run_term (pair B s t) m = around pairing (λ z. run_term s z) (λ z. run_term t z) m
run_term (take t) m = under 0 (λ z. run_term t z) m
run_term (drop A t) m = under (width A) (λ z. run_term t z) m
run_term (assertl p A B s) m = elim (peeked m) [
  | zero ↦ under (1 + pad_l A B) (λ z. run_term s z) m
  | suc b ↦ pruned p m
]
run_term (assertr p A B t) m = elim (peeked m) [
  | zero ↦ pruned p m
  | suc b ↦ under (1 + pad_r A B) (λ z. run_term t z) m
]
run_term (fail p) m = failed p m
run_term (witness A v) m = done (bits_written (padded A v) m)
run_term (word A v) m = done (bits_written (padded A v) m)
run_term (disconnect A B C h s t) m =
    around (disconnecting (padded (word_ty 8) h) (width A) (width B) (width C)) (λ z. run_term s z) (λ z. run_term t z) m
run_term bad m = stuck

-- an input of width above 0 in a read frame, and a write frame for an output of width above 0
unfoldable pub with_input : (n : ℕ) → List Bit → Mach → Mach
with_input zero bits m = m
with_input (suc n) bits m = moved (bits_written bits (pushed (suc n) m))

unfoldable pub with_output : (n : ℕ) → Mach → Mach
with_output zero m = m
with_output (suc n) m = pushed (suc n) m

-- a whole run of a term from A to B on an input value
unfoldable pub run_whole : Term → (A B : Ty) → Val → Mach → Outcome
run_whole t A B v m = run_term t (with_output (width B) (with_input (width A) (padded A v) m))

-- a run that stopped, or was stuck
abbrev pub NotDone : Outcome → Type 0
NotDone (done m) = ⊥
NotDone (failed p m) = Unit {0}
NotDone (pruned p m) = Unit {0}
NotDone stuck = Unit {0}
