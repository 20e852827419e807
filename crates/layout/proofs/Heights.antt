-- No run changes how many cells and records there are, and a run that is done leaves as many write frames and read frames as it met.
-- This holds of the store machine for every term, safe or not.
use Rattle.std.specs.Prelude.{◌≡◌, refl, List, [], ◌∷◌, ℕ, zero, suc, ◌+◌, ◌≤◌, set}
use Rattle.std.proofs.Common.{ap, ◌∙◌, arith, length-set}
use Rattle.std.proofs.lemmas.List.{length-replicate}
use Rattle.std.proofs.Math.Seq.{length-sets}
use Rattle.report.specs.Bits.{Bit}
use Rattle.report.specs.Types.{Ty, width, pad_l, pad_r, word_ty}
use Rattle.report.specs.Values.{Val, padded}
use Rattle.report.specs.Terms.{Term, iden, comp, unit, injl, injr, case, pair, take, drop, assertl, assertr, fail, witness, word, disconnect, bad}
use Rattle.report.specs.Meaning.{done, failed, pruned, stuck, ◌>>=◌}
use Rattle.common.specs.Cells.{length_copied}
use Rattle.layout.specs.Mach.{Mach, no_frame, write_place, read_place, active_write, active_read, empty}
use Rattle.layout.specs.Rules.{pushed, moved, dropped, bit_written, bits_written, skipped, copied, forwarded, backed, peeked, all_free}
use Rattle.layout.specs.Exec.{Outcome, Around, pairing, composing, disconnecting, first_of, second_of, third_of, around, returning, under, tagged, run_term, with_input, with_output, run_whole}
use Rattle.layout.specs.Heights.{Sized, Balanced, Keeps, LeftBy, Leaves}

sized_then : {m m2 m3 : Mach} → Sized m m2 → Sized m2 m3 → Sized m m3
sized_then a b = record { bits = b.bits ∙ a.bits; records = b.records ∙ a.records }

balanced_then : {m m2 m3 : Mach} → Balanced m m2 → Balanced m2 m3 → Balanced m m3
balanced_then a b = record { sized = sized_then a.sized b.sized; writes = b.writes ∙ a.writes; reads = b.reads ∙ a.reads }

balanced_here : (m : Mach) → Balanced m m
balanced_here m = record { sized = record { bits = refl; records = refl }; writes = refl; reads = refl }

-- the rules

pushed_sized : (n : ℕ) (m : Mach) → Sized m (pushed n m)
unfolding pushed
pushed_sized n m = record { bits = refl; records = length-set m.records _ _ }

moved_sized : (m : Mach) → Sized m (moved m)
unfolding moved
moved_sized m = record { bits = refl; records = length-set (set m.records (write_place m) _) _ _ ∙ length-set m.records (write_place m) _ }

dropped_sized : (m : Mach) → Sized m (dropped m)
unfolding dropped
dropped_sized m = record { bits = refl; records = length-set m.records (read_place m) _ }

bit_balanced : (b : Bit) (m : Mach) → Balanced m (bit_written b m)
unfolding bit_written
bit_balanced b m = record {
  sized = record { bits = length-set m.bits (active_write m).cursor b; records = length-set m.records (write_place m) _ };
  writes = refl;
  reads = refl;
}

write_balanced : (bs : List Bit) (m : Mach) → Balanced m (bits_written bs m)
unfolding bits_written
write_balanced [] m = balanced_here m
write_balanced (b ∷ bs) m = record {
  sized = record { bits = length-sets m.bits (active_write m).cursor (b ∷ bs); records = length-set m.records (write_place m) _ };
  writes = refl;
  reads = refl;
}

skip_balanced : (n : ℕ) (m : Mach) → Balanced m (skipped n m)
unfolding skipped
skip_balanced zero m = balanced_here m
skip_balanced (suc n) m = record { sized = record { bits = refl; records = length-set m.records (write_place m) _ }; writes = refl; reads = refl }

copy_balanced : (n : ℕ) (m : Mach) → Balanced m (copied n m)
unfolding copied
copy_balanced zero m = balanced_here m
copy_balanced (suc n) m = record {
  sized = record {
    bits = length_copied m.bits (active_read m).cursor (active_write m).cursor (suc n);
    records = length-set m.records (write_place m) _;
  };
  writes = refl;
  reads = refl;
}

forward_balanced : (n : ℕ) (m : Mach) → Balanced m (forwarded n m)
unfolding forwarded
forward_balanced zero m = balanced_here m
forward_balanced (suc n) m = record { sized = record { bits = refl; records = length-set m.records (read_place m) _ }; writes = refl; reads = refl }

back_balanced : (n : ℕ) (m : Mach) → Balanced m (backed n m)
unfolding backed
back_balanced zero m = balanced_here m
back_balanced (suc n) m = record { sized = record { bits = refl; records = length-set m.records (read_place m) _ }; writes = refl; reads = refl }

-- what is done around two children

first_sized : (k : Around) (m : Mach) → Sized m (first_of k m)
unfolding first_of
first_sized pairing m = (balanced_here m).sized
first_sized (composing n) m = pushed_sized n m
first_sized (disconnecting h a b c) m =
    let m1 : Mach = pushed (width (word_ty 8) + a) m in
    sized_then (pushed_sized (width (word_ty 8) + a) m)
    (sized_then (write_balanced h m1).sized
    (sized_then (copy_balanced a (bits_written h m1)).sized
    (sized_then (moved_sized (copied a (bits_written h m1))) (pushed_sized (b + c) (moved (copied a (bits_written h m1)))))))

second_sized : (k : Around) (m : Mach) → Sized m (second_of k m)
unfolding second_of
second_sized pairing m = (balanced_here m).sized
second_sized (composing n) m = moved_sized m
second_sized (disconnecting h a b c) m =
    sized_then (moved_sized m) (sized_then (copy_balanced b (moved m)).sized (forward_balanced b (copied b (moved m))).sized)

third_sized : (k : Around) (m : Mach) → Sized m (third_of k m)
unfolding third_of
third_sized pairing m = (balanced_here m).sized
third_sized (composing n) m = dropped_sized m
third_sized (disconnecting h a b c) m = sized_then (dropped_sized m) (dropped_sized (dropped m))

-- the frames that are pushed before and between the children are dropped after them
around_writes : (k : Around) (m m2 m4 : Mach) → Balanced (first_of k m) m2 → Balanced (second_of k m2) m4 → (third_of k m4).write_frames ≡ m.write_frames
unfolding first_of second_of third_of pushed moved dropped
around_writes pairing m m2 m4 x y = y.writes ∙ x.writes
around_writes (composing n) m m2 m4 x y = omega (arith, x.writes, y.writes)
around_writes (disconnecting h a b c) m m2 m4 x y =
    let m1 : Mach = pushed (width (word_ty 8) + a) m in
    omega (
      arith,
      x.writes,
      y.writes,
      (write_balanced h m1).writes,
      (copy_balanced a (bits_written h m1)).writes,
      (copy_balanced b (moved m2)).writes,
      (forward_balanced b (copied b (moved m2))).writes,
    )

around_reads : (k : Around) (m m2 m4 : Mach) → Balanced (first_of k m) m2 → Balanced (second_of k m2) m4 → (third_of k m4).read_frames ≡ m.read_frames
unfolding first_of second_of third_of pushed moved dropped
around_reads pairing m m2 m4 x y = y.reads ∙ x.reads
around_reads (composing n) m m2 m4 x y = omega (arith, x.reads, y.reads)
around_reads (disconnecting h a b c) m m2 m4 x y =
    let m1 : Mach = pushed (width (word_ty 8) + a) m in
    omega (
      arith,
      x.reads,
      y.reads,
      (write_balanced h m1).reads,
      (copy_balanced a (bits_written h m1)).reads,
      (copy_balanced b (moved m2)).reads,
      (forward_balanced b (copied b (moved m2))).reads,
    )

-- runs

keeps_after : (m m1 : Mach) (o : Outcome) → Balanced m m1 → Keeps m1 o → Keeps m o
keeps_after m m1 (done m2) b k = balanced_then b k
keeps_after m m1 (failed p m2) b k = sized_then b.sized k
keeps_after m m1 (pruned p m2) b k = sized_then b.sized k
keeps_after m m1 stuck b k = tt

-- a child, then the read cursor back
return_keeps : (n : ℕ) (m : Mach) (o : Outcome) → Keeps m o → Keeps m (returning n o)
unfolding ◌>>=◌
return_keeps n m (done m2) k = balanced_then k (back_balanced n m2)
return_keeps n m (failed p m2) k = k
return_keeps n m (pruned p m2) k = k
return_keeps n m stuck k = tt

under_keeps : (n : ℕ) (m : Mach) (child : Mach → Outcome) → ((m : Mach) → Keeps m (child m)) → Keeps m (under n child m)
under_keeps n m child k =
    keeps_after m (forwarded n m) (under n child m) (forward_balanced n m) (return_keeps n (forwarded n m) (child (forwarded n m)) (k (forwarded n m)))

tag_keeps : (b : Bit) (n : ℕ) (m : Mach) (child : Mach → Outcome) → ((m : Mach) → Keeps m (child m)) → Keeps m (tagged b n child m)
tag_keeps b n m child k =
    let m1 : Mach = skipped n (bit_written b m) in
    keeps_after m m1 (tagged b n child m) (balanced_then (bit_balanced b m) (skip_balanced n (bit_written b m))) (return_keeps 0 m1 (child m1) (k m1))

right_keeps : (k : Around) (m m2 : Mach) (o : Outcome) → Balanced (first_of k m) m2 → Keeps (second_of k m2) o → Keeps m (o >>= λ m. done (third_of k m))
unfolding ◌>>=◌
right_keeps k m m2 (done m4) x y = record {
  sized = sized_then (sized_then (first_sized k m) x.sized) (sized_then (second_sized k m2) (sized_then y.sized (third_sized k m4)));
  writes = around_writes k m m2 m4 x y;
  reads = around_reads k m m2 m4 x y;
}
right_keeps k m m2 (failed p m4) x y = sized_then (sized_then (first_sized k m) x.sized) (sized_then (second_sized k m2) y)
right_keeps k m m2 (pruned p m4) x y = sized_then (sized_then (first_sized k m) x.sized) (sized_then (second_sized k m2) y)
right_keeps k m m2 stuck x y = tt

left_keeps : (k : Around) (m : Mach) (o : Outcome) (right : Mach → Outcome) → Keeps (first_of k m) o → ((m : Mach) → Keeps m (right m))
    → Keeps m (o >>= λ m. (right (second_of k m) >>= λ m. done (third_of k m)))
unfolding ◌>>=◌
left_keeps k m (done m2) right x y = right_keeps k m m2 (right (second_of k m2)) x (y (second_of k m2))
left_keeps k m (failed p m2) right x y = sized_then (first_sized k m) x
left_keeps k m (pruned p m2) right x y = sized_then (first_sized k m) x
left_keeps k m stuck right x y = tt

around_keeps : (k : Around) (m : Mach) (left right : Mach → Outcome) → ((m : Mach) → Keeps m (left m)) → ((m : Mach) → Keeps m (right m))
    → Keeps m (around k left right m)
around_keeps k m left right x y = left_keeps k m (left (first_of k m)) right (x (first_of k m)) y

branch_keeps : (m : Mach) (b : Bit) (L R : Outcome) → Keeps m L → Keeps m R → Keeps m (elim b [ zero ↦ L | suc b ↦ R ])
branch_keeps m zero L R x y = x
branch_keeps m (suc b) L R x y = y

-- every term
pub run_keeps : (t : Term) (m : Mach) → Keeps m (run_term t m)
unfolding run_term
run_keeps (iden A) m = copy_balanced (width A) m
run_keeps (comp B s t) m = around_keeps (composing (width B)) m (λ z. run_term s z) (λ z. run_term t z) (λ z. run_keeps s z) (λ z. run_keeps t z)
run_keeps unit m = balanced_here m
run_keeps (injl B C t) m = tag_keeps 0 (pad_l B C) m (λ z. run_term t z) (λ z. run_keeps t z)
run_keeps (injr B C t) m = tag_keeps 1 (pad_r B C) m (λ z. run_term t z) (λ z. run_keeps t z)
run_keeps (case A B s t) m =
    branch_keeps m (peeked m) (under (1 + pad_l A B) (λ z. run_term s z) m) (under (1 + pad_r A B) (λ z. run_term t z) m)
    (under_keeps (1 + pad_l A B) m (λ z. run_term s z) (λ z. run_keeps s z)) (under_keeps (1 + pad_r A B) m (λ z. run_term t z) (λ z. run_keeps t z))
run_keeps (pair B s t) m = around_keeps pairing m (λ z. run_term s z) (λ z. run_term t z) (λ z. run_keeps s z) (λ z. run_keeps t z)
run_keeps (take t) m = under_keeps 0 m (λ z. run_term t z) (λ z. run_keeps t z)
run_keeps (drop A t) m = under_keeps (width A) m (λ z. run_term t z) (λ z. run_keeps t z)
run_keeps (assertl p A B s) m =
    branch_keeps m (peeked m) (under (1 + pad_l A B) (λ z. run_term s z) m) (pruned p m) (under_keeps (1 + pad_l A B) m (λ z. run_term s z) (λ z. run_keeps s z))
    (balanced_here m).sized
run_keeps (assertr p A B t) m =
    branch_keeps m (peeked m) (pruned p m) (under (1 + pad_r A B) (λ z. run_term t z) m) (balanced_here m).sized
    (under_keeps (1 + pad_r A B) m (λ z. run_term t z) (λ z. run_keeps t z))
run_keeps (fail p) m = (balanced_here m).sized
run_keeps (witness A v) m = write_balanced (padded A v) m
run_keeps (word A v) m = write_balanced (padded A v) m
run_keeps (disconnect A B C h s t) m =
    around_keeps (disconnecting (padded (word_ty 8) h) (width A) (width B) (width C)) m (λ z. run_term s z) (λ z. run_term t z) (λ z. run_keeps s z)
    (λ z. run_keeps t z)
run_keeps bad m = tt

-- a whole run

input_sized : (n : ℕ) (bits : List Bit) (m : Mach) → Sized m (with_input n bits m)
unfolding with_input
input_sized zero bits m = (balanced_here m).sized
input_sized (suc n) bits m =
    sized_then (pushed_sized (suc n) m)
    (sized_then (write_balanced bits (pushed (suc n) m)).sized (moved_sized (bits_written bits (pushed (suc n) m))))

output_sized : (n : ℕ) (m : Mach) → Sized m (with_output n m)
unfolding with_output
output_sized zero m = (balanced_here m).sized
output_sized (suc n) m = pushed_sized (suc n) m

input_frames : (n : ℕ) (bits : List Bit) (m : Mach)
    → ((with_input n bits m).write_frames ≡ m.write_frames) × ((with_input n bits m).read_frames ≤ m.read_frames + 1)
unfolding with_input pushed moved
input_frames zero bits m = (refl, omega arith)
input_frames (suc n) bits m =
    let b = write_balanced bits (pushed (suc n) m) in
    (omega (arith, b.writes), omega (arith, b.reads))

output_frames : (n : ℕ) (m : Mach) → ((with_output n m).write_frames ≤ m.write_frames + 1) × ((with_output n m).read_frames ≡ m.read_frames)
unfolding with_output pushed
output_frames zero m = (omega arith, refl)
output_frames (suc n) m = (omega arith, refl)

module _ (b : List ℕ) (most : ℕ) (m : Mach) (start : Sized (empty b most) m) where
  left_by_lem : (m2 : Mach) → Sized m m2 → LeftBy b most m2
  left_by_lem m2 k =
      let z = sized_then start k in
      record { bits = z.bits; records = z.records ∙ length-replicate most no_frame }

  leaves_of : (o : Outcome) → m.write_frames ≤ 1 → m.read_frames ≤ 1 → Keeps m o → Leaves b most o
  leaves_of (done m2) w r k = record { left = left_by_lem m2 k.sized; writes = omega (arith, k.writes); reads = omega (arith, k.reads) }
  leaves_of (failed p m2) w r k = left_by_lem m2 k
  leaves_of (pruned p m2) w r k = left_by_lem m2 k
  leaves_of stuck w r k = tt

pub whole_leaves : (t : Term) (A B : Ty) (v : Val) (b : List ℕ) (most : ℕ) → Leaves b most (run_whole t A B v (empty b most))
unfolding run_whole
whole_leaves t A B v b most =
    let m1 : Mach = with_input (width A) (padded A v) (empty b most) in
    let m2 : Mach = with_output (width B) m1 in
    let i = input_frames (width A) (padded A v) (empty b most) in
    let o = output_frames (width B) m1 in
    leaves_of b most m2 (sized_then (input_sized (width A) (padded A v) (empty b most)) (output_sized (width B) m1)) (run_term t m2)
    (omega (arith, i.0, o.0)) (omega (arith, i.1, o.1)) (run_keeps t m2)

-- the last step of a run leaves no frame and every record free, whatever the end was
pub all_free-empty : (b : List ℕ) (most : ℕ) (m : Mach) → LeftBy b most m → all_free m ≡ empty m.bits most
unfolding all_free
all_free-empty b most m h = ap (λ k. empty m.bits k) h.records
