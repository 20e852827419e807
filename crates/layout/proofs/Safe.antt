-- What a rule needs, over other cells and for a larger cap, and that no sum that a rule makes passes 32 bits.
-- The functions that are lent only a part of the stores ask for their needs in this form.
use Rattle.std.specs.Prelude.{◌≡◌, List, ℕ, ◌+◌, ◌^◌, ◌<◌, ◌≤◌, length}
use Rattle.std.proofs.Common.{arith}
use Rattle.report.specs.Bits.{bits_of}
use Rattle.scope.specs.Machine.{Frame}
use Rattle.common.specs.Bits.{length_bits}
use Rattle.layout.specs.Mach.{Mach, mach, active_write, active_read}
use Rattle.layout.specs.Safe.{PushOk, MoveOk, DropOk, WriteOk, ReadOk, BackOk, CopyOk, Fed}

-- the same needs over other cells and for a larger cap, as a function that is not lent the cells asks for them
module _ {b : List ℕ} {rs : List Frame} {w r x : ℕ} (other : List ℕ) where
  pub push_over : {cap more n : ℕ} → cap ≤ more → PushOk cap n (mach b rs w r x) → PushOk more n (mach other rs w r x)
  push_over le h = record { room = h.room; fits = let z = h.fits in omega arith }

  pub write_over : {cap more n : ℕ} → cap ≤ more → WriteOk cap n (mach b rs w r x) → WriteOk more n (mach other rs w r x)
  write_over le h = record { some = h.some; held = h.held; fits = let z = h.fits in omega arith }

  pub read_over : {cap more n : ℕ} → cap ≤ more → ReadOk cap n (mach b rs w r x) → ReadOk more n (mach other rs w r x)
  read_over le h = record { some = h.some; held = h.held; fits = let z = h.fits in omega arith }

  pub copy_over : {cap more n : ℕ} → cap ≤ more → CopyOk cap n (mach b rs w r x) → CopyOk more n (mach other rs w r x)
  copy_over le h = record { from = read_over le h.from; to = write_over le h.to }

  pub move_over : MoveOk (mach b rs w r x) → MoveOk (mach other rs w r x)
  move_over h = record { some = h.some; held = h.held }

  pub drop_over : DropOk (mach b rs w r x) → DropOk (mach other rs w r x)
  drop_over h = record { some = h.some; held = h.held }

  pub back_over : {n : ℕ} → BackOk n (mach b rs w r x) → BackOk n (mach other rs w r x)
  back_over h = record { some = h.some; held = h.held; least = h.least }

-- stores of the same sizes
pub fed_kept : {cells cells' frames frames' : List ℕ} → Fed cells frames → length cells' ≡ length cells → length frames' ≡ length frames → Fed cells' frames'
fed_kept h e g =
    let a = h.cells in
    let b = h.frames in
    record { cells = omega arith; frames = omega arith }

-- the bits of the lent cells are not more than a 32-bit number counts
pub fed_bits : {cells frames : List ℕ} → Fed cells frames → length (bits_of cells) ≤ 2 ^ 31
fed_bits {cells} h = let a = h.cells in omega (arith, length_bits cells)

-- no sum that a rule makes passes 32 bits
module _ {cells frames : List ℕ} {n : ℕ} {m : Mach} (h : Fed cells frames) where
  pub write_small : WriteOk (length (bits_of cells)) n m → (active_write m).cursor + n < 2 ^ 32
  write_small w = let a = w.fits in omega (arith, fed_bits h)

  pub read_small : ReadOk (length (bits_of cells)) n m → (active_read m).cursor + n < 2 ^ 32
  read_small r = let a = r.fits in omega (arith, fed_bits h)

  pub push_small : PushOk (length (bits_of cells)) n m → m.next + n < 2 ^ 32
  push_small p = let a = p.fits in omega (arith, fed_bits h)
