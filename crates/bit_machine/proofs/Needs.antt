-- What is done around two children, by which of the three nodes it is; and the needs of the rules there.
-- Machines that are equal need the same, whatever cells a function is lent.
use mathlib.Core.Path.{◌≡◌, sym, ap, ◌∙◌, subst}
use mathlib.Core.List.{List, []}
use Prim.Native.Nat.{ℕ, ◌+◌, ◌^◌, ◌≤◌}
use native.Mathlib.Omega.{arith}
use lib.ListN.{length}
use Rattle.report.specs.Bits.{Bit, bits_of}
use Rattle.report.specs.Types.{width, word_ty}
use Rattle.scope.specs.Machine.{Frame}
use Rattle.layout.specs.Mach.{Mach, mach}
use Rattle.layout.specs.Rules.{pushed, moved, dropped, copied, forwarded}
use Rattle.layout.specs.Exec.{first_of, second_of, third_of}
use Rattle.common.specs.Bits.{length_bits}
use Rattle.layout.specs.Safe.{Fed, PushOk, MoveOk, DropOk, WriteOk, ReadOk, BackOk, CopyOk, FirstOk, SecondOk, ThirdOk}
use Rattle.layout.proofs.Safe.{push_over, move_over, drop_over, write_over, read_over, back_over}
use Rattle.bit_machine.specs.Machine.{machine_of, Within}
use Rattle.bit_machine.specs.declared.Heights.{Heights}
use Rattle.bit_machine.specs.Engine.{around_of, handed}
use Rattle.lookup.specs.declared.Around.{Around}
use Rattle.lookup.specs.declared.Around.TheVariants.{Pairing, Composing, Disconnecting}
use Rattle.exactness.specs.Values.{width_word}

-- stores within the limits of a run are small enough for every sum
pub within_fed : {bytes numbers : List ℕ} → Within bytes numbers → Fed bytes numbers
within_fed h =
    let a = h.cells in
    record { cells = omega arith; frames = h.frames }

pub within_kept : {bytes bytes' numbers numbers' : List ℕ} → Within bytes numbers → length bytes' ≡ length bytes
    → length numbers' ≡ length numbers → Within bytes' numbers'
within_kept h e g =
    let a = h.cells in
    let b = h.frames in
    record { cells = omega arith; frames = omega arith }

-- as many bits in as many bytes
pub bits_kept : (bytes bytes' : List ℕ) → length bytes' ≡ length bytes → length (bits_of bytes') ≡ length (bits_of bytes)
bits_kept bytes bytes' e = omega (arith, length_bits bytes, length_bits bytes')

-- the needs of a rule that is not lent the cells, of a machine that is known under another name
module _ {b : List ℕ} {rs : List Frame} {w r x : ℕ} {m : Mach} (is : mach b rs w r x ≡ m) where
  pub push_need : {cap n : ℕ} → cap ≤ 2 ^ 31 → PushOk cap n m → PushOk (2 ^ 31) n (mach [] rs w r x)
  push_need {cap} {n} le h = push_over [] le (subst (λ (z : Mach). PushOk cap n z) (sym is) h)

  pub move_need : MoveOk m → MoveOk (mach [] rs w r x)
  move_need h = move_over [] (subst (λ (z : Mach). MoveOk z) (sym is) h)

  pub drop_need : DropOk m → DropOk (mach [] rs w r x)
  drop_need h = drop_over [] (subst (λ (z : Mach). DropOk z) (sym is) h)

  pub write_need : {cap n : ℕ} → cap ≤ 2 ^ 31 → WriteOk cap n m → WriteOk (2 ^ 31) n (mach [] rs w r x)
  write_need {cap} {n} le h = write_over [] le (subst (λ (z : Mach). WriteOk cap n z) (sym is) h)

  pub read_need : {cap n : ℕ} → cap ≤ 2 ^ 31 → ReadOk cap n m → ReadOk (2 ^ 31) n (mach [] rs w r x)
  read_need {cap} {n} le h = read_over [] le (subst (λ (z : Mach). ReadOk cap n z) (sym is) h)

  pub back_need : {n : ℕ} → BackOk n m → BackOk n (mach [] rs w r x)
  back_need {n} h = back_over [] (subst (λ (z : Mach). BackOk n z) (sym is) h)

-- what is done, by the node
module _ {w : Around} (hash : List Bit) (m : Mach) where
  pub first_pair : w ≡ Pairing → first_of (around_of w hash) m ≡ m
  unfolding first_of
  first_pair e = rw e

  pub second_pair : w ≡ Pairing → second_of (around_of w hash) m ≡ m
  unfolding second_of
  second_pair e = rw e

  pub third_pair : w ≡ Pairing → third_of (around_of w hash) m ≡ m
  unfolding third_of
  third_pair e = rw e

  pub first_comp : {n : ℕ} → w ≡ Composing n → first_of (around_of w hash) m ≡ pushed n m
  unfolding first_of
  first_comp e = rw e

  pub second_comp : {n : ℕ} → w ≡ Composing n → second_of (around_of w hash) m ≡ moved m
  unfolding second_of
  second_comp e = rw e

  pub third_comp : {n : ℕ} → w ≡ Composing n → third_of (around_of w hash) m ≡ dropped m
  unfolding third_of
  third_comp e = rw e

  pub first_disconnect : {a b c : ℕ} → w ≡ Disconnecting a b c → first_of (around_of w hash) m ≡ handed hash a (b + c) m
  unfolding first_of
  first_disconnect e = rw e

  pub second_disconnect : {a b c : ℕ} → w ≡ Disconnecting a b c → second_of (around_of w hash) m ≡ forwarded b (copied b (moved m))
  unfolding second_of
  second_disconnect e = rw e

  pub third_disconnect : {a b c : ℕ} → w ≡ Disconnecting a b c → third_of (around_of w hash) m ≡ dropped (dropped m)
  unfolding third_of
  third_disconnect e = rw e

  pub first_needs : {v : Around} → w ≡ v → FirstOk (around_of w hash) m → FirstOk (around_of v hash) m
  first_needs e h = subst (λ (v : Around). FirstOk (around_of v hash) m) e h

  pub second_needs : {v : Around} → w ≡ v → SecondOk (around_of w hash) m → SecondOk (around_of v hash) m
  second_needs e h = subst (λ (v : Around). SecondOk (around_of v hash) m) e h

  pub third_needs : {v : Around} → w ≡ v → ThirdOk (around_of w hash) m → ThirdOk (around_of v hash) m
  third_needs e h = subst (λ (v : Around). ThirdOk (around_of v hash) m) e h

-- the needs between and after the children do not depend on the hash
pub second_any : (w : Around) (hash hash' : List Bit) (m : Mach) → SecondOk (around_of w hash) m → SecondOk (around_of w hash') m
second_any Pairing hash hash' m h = h
second_any (Composing n) hash hash' m h = h
second_any (Disconnecting a b c) hash hash' m h = h

-- and those after them not on the cells
pub third_any : (w : Around) (hash hash' : List Bit) (bits numbers : List ℕ) (h : Heights)
    → ThirdOk (around_of w hash) (machine_of bits numbers h) → ThirdOk (around_of w hash') (machine_of [] numbers h)
unfolding dropped
third_any Pairing hash hash' bits numbers h ok = ok
third_any (Composing n) hash hash' bits numbers h ok = drop_over [] ok
third_any (Disconnecting a b c) hash hash' bits numbers h ok = (drop_over [] ok.0, drop_over [] ok.1)

-- the needs of a rule that is lent the cells, of a machine that is known under another name
module _ {m m' : Mach} (is : m' ≡ m) {cap cap' n : ℕ} (size : cap' ≡ cap) where
  pub write_as : WriteOk cap n m → WriteOk cap' n m'
  write_as h = rw (is, size) h

  pub copy_as : CopyOk cap n m → CopyOk cap' n m'
  copy_as h = rw (is, size) h

-- the frame of a hash and a source
hash_wide : width (word_ty 8) ≡ 256
hash_wide = width_word 8

pub hash_size : (s : ℕ) {cap : ℕ} {m : Mach} → PushOk cap (width (word_ty 8) + s) m → PushOk cap (256 + s) m
hash_size s {cap} {m} h = subst (λ (k : ℕ). PushOk cap (k + s) m) hash_wide h

pub hash_pushed : (s : ℕ) (m : Mach) {m' : Mach} → m' ≡ pushed (256 + s) m → m' ≡ pushed (width (word_ty 8) + s) m
hash_pushed s m e = e ∙ ap (λ (k : ℕ). pushed (k + s) m) (sym hash_wide)

pub hash_fits : (s : ℕ) {cap : ℕ} {m : Mach} → cap ≤ 2 ^ 31 → PushOk cap (width (word_ty 8) + s) m → 256 + s ≤ 2 ^ 31
hash_fits s le h = let z = h.fits in omega (arith, hash_wide)
