-- Closing: when a slice's stream ends at a position, but for fewer than eight zeros, as code tests it.
use mathlib.Core.Path.{◌≡◌, ap, ◌∙◌}
use mathlib.Core.Bool.{Bool, true, false}
use mathlib.Core.List.{List, [], ◌++◌, append-nil}
use Prim.Native.Nat.{ℕ, suc, ◌+◌, ◌*◌, ◌-◌, ◌/◌, ◌%◌, ◌^◌, ◌≤◌, ◌<◌}
use native.Mathlib.Omega.{arith}
use borrow.Author.Tests.{lt-ltb, le-ltb, le-leb, lt-leb}
use lib.Dec.{eqb}
use lib.ListN.{length, get_or, drop, drop_of_length-le}
use Rattle.report.specs.Bits.{Bit, byte_bits, bits_of}
use Rattle.scope.specs.Numbers.{stream_of, every, all_zero}
use Rattle.scope.specs.Closing.{closes}
use Rattle.common.specs.Checks.{every_one}
use Rattle.bititer.proofs.Bits.{bits_from_lem, byte_at}
use Rattle.common.specs.Bits.{stream_within, length_within}
use Rattle.bititer.proofs.Streams.{stream_some}

pub closes_past : (bits : List Bit) (p : ℕ) → length bits < p → closes bits p ≡ false
unfolding closes every
closes_past bits p h = rw (lt-leb p (length bits) h, closes, every)

pub closes_long : (bits : List Bit) (p : ℕ) → p ≤ length bits → 8 ≤ length bits - p → closes bits p ≡ false
unfolding closes every
closes_long bits p h k = rw (le-leb p (length bits) h, le-ltb (length bits - p) 8 k, closes, every)

-- what is left decides where it is short
closes_short : (bits : List Bit) (p : ℕ) (r : Bool) → p ≤ length bits → length bits - p < 8 → all_zero (drop p bits) ≡ r → closes bits p ≡ r
unfolding closes every
closes_short bits p r h k e = rw (le-leb p (length bits) h, lt-ltb (length bits - p) 8 k, e, closes, every) (every_one r)

pub closes_end : (bits : List Bit) (p : ℕ) → length bits ≡ p → closes bits p ≡ true
unfolding all_zero
closes_end bits p e = closes_short bits p true (omega arith) (omega arith) (ap all_zero (drop_of_length-le bits {i = p} (omega arith)))

-- the rest of the last byte
pub closes_rest : (s : List ℕ) (p : ℕ) → p < length (stream_of s) → length (stream_of s) - p < 8 → get_or s (p / 8) 0 < 256
    → closes (stream_of s) p ≡ eqb (get_or s (p / 8) 0 * 2 ^ (p % 8) % 256) 0
unfolding bits_of
closes_rest s p h k b =
    let w = stream_within s (stream_some s p h) in
    let n = length_within s (stream_some s p h) in
    let x = get_or s (p / 8) 0 in
    let e : p ≡ 8 * (p / 8) + p % 8 = omega arith in
    let last : drop (suc (p / 8)) s ≡ [] = drop_of_length-le s {i = suc (p / 8)} (omega arith) in
    let d : drop p (stream_of s) ≡ drop (p % 8) (byte_bits x) =
    ap (drop p) w
    ∙ ap (λ (q : ℕ). drop q (bits_of s)) e
    ∙ bits_from_lem s (p / 8) (p % 8) (omega arith) (omega arith)
    ∙ ap (λ (l : List ℕ). drop (p % 8) (byte_bits x) ++ bits_of l) last
    ∙ append-nil (drop (p % 8) (byte_bits x)) in
    closes_short (stream_of s) p (eqb (x * 2 ^ (p % 8) % 256) 0) (omega arith) k (ap all_zero d ∙ (byte_at (p % 8) x (omega arith) b).low_zero)
