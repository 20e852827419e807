-- What each public call promises has one outcome: over the call's own promise, `Post`, two answers, and two stores that are left, are the same.
use mathlib.Core.Path.{◌≡◌, refl, ap, ap₂, sym, ◌∙◌}
use mathlib.Core.List.{List}
use Rattle.std.specs.Prelude.{Option, Some, None, Result, Ok, Err}
use Prim.Native.Nat.{ℕ, ◌+◌}
use native.Mathlib.Omega.{arith}
use Rattle.promise.specs.Outcomes.{OneResult, OneOutcome, ◌&◌}
use Rattle.bititer.specs.Answers.{got_code, natural_fault, got_natural, got_bytes, Stored, stored}
use Rattle.bititer.specs.Windows.{got_window}
use Rattle.bititer.specs.declared.NaturalFault.{NaturalFault}
use Rattle.bititer.specs.declared.BytesFault.{BytesFault}
use Rattle.bititer.proofs.bit.Kinds as bit-kinds
use Rattle.bititer.proofs.bit.Reads as bit-reads
use Rattle.bititer.proofs.closes.Kinds as closes-kinds
use Rattle.bititer.proofs.closes.Reads as closes-reads
use Rattle.bititer.proofs.fail_bytes.Kinds as fail-bytes-kinds
use Rattle.bititer.proofs.fail_bytes.Reads as fail-bytes-reads
use Rattle.bititer.proofs.hash_bytes.Kinds as hash-bytes-kinds
use Rattle.bititer.proofs.hash_bytes.Reads as hash-bytes-reads
use Rattle.bititer.proofs.after_one.Kinds as after-one-kinds
use Rattle.bititer.proofs.after_one.Reads as after-one-reads
use Rattle.bititer.proofs.natural.Kinds as natural-kinds
use Rattle.bititer.proofs.natural_by_lengths.Kinds as natural-by-lengths-kinds
use Rattle.bititer.proofs.natural_by_lengths.Reads as natural-by-lengths-reads
use Rattle.bititer.proofs.natural_table.Kinds as natural-table-kinds
use Rattle.bititer.proofs.natural_table.Reads as natural-table-reads
use Rattle.bititer.proofs.window.Kinds as window-kinds
use Rattle.bititer.proofs.window.Reads as window-reads
use Rattle.bititer.proofs.natural_refusal.Kinds as natural-refusal-kinds
use Rattle.bititer.proofs.natural_refusal.Reads as natural-refusal-reads
use Rattle.bititer.proofs.natural.Reads as natural-reads
use Rattle.bititer.proofs.two_bits.Kinds as two-bits-kinds
use Rattle.bititer.proofs.two_bits.Reads as two-bits-reads

-- answers that say the same are the same
same_code : (r q : Option (ℕ × ℕ)) → got_code r ≡ got_code q → r ≡ q
same_code (Some (v, n)) (Some (w, m)) e = cc
same_code (Some (v, n)) None e = cc
same_code None (Some (w, m)) e = cc
same_code None None e = refl

same_natural_fault : (f g : NaturalFault) → natural_fault f ≡ natural_fault g → f ≡ g
same_natural_fault NaturalFault.Ended NaturalFault.Ended e = refl
same_natural_fault NaturalFault.Ended NaturalFault.TooLong e = cc
same_natural_fault NaturalFault.Ended NaturalFault.OverBound e = cc
same_natural_fault NaturalFault.TooLong NaturalFault.Ended e = cc
same_natural_fault NaturalFault.TooLong NaturalFault.TooLong e = refl
same_natural_fault NaturalFault.TooLong NaturalFault.OverBound e = cc
same_natural_fault NaturalFault.OverBound NaturalFault.Ended e = cc
same_natural_fault NaturalFault.OverBound NaturalFault.TooLong e = cc
same_natural_fault NaturalFault.OverBound NaturalFault.OverBound e = refl

same_natural : (at : ℕ) (r q : Result (ℕ × ℕ) NaturalFault) → got_natural at r ≡ got_natural at q → r ≡ q
same_natural at (Ok (n, a)) (Ok (m, b)) e =
    let v : n ≡ m = cc in
    let next : at + a ≡ at + b = cc in
    ap₂ (λ (x y : ℕ). Ok (x, y)) v (let w : a ≡ b = omega arith in w)
same_natural at (Ok (n, a)) (Err g) e = cc
same_natural at (Err f) (Ok (m, b)) e = cc
same_natural at (Err f) (Err g) e = ap Err (same_natural_fault f g (cc))

same_bytes : (r q : Result ℕ BytesFault) → got_bytes r ≡ got_bytes q → r ≡ q
same_bytes (Ok n) (Ok m) e = cc
same_bytes (Ok n) (Err g) e = cc
same_bytes (Err f) (Ok m) e = cc
same_bytes (Err BytesFault.Ended) (Err BytesFault.Ended) e = refl
same_bytes (Err BytesFault.Ended) (Err BytesFault.NoRoom) e = cc
same_bytes (Err BytesFault.NoRoom) (Err BytesFault.Ended) e = cc
same_bytes (Err BytesFault.NoRoom) (Err BytesFault.NoRoom) e = refl

same_stored : (r q : Result ℕ BytesFault) (l m : List ℕ) → stored (got_bytes r) l ≡ stored (got_bytes q) m → (r ≡ q) × (l ≡ m)
same_stored r q l m e = (same_bytes r q (ap (λ (x : Stored). x.says) e), ap (λ (x : Stored). x.store) e)

same_window : (at : ℕ) (r q : Option ℕ) → got_window at r ≡ got_window at q → r ≡ q
same_window at (Some v) (Some w) e = cc
same_window at (Some v) None e = cc
same_window at None (Some w) e = cc
same_window at None None e = refl

pub bit : OneResult 1 bit-kinds.ps bit-kinds.r bit-reads.Post
bit κs a s t x y p q = same_code s t (p ∙ sym q)

pub two_bits : OneResult 1 two-bits-kinds.ps two-bits-kinds.r two-bits-reads.Post
two_bits κs a s t x y p q = same_code s t (p ∙ sym q)

pub natural : OneResult 1 natural-kinds.ps natural-kinds.r natural-reads.Post
natural κs a s t x y p q = same_natural _ s t (p ∙ sym q)

pub natural_by_lengths : OneResult 1 natural-by-lengths-kinds.ps natural-by-lengths-kinds.r natural-by-lengths-reads.Post
natural_by_lengths κs a s t x y p q = same_natural _ s t (p ∙ sym q)

pub natural_table : OneResult 0 natural-table-kinds.ps natural-table-kinds.r natural-table-reads.Post
natural_table κs a s t x y p q = p ∙ sym q

pub window : OneResult 1 window-kinds.ps window-kinds.r window-reads.Post
window κs a s t x y p q = same_window _ s t (p ∙ sym q)

pub after_one_lem : OneResult 0 after-one-kinds.ps after-one-kinds.r after-one-reads.Post
after_one_lem κs a s t x y p q = p ∙ sym q

pub natural_refusal : OneResult 0 natural-refusal-kinds.ps natural-refusal-kinds.r natural-refusal-reads.Post
natural_refusal κs a s t x y p q = p ∙ sym q

pub hash_bytes_lem : OneOutcome 2 hash-bytes-kinds.ps hash-bytes-kinds.r hash-bytes-reads.Post
hash_bytes_lem κs a s t v w p q = let e = same_stored s t v.1.1.0 w.1.1.0 (p ∙ sym q) in (e.0, λ i. tt & tt & e.1 i & tt & tt)

pub fail_bytes_lem : OneOutcome 2 fail-bytes-kinds.ps fail-bytes-kinds.r fail-bytes-reads.Post
fail_bytes_lem κs a s t v w p q = let e = same_stored s t v.1.1.0 w.1.1.0 (p ∙ sym q) in (e.0, λ i. tt & tt & e.1 i & tt & tt)

pub closes : OneResult 1 closes-kinds.ps closes-kinds.r closes-reads.Post
closes κs a s t x y p q = p ∙ sym q
