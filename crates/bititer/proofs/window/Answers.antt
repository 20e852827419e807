-- A window: four whole bytes hold it, wherever in the first of them it begins; where there are fewer the stream has ended before it does.
use mathlib.Core.Path.{◌≡◌, ap, ap₂, sym, ◌∙◌}
use mathlib.Core.List.{List}
use Prim.Native.Nat.{ℕ, ◌+◌, ◌*◌, ◌/◌, ◌%◌, ◌^◌, ◌≤◌}
use native.Mathlib.Omega.{arith}
use lib.ListN.{length, take, drop}
use Rattle.report.specs.Bits.{Bit, number_from}
use Rattle.scope.specs.Numbers.{stream_of}
use Rattle.scope.specs.Reading.{got}
use Rattle.common.specs.Bits.{stream_within, length_within}
use Rattle.bititer.specs.Windows.{window_bits}
use Rattle.bititer.proofs.Streams.{length_over, length_stream, code_past, code_within}
use Rattle.bititer.proofs.Windows.{window_number}
use Rattle.bititer.proofs.window.Goals.{then-all-i-via-then-all-i, then-all-i-via-else-all-i+then-all-gt-DOSSIER_BYTES}
use Rattle.bititer.proofs.window.Goals as goal

pub returns-then-all-i : goal.returns-then-all-i
returns-then-all-i c =
    let s = c.args.s.now in
    let past = code_past (stream_of s) window_bits c.args.p in
    elim c.then-all-i.branch [
      | then-all-i-via-then-all-i w ↦ sym (past (omega (arith, length_stream s)))
      | then-all-i-via-else-all-i+then-all-gt-DOSSIER_BYTES w ↦ sym (past (omega (arith, length_over s w.if-all-gt-DOSSIER_BYTES.true)))
    ]

pub returns : goal.returns
returns c =
    let a = c.args in
    let s = a.s.now in
    let n = length_within s c.if-all-gt-DOSSIER_BYTES.false in
    let inside : a.p + window_bits ≤ length (stream_of s) = omega arith in
    let q : 8 * (a.p / 8) + a.p % 8 ≡ a.p = omega arith in
    ap (λ (w : ℕ). got w (a.p + window_bits))
    (ap (λ (x : ℕ). x * 2 ^ (a.p % 8) % 2 ^ 32 / 2 ^ 7) c.number_at.ensures
    ∙ window_number s (a.p / 8) (a.p % 8) (omega arith) (omega arith) (λ j. omega (arith, c.type_inv.s j))
    ∙ ap₂ (λ (i : ℕ) (l : List Bit). number_from 0 (take window_bits (drop i l))) q (sym (stream_within s c.if-all-gt-DOSSIER_BYTES.false)))
    ∙ sym (code_within (stream_of s) window_bits a.p inside)
