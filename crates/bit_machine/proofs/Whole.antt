-- A whole run of a node from no frame: its input's frame, its output's frame, its term; and what the run leaves in the lent stores.
use mathlib.Core.Path.{◌≡◌, refl, sym, ap, ◌∙◌, subst}
use mathlib.Core.List.{List}
use Prim.Native.Nat.{ℕ, zero, suc, ◌/◌, ◌<◌}
use native.Mathlib.Omega.{arith}
use lib.ListN.{length, get_or}
use Rattle.limits.specs.Limits.{frame_numbers}
use Rattle.report.specs.Bits.{Bit}
use Rattle.report.specs.Types.{Ty, width}
use Rattle.report.specs.Values.{padded}
use Rattle.scope.specs.Numbers.{stream_of, zeros}
use Rattle.scope.specs.Types.{type_records, ty_at}
use Rattle.scope.specs.Arrows.{arrow_records, source, target}
use Rattle.scope.specs.Program.{Program, value_from, source_ty, target_ty, term_at}
use Rattle.scope.specs.Run.{program_of}
use Rattle.scope.specs.Stages.{tables_lent}
use Rattle.scope.specs.Machine.{Frame}
use Rattle.layout.specs.Mach.{Mach, mach, empty, records_of}
use Rattle.layout.proofs.Mach.{records_zero}
use Rattle.layout.specs.Rules.{pushed, moved, bits_written}
use Rattle.layout.specs.Exec.{run_term, with_input, with_output, run_whole}
use Rattle.layout.specs.Safe.{PushOk, MoveOk, WriteOk, InputOk}
use Rattle.ready.specs.Lent.{program_at, Reads, Shown}
use Rattle.bit_machine.specs.Engine.{out_of}
use Rattle.bit_machine.specs.Whole.{stopped_end, cells_after, end_of, input_of, node_end, NodeOk}
use Rattle.bit_machine.specs.declared.Reason.TheVariants.{Failed, Pruned}
use Rattle.std.specs.Prelude.{Result, Ok, Err}
use Rattle.bit_machine.specs.declared.Heights.{Heights}
use Rattle.bit_machine.specs.declared.Reason.{Reason}
use Rattle.bit_machine.specs.declared.Stopped.{Stopped}
use Rattle.bit_machine.specs.Engine.{stop_of}
use Rattle.bit_machine.specs.Machine.{machine_of}
use Rattle.bit_machine.proofs.Lent

-- an input and an output of width 0, and wider ones
pub no_input : (n : ℕ) (bits : List Bit) (m : Mach) → n ≡ 0 → m ≡ with_input n bits m
unfolding with_input
no_input n bits m e = rw e

pub no_output : (n : ℕ) (m : Mach) → n ≡ 0 → m ≡ with_output n m
unfolding with_output
no_output n m e = rw e

some_input : (n : ℕ) (bits : List Bit) (m : Mach) → (n ≡ 0 → ⊥) → moved (bits_written bits (pushed n m)) ≡ with_input n bits m
unfolding with_input
some_input zero bits m h = absurd (h refl)
some_input (suc n) bits m h = refl

pub some_output : (n : ℕ) (m : Mach) → (n ≡ 0 → ⊥) → pushed n m ≡ with_output n m
unfolding with_output
some_output zero m h = absurd (h refl)
some_output (suc n) m h = refl

-- an input's frame of n cells, opened, filled and moved
module _ {n k : ℕ} (bits : List Bit) (m : Mach) (e : n ≡ k) (some : n ≡ 0 → ⊥) where
  module _ (ok : 0 < k → InputOk k bits m) where
    input_ok : InputOk n bits m
    input_ok = subst (λ (j : ℕ). InputOk j bits m) (sym e) (ok (omega arith))

    pub open_push : PushOk (length m.bits) n m
    open_push = input_ok.push

    pub open_write : length bits ≡ k → (m1 : Mach) → m1 ≡ pushed n m → 0 < k → WriteOk (length m.bits) k m1
    open_write long m1 q pos = rw q (subst (λ (j : ℕ). WriteOk (length m.bits) j (pushed n m)) long (input_ok.write (omega arith)))

    pub open_move : (m1 m2 : Mach) → m1 ≡ pushed n m → m2 ≡ bits_written bits m1 → MoveOk m2
    open_move m1 m2 q w = rw (w, q) input_ok.move

  pub opened_is : (m1 m2 m3 : Mach) → m1 ≡ pushed n m → m2 ≡ bits_written bits m1 → m3 ≡ moved m2 → m3 ≡ with_input k bits m
  opened_is m1 m2 m3 a b c =
      c ∙ ap moved (b ∙ ap (bits_written bits) (a ∙ ap (λ (n : ℕ). pushed n m) e)) ∙ some_input k bits m (λ z. some (e ∙ z))

-- no frame, in cleared records
pub none_open : (bits numbers : List ℕ) (n : ℕ) → numbers ≡ zeros n → mach bits (records_of numbers) 0 0 0 ≡ empty bits (n / frame_numbers)
none_open bits numbers n e = ap (λ (rs : List Frame). mach bits rs 0 0 0) (ap records_of e ∙ records_zero n)

-- the same machine needs the same
pub input_as : {n : ℕ} {bits : List Bit} {m m' : Mach} → m' ≡ m → InputOk n bits m → InputOk n bits m'
input_as {n} {bits} e h = subst (λ (m : Mach). InputOk n bits m) (sym e) h

-- an answer, with the cells alone
pub end_is : (r : Result Heights Stopped) (bits numbers : List ℕ) → end_of r bits ≡ cells_after (out_of r bits numbers)
unfolding cells_after
end_is (Ok h) bits numbers = refl
end_is (Err stop) bits numbers = go stop.why
  where
    go : (why : Reason) → stopped_end why bits ≡ cells_after (stop_of why (machine_of bits numbers stop.heights))
    go (Failed place) = refl
    go (Pruned place) = refl

-- node i of lent tables, on its input
module _ {types widths next nodes arrows program hashes given witnesses positions : List ℕ}
    (shown : Shown types widths next nodes arrows program hashes given witnesses positions) (i : ℕ) (input : List ℕ) (m : Mach) where
  abbrev P : Program
  P = program_at types nodes arrows program hashes given witnesses positions

  -- the type and the input as the code finds them
  abbrev source_at : ℕ → Ty
  source_at k = ty_at (type_records types) k

  abbrev cells_in : ℕ → List Bit
  cells_in k = padded (source_at k) (value_from (source_at k) (stream_of input))

  module _ (k : ℕ) (e : k ≡ source (arrow_records arrows) i) where
    source_is : source_at k ≡ source_ty P i
    unfolding source_ty program_at program_of tables_lent
    source_is = ap source_at e

    input_wide : get_or widths k 0 ≡ width (source_ty P i)
    input_wide = ap (λ (k : ℕ). get_or widths k 0) e ∙ Lent.source_wide shown i

    pub input_reads : NodeOk P i input m → Reads (source_at k) (stream_of input)
    input_reads ok = subst (λ (A : Ty). Reads A (stream_of input)) (sym source_is) ok.reads

    pub input_need : NodeOk P i input m → 0 < get_or widths k 0 → InputOk (get_or widths k 0) (cells_in k) m
    input_need ok some = rw (source_is, input_wide) (ok.safe.input (subst (λ (n : ℕ). 0 < n) input_wide some))

    pub input_is : (m' : Mach) → m' ≡ with_input (get_or widths k 0) (cells_in k) m
        → m' ≡ with_input (width (source_ty P i)) (padded (source_ty P i) (input_of P i input)) m
    input_is m' q = q ∙ rw (source_is, input_wide)

  -- the machine with the input's frame
  abbrev opened : Mach
  opened = with_input (width (source_ty P i)) (padded (source_ty P i) (input_of P i input)) m

  module _ (n : ℕ) (e : n ≡ get_or widths (target (arrow_records arrows) i) 0) where
    pub output_need : NodeOk P i input m → 0 < n → PushOk (length m.bits) n opened
    output_need ok some =
        let w : n ≡ width (target_ty P i) = e ∙ Lent.target_wide shown i in
        subst (λ (n : ℕ). PushOk (length m.bits) n opened) (sym w) (ok.safe.output (subst (λ (n : ℕ). 0 < n) w some))

    pub output_is : (m' : Mach) → m' ≡ with_output n opened → m' ≡ with_output (width (target_ty P i)) opened
    output_is m' q = q ∙ ap (λ (n : ℕ). with_output n opened) (e ∙ Lent.target_wide shown i)

  -- the whole run, from the run of the node's term
  pub whole_end : (r : Result Heights Stopped) (bits numbers : List ℕ) (m' : Mach) → m' ≡ with_output (width (target_ty P i)) opened → out_of r bits numbers ≡ run_term (term_at P i) m'
      → end_of r bits ≡ node_end P i input m
  unfolding run_whole
  whole_end r bits numbers m' em q = end_is r bits numbers ∙ ap cells_after (q ∙ ap (run_term (term_at P i)) em)
