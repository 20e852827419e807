-- A whole run, from empty stacks over any old cells: its input frame, its output frame, its term, and the records that it leaves.
-- The machine of the requirements not being stuck, the store machine is safe and ends with the layout of the same end.
use Rattle.std.specs.Prelude.{◌≡◌, refl, get_or}
use Rattle.std.proofs.Common.{sym, ap, ◌∙◌, arith}
use Rattle.std.proofs.Math.Path.{subst}
use mathlib.Core.List.{List, []}
use Prim.Native.Nat.{ℕ, zero, suc, ◌+◌, ◌-◌, ◌<◌, ◌≤◌}
use Rattle.std.proofs.Math.Nat.{sub-zero}
use Rattle.std.proofs.Math.ListN.{length}
use Rattle.report.specs.Bits.{Bit}
use Rattle.report.specs.Types.{Ty, width}
use Rattle.report.specs.Values.{Val, Cells, padded}
use Rattle.report.specs.Terms.{Term}
use Rattle.report.specs.Meaning.{done, ◌>>=◌}
use Rattle.scope.specs.Numbers.{tabulate}
use Rattle.scope.specs.Machine.{Frame, State, Step, new_frame, move_frame, write_bits, exec, input, output, machine}
use Rattle.layout.specs.Mach.{Mach, no_frame, empty}
use Rattle.layout.proofs.Mach.{mach_eq}
use Rattle.layout.specs.Rules.{pushed, moved, bits_written}
use Rattle.layout.specs.Exec.{run_term, with_input, with_output, run_whole}
use Rattle.layout.specs.Safe.{PushOk, MoveOk, WriteOk, InputOk, WholeOk, Safe}
use Rattle.layout.specs.Layout.{state_of, arranged, layout, arranged_none, arranged_free}
use Rattle.layout.specs.Follow.{Goes, Fits, Follows}
use Rattle.layout.proofs.Follow.{Rule, push_follows, move_follows, write_follows}
use Rattle.layout.specs.Match.{Matches}
use Rattle.layout.proofs.Match.{capped, needing, goes_first, goes_then, matches_after, matches_done, nothing_follows, then_follows}
use Rattle.layout.proofs.Join.{join}
use Rattle.layout.specs.Heights.{Leaves, DoneBy}
use Rattle.layout.proofs.Heights.{whole_leaves}

-- the state with no frame lies in a machine with no frame
pub empty-layout : (lent most : ℕ) (c : Cells) → layout lent most (state_of c [] [] 0) ≡ empty (tabulate lent c) most
empty-layout lent most c = mach_eq refl (ap (λ z. arranged z [] []) (sub-zero most) ∙ arranged_none most) refl refl refl

module _ (lent size most : ℕ) (le : size ≤ lent) where
  -- the input's frame
  input_follows : (n : ℕ) (bits : List Bit) → Rule lent size most le (λ s. input size most n bits s) (λ m. with_input n bits m) (λ m. 0 < n → InputOk n bits m)
  unfolding input with_input
  input_follows zero bits s h g = needing lent size most (nothing_follows lent size most le s h g) (λ ok pos. absurd (omega arith))
  input_follows (suc n) bits s h g =
      let m : Mach = layout lent most s in
      let rest = then_follows lent size most le (λ s. write_bits bits s) (λ s. move_frame s) (λ m. bits_written bits m) (λ m. moved m)
      (λ m. 0 < length bits → WriteOk lent (length bits) m) (λ m. MoveOk m) (write_follows lent size most le bits) (move_follows lent size most le) in
      let x : Follows lent size most s (new_frame size most (suc n) s >>= λ s. (write_bits bits s >>= λ s. move_frame s))
      (moved (bits_written bits (pushed (suc n) m)))
      (PushOk lent (suc n) m × ((0 < length bits → WriteOk lent (length bits) (pushed (suc n) m)) × MoveOk (bits_written bits (pushed (suc n) m))))
      = then_follows lent size most le (λ s. new_frame size most (suc n) s) (λ s. (write_bits bits s >>= λ s. move_frame s)) (λ m. pushed (suc n) m)
      (λ m. moved (bits_written bits m)) (λ m. PushOk lent (suc n) m) (λ m. (0 < length bits → WriteOk lent (length bits) m) × MoveOk (bits_written bits m))
      (push_follows lent size most le (suc n)) rest s h g in
      needing lent size most x (λ ok pos. record {
        push = capped lent size most (λ cap. PushOk cap (suc n) m) s.cells ok.0;
        write = λ some. capped lent size most (λ cap. WriteOk cap (length bits) (pushed (suc n) m)) s.cells (ok.1.0 some);
        move = ok.1.1;
      })

  -- the output's frame
  output_follows : (n : ℕ) → Rule lent size most le (λ s. output size most n s) (λ m. with_output n m) (λ m. 0 < n → PushOk lent n m)
  unfolding output with_output
  output_follows zero s h g = needing lent size most (nothing_follows lent size most le s h g) (λ ok pos. absurd (omega arith))
  output_follows (suc n) s h g = needing lent size most (push_follows lent size most le (suc n) s h g) (λ ok pos. ok)

  -- a whole run in both machines, from the same old cells
  pub record WholeJoined (t : Term) (A B : Ty) (v : Val) (c : Cells) : Type 0 where
    pub safe : WholeOk t A B v (empty (tabulate lent c) most)
    pub match : Matches lent size most c (machine size most t A B v c) (run_whole t A B v (empty (tabulate lent c) most))

  -- an output's frame and a term, from any state that fits
  record Ran (t : Term) (n : ℕ) (s : State) : Type 0 where
    push : 0 < n → PushOk lent n (layout lent most s)
    term : Safe t (with_output n (layout lent most s))
    match : Matches lent size most s.cells (output size most n s >>= λ s. exec size most t s) (run_term t (with_output n (layout lent most s)))

  ran : (t : Term) (n : ℕ) (s : State) → Fits size most s → Goes (output size most n s >>= λ s. exec size most t s) → Ran t n s
  ran t n s h g =
      let last : State → Step = λ s. exec size most t s in
      let o = output_follows n s h (goes_first (output size most n s) last g) in
      let j = join lent size most le t o.to o.fits (goes_then (output size most n s) last o.to o.does g) in
      record {
        push = o.ok;
        term = subst (λ m. Safe t m) (sym o.same) j.safe;
        match = matches_after lent size most s (output size most n s) (with_output n (layout lent most s)) _ o last (λ m. run_term t m) j.match;
      }

  -- a whole run from the layout of the state with no frame
  record Begun (t : Term) (A B : Ty) (v : Val) (c : Cells) : Type 0 where
    safe : WholeOk t A B v (layout lent most (state_of c [] [] 0))
    match : Matches lent size most c (machine size most t A B v c) (run_whole t A B v (layout lent most (state_of c [] [] 0)))

  begun : (t : Term) (A B : Ty) (v : Val) (c : Cells) → Goes (machine size most t A B v c) → Begun t A B v c
  unfolding machine run_whole
  begun t A B v c g =
      let s : State = state_of c [] [] 0 in
      let m : Mach = with_input (width A) (padded A v) (layout lent most s) in
      let first : Step = input size most (width A) (padded A v) s in
      let rest : State → Step = λ s. (output size most (width B) s >>= λ s. exec size most t s) in
      let h : Fits size most s = record { room = omega arith; cells = omega arith; reads = tt; writes = tt } in
      let i = input_follows (width A) (padded A v) s h (goes_first first rest g) in
      let r = ran t (width B) i.to i.fits (goes_then first rest i.to i.does g) in
      record {
        safe = record {
          input = i.ok;
          output = λ pos. capped lent size most (λ cap. PushOk cap (width B) m) c (subst (λ m. PushOk lent (width B) m) (sym i.same) (r.push pos));
          term = subst (λ m. Safe t (with_output (width B) m)) (sym i.same) r.term;
        };
        match = matches_after lent size most s first m _ i rest (λ m. run_term t (with_output (width B) m)) r.match;
      }

  pub whole_join : (t : Term) (A B : Ty) (v : Val) (c : Cells) → Goes (machine size most t A B v c) → WholeJoined t A B v c
  whole_join t A B v c g =
      let b = begun t A B v c g in
      let e = empty-layout lent most c in
      record {
        safe = subst (λ m. WholeOk t A B v m) e b.safe;
        match = subst (λ m. Matches lent size most c (machine size most t A B v c) (run_whole t A B v m)) e b.match;
      }

  -- after a run that is done only the first record and the last one may hold a frame, the output's and the input's
  pub done_frees : (t : Term) (A B : Ty) (v : Val) (c : Cells) → Goes (machine size most t A B v c) → (m : Mach)
      → run_whole t A B v (empty (tabulate lent c) most) ≡ done m → (k : ℕ) → 0 < k → k + 1 < most → get_or m.records k no_frame ≡ no_frame
  done_frees t A B v c g m e k low high =
      let b : List ℕ = tabulate lent c in
      let d = matches_done lent size most c (machine size most t A B v c) (run_whole t A B v (empty b most)) (whole_join t A B v c g).match m e in
      let l : DoneBy b most m = subst (λ o. Leaves b most o) e (whole_leaves t A B v b most) in
      let rs : List Frame = d.state.reads in
      let ws : List Frame = d.state.writes in
      let w : m.write_frames ≡ length ws = ap (λ m. m.write_frames) d.lies in
      let r : m.read_frames ≡ length rs = ap (λ m. m.read_frames) d.lies in
      ap (λ m. get_or m.records k no_frame) d.lies
      ∙ arranged_free (most - (length rs + length ws)) ws rs k (omega (arith, l.writes, w)) (omega (arith, l.writes, l.reads, w, r))
