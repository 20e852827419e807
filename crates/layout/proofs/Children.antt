-- What is done before, between and after two children, in both machines: nothing for a pair, a middle frame for a composition,
-- and for a disconnect a frame with the hash and the source, and one for what the left child makes, of which the first part is kept.
use Rattle.std.specs.Prelude.{◌≡◌, List, length}
use Prim.Native.Nat.{ℕ, ◌+◌, ◌<◌, ◌≤◌}
use Rattle.report.specs.Bits.{Bit}
use Rattle.report.specs.Types.{width, word_ty}
use Rattle.report.specs.Terms.{Term}
use Rattle.report.specs.Meaning.{done, ◌>>=◌}
use Rattle.scope.specs.Machine.{State, Step, new_frame, move_frame, drop_frame, write_bits, copy, fwd, exec}
use Rattle.layout.specs.Mach.{Mach}
use Rattle.layout.specs.Rules.{pushed, moved, dropped, bits_written, copied, forwarded}
use Rattle.layout.specs.Exec.{Around, pairing, composing, disconnecting, first_of, second_of, third_of}
use Rattle.layout.specs.Safe.{PushOk, MoveOk, DropOk, WriteOk, ReadOk, CopyOk, FirstOk, SecondOk, ThirdOk}
use Rattle.layout.specs.Layout.{layout}
use Rattle.layout.specs.Follow.{Follows}
use Rattle.layout.proofs.Follow.{Rule, push_follows, move_follows, drop_follows, write_follows, forward_follows, copy_follows}
use Rattle.layout.proofs.Match.{bind-bind, needing, capped, nothing_follows, then_follows}

module _ (lent size most : ℕ) (le : size ≤ lent) where
  -- F, S and T are done before, between and after the children of kind k
  pub record Surrounds (k : Around) (F S T : State → Step) : Type 0 where
    pub first : Rule lent size most le F (λ m. first_of k m) (λ m. FirstOk k m)
    pub second : Rule lent size most le S (λ m. second_of k m) (λ m. SecondOk k m)
    pub third : Rule lent size most le T (λ m. third_of k m) (λ m. ThirdOk k m)

  -- a pair
  pub pair_surrounds : Surrounds pairing (λ s. done s) (λ s. done s) (λ s. done s)
  unfolding first_of second_of third_of
  pair_surrounds = record { first = nothing_follows lent size most le; second = nothing_follows lent size most le; third = nothing_follows lent size most le }

  -- a composition with a middle of n cells
  pub comp_surrounds : (n : ℕ) → Surrounds (composing n) (λ s. new_frame size most n s) (λ s. move_frame s) (λ s. drop_frame s)
  unfolding first_of second_of third_of
  comp_surrounds n = record {
    first = λ s h g. needing lent size most (push_follows lent size most le n s h g)
        (λ ok. capped lent size most (λ cap. PushOk cap n (layout lent most s)) s.cells ok);
    second = move_follows lent size most le;
    third = drop_follows lent size most le;
  }

  -- a disconnect
  module _ (hash : List Bit) (a b c : ℕ) where
    abbrev pub move_on : State → Step
    move_on s = move_frame s >>= λ s. new_frame size most (b + c) s

    abbrev pub copy_on : State → Step
    copy_on s = copy a s >>= λ s. move_on s

    abbrev pub write_on : State → Step
    write_on s = write_bits hash s >>= λ s. copy_on s

    -- before the children
    abbrev pub hand : State → Step
    hand s = new_frame size most (width (word_ty 8) + a) s >>= λ s. write_on s

    abbrev MoveOn : Mach → Type 0
    MoveOn m = MoveOk m × PushOk lent (b + c) (moved m)

    abbrev CopyOn : Mach → Type 0
    CopyOn m = (0 < a → CopyOk lent a m) × MoveOn (copied a m)

    abbrev WriteOn : Mach → Type 0
    WriteOn m = (0 < length hash → WriteOk lent (length hash) m) × CopyOn (bits_written hash m)

    move_on_lem : Rule lent size most le (λ s. move_on s) (λ m. pushed (b + c) (moved m)) (λ m. MoveOn m)
    move_on_lem = then_follows lent size most le (λ s. move_frame s) (λ s. new_frame size most (b + c) s) (λ m. moved m) (λ m. pushed (b + c) m) (λ m. MoveOk m)
        (λ m. PushOk lent (b + c) m) (move_follows lent size most le) (push_follows lent size most le (b + c))

    copy_on_lem : Rule lent size most le (λ s. copy_on s) (λ m. pushed (b + c) (moved (copied a m))) (λ m. CopyOn m)
    copy_on_lem = then_follows lent size most le (λ s. copy a s) (λ s. move_on s) (λ m. copied a m) (λ m. pushed (b + c) (moved m)) (λ m. 0 < a → CopyOk lent a m)
        (λ m. MoveOn m) (copy_follows lent size most le a) move_on_lem

    write_on_lem : Rule lent size most le (λ s. write_on s) (λ m. pushed (b + c) (moved (copied a (bits_written hash m)))) (λ m. WriteOn m)
    write_on_lem = then_follows lent size most le (λ s. write_bits hash s) (λ s. copy_on s) (λ m. bits_written hash m) (λ m. pushed (b + c) (moved (copied a m)))
        (λ m. 0 < length hash → WriteOk lent (length hash) m) (λ m. CopyOn m) (write_follows lent size most le hash) copy_on_lem

    hand_follows : Rule lent size most le (λ s. hand s) (λ m. first_of (disconnecting hash a b c) m) (λ m. FirstOk (disconnecting hash a b c) m)
    unfolding first_of
    hand_follows s h g =
        let n : ℕ = width (word_ty 8) + a in
        let m : Mach = layout lent most s in
        let x : Follows lent size most s (hand s) (pushed (b + c) (moved (copied a (bits_written hash (pushed n m))))) (PushOk lent n m × WriteOn (pushed n m))
        = then_follows lent size most le (λ s. new_frame size most n s) (λ s. write_on s) (λ m. pushed n m)
        (λ m. pushed (b + c) (moved (copied a (bits_written hash m))))
        (λ m. PushOk lent n m) (λ m. WriteOn m) (push_follows lent size most le n) write_on_lem s h g in
        needing lent size most x (λ ok. record {
          push = capped lent size most (λ cap. PushOk cap n m) s.cells ok.0;
          write = λ pos. capped lent size most (λ cap. WriteOk cap (length hash) (pushed n m)) s.cells (ok.1.0 pos);
          copy = λ pos. capped lent size most (λ cap. CopyOk cap a (bits_written hash (pushed n m))) s.cells (ok.1.1.0 pos);
          move = ok.1.1.1.0;
          last = capped lent size most (λ cap. PushOk cap (b + c) (moved (copied a (bits_written hash (pushed n m))))) s.cells ok.1.1.1.1;
        })

    abbrev pub pass_on : State → Step
    pass_on s = copy b s >>= λ s. fwd b s

    -- between them
    abbrev pub keep : State → Step
    keep s = move_frame s >>= λ s. pass_on s

    abbrev PassOn : Mach → Type 0
    PassOn m = (0 < b → CopyOk lent b m) × (0 < b → ReadOk lent b (copied b m))

    pass_on_lem : Rule lent size most le (λ s. pass_on s) (λ m. forwarded b (copied b m)) (λ m. PassOn m)
    pass_on_lem = then_follows lent size most le (λ s. copy b s) (λ s. fwd b s) (λ m. copied b m) (λ m. forwarded b m) (λ m. 0 < b → CopyOk lent b m)
        (λ m. 0 < b → ReadOk lent b m) (copy_follows lent size most le b) (forward_follows lent size most le b)

    keep_follows : Rule lent size most le (λ s. keep s) (λ m. second_of (disconnecting hash a b c) m) (λ m. SecondOk (disconnecting hash a b c) m)
    unfolding second_of
    keep_follows s h g =
        let m : Mach = layout lent most s in
        let x : Follows lent size most s (keep s) (forwarded b (copied b (moved m))) (MoveOk m × PassOn (moved m))
        = then_follows lent size most le (λ s. move_frame s) (λ s. pass_on s) (λ m. moved m) (λ m. forwarded b (copied b m)) (λ m. MoveOk m) (λ m. PassOn m)
        (move_follows lent size most le) pass_on_lem s h g in
        needing lent size most x (λ ok. record {
          move = ok.0;
          copy = λ pos. capped lent size most (λ cap. CopyOk cap b (moved m)) s.cells (ok.1.0 pos);
          pass = λ pos. capped lent size most (λ cap. ReadOk cap b (copied b (moved m))) s.cells (ok.1.1 pos);
        })

    -- after them
    abbrev pub close : State → Step
    close s = drop_frame s >>= λ s. drop_frame s

    close_follows : Rule lent size most le (λ s. close s) (λ m. third_of (disconnecting hash a b c) m) (λ m. ThirdOk (disconnecting hash a b c) m)
    unfolding third_of
    close_follows = then_follows lent size most le (λ s. drop_frame s) (λ s. drop_frame s) (λ m. dropped m) (λ m. dropped m) (λ m. DropOk m) (λ m. DropOk m)
        (drop_follows lent size most le) (drop_follows lent size most le)

    pub disconnect_surrounds : Surrounds (disconnecting hash a b c) (λ s. hand s) (λ s. keep s) (λ s. close s)
    disconnect_surrounds = record { first = hand_follows; second = keep_follows; third = close_follows }

    -- a disconnect's run by what is done around its children
    pub disconnect_form : (s : State) (t u : Term) → (hand s >>= λ s. (exec size most t s >>= λ s. (keep s >>= λ s. (exec size most u s >>= λ s. close s))))
        ≡ (new_frame size most (width (word_ty 8) + a) s >>= λ s.
        (write_bits hash s >>= λ s. (copy a s >>= λ s. (move_frame s >>= λ s. (new_frame size most (b + c) s
        >>= λ s. (exec size most t s >>= λ s. (move_frame s >>= λ s.
        (copy b s >>= λ s. (fwd b s >>= λ s. (exec size most u s >>= λ s. (drop_frame s >>= λ s. drop_frame s)))))))))))
    disconnect_form s t u = simp bind-bind
