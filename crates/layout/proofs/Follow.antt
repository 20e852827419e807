-- Rule by rule: where the machine of the requirements is not stuck, the store machine has what its rule needs and goes to the layout of the same state.
-- Every frame then lies inside the cells of the bound, and no cell from the bound on is changed.
use Rattle.std.specs.Prelude.{◌≡◌, ltb, eqb}
use Rattle.std.proofs.Math.Path.{refl, ap}
use Rattle.std.proofs.Common.{sym, ◌∙◌}
use Rattle.std.proofs.Math.Bool.{Bool, true, false}
use mathlib.Core.List.{List, [], ◌∷◌}
use Prim.Native.Nat.{ℕ, zero, suc, ◌+◌, ◌-◌, ◌<◌, ◌≤◌}
use native.Mathlib.Omega.{arith}
use Rattle.std.proofs.Math.Dec.{leb}
use Rattle.std.proofs.Math.ListN.{length, get_or, set}
use borrow.Author.Tests.{leb-true, ltb-true}
use Rattle.report.specs.Bits.{Bit}
use Rattle.report.specs.Values.{Cells}
use Rattle.report.specs.Meaning.{Out, done}
use Rattle.scope.specs.Numbers.{tabulate}
use Rattle.scope.specs.Machine.{Frame, frame_from, forward, backward, reset, State, Step, set_cell, put_bits, copy_cells, need, new_frame, move_frame, drop_frame, write_bits, skip, copy, fwd, back, peek}
use Rattle.layout.specs.Mach.{Mach}
use Rattle.layout.proofs.Mach.{mach_eq}
use Rattle.layout.specs.Rules.{pushed, moved, dropped, bit_written, bits_written, skipped, copied, forwarded, backed, peeked}
use Rattle.layout.proofs.Rules.{bit_written_list}
use Rattle.layout.specs.Safe.{PushOk, MoveOk, DropOk, WriteOk, ReadOk, BackOk, CopyOk}
use Rattle.common.specs.Tables.{tabulate_at}
use Rattle.common.specs.Cells.{sets-tabulate, copy_tabulate, set_cell_other}
use Rattle.layout.specs.Layout.{state_of, arranged, layout, arranged-length, write_get, write_set, read_get, read_set, push_set, move_set, drop_set}
use Rattle.layout.specs.Follow.{Goes, Fits, KeptFrom, Follows}

-- a test that was passed
module _ {X : Type 0} (b : Bool) (o : Out State X) where
  need_true : Goes (need b o) → b ≡ true
  unfolding need
  need_true = elim b as (λ x. Goes (need x o) → x ≡ true) [ true ↦ λ g. refl | false ↦ λ g. absurd g ]

  need_is : Goes (need b o) → need b o ≡ o
  unfolding need
  need_is = elim b as (λ x. Goes (need x o) → need x o ≡ o) [ true ↦ λ g. refl | false ↦ λ g. absurd g ]

  need_goes : Goes (need b o) → Goes o
  unfolding need
  need_goes = elim b as (λ x. Goes (need x o) → Goes o) [ true ↦ λ g. g | false ↦ λ g. absurd g ]

-- writing and copying keep the cells from their end on
put_kept : (c : Cells) (to : ℕ) (bs : List Bit) (size : ℕ) → to + length bs ≤ size → KeptFrom size c (put_bits c to bs)
unfolding put_bits
put_kept c to [] size h p l = refl
put_kept c to (b ∷ bs) size h p l =
    put_kept (set_cell c to b) (suc to) bs size (omega arith) p l ∙ set_cell_other c p to b (λ e. let k : p ≡ to = e in omega arith)

copy_kept : (c : Cells) (from to n size : ℕ) → to + n ≤ size → KeptFrom size c (copy_cells c from to n)
unfolding copy_cells
copy_kept c from to zero size h p l = refl
copy_kept c from to (suc n) size h p l =
    copy_kept (set_cell c to (c from)) (suc from) (suc to) n size (omega arith) p l
    ∙ set_cell_other c p to (c from) (λ e. let k : p ≡ to = e in omega arith)

module _ (lent size most : ℕ) (le : size ≤ lent) where
  -- the rule F of the requirements, at a state that fits, is the rule f of the store machine, which needs Ok
  abbrev pub Following : (F : State → Step) (f : Mach → Mach) (Ok : Mach → Type 0) → State → Type 0
  Following F f Ok s = Fits size most s → Goes (F s) → Follows lent size most s (F s) (f (layout lent most s)) (Ok (layout lent most s))

  -- and so at every state
  abbrev pub Rule : (F : State → Step) (f : Mach → Mach) (Ok : Mach → Type 0) → Type 0
  Rule F f Ok = (s : State) → Following F f Ok s

  -- no rule
  pub unmoved : {Ok : Type 0} (s : State) → Fits size most s → Ok → Follows lent size most s (done s) (layout lent most s) Ok
  unmoved s h ok = record { to = s; does = refl; same = refl; fits = h; kept = λ p l. refl; ok = ok }

  -- a new write frame
  pub push_follows : (n : ℕ) → Rule (λ s. new_frame size most n s) (λ m. pushed n m) (λ m. PushOk lent n m)
  unfolding new_frame pushed
  push_follows n s h g =
      let nx : ℕ = s.next in
      let rs : List Frame = s.reads in
      let ws : List Frame = s.writes in
      let z : ℕ = most - (length rs + suc (length ws)) in
      let to : State = state_of s.cells rs (frame_from nx n ∷ ws) (nx + n) in
      let cells : nx + n ≤ size = leb-true _ _ (need_true (leb (nx + n) size) (need (ltb (length rs + length ws) most) (done to)) g) in
      let g' = need_goes (leb (nx + n) size) (need (ltb (length rs + length ws) most) (done to)) g in
      let room : length rs + length ws < most = ltb-true _ _ (need_true (ltb (length rs + length ws) most) (done to) g') in
      let e : most - (length rs + length ws) ≡ suc z = omega arith in
      record {
        to = to;
        does = need_is (leb (nx + n) size) (need (ltb (length rs + length ws) most) (done to)) g ∙ need_is (ltb (length rs + length ws) most) (done to) g';
        same = mach_eq refl (ap (λ z. set (arranged z ws rs) (length ws) (frame_from nx n)) e ∙ push_set z (frame_from nx n) ws rs) (omega arith) refl refl;
        fits = record { room = omega arith; cells = cells; reads = h.reads; writes = (cells, h.writes) };
        kept = λ p l. refl;
        ok = record { room = omega (arith, arranged-length (most - (length rs + length ws)) ws rs); fits = omega arith };
      }

  move_from : (c : Cells) (rs ws : List Frame) (nx : ℕ) → Following (λ s. move_frame s) (λ m. moved m) (λ m. MoveOk m) (state_of c rs ws nx)
  unfolding move_frame moved
  move_from c rs [] nx h g = absurd g
  move_from c rs (f ∷ ws) nx h g =
      let z : ℕ = most - (length rs + suc (length ws)) in
      let e : most - (suc (length rs) + length ws) ≡ z = omega arith in
      let inside = h.writes in
      let room = h.room in
      record {
        to = state_of c (reset f ∷ rs) ws nx;
        does = refl;
        same = rw (write_get z f ws rs)
            (mach_eq refl
            (move_set z f ws rs (reset f) ∙ ap (λ z. arranged z ws (reset f ∷ rs)) (sym e))
            (omega arith) (omega arith) refl);
        fits = record { room = omega arith; cells = h.cells; reads = (inside.0, h.reads); writes = inside.1 };
        kept = λ p l. refl;
        ok = record { some = omega arith; held = omega (arith, arranged-length z (f ∷ ws) rs) };
      }

  -- the active write frame moved
  pub move_follows : Rule (λ s. move_frame s) (λ m. moved m) (λ m. MoveOk m)
  move_follows s h g = move_from s.cells s.reads s.writes s.next h g

  drop_from : (c : Cells) (rs ws : List Frame) (nx : ℕ) → Following (λ s. drop_frame s) (λ m. dropped m) (λ m. DropOk m) (state_of c rs ws nx)
  unfolding drop_frame dropped
  drop_from c [] ws nx h g = absurd g
  drop_from c (f ∷ rs) ws nx h g =
      let z : ℕ = most - (suc (length rs) + length ws) in
      let room = h.room in
      let e : most - (length rs + length ws) ≡ suc z = omega arith in
      let to : State = state_of c rs ws f.start in
      let inside = h.reads in
      record {
        to = to;
        does = need_is (eqb nx (f.start + f.len)) (done to) g;
        same = rw (read_get z f ws rs) (mach_eq refl (drop_set z f ws rs ∙ ap (λ z. arranged z ws rs) (sym e)) refl (omega arith) refl);
        fits = record { room = omega arith; cells = omega (arith, inside.0); reads = inside.1; writes = h.writes };
        kept = λ p l. refl;
        ok = record { some = omega arith; held = omega (arith, arranged-length z ws (f ∷ rs)) };
      }

  -- the active read frame dropped
  pub drop_follows : Rule (λ s. drop_frame s) (λ m. dropped m) (λ m. DropOk m)
  drop_follows s h g = drop_from s.cells s.reads s.writes s.next h g

  write_from : (bs : List Bit) (c : Cells) (rs ws : List Frame) (nx : ℕ) → Following (λ s. write_bits bs s) (λ m. bits_written bs m)
      (λ m. 0 < length bs → WriteOk lent (length bs) m) (state_of c rs ws nx)
  unfolding write_bits bits_written
  write_from [] c rs ws nx h g = unmoved (state_of c rs ws nx) h (λ pos. absurd (omega arith))
  write_from (b ∷ bs) c rs [] nx h g = absurd g
  write_from (b ∷ bs) c rs (f ∷ ws) nx h g =
      let z : ℕ = most - (length rs + suc (length ws)) in
      let n : ℕ = suc (length bs) in
      let to : State = state_of (put_bits c f.cursor (b ∷ bs)) rs (forward n f ∷ ws) nx in
      let fits : f.cursor + n ≤ f.start + f.len = leb-true _ _ (need_true (leb (f.cursor + n) (f.start + f.len)) (done to) g) in
      let inside = h.writes in
      record {
        to = to;
        does = need_is (leb (f.cursor + n) (f.start + f.len)) (done to) g;
        same = rw (write_get z f ws rs)
            (mach_eq (sets-tabulate lent c f.cursor (b ∷ bs)) (write_set z f ws rs (forward n f)) refl refl refl);
        fits = record { room = h.room; cells = h.cells; reads = h.reads; writes = inside };
        kept = put_kept c f.cursor (b ∷ bs) size (omega (arith, inside.0));
        ok = λ pos. record {
          some = omega arith;
          held = omega (arith, arranged-length z (f ∷ ws) rs);
          fits = rw (write_get z f ws rs) (omega (arith, inside.0));
        };
      }

  -- bits written
  pub write_follows : (bs : List Bit) → Rule (λ s. write_bits bs s) (λ m. bits_written bs m) (λ m. 0 < length bs → WriteOk lent (length bs) m)
  write_follows bs s h g = write_from bs s.cells s.reads s.writes s.next h g

  -- one bit written
  pub bit_follows : (b : Bit) → Rule (λ s. write_bits (b ∷ []) s) (λ m. bit_written b m) (λ m. WriteOk lent 1 m)
  bit_follows b s h g =
      let w = write_follows (b ∷ []) s h g in
      record { to = w.to; does = w.does; same = bit_written_list b (layout lent most s) ∙ w.same; fits = w.fits; kept = w.kept; ok = w.ok (omega arith) }

  skip_from : (n : ℕ) (c : Cells) (rs ws : List Frame) (nx : ℕ) → Following (λ s. skip n s) (λ m. skipped n m) (λ m. 0 < n → WriteOk lent n m)
      (state_of c rs ws nx)
  unfolding skip skipped
  skip_from zero c rs ws nx h g = unmoved (state_of c rs ws nx) h (λ pos. absurd (omega arith))
  skip_from (suc n) c rs [] nx h g = absurd g
  skip_from (suc n) c rs (f ∷ ws) nx h g =
      let z : ℕ = most - (length rs + suc (length ws)) in
      let to : State = state_of c rs (forward (suc n) f ∷ ws) nx in
      let fits : f.cursor + suc n ≤ f.start + f.len = leb-true _ _ (need_true (leb (f.cursor + suc n) (f.start + f.len)) (done to) g) in
      let inside = h.writes in
      record {
        to = to;
        does = need_is (leb (f.cursor + suc n) (f.start + f.len)) (done to) g;
        same = rw (write_get z f ws rs) (mach_eq refl (write_set z f ws rs (forward (suc n) f)) refl refl refl);
        fits = record { room = h.room; cells = h.cells; reads = h.reads; writes = inside };
        kept = λ p l. refl;
        ok = λ pos. record {
          some = omega arith;
          held = omega (arith, arranged-length z (f ∷ ws) rs);
          fits = rw (write_get z f ws rs) (omega (arith, inside.0));
        };
      }

  -- cells skipped
  pub skip_follows : (n : ℕ) → Rule (λ s. skip n s) (λ m. skipped n m) (λ m. 0 < n → WriteOk lent n m)
  skip_follows n s h g = skip_from n s.cells s.reads s.writes s.next h g

  forward_from : (n : ℕ) (c : Cells) (rs ws : List Frame) (nx : ℕ) → Following (λ s. fwd n s) (λ m. forwarded n m) (λ m. 0 < n → ReadOk lent n m)
      (state_of c rs ws nx)
  unfolding fwd forwarded
  forward_from zero c rs ws nx h g = unmoved (state_of c rs ws nx) h (λ pos. absurd (omega arith))
  forward_from (suc n) c [] ws nx h g = absurd g
  forward_from (suc n) c (f ∷ rs) ws nx h g =
      let z : ℕ = most - (suc (length rs) + length ws) in
      let to : State = state_of c (forward (suc n) f ∷ rs) ws nx in
      let fits : f.cursor + suc n ≤ f.start + f.len = leb-true _ _ (need_true (leb (f.cursor + suc n) (f.start + f.len)) (done to) g) in
      let inside = h.reads in
      record {
        to = to;
        does = need_is (leb (f.cursor + suc n) (f.start + f.len)) (done to) g;
        same = rw (read_get z f ws rs) (mach_eq refl (read_set z f ws rs (forward (suc n) f)) refl refl refl);
        fits = record { room = h.room; cells = h.cells; reads = inside; writes = h.writes };
        kept = λ p l. refl;
        ok = λ pos. record {
          some = omega arith;
          held = omega (arith, arranged-length z ws (f ∷ rs));
          fits = rw (read_get z f ws rs) (omega (arith, inside.0));
        };
      }

  -- the read cursor on
  pub forward_follows : (n : ℕ) → Rule (λ s. fwd n s) (λ m. forwarded n m) (λ m. 0 < n → ReadOk lent n m)
  forward_follows n s h g = forward_from n s.cells s.reads s.writes s.next h g

  back_from : (n : ℕ) (c : Cells) (rs ws : List Frame) (nx : ℕ) → Following (λ s. back n s) (λ m. backed n m) (λ m. 0 < n → BackOk n m) (state_of c rs ws nx)
  unfolding back backed
  back_from zero c rs ws nx h g = unmoved (state_of c rs ws nx) h (λ pos. absurd (omega arith))
  back_from (suc n) c [] ws nx h g = absurd g
  back_from (suc n) c (f ∷ rs) ws nx h g =
      let z : ℕ = most - (suc (length rs) + length ws) in
      let to : State = state_of c (backward (suc n) f ∷ rs) ws nx in
      let fits : f.start + suc n ≤ f.cursor = leb-true _ _ (need_true (leb (f.start + suc n) f.cursor) (done to) g) in
      record {
        to = to;
        does = need_is (leb (f.start + suc n) f.cursor) (done to) g;
        same = rw (read_get z f ws rs) (mach_eq refl (read_set z f ws rs (backward (suc n) f)) refl refl refl);
        fits = record { room = h.room; cells = h.cells; reads = h.reads; writes = h.writes };
        kept = λ p l. refl;
        ok = λ pos. record {
          some = omega arith;
          held = omega (arith, arranged-length z ws (f ∷ rs));
          least = rw (read_get z f ws rs) (omega arith);
        };
      }

  -- the read cursor back
  pub back_follows : (n : ℕ) → Rule (λ s. back n s) (λ m. backed n m) (λ m. 0 < n → BackOk n m)
  back_follows n s h g = back_from n s.cells s.reads s.writes s.next h g

  copy_from : (n : ℕ) (c : Cells) (rs ws : List Frame) (nx : ℕ) → Following (λ s. copy n s) (λ m. copied n m) (λ m. 0 < n → CopyOk lent n m)
      (state_of c rs ws nx)
  unfolding copy copied
  copy_from zero c rs ws nx h g = unmoved (state_of c rs ws nx) h (λ pos. absurd (omega arith))
  copy_from (suc n) c [] ws nx h g = absurd g
  copy_from (suc n) c (f ∷ rs) [] nx h g = absurd g
  copy_from (suc n) c (f ∷ rs) (e ∷ ws) nx h g =
      let z : ℕ = most - (suc (length rs) + suc (length ws)) in
      let to : State = state_of (copy_cells c f.cursor e.cursor (suc n)) (f ∷ rs) (forward (suc n) e ∷ ws) nx in
      let from : Bool = leb (f.cursor + suc n) (f.start + f.len) in
      let into : Bool = leb (e.cursor + suc n) (e.start + e.len) in
      let g' = need_goes from (need into (done to)) g in
      let reads : f.cursor + suc n ≤ f.start + f.len = leb-true _ _ (need_true from (need into (done to)) g) in
      let writes : e.cursor + suc n ≤ e.start + e.len = leb-true _ _ (need_true into (done to) g') in
      let inside = h.reads in
      let within = h.writes in
      let low : f.cursor + suc n ≤ lent = omega (arith, inside.0) in
      record {
        to = to;
        does = need_is from (need into (done to)) g ∙ need_is into (done to) g';
        same = rw (write_get z e ws (f ∷ rs), read_get z f (e ∷ ws) rs)
            (mach_eq (copy_tabulate lent c f.cursor e.cursor (suc n) low)
            (write_set z e ws (f ∷ rs) (forward (suc n) e)) refl refl refl);
        fits = record { room = h.room; cells = h.cells; reads = inside; writes = within };
        kept = copy_kept c f.cursor e.cursor (suc n) size (omega (arith, within.0));
        ok = λ pos. record {
          from = record { some = omega arith; held = omega (arith, arranged-length z (e ∷ ws) (f ∷ rs)); fits = rw (read_get z f (e ∷ ws) rs) low };
          to = record {
            some = omega arith;
            held = omega (arith, arranged-length z (e ∷ ws) (f ∷ rs));
            fits = rw (write_get z e ws (f ∷ rs)) (omega (arith, within.0));
          };
        };
      }

  -- cells copied
  pub copy_follows : (n : ℕ) → Rule (λ s. copy n s) (λ m. copied n m) (λ m. 0 < n → CopyOk lent n m)
  copy_follows n s h g = copy_from n s.cells s.reads s.writes s.next h g

  -- the bit at the read cursor is the same, and can be read
  pub record Peeks (s : State) : Type 0 where
    pub does : peek s ≡ done (peeked (layout lent most s))
    pub ok : ReadOk lent 1 (layout lent most s)

  peek_from : (c : Cells) (rs ws : List Frame) (nx : ℕ) → Fits size most (state_of c rs ws nx) → Goes (peek (state_of c rs ws nx)) → Peeks (state_of c rs ws nx)
  unfolding peek
  peek_from c [] ws nx h g = absurd g
  peek_from c (f ∷ rs) ws nx h g =
      let z : ℕ = most - (suc (length rs) + length ws) in
      let fits : f.cursor + 1 ≤ f.start + f.len = leb-true _ _ (need_true (leb (f.cursor + 1) (f.start + f.len)) (done (c f.cursor)) g) in
      let inside = h.reads in
      record {
        does = need_is (leb (f.cursor + 1) (f.start + f.len)) (done (c f.cursor)) g
            ∙ ap done (sym (ap (λ f. get_or (tabulate lent c) f.cursor 0) (read_get z f ws rs) ∙ tabulate_at c lent f.cursor 0 (omega (arith, inside.0))));
        ok = record { some = omega arith; held = omega (arith, arranged-length z ws (f ∷ rs)); fits = rw (read_get z f ws rs) (omega (arith, inside.0)) };
      }

  -- a peek
  pub peek_follows : (s : State) → Fits size most s → Goes (peek s) → Peeks s
  peek_follows s h g = peek_from s.cells s.reads s.writes s.next h g
