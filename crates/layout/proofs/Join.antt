-- THE JOIN: where the machine of the requirements is not stuck on a term, the store machine on its layout is safe and ends with the layout of its end,
-- stops included. By induction on the term; no typing enters, and the room for cells and frames is what "not stuck" says.
use Rattle.std.specs.Prelude.{◌≡◌, length}
use Rattle.std.proofs.Math.Path.{refl, ap, subst}
use Rattle.std.proofs.Common.{sym, ◌∙◌, arith}
use mathlib.Core.List.{List, [], ◌∷◌}
use Prim.Native.Nat.{ℕ, zero, suc, ◌+◌, ◌<◌, ◌≤◌}
use Rattle.report.specs.Bits.{Bit}
use Rattle.report.specs.Types.{Ty, width, pad_l, pad_r, word_ty}
use Rattle.report.specs.Values.{Val, Cells, padded}
use Rattle.report.specs.Terms.{Term, iden, comp, unit, injl, injr, case, pair, take, drop, assertl, assertr, fail, witness, word, disconnect, bad}
use Rattle.report.specs.Meaning.{done, failed, pruned, stuck, ◌>>=◌}
use Rattle.scope.specs.Numbers.{tabulate}
use Rattle.scope.specs.Machine.{State, Step, new_frame, move_frame, drop_frame, write_bits, skip, fwd, back, peek, exec}
use Rattle.layout.specs.Mach.{Mach}
use Rattle.layout.specs.Rules.{bit_written, skipped, forwarded, backed, peeked}
use Rattle.layout.specs.Exec.{Outcome, Around, pairing, composing, disconnecting, first_of, second_of, third_of, around, returning, under, tagged, run_term}
use Rattle.layout.proofs.Exec.{returning_none}
use Rattle.layout.specs.Safe.{WriteOk, ReadOk, BackOk, CopyOk, ThirdOk, ReturnOk, UnderOk, TagOk, AfterLeft, AroundOk, Safe}
use Rattle.layout.specs.Layout.{layout}
use Rattle.layout.specs.Follow.{Goes, Fits, Follows}
use Rattle.layout.proofs.Follow.{write_follows, skip_follows, forward_follows, back_follows, copy_follows, bit_follows, peek_follows}
use Rattle.layout.proofs.Children.{Surrounds, pair_surrounds, comp_surrounds, hand, keep, close, disconnect_surrounds, disconnect_form}
use Rattle.layout.specs.Match.{laid_out, Matches}
use Rattle.layout.proofs.Match.{capped, goes_first, goes_then, bind_done, matches_done, matches_here, matches_rule, matches_after, matches_then}

module _ (lent size most : ℕ) (le : size ≤ lent) where
  -- the run of a term at a state, in both machines
  pub record Joined (t : Term) (s : State) : Type 0 where
    pub safe : Safe t (layout lent most s)
    pub match : Matches lent size most s.cells (exec size most t s) (run_term t (layout lent most s))

  -- and so at every state that fits and at which the machine of the requirements is not stuck
  abbrev pub Joins : Term → Type 0
  Joins t = (s : State) → Fits size most s → Goes (exec size most t s) → Joined t s

  -- at these bounds: a state laid out, a term's run, and two outcomes that match
  abbrev laid : State → Mach
  laid s = layout lent most s

  abbrev steps : Term → State → Step
  steps t s = exec size most t s

  abbrev Agree : Cells → Step → Outcome → Type 0
  Agree c o r = Matches lent size most c o r

  -- one child, then the read cursor back

  record ReturnJoined (n : ℕ) (t : Term) (s : State) : Type 0 where
    safe : ReturnOk (λ z. Safe t z) (λ z. run_term t z) n (laid s)
    match : Agree s.cells (steps t s >>= λ s. back n s) (returning n (run_term t (laid s)))

  return_joined : (n : ℕ) (t : Term) → Joins t → (s : State) → Fits size most s → Goes (steps t s >>= λ s. back n s) → ReturnJoined n t s
  return_joined n t jt s h g =
      let o : Step = steps t s in
      let r : Outcome = run_term t (laid s) in
      let j = jt s h (goes_first o (λ s. back n s) g) in
      let last : (s2 : State) → o ≡ done s2 → Fits size most s2 → Follows lent size most s2 (back n s2) (backed n (laid s2)) (0 < n → BackOk n (laid s2))
      = λ s2 e h2. back_follows lent size most le n s2 h2 (goes_then o (λ s. back n s) s2 e g) in
      record {
        safe = record {
          body = j.safe;
          home = λ m2 e pos.
              let d = matches_done lent size most s.cells o r j.match m2 e in
              subst (λ m. BackOk n m) (sym d.lies) ((last d.state d.is d.fits).ok pos);
        };
        match = matches_then lent size most s.cells o r j.match (λ s. back n s) (λ m. done (backed n m))
            (λ s2 e h2. matches_rule lent size most (last s2 e h2));
      }

  -- one child with the read cursor on

  record UnderJoined (n : ℕ) (t : Term) (s : State) : Type 0 where
    safe : UnderOk (λ z. Safe t z) (λ z. run_term t z) n (laid s)
    match : Agree s.cells (fwd n s >>= λ s. (steps t s >>= λ s. back n s)) (under n (λ z. run_term t z) (laid s))

  under_joined : (n : ℕ) (t : Term) → Joins t → (s : State) → Fits size most s → Goes (fwd n s >>= λ s. (steps t s >>= λ s. back n s)) → UnderJoined n t s
  under_joined n t jt s h g =
      let k : State → Step = λ s. (steps t s >>= λ s. back n s) in
      let a = forward_follows lent size most le n s h (goes_first (fwd n s) k g) in
      let r = return_joined n t jt a.to a.fits (goes_then (fwd n s) k a.to a.does g) in
      record {
        safe = record {
          pass = λ pos. capped lent size most (λ cap. ReadOk cap n (laid s)) s.cells (a.ok pos);
          child = subst (λ m. ReturnOk (λ z. Safe t z) (λ z. run_term t z) n m) (sym a.same) r.safe;
        };
        match = matches_after lent size most s (fwd n s) (forwarded n (laid s)) _ a k (λ m. returning n (run_term t m)) r.match;
      }

  -- one child behind a tag and padding

  record TagJoined (b : Bit) (n : ℕ) (t : Term) (s : State) : Type 0 where
    safe : TagOk (λ z. Safe t z) (λ z. run_term t z) b n (laid s)
    match : Agree s.cells (write_bits (b ∷ []) s >>= λ s. (skip n s >>= λ s. steps t s)) (tagged b n (λ z. run_term t z) (laid s))

  tag_joined : (b : Bit) (n : ℕ) (t : Term) → Joins t → (s : State) → Fits size most s
      → Goes (write_bits (b ∷ []) s >>= λ s. (skip n s >>= λ s. steps t s)) → TagJoined b n t s
  tag_joined b n t jt s h g =
      let k : State → Step = λ s. (skip n s >>= λ s. steps t s) in
      let w = bit_follows lent size most le b s h (goes_first (write_bits (b ∷ []) s) k g) in
      let g1 = goes_then (write_bits (b ∷ []) s) k w.to w.does g in
      let a = skip_follows lent size most le n w.to w.fits (goes_first (skip n w.to) (λ s. steps t s) g1) in
      let j = jt a.to a.fits (goes_then (skip n w.to) (λ s. steps t s) a.to a.does g1) in
      let end : skipped n (bit_written b (laid s)) ≡ laid a.to = ap (λ m. skipped n m) w.same ∙ a.same in
      record {
        safe = record {
          write = capped lent size most (λ cap. WriteOk cap 1 (laid s)) s.cells w.ok;
          skip = λ pos. capped lent size most (λ cap. WriteOk cap n (bit_written b (laid s))) s.cells
              (subst (λ m. WriteOk lent n m) (sym w.same) (a.ok pos));
          child = record { body = subst (λ m. Safe t m) (sym end) j.safe; home = λ m2 e pos. absurd (omega arith) };
        };
        match = matches_after lent size most s (write_bits (b ∷ []) s) (bit_written b (laid s)) _ w k (λ m. returning 0 (run_term t (skipped n m)))
            (matches_after lent size most w.to (skip n w.to) (skipped n (laid w.to)) _ a (λ s. steps t s) (λ m. returning 0 (run_term t m))
            (subst (λ r. Agree a.to.cells (steps t a.to) r) (sym (returning_none (run_term t (laid a.to)))) j.match));
      }

  -- two children

  module _ (k : Around) (F S T : State → Step) (around-it : Surrounds lent size most le k F S T) (t u : Term) (jt : Joins t) (ju : Joins u) where
    -- what follows the left child
    abbrev after_left : State → Step
    after_left s = S s >>= λ s. (steps u s >>= λ s. T s)

    record RightJoined (s : State) : Type 0 where
      safe : AfterLeft k (λ z. Safe u z) (λ z. run_term u z) (laid s)
      match : Agree s.cells (after_left s) (run_term u (second_of k (laid s)) >>= λ m. done (third_of k m))

    right_joined : (s : State) → Fits size most s → Goes (after_left s) → RightJoined s
    right_joined s h g =
        let b = around-it.second s h (goes_first (S s) (λ s. (steps u s >>= λ s. T s)) g) in
        let s3 : State = b.to in
        let g3 = goes_then (S s) (λ s. (steps u s >>= λ s. T s)) s3 b.does g in
        let o : Step = steps u s3 in
        let r : Outcome = run_term u (laid s3) in
        let j = ju s3 b.fits (goes_first o (λ s. T s) g3) in
        let last : (s4 : State) → o ≡ done s4 → Fits size most s4 → Follows lent size most s4 (T s4) (third_of k (laid s4)) (ThirdOk k (laid s4))
        = λ s4 e h4. around-it.third s4 h4 (goes_then o (λ s. T s) s4 e g3) in
        record {
          safe = record {
            second = b.ok;
            right = subst (λ m. Safe u m) (sym b.same) j.safe;
            third = λ m4 e.
                let d = matches_done lent size most s3.cells o r j.match m4 (ap (λ m. run_term u m) (sym b.same) ∙ e) in
                subst (λ m. ThirdOk k m) (sym d.lies) (last d.state d.is d.fits).ok;
          };
          match = matches_after lent size most s (S s) (second_of k (laid s)) _ b (λ s. (steps u s >>= λ s. T s))
              (λ m. (run_term u m >>= λ m. done (third_of k m)))
              (matches_then lent size most s3.cells o r j.match (λ s. T s) (λ m. done (third_of k m))
              (λ s4 e h4. matches_rule lent size most (last s4 e h4)));
        }

    record AroundJoined (s : State) : Type 0 where
      safe : AroundOk k (λ z. Safe t z) (λ z. Safe u z) (λ z. run_term t z) (λ z. run_term u z) (laid s)
      match : Agree s.cells (F s >>= λ s. (steps t s >>= λ s. after_left s)) (around k (λ z. run_term t z) (λ z. run_term u z) (laid s))

    around_joined : (s : State) → Fits size most s → Goes (F s >>= λ s. (steps t s >>= λ s. after_left s)) → AroundJoined s
    around_joined s h g =
        let a = around-it.first s h (goes_first (F s) (λ s. (steps t s >>= λ s. after_left s)) g) in
        let s1 : State = a.to in
        let g1 = goes_then (F s) (λ s. (steps t s >>= λ s. after_left s)) s1 a.does g in
        let o : Step = steps t s1 in
        let r : Outcome = run_term t (laid s1) in
        let j = jt s1 a.fits (goes_first o (λ s. after_left s) g1) in
        let rest : (s2 : State) → o ≡ done s2 → Fits size most s2 → RightJoined s2 = λ s2 e h2. right_joined s2 h2 (goes_then o (λ s. after_left s) s2 e g1) in
        record {
          safe = record {
            first = a.ok;
            left = subst (λ m. Safe t m) (sym a.same) j.safe;
            then = λ m2 e.
                let d = matches_done lent size most s1.cells o r j.match m2 (ap (λ m. run_term t m) (sym a.same) ∙ e) in
                subst (λ m. AfterLeft k (λ z. Safe u z) (λ z. run_term u z) m) (sym d.lies) (rest d.state d.is d.fits).safe;
          };
          match = matches_after lent size most s (F s) (first_of k (laid s)) _ a (λ s. (steps t s >>= λ s. after_left s))
              (λ m. (run_term t m >>= λ m. (run_term u (second_of k m) >>= λ m. done (third_of k m))))
              (matches_then lent size most s1.cells o r j.match (λ s. after_left s) (λ m. (run_term u (second_of k m) >>= λ m. done (third_of k m)))
              (λ s2 e h2. (rest s2 e h2).match));
        }

  -- kinds with two children

  comp_joins : (B : Ty) (t u : Term) → Joins t → Joins u → Joins (comp B t u)
  unfolding exec run_term Safe
  comp_joins B t u jt ju s h g =
      let n : ℕ = width B in
      let x = around_joined (composing n) (λ s. new_frame size most n s) (λ s. move_frame s) (λ s. drop_frame s)
      (comp_surrounds lent size most le n) t u jt ju s h g in
      record { safe = x.safe; match = x.match }

  -- a pair with nothing around its children
  pair_form : (o : Step) (k : State → Step) → (o >>= λ s. (k s >>= λ s. done s)) ≡ (o >>= λ s. k s)
  unfolding ◌>>=◌
  pair_form (done s) k = bind_done (k s)
  pair_form (failed p s) k = refl
  pair_form (pruned p s) k = refl
  pair_form stuck k = refl

  pair_joins : (B : Ty) (t u : Term) → Joins t → Joins u → Joins (pair B t u)
  unfolding exec run_term Safe
  pair_joins B t u jt ju s h g =
      let e : (steps t s >>= λ s. (steps u s >>= λ s. done s)) ≡ (steps t s >>= λ s. steps u s) = pair_form (steps t s) (λ s. steps u s) in
      let x = around_joined pairing (λ s. done s) (λ s. done s) (λ s. done s) (pair_surrounds lent size most le) t u jt ju s h
      (subst (λ o. Goes o) (sym e) g) in
      record { safe = x.safe; match = subst (λ o. Agree s.cells o (around pairing (λ z. run_term t z) (λ z. run_term u z) (laid s))) e x.match }

  disconnect_joins : (A B C : Ty) (v : Val) (t u : Term) → Joins t → Joins u → Joins (disconnect A B C v t u)
  unfolding exec run_term Safe
  disconnect_joins A B C v t u jt ju s h g =
      let hash : List Bit = padded (word_ty 8) v in
      let a : ℕ = width A in
      let b : ℕ = width B in
      let c : ℕ = width C in
      let k : Around = disconnecting hash a b c in
      let e = disconnect_form lent size most le hash a b c s t u in
      let x = around_joined k (λ s. hand lent size most le hash a b c s) (λ s. keep lent size most le hash a b c s)
      (λ s. close lent size most le hash a b c s) (disconnect_surrounds lent size most le hash a b c)
      t u jt ju s h (subst (λ o. Goes o) (sym e) g) in
      record { safe = x.safe; match = subst (λ o. Agree s.cells o (around k (λ z. run_term t z) (λ z. run_term u z) (laid s))) e x.match }

  -- kinds with no child

  iden_joins : (A : Ty) → Joins (iden A)
  unfolding exec run_term Safe
  iden_joins A s h g =
      let x = copy_follows lent size most le (width A) s h g in
      record { safe = λ pos. capped lent size most (λ cap. CopyOk cap (width A) (laid s)) s.cells (x.ok pos); match = matches_rule lent size most x }

  unit_joins : Joins unit
  unfolding exec run_term Safe
  unit_joins s h g = record { safe = tt; match = matches_here lent size most s h }

  fail_joins : (p : ℕ) → Joins (fail p)
  unfolding exec run_term Safe laid_out
  fail_joins p s h g = record { safe = tt; match = record { same = refl; ends = record { fits = h; kept = λ p l. refl } } }

  witness_joins : (A : Ty) (v : Val) → Joins (witness A v)
  unfolding exec run_term Safe
  witness_joins A v s h g =
      let x = write_follows lent size most le (padded A v) s h g in
      record {
        safe = λ pos. capped lent size most (λ cap. WriteOk cap (length (padded A v)) (laid s)) s.cells
            (x.ok pos);
        match = matches_rule lent size most x;
      }

  word_joins : (A : Ty) (v : Val) → Joins (word A v)
  unfolding exec run_term Safe
  word_joins A v s h g =
      let x = write_follows lent size most le (padded A v) s h g in
      record {
        safe = λ pos. capped lent size most (λ cap. WriteOk cap (length (padded A v)) (laid s)) s.cells
            (x.ok pos);
        match = matches_rule lent size most x;
      }

  bad_joins : Joins bad
  unfolding exec
  bad_joins s h g = absurd g

  -- kinds with one child

  injl_joins : (B C : Ty) (t : Term) → Joins t → Joins (injl B C t)
  unfolding exec run_term Safe
  injl_joins B C t jt s h g = let x = tag_joined 0 (pad_l B C) t jt s h g in record { safe = x.safe; match = x.match }

  injr_joins : (B C : Ty) (t : Term) → Joins t → Joins (injr B C t)
  unfolding exec run_term Safe
  injr_joins B C t jt s h g = let x = tag_joined 1 (pad_r B C) t jt s h g in record { safe = x.safe; match = x.match }

  drop_joins : (A : Ty) (t : Term) → Joins t → Joins (drop A t)
  unfolding exec run_term Safe
  drop_joins A t jt s h g = let x = under_joined (width A) t jt s h g in record { safe = x.safe; match = x.match }

  take_joins : (t : Term) → Joins t → Joins (take t)
  unfolding exec run_term Safe
  take_joins t jt s h g =
      let e : (steps t s >>= λ s. done s) ≡ steps t s = bind_done (steps t s) in
      let x = under_joined 0 t jt s h (subst (λ o. Goes o) (sym e) g) in
      record { safe = x.safe; match = subst (λ o. Agree s.cells o (under 0 (λ z. run_term t z) (laid s))) e x.match }

  -- branches

  module _ (s : State) (h : Fits size most s) (L R : Step) where
    abbrev picked : Bit → Step
    picked b = elim b [ zero ↦ L | suc b ↦ R ]

    -- what the bit at the read cursor picks
    branch_is : Goes (peek s >>= λ b. picked b) → (peek s >>= λ b. picked b) ≡ picked (peeked (laid s))
    unfolding ◌>>=◌
    branch_is g = ap (λ o. o >>= λ b. picked b) (peek_follows lent size most le s h (goes_first (peek s) (λ b. picked b) g)).does

    branch_looks : Goes (peek s >>= λ b. picked b) → ReadOk (length (tabulate lent s.cells)) 1 (laid s)
    branch_looks g = capped lent size most (λ cap. ReadOk cap 1 (laid s)) s.cells
        (peek_follows lent size most le s h (goes_first (peek s) (λ b. picked b) g)).ok

    left_goes : Goes (peek s >>= λ b. picked b) → peeked (laid s) ≡ 0 → Goes L
    left_goes g e = subst (λ b. Goes (picked b)) e (subst (λ o. Goes o) (branch_is g) g)

    right_goes : Goes (peek s >>= λ b. picked b) → (peeked (laid s) ≡ 0 → ⊥) → Goes R
    right_goes g ne = go (peeked (laid s)) ne (subst (λ o. Goes o) (branch_is g) g)
      where
        go : (b : Bit) → (b ≡ 0 → ⊥) → Goes (picked b) → Goes R
        go zero ne g = absurd (ne refl)
        go (suc b) ne g = g

    branch_matches : (L' R' : Outcome) → Goes (peek s >>= λ b. picked b) → (peeked (laid s) ≡ 0 → Agree s.cells L L')
        → ((peeked (laid s) ≡ 0 → ⊥) → Agree s.cells R R')
        → Agree s.cells (peek s >>= λ b. picked b) (elim (peeked (laid s)) [ zero ↦ L' | suc b ↦ R' ])
    branch_matches L' R' g left right =
        subst (λ o. Agree s.cells o (elim (peeked (laid s)) [ zero ↦ L' | suc b ↦ R' ])) (sym (branch_is g))
        (go (peeked (laid s)) left right)
      where
        go : (b : Bit) → (b ≡ 0 → Agree s.cells L L') → ((b ≡ 0 → ⊥) → Agree s.cells R R')
            → Agree s.cells (picked b) (elim b [ zero ↦ L' | suc b ↦ R' ])
        go zero left right = left refl
        go (suc b) left right = right (λ e. let x : suc b ≡ 0 = e in omega arith)

  -- a child with the read cursor n cells on, as a branch runs it
  abbrev below : ℕ → Term → State → Step
  below n t s = fwd n s >>= λ s. (steps t s >>= λ s. back n s)

  case_joins : (A B : Ty) (t u : Term) → Joins t → Joins u → Joins (case A B t u)
  unfolding exec run_term Safe
  case_joins A B t u jt ju s h g =
      let m : Mach = laid s in
      let L : Step = below (1 + pad_l A B) t s in
      let R : Step = below (1 + pad_r A B) u s in
      let left : peeked m ≡ 0 → UnderJoined (1 + pad_l A B) t s = λ e. under_joined (1 + pad_l A B) t jt s h (left_goes s h L R g e) in
      let right : (peeked m ≡ 0 → ⊥) → UnderJoined (1 + pad_r A B) u s = λ ne. under_joined (1 + pad_r A B) u ju s h (right_goes s h L R g ne) in
      record {
        safe = record { look = branch_looks s h L R g; left = λ e. (left e).safe; right = λ ne. (right ne).safe };
        match = branch_matches s h L R (under (1 + pad_l A B) (λ z. run_term t z) m) (under (1 + pad_r A B) (λ z. run_term u z) m) g
            (λ e. (left e).match) (λ ne. (right ne).match);
      }

  pruned_here : (p : ℕ) (s : State) → Fits size most s → Agree s.cells (pruned p s) (pruned p (laid s))
  unfolding laid_out
  pruned_here p s h = record { same = refl; ends = record { fits = h; kept = λ p l. refl } }

  assertl_joins : (p : ℕ) (A B : Ty) (t : Term) → Joins t → Joins (assertl p A B t)
  unfolding exec run_term Safe
  assertl_joins p A B t jt s h g =
      let m : Mach = laid s in
      let L : Step = below (1 + pad_l A B) t s in
      let left : peeked m ≡ 0 → UnderJoined (1 + pad_l A B) t s = λ e. under_joined (1 + pad_l A B) t jt s h (left_goes s h L (pruned p s) g e) in
      record {
        safe = record { look = branch_looks s h L (pruned p s) g; left = λ e. (left e).safe; right = λ ne. tt };
        match = branch_matches s h L (pruned p s) (under (1 + pad_l A B) (λ z. run_term t z) m) (pruned p m) g (λ e. (left e).match) (λ ne. pruned_here p s h);
      }

  assertr_joins : (p : ℕ) (A B : Ty) (t : Term) → Joins t → Joins (assertr p A B t)
  unfolding exec run_term Safe
  assertr_joins p A B t jt s h g =
      let m : Mach = laid s in
      let R : Step = below (1 + pad_r A B) t s in
      let right : (peeked m ≡ 0 → ⊥) → UnderJoined (1 + pad_r A B) t s = λ ne. under_joined (1 + pad_r A B) t jt s h (right_goes s h (pruned p s) R g ne) in
      record {
        safe = record { look = branch_looks s h (pruned p s) R g; left = λ e. tt; right = λ ne. (right ne).safe };
        match = branch_matches s h (pruned p s) R (pruned p m) (under (1 + pad_r A B) (λ z. run_term t z) m) g (λ e. pruned_here p s h) (λ ne. (right ne).match);
      }

  -- every term
  pub join : (t : Term) → Joins t
  join (iden A) = iden_joins A
  join (comp B t u) = comp_joins B t u (join t) (join u)
  join unit = unit_joins
  join (injl B C t) = injl_joins B C t (join t)
  join (injr B C t) = injr_joins B C t (join t)
  join (case A B t u) = case_joins A B t u (join t) (join u)
  join (pair B t u) = pair_joins B t u (join t) (join u)
  join (take t) = take_joins t (join t)
  join (drop A t) = drop_joins A t (join t)
  join (assertl p A B t) = assertl_joins p A B t (join t)
  join (assertr p A B t) = assertr_joins p A B t (join t)
  join (fail p) = fail_joins p
  join (witness A v) = witness_joins A v
  join (word A v) = word_joins A v
  join (disconnect A B C v t u) = disconnect_joins A B C v t u (join t) (join u)
  join bad = bad_joins
