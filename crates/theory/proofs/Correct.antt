-- The Bit Machine computes the meaning, at any point of a run: the value is left at the old write cursor, all frames are back, and nothing else is changed.
-- It stops exactly where the meaning fails or is pruned, at that place. Shown within the requirements' bounds, which are just the room that a run may use.
use Rattle.std.specs.Prelude.{◌≡◌, refl, List, ℕ, ◌+◌, ◌≤◌, length}
use Rattle.std.proofs.Common.{ap}
use Rattle.std.proofs.Math.Path.{subst}
use Rattle.report.specs.Types.{Ty, width}
use Rattle.report.specs.Values.{Cells, value_at}
use Rattle.report.specs.Terms.{Term}
use Rattle.report.specs.Typing.{Typed}
use Rattle.report.specs.Meaning.{Out, done, failed, pruned, stuck, ◌>>=◌, Means, eval}
use Rattle.scope.specs.Machine.{Frame, State, Step, state, exec}
use Rattle.scope.specs.Bounds.{bounds}
use Rattle.common.specs.Checks.{clash}
use Rattle.theory.specs.Cells.{Apart}
use Rattle.theory.proofs.Meets.{Agrees, meets}
use Rattle.theory.specs.Instructions.{At, advance}
use Rattle.theory.specs.Frames.{bare}
use Rattle.theory.proofs.Frames.{does}
use Rattle.theory.specs.Correct.{Ends, of_value, of_fails, of_prunes, end_at}

module _ (B : Ty) (wr nx x : ℕ) (rs ws : List Frame) (c : Cells) where
  -- the cells' agreement and the frames' come to the same end
  ends : {o : Means} {r : Out Cells Cells} → Agrees B wr nx x c o r → (e : Step)
      → bare e ≡ (r >>= λ c. done (state c rs (advance (width B) ws) nx)) → Ends B wr nx x rs ws c o e
  unfolding bare ◌>>=◌
  ends (Agrees.of_done {v} {d} q k) (done s) h =
      let e : state d rs (advance (width B) ws) nx ≡ s = cc in
      subst (λ (s : State). Ends B wr nx x rs ws c (done v) (done s)) e (of_value q k)
  ends (Agrees.of_done q k) (failed p s) h = clash (cc)
  ends (Agrees.of_done q k) (pruned p s) h = clash (cc)
  ends (Agrees.of_done q k) stuck h = clash (cc)
  ends (Agrees.of_failed k) (done s) h = clash (cc)
  ends (Agrees.of_failed {p} {d} k) (failed p' s) h =
      let e : p ≡ p' = cc in let e' : d ≡ s.cells = cc in
      rw e (of_fails (rw e' at k))
  ends (Agrees.of_failed k) (pruned p s) h = clash (cc)
  ends (Agrees.of_failed k) stuck h = clash (cc)
  ends (Agrees.of_pruned k) (done s) h = clash (cc)
  ends (Agrees.of_pruned k) (failed p s) h = clash (cc)
  ends (Agrees.of_pruned {p} {d} k) (pruned p' s) h =
      let e : p ≡ p' = cc in let e' : d ≡ s.cells = cc in
      rw e (of_prunes (rw e' at k))
  ends (Agrees.of_pruned k) stuck h = clash (cc)

-- MACHINE = MEANING, at any point of a run: the cells at the read cursor hold a value, the write frame has room, the two are apart, and
-- there are as many cells and frames as the bounds say.
pub exec_within : {t : Term} {A B : Ty} → Typed t A B → (size most : ℕ) (rs ws : List Frame) (rd wr nx : ℕ) (c : Cells)
    → At rs rd (width A) → At ws wr (width B) → rd + width A ≤ nx → wr + width B ≤ nx → Apart rd (width A) wr (width B)
    → nx + (bounds t).cells ≤ size → length rs + length ws + (bounds t).frames ≤ most
    → Ends B wr nx (bounds t).cells rs ws c (eval t (value_at A c rd)) (exec size most t (state c rs ws nx))
exec_within {t} {A} {B} h size most rs ws rd wr nx c hr hw ra wb apart hc hf =
    ends B wr nx (bounds t).cells rs ws c (meets h rd wr nx c ra wb apart) (exec size most t (state c rs ws nx))
    (does h size most rs ws rd wr nx c hr hw hc hf)

-- A RUN ENDS AS THE MEANING DOES: with its value, or at its place and in its way
pub ends_as : {B : Ty} {wr nx x : ℕ} {rs ws : List Frame} {c : Cells} {o : Means} {e : Step} → Ends B wr nx x rs ws c o e → end_at B wr e ≡ o
unfolding end_at state
ends_as (of_value q k) = ap done q
ends_as (of_fails k) = refl
ends_as (of_prunes k) = refl
