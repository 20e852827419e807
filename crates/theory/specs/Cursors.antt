-- The machine without its frames: only where the active read cursor, the active write cursor and the first free cell are.
-- The machine of frames does just this to the cells (Frames), and this computes the meaning (Meets).
use Rattle.std.specs.Prelude.{[], ◌∷◌, ℕ, zero, suc, ◌+◌}
use Rattle.report.specs.Types.{width, pad_l, pad_r, word_ty}
use Rattle.report.specs.Values.{Cells, padded}
use Rattle.report.specs.Terms.{Term, iden, comp, unit, injl, injr, case, pair, take, drop, assertl, assertr, fail, witness, word, disconnect, bad}
use Rattle.report.specs.Meaning.{Out, done, failed, pruned, stuck, ◌>>=◌}
use Rattle.scope.specs.Machine.{put_bits, copy_cells}

-- what a term leaves in the cells, read at rd and written at wr, where the cells from nx on are free
unfoldable pub on_cells : Term → (rd wr nx : ℕ) → Cells → Out Cells Cells
unfolding ◌>>=◌
on_cells (iden A) rd wr nx c = done (copy_cells c rd wr (width A))
on_cells (comp B f g) rd wr nx c = do
  c ← on_cells f rd nx (nx + width B) c
  on_cells g nx wr (nx + width B) c
on_cells unit rd wr nx c = done c
on_cells (injl B C t) rd wr nx c = on_cells t rd (wr + (1 + pad_l B C)) nx (put_bits c wr (0 ∷ []))
on_cells (injr B C t) rd wr nx c = on_cells t rd (wr + (1 + pad_r B C)) nx (put_bits c wr (1 ∷ []))
on_cells (case A B f g) rd wr nx c = elim (c rd) [
  | zero ↦ on_cells f (rd + (1 + pad_l A B)) wr nx c
  | suc b ↦ on_cells g (rd + (1 + pad_r A B)) wr nx c
]
on_cells (pair B f g) rd wr nx c = do
  c ← on_cells f rd wr nx c
  on_cells g rd (wr + width B) nx c
on_cells (take t) rd wr nx c = on_cells t rd wr nx c
on_cells (drop A t) rd wr nx c = on_cells t (rd + width A) wr nx c
on_cells (assertl p A B f) rd wr nx c = elim (c rd) [ zero ↦ on_cells f (rd + (1 + pad_l A B)) wr nx c | suc b ↦ pruned p c ]
on_cells (assertr p A B g) rd wr nx c = elim (c rd) [ zero ↦ pruned p c | suc b ↦ on_cells g (rd + (1 + pad_r A B)) wr nx c ]
on_cells (fail p) rd wr nx c = failed p c
on_cells (witness A v) rd wr nx c = done (put_bits c wr (padded A v))
on_cells (word A v) rd wr nx c = done (put_bits c wr (padded A v))
on_cells (disconnect A B C h f g) rd wr nx c =
    let a = nx + width (word_ty 8) in
    let m = nx + (width (word_ty 8) + width A) in
    let e = m + (width B + width C) in
    on_cells f nx m e (copy_cells (put_bits c nx (padded (word_ty 8) h)) rd a (width A)) >>= λ c.
    on_cells g (m + width B) (wr + width B) e (copy_cells c m wr (width B))
on_cells bad rd wr nx c = stuck
