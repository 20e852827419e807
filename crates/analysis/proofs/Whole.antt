-- The numbers of the whole program: held at one above their limits they are judged as they are, and no held number passes.
use mathlib.Core.Path.{◌≡◌, ap, ◌∙◌}
use mathlib.Core.Bool.{false}
use mathlib.Core.List.{List}
use Prim.Native.Nat.{ℕ, ◌+◌, ◌-◌, ◌<◌, ◌≤◌}
use native.Mathlib.Omega.{arith}
use native.Mathlib.Decide.{dec_le}
use lib.Dec.{leb}
use lib.ListN.{length, get_or}
use borrow.Author.Tests.{le-leb, lt-leb}
use Rattle.limits.specs.Limits.{node_count, cell_count, frame_count, cost_limit}
use Rattle.scope.specs.Check.{◌>>=◌, require}
use Rattle.scope.specs.Types.{TypeRecord}
use Rattle.scope.specs.Nodes.{NodeRecord}
use Rattle.scope.specs.Numbers.{tabulate}
use Rattle.scope.specs.Arrows.{Arrow}
use Rattle.scope.specs.Bounds.{Bound, check_limits}
use Rattle.common.specs.Tables.{tabulate_at}
use Rattle.analysis.specs.Held.{up_to}
use Rattle.lookup.specs.Lookup.{source_width, target_width}
use Rattle.analysis.specs.Rows.{bound_at}
use Rattle.analysis.specs.Limits.{limited, lent_totals}
use Rattle.analysis.specs.declared.Bound as code
use Rattle.analysis.proofs.Tables.{held_at}

-- numbers held at one above their limits
abbrev held_numbers : Bound → Bound
held_numbers b = record { cells = up_to cell_count b.cells; frames = up_to frame_count b.frames; cost = up_to cost_limit b.cost }

pub limited_held : (b : Bound) → limited (held_numbers b) ≡ limited b
unfolding limited check_limits require ◌>>=◌
limited_held b = go (dec_le b.cells cell_count) (dec_le b.frames frame_count) (dec_le b.cost cost_limit)
  where
    within : (limit n : ℕ) → n ≤ limit → up_to limit n ≡ n
    within limit n h = omega arith

    over : (limit n : ℕ) → limit < n → leb (up_to limit n) limit ≡ false
    over limit n h = lt-leb (up_to limit n) limit (omega arith)

    go : Dec (b.cells ≤ cell_count) → Dec (b.frames ≤ frame_count) → Dec (b.cost ≤ cost_limit) → limited (held_numbers b) ≡ limited b
    go (no n) f c = rw (over cell_count b.cells (omega arith), lt-leb b.cells cell_count (omega arith))
    go (yes h) (no n) c =
        rw (
          within cell_count b.cells h,
          le-leb b.cells cell_count h,
          over frame_count b.frames (omega arith),
          lt-leb b.frames frame_count
              (omega arith),
        )
    go (yes h) (yes g) (no n) =
        rw (
          within cell_count b.cells h,
          le-leb b.cells cell_count h,
          within frame_count b.frames g,
          le-leb b.frames frame_count g,
          over cost_limit b.cost (omega arith),
          lt-leb b.cost cost_limit (omega arith),
        )
    go (yes h) (yes g) (yes k) =
        let p = within cell_count b.cells h in
        let q = within frame_count b.frames g in
        let r = within cost_limit b.cost k in
        λ i. limited (record { cells = p i; frames = q i; cost = r i })

module _ (types : List TypeRecord) (widths : List ℕ) (records : List NodeRecord) (arrows : List Arrow) where
  -- the last node's row, where the rows stand in an array
  pub row_read : (rows : List code.Bound) (i : ℕ) → i < node_count → rows ≡ tabulate node_count (held_at types widths records arrows)
      → get_or rows i (record { cells = 0; frames = 0; cost = record { units = 0 } }) ≡ held_at types widths records arrows i
  row_read rows i h e =
      ap (λ l. get_or l i (record { cells = 0; frames = 0; cost = record { units = 0 } })) e
      ∙ tabulate_at (held_at types widths records arrows) node_count i (record { cells = 0; frames = 0; cost = record { units = 0 } }) h

  -- what is judged is the whole program
  pub totals_judged : (own : code.Bound) (s t cells frames cost : ℕ) → own ≡ held_at types widths records arrows (length records - 1)
      → s ≡ source_width widths arrows (length records - 1) → t ≡ target_width widths arrows (length records - 1)
      → cells ≡ up_to cell_count (s + t + own.cells) → frames ≡ up_to frame_count (own.frames + 2) → cost ≡ own.cost.units
      → limited (record { cells = cells; frames = frames; cost = cost }) ≡ limited (lent_totals types widths records arrows)
  unfolding lent_totals
  totals_judged own s t cells frames cost e p q u v w =
      let b : Bound = bound_at types widths records arrows (length records - 1) in
      let c : cells ≡ up_to cell_count (source_width widths arrows (length records - 1) + target_width widths arrows (length records - 1) + b.cells) =
      omega (arith, ap (λ x. x.cells) e) in
      let f : frames ≡ up_to frame_count (b.frames + 2) = omega (arith, ap (λ x. x.frames) e) in
      let k : cost ≡ up_to cost_limit b.cost = w ∙ ap (λ x. x.cost.units) e in
      (λ i. limited (record { cells = c i; frames = f i; cost = k i })) ∙ limited_held (lent_totals types widths records arrows)
