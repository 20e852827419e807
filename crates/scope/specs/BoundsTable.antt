-- The table of bounds, one computed line for each of its cells, and the limits of 14 at their borders.
-- Children have bounds that are all different, so that a cell taken from another column or another child shows.
use Rattle.std.specs.Prelude.{◌≡◌, refl, Bool, true, false, List, [], ◌∷◌, ℕ, zero, suc, ◌+◌, eqb, replicate}
use Rattle.limits.specs.Limits.{cell_count, frame_count, cost_limit}
use Rattle.refusal.specs.declared.Refusal.TheVariants.{OverLimit}
use Rattle.report.specs.Lines.{◌is◌, Hold}
use Rattle.report.specs.Types.{Ty, one, width, word_ty}
use Rattle.report.specs.Values.{⟨⟩}
use Rattle.report.specs.Nodes as Node
use Rattle.report.specs.Terms.{Term, iden, comp, unit, injl, injr, case, pair, take, drop, assertl, assertr, fail, witness, word, disconnect, bad}
use Rattle.scope.specs.Check.{passed, refused}
use Rattle.scope.specs.Numbers.{tabulate}
use Rattle.scope.specs.Program.{Program}
use Rattle.scope.specs.Bounds.{bounds, check_limits, check_bounds}
use Rattle.scope.specs.Shorthand.{ty, to}

-- a cell of the table, at a term
pub data Line : Type 0 where
  cells frames cost : Term → (number : ℕ) → Line

unfoldable pub is_so : Line → Bool
unfolding bounds
is_so (cells t n) = eqb (bounds t).cells n
is_so (frames t n) = eqb (bounds t).frames n
is_so (cost t n) = eqb (bounds t).cost n

unfoldable pub all_so : List Line → Bool
unfolding is_so
all_so [] = true
all_so (l ∷ ls) = elim (is_so l) [ true ↦ all_so ls | false ↦ false ]

-- a bit, and words of 4 and 8 bits
abbrev b1 : Ty
b1 = word_ty 0

abbrev b4 : Ty
b4 = word_ty 2

abbrev b8 : Ty
b8 = word_ty 3

-- extra cells 4, frames 1, cost 304
abbrev left : Term
left = comp b4 unit (iden one)

-- extra cells 9, frames 2, cost 510
abbrev right : Term
right = comp b8 unit (comp b1 unit (iden b1))

table : List Line
unfolding word_ty
table =
    cells unit 0 ∷ frames unit 0 ∷ cost unit 100
    ∷ cells bad 0 ∷ frames bad 0 ∷ cost bad 0
    ∷ cells (iden b4) 0 ∷ frames (iden b4) 0 ∷ cost (iden b4) 104
    ∷ cells (word b8 ⟨⟩) 0 ∷ frames (word b8 ⟨⟩) 0 ∷ cost (word b8 ⟨⟩) 108
    ∷ cells (injl b1 b4 left) 4 ∷ frames (injl b1 b4 left) 1 ∷ cost (injl b1 b4 left) 404
    ∷ cells (injr b1 b4 left) 4 ∷ frames (injr b1 b4 left) 1 ∷ cost (injr b1 b4 left) 404
    ∷ cells (take left) 4 ∷ frames (take left) 1 ∷ cost (take left) 404
    ∷ cells (drop b4 left) 4 ∷ frames (drop b4 left) 1 ∷ cost (drop b4 left) 404
    ∷ cells (assertl 7 b1 b4 left) 4 ∷ frames (assertl 7 b1 b4 left) 1 ∷ cost (assertl 7 b1 b4 left) 404
    ∷ cells (assertr 7 b1 b4 left) 4 ∷ frames (assertr 7 b1 b4 left) 1 ∷ cost (assertr 7 b1 b4 left) 404
    ∷ cells (pair b1 left right) 9 ∷ frames (pair b1 left right) 2 ∷ cost (pair b1 left right) 914
    ∷ cells (pair b1 right left) 9 ∷ frames (pair b1 right left) 2 ∷ cost (pair b1 right left) 914
    ∷ cells (case b1 b4 left right) 9 ∷ frames (case b1 b4 left right) 2 ∷ cost (case b1 b4 left right) 610
    ∷ cells (case b1 b4 right left) 9 ∷ frames (case b1 b4 right left) 2 ∷ cost (case b1 b4 right left) 610
    ∷ cells (comp b4 left right) 13 ∷ frames (comp b4 left right) 3 ∷ cost (comp b4 left right) 918
    ∷ cells (comp b4 right left) 13 ∷ frames (comp b4 right left) 3 ∷ cost (comp b4 right left) 918
    ∷ cells (disconnect b1 b4 b8 ⟨⟩ left right) 278 ∷ frames (disconnect b1 b4 b8 ⟨⟩ left right) 4 ∷ cost (disconnect b1 b4 b8 ⟨⟩ left right) 1444
    ∷ cells (disconnect b1 b4 b8 ⟨⟩ right left) 278 ∷ frames (disconnect b1 b4 b8 ⟨⟩ right left) 4 ∷ cost (disconnect b1 b4 b8 ⟨⟩ right left) 1444
    ∷ cells (witness b4 ⟨⟩) 0 ∷ frames (witness b4 ⟨⟩) 0 ∷ cost (witness b4 ⟨⟩) 104
    ∷ cells (fail 7) 0 ∷ frames (fail 7) 0 ∷ cost (fail 7) 0
    ∷ []

table_holds : all_so table ≡ true
unfolding table all_so
table_holds = refl

-- at the limits a program passes; above one of them it is refused at the first
limits_kept : Hold (
    check_limits cell_count frame_count cost_limit is passed tt
    ∷ check_limits (cell_count + 1) (frame_count + 1) (cost_limit + 1) is refused (OverLimit 0)
    ∷ check_limits cell_count (frame_count + 1) (cost_limit + 1) is refused (OverLimit 1)
    ∷ check_limits cell_count frame_count (cost_limit + 1) is refused (OverLimit 2)
    ∷ [])
unfolding Hold check_limits
limits_kept = refl

-- iden of the words of 2 ^ k bits, and so many comps of the node before them with it
abbrev comps : (k n : ℕ) → Program
comps k n = record {
  types = ty 0 0 0 ∷ ty 1 0 0 ∷ tabulate k (λ j. ty 2 (j + 1) (j + 1));
  nodes = Node.iden ∷ tabulate n (λ j. Node.comp j 0);
  arrows = replicate (suc n) (to (k + 1) (k + 1));
  witnesses = [];
  hash = λ j. ⟨⟩;
}

-- a whole program: 2,048 cells, 2 frames and a cost of 1,124; as many cells as there may be, and more
programs_kept : Hold (
    check_bounds (comps 10 0) is passed tt
    ∷ check_bounds (comps 15 6) is passed tt
    ∷ check_bounds (comps 15 7) is refused (OverLimit 0)
    ∷ [])
unfolding Hold check_bounds tabulate
programs_kept = refl

-- a witness of the widest type under seven comps with iden: its middles and its target take all the cells that there are
widest : Ty
unfolding word_ty
widest = word_ty 15

under : (comps : ℕ) → Term
under zero = witness widest ⟨⟩
under (suc n) = comp widest (under n) (iden widest)

witness_fits : eqb (width widest + (bounds (under 7)).cells) cell_count ≡ true
unfolding widest under bounds width
witness_fits = refl
