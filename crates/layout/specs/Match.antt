-- An outcome of the machine of the requirements and an outcome of the store machine that is its layout.
-- Both end alike, in a state that fits, and no cell from the bound on was changed.
use Rattle.std.proofs.Math.Path.{◌≡◌}
use Rattle.std.specs.Prelude.{ℕ}
use Rattle.report.specs.Values.{Cells}
use Rattle.report.specs.Meaning.{done, failed, pruned, stuck}
use Rattle.scope.specs.Machine.{State, Step}
use Rattle.layout.specs.Exec.{Outcome}
use Rattle.layout.specs.Layout.{layout}
use Rattle.layout.specs.Follow.{Fits, KeptFrom}

-- an outcome, its state laid out
unfoldable pub laid_out : (lent most : ℕ) → Step → Outcome
laid_out lent most (done s) = done (layout lent most s)
laid_out lent most (failed p s) = failed p (layout lent most s)
laid_out lent most (pruned p s) = pruned p (layout lent most s)
laid_out lent most stuck = stuck

-- a state that a run reaches from cells c: it fits, and no cell from the bound on was changed
pub record Reached (size most : ℕ) (c : Cells) (s : State) : Type 0 where
  pub fits : Fits size most s
  pub kept : KeptFrom size c s.cells

-- how a run that is not stuck ends
abbrev pub Ends : (size most : ℕ) → Cells → Step → Type 0
Ends size most c (done s) = Reached size most c s
Ends size most c (failed p s) = Reached size most c s
Ends size most c (pruned p s) = Reached size most c s
Ends size most c stuck = ⊥

-- the store machine's outcome r is the layout of the outcome o
pub record Matches (lent size most : ℕ) (c : Cells) (o : Step) (r : Outcome) : Type 0 where
  pub same : r ≡ laid_out lent most o
  pub ends : Ends size most c o
