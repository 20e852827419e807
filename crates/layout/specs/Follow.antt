-- What it says that the store machine follows the machine of the requirements by a rule: a state within the bounds,
-- a machine that is not stuck, cells that are kept from a bound on, and the two machines' states after the rule.
use Rattle.std.specs.Prelude.{◌≡◌}
use Rattle.std.proofs.Math.Path.{refl}
use mathlib.Core.List.{List, [], ◌∷◌}
use Prim.Native.Nat.{ℕ, ◌+◌, ◌-◌, ◌≤◌}
use native.Mathlib.Omega.{arith}
use Rattle.std.proofs.Math.ListN.{length}
use Rattle.report.specs.Values.{Cells}
use Rattle.report.specs.Meaning.{Out, done, failed, pruned, stuck}
use Rattle.scope.specs.Machine.{Frame, State, Step}
use Rattle.layout.specs.Mach.{Mach}
use Rattle.common.specs.Tables.{length-tabulate}
use Rattle.layout.specs.Layout.{layout, arranged-length}

-- the machine is not stuck
abbrev pub Goes : {Y X : Type 0} → Out Y X → Type 0
Goes (done x) = Unit {0}
Goes (failed p y) = Unit {0}
Goes (pruned p y) = Unit {0}
Goes stuck = ⊥

pub not_stuck : {Y X : Type 0} (o : Out Y X) → (o ≡ stuck → ⊥) → Goes o
not_stuck (done x) h = tt
not_stuck (failed p y) h = tt
not_stuck (pruned p y) h = tt
not_stuck stuck h = h refl

-- all frames end within so many cells
abbrev pub Inside : ℕ → List Frame → Type 0
Inside size [] = Unit {0}
Inside size (f ∷ fs) = (f.start + f.len ≤ size) × Inside size fs

-- a state within the bounds
pub record Fits (size most : ℕ) (s : State) : Type 0 where
  pub room : length s.reads + length s.writes ≤ most
  pub cells : s.next ≤ size
  pub reads : Inside size s.reads
  pub writes : Inside size s.writes

-- cells d are as cells c from a place on
abbrev pub KeptFrom : ℕ → (c d : Cells) → Type 0
KeptFrom size c d = (p : ℕ) → size ≤ p → d p ≡ c p

-- a rule that goes from s to a state, and the store machine m with it; Ok is what the store machine's rule needs
pub record Follows (lent size most : ℕ) (s : State) (o : Step) (m : Mach) (Ok : Type 0) : Type 0 where
  pub to : State
  pub does : o ≡ done to
  pub same : m ≡ layout lent most to
  pub fits : Fits size most to
  pub kept : KeptFrom size s.cells to.cells
  pub ok : Ok

-- the layout of a state that fits has as many cells and records as are lent
pub layout_cells : (lent most : ℕ) (s : State) → length (layout lent most s).bits ≡ lent
layout_cells lent most s = length-tabulate s.cells lent

pub layout-records : (lent size most : ℕ) (s : State) → Fits size most s → length (layout lent most s).records ≡ most
layout-records lent size most s h =
    let room = h.room in
    omega (arith, arranged-length (most - (length s.reads + length s.writes)) s.writes s.reads)
