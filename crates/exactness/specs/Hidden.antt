-- Where hidden nodes may stand: only under a case, under one of its branches at most, no hash twice, and not last.
-- A program that decodes has its hidden nodes there alone.
use Rattle.std.specs.Prelude.{◌≡◌, ℕ, ◌-◌, ◌<◌, length}
use Rattle.std.proofs.Math.Bool.{true}
use mathlib.Core.List.{List}
use Rattle.report.specs.Nodes.{Node, case, hidden}
use Rattle.report.specs.Canonical.{children, is_done}
use Rattle.scope.specs.Nodes.{node_at}

-- node j is hidden
abbrev pub IsHidden : List Node → (j : ℕ) → Type 0
IsHidden nodes j = (hash : List ℕ) × (node_at nodes j ≡ hidden hash)

-- the node is a case
abbrev pub IsCase : Node → Type 0
IsCase n = (a : ℕ) × (b : ℕ) × (n ≡ case a b)

-- where hidden nodes may stand
pub record HiddenPlaces (nodes : List Node) : Type 0 where
  pub under_case : (i j : ℕ) → i < length nodes → is_done j (children (node_at nodes i)) ≡ true → IsHidden nodes j → IsCase (node_at nodes i)
  pub one_branch : (i a b : ℕ) → i < length nodes → node_at nodes i ≡ case a b → IsHidden nodes a → IsHidden nodes b → ⊥
  pub no_repeat : (i j : ℕ) (hash : List ℕ) → j < length nodes → i < j → node_at nodes i ≡ hidden hash → node_at nodes j ≡ hidden hash → ⊥
  pub last_shown : IsHidden nodes (length nodes - 1) → ⊥
