-- The report's typing of a node in a table, its children's arrows given: one rule for each kind, over types.
-- The pruned branch of an assertion is free; a hidden node goes from unit to unit, since record 0 is unit's; a disconnect with one child has no rule.
use Rattle.std.specs.Prelude.{◌≡◌, true, false, List, ℕ, ◌-◌, ◌<◌, length}
use Rattle.report.specs.Types.{Ty, one, sum, prod, word_ty}
use Rattle.report.specs.Nodes.{Node, comp, case, pair, disconnect, injl, injr, take, drop, iden, unit, witness, fail, hidden, word}
use Rattle.scope.specs.Types.{TypeRecord, ty_at}
use Rattle.scope.specs.Nodes.{node_at}
use Rattle.scope.specs.Walk.{hidden_at}
use Rattle.scope.specs.Arrows.{Arrow, source, target}

-- node j goes from A to B
pub record Goes (from to : ℕ → Ty) (j : ℕ) (A B : Ty) : Type 0 where
  pub starts : from j ≡ A
  pub ends : to j ≡ B

-- node j as a branch of a case goes from A × C to D, or is pruned
pub data Branch (nodes : List Node) (from to : ℕ → Ty) (j : ℕ) (A C D : Ty) : Type 0 where
  of_shown : hidden_at nodes j ≡ false → Goes from to j (prod A C) D → Branch nodes from to j A C D
  of_pruned : hidden_at nodes j ≡ true → Branch nodes from to j A C D

-- the report's typing of a node whose children go as told
pub data NodeTyped (nodes : List Node) (from to : ℕ → Ty) : Node → Ty → Ty → Type 0 where
  of_iden : {A : Ty} → NodeTyped nodes from to iden A A
  of_comp : {s t : ℕ} {A B C : Ty} → Goes from to s A B → Goes from to t B C → NodeTyped nodes from to (comp s t) A C
  of_unit : {A : Ty} → NodeTyped nodes from to unit A one
  of_injl : {s : ℕ} {A B C : Ty} → Goes from to s A B → NodeTyped nodes from to (injl s) A (sum B C)
  of_injr : {s : ℕ} {A B C : Ty} → Goes from to s A C → NodeTyped nodes from to (injr s) A (sum B C)
  of_case : {s t : ℕ} {A B C D : Ty} → Branch nodes from to s A C D → Branch nodes from to t B C D
      → NodeTyped nodes from to (case s t) (prod (sum A B) C) D
  of_pair : {s t : ℕ} {A B C : Ty} → Goes from to s A B → Goes from to t A C → NodeTyped nodes from to (pair s t) A (prod B C)
  of_take : {s : ℕ} {A B C : Ty} → Goes from to s A C → NodeTyped nodes from to (take s) (prod A B) C
  of_drop : {s : ℕ} {A B C : Ty} → Goes from to s B C → NodeTyped nodes from to (drop s) (prod A B) C
  of_fail : {bytes : List ℕ} {A B : Ty} → NodeTyped nodes from to (fail bytes) A B
  of_witness : {A B : Ty} → NodeTyped nodes from to witness A B
  of_word : {n : ℕ} {bits : List ℕ} → NodeTyped nodes from to (word n bits) one (word_ty (n - 1))
  of_disconnect : {s t : ℕ} {A B C D : Ty} → Goes from to s (prod (word_ty 8) A) (prod B C) → Goes from to t C D
      → NodeTyped nodes from to (disconnect s t) A (prod B D)
  of_hidden : {hash : List ℕ} → NodeTyped nodes from to (hidden hash) one one

module _ (types : List TypeRecord) (arrows : List Arrow) where
  -- the types that node j goes from and to, by its arrow
  unfoldable pub from_ty : (j : ℕ) → Ty
  unfolding ty_at source
  from_ty j = ty_at types (source arrows j)

  unfoldable pub to_ty : (j : ℕ) → Ty
  unfolding ty_at target
  to_ty j = ty_at types (target arrows j)

  -- both ends of the arrow are in the type table
  pub record InRange (j : ℕ) : Type 0 where
    pub source_in : source arrows j < length types
    pub target_in : target arrows j < length types

-- every node has an arrow, in range, at which the report types it
pub record ArrowsTyped (types : List TypeRecord) (nodes : List Node) (arrows : List Arrow) : Type 0 where
  pub one_each : length arrows ≡ length nodes
  pub in_range : (i : ℕ) → i < length nodes → InRange types arrows i
  pub typed : (i : ℕ) → i < length nodes
      → NodeTyped nodes (from_ty types arrows) (to_ty types arrows) (node_at nodes i) (from_ty types arrows i) (to_ty types arrows i)
