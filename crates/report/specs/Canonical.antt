-- Canonical order: a left-first walk from the last node does each node once, after its children, and so does node 0 first, then node 1, and so on to the last.
use Rattle.std.specs.Prelude.{◌≡◌, Bool, true, false, List, [], ◌∷◌, ◌++◌, ℕ, zero, suc, ◌-◌, eqb, length, get_or}
use Rattle.report.specs.Table.{entries}
use Rattle.report.specs.Nodes.{Node, comp, case, pair, disconnect, injl, injr, take, drop, disconnect1, iden, unit, witness, fail, hidden, word}

-- the children of a node, the left one first
unfoldable pub children : Node → List ℕ
children (comp a b) = a ∷ b ∷ []
children (case a b) = a ∷ b ∷ []
children (pair a b) = a ∷ b ∷ []
children (disconnect a b) = a ∷ b ∷ []
children (injl a) = a ∷ []
children (injr a) = a ∷ []
children (take a) = a ∷ []
children (drop a) = a ∷ []
children (disconnect1 a) = a ∷ []
children iden = []
children unit = []
children witness = []
children (fail bytes) = []
children (hidden bytes) = []
children (word n bits) = []

-- i is one of the list
unfoldable pub is_done : ℕ → List ℕ → Bool
is_done i [] = false
is_done i (j ∷ js) = elim (eqb i j) [ true ↦ true | false ↦ is_done i js ]

-- a walk takes the nodes done before it to the nodes done after it
abbrev pub Walk : Type 0
Walk = List ℕ → List ℕ

-- one walk after the other
unfoldable pub walk_each : List Walk → List ℕ → Walk
walk_each walks [] done = done
walk_each walks (j ∷ js) done = walk_each walks js ((get_or walks j (λ d. d)) done)

-- the walk from a node, of the walks from the nodes before it
unfoldable pub walk_make : List Walk → Node → Walk
unfolding walk_each children is_done
walk_make walks n done = elim (is_done (length walks) done) [
  | true ↦ done
  | false ↦ walk_each walks (children n) done ++ length walks ∷ []
]

-- the nodes in the order in which a walk from the last node does them
unfoldable pub order : List Node → List ℕ
unfolding entries walk_make
order ns = (get_or (entries walk_make ns) (length ns - 1) (λ d. d)) []

-- 0, 1, .. below n, from i on
unfoldable pub up_from : (i n : ℕ) → List ℕ
up_from i zero = []
up_from i (suc n) = i ∷ up_from (suc i) n

abbrev pub Canonical : List Node → Type 0
Canonical ns = order ns ≡ up_from 0 (length ns)
