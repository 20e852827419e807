-- The supplied hashes in the pieces in which the code judges them: the right children as a list in an array, and entries compared with the
-- earlier ones of their child. The pass over them tests the node count first, so that places and loops stay within bounds.
use Rattle.std.specs.Prelude.{Bool, not, List, [], ◌∷◌, ℕ, eqb, length, get_or}
use Rattle.limits.specs.Limits.{node_count}
use Rattle.scope.specs.Check.{Check, ◌>>=◌}
use Rattle.scope.specs.Numbers.{same, every, any_below}
use Rattle.scope.specs.Nodes.{NodeRecord, node_records}
use Rattle.scope.specs.Hashes.{rights, entry, check_hashes}
use Rattle.scope.specs.Stages.{counted}
use Rattle.table.specs.Lent.{node_is, lent_nodes}

-- the right child of a record that is a disconnect with two children
unfoldable pub right_of : NodeRecord → List ℕ
right_of r = rights (node_is [] r ∷ [])

-- entries d and e are for one child and unlike
unfoldable pub unlike_at : (children given : List ℕ) → (e d : ℕ) → Bool
unlike_at children given e d = every (eqb (get_or children d 0) (get_or children e 0) ∷ not (same (entry given d) (entry given e)) ∷ [])

-- entry e is unlike an earlier one of its child
abbrev pub clash_at : (children given : List ℕ) → (e : ℕ) → Bool
clash_at children given e = any_below e (unlike_at children given e)

-- 4, then 13
unfoldable pub counted_hashes : (nodes given : List ℕ) → Check (Unit {0})
unfolding ◌>>=◌ counted check_hashes
counted_hashes nodes given = do
  some ← counted (length (node_records nodes)) node_count
  check_hashes (lent_nodes [] nodes) given
