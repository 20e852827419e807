-- The passes over a lent table that stages are made of. Each tests the count first, so that places and the depth of calls stay within bounds.
use Rattle.std.specs.Prelude.{List, ℕ, length, Result, Ok, Err}
use Rattle.limits.specs.Limits.{node_count}
use Rattle.refusal.specs.declared.Refusal.{Refusal}
use Rattle.scope.specs.Check.{Check, passed, refused, ◌>>=◌}
use Rattle.scope.specs.Nodes.{node_records}
use Rattle.scope.specs.Walk.{check_walk}
use Rattle.scope.specs.Stages.{counted, check_records}
use Rattle.table.specs.Lent.{lent_nodes}

-- 4, then 26
unfoldable pub counted_records : (program hashes nodes : List ℕ) → Check (Unit {0})
unfolding ◌>>=◌ counted check_records
counted_records program hashes nodes = counted (length (node_records nodes)) node_count >>= λ some. check_records program hashes (node_records nodes)

-- 4, then 6 to 9
unfoldable pub counted_walk : (hashes nodes : List ℕ) → Check (Unit {0})
unfolding ◌>>=◌ counted check_walk
counted_walk hashes nodes = counted (length (node_records nodes)) node_count >>= λ some. check_walk (lent_nodes hashes nodes)

-- what a count's check said where a table comes of it
abbrev pub passed_of : {X : Type 0} → Result X Refusal → Check (Unit {0})
passed_of (Ok x) = passed tt
passed_of (Err why) = refused why
