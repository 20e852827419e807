-- A table is read from its first record to its last: each entry is made of its record and of the entries before it.
-- Types, terms and walks are read so, since a record refers only to earlier ones.
use mathlib.Core.List.{List, [], ◌∷◌, ◌++◌}

module _ {R X : Type 0} (make : List X → R → X) where
  -- the entries made so far, and those of the records that follow
  unfoldable pub entries_from : List X → List R → List X
  entries_from before [] = before
  entries_from before (r ∷ rs) = entries_from (before ++ make before r ∷ []) rs

  -- the entries of a table
  unfoldable pub entries : List R → List X
  unfolding entries_from
  entries rs = entries_from [] rs
