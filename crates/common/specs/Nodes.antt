-- Node records in a store, four numbers each: how many there are, which one stands where, and what node it stands for.
-- The records of records' numbers are those records, and the numbers of a store's records are its numbers.
use Rattle.std.specs.Prelude.{◌≡◌, refl, get_or}
use Rattle.std.proofs.Common.{sym, ◌∙◌}
use Rattle.std.proofs.Math.Path.{ap, ap₂}
use mathlib.Core.List.{List, [], ◌∷◌}
use Prim.Native.Nat.{ℕ, zero, suc, ◌+◌, ◌*◌, ◌/◌, ◌<◌, ◌≤◌}
use native.Mathlib.Omega.{arith}
use Rattle.std.proofs.Math.ListN.{length}
use Rattle.limits.specs.Limits.{node_count, node_numbers}
use Rattle.scope.specs.Numbers.{tabulate_from, tabulate}
use Rattle.scope.specs.Nodes.{kind_of, NodeRecord, node_record, node_records, node_numbers_of, node_of, nodes_of, node_at}
use Rattle.scope.specs.Check.{passed}
use Rattle.scope.specs.Stages.{no_record, counted}
use Rattle.common.specs.Checks.{counted-passed}
use Rattle.common.specs.Tables.{length-tabulate, tabulate_at, tabulate_past, tabulate_same, later_from}

-- a record for every four numbers
pub length_records : (l : List ℕ) → length (node_records l) ≡ length l / node_numbers
unfolding node_records
length_records l = length-tabulate (node_record l) (length l / node_numbers)

-- record i, and no record past the end
pub record_in : (l : List ℕ) (i : ℕ) → i < length l / node_numbers → get_or (node_records l) i no_record ≡ node_record l i
unfolding node_records
record_in l i h = tabulate_at (node_record l) (length l / node_numbers) i no_record h

pub record_past : (l : List ℕ) (i : ℕ) → length l / node_numbers ≤ i → get_or (node_records l) i no_record ≡ no_record
unfolding node_records
record_past l i h = tabulate_past (node_record l) (length l / node_numbers) i no_record h

-- a table whose count is fine: its records are at least one, and not too many
pub fine_records : (l : List ℕ) → counted (length (node_records l)) node_count ≡ passed tt → (1 ≤ length l / node_numbers) × (length l / node_numbers ≤ node_count)
fine_records l e = counted-passed (length l / node_numbers) node_count (ap (λ (n : ℕ). counted n node_count) (sym (length_records l)) ∙ e)

-- a node for every record
pub length_nodes : (bits hashes : List ℕ) (rs : List NodeRecord) → length (nodes_of bits hashes rs) ≡ length rs
unfolding nodes_of
length_nodes bits hashes [] = refl
length_nodes bits hashes (r ∷ rs) = ap suc (length_nodes bits hashes rs)

-- node i is that of record i; past the end both are `no_node`
pub node_at_lem : (bits hashes : List ℕ) (rs : List NodeRecord) (i : ℕ)
    → node_at (nodes_of bits hashes rs) i ≡ node_of bits hashes (kind_of (get_or rs i no_record).kind) (get_or rs i no_record).first (get_or rs i no_record).second
unfolding nodes_of node_at node_of kind_of
node_at_lem bits hashes [] i = refl
node_at_lem bits hashes (r ∷ rs) zero = refl
node_at_lem bits hashes (r ∷ rs) (suc i) = node_at_lem bits hashes rs i

-- the record of four numbers
abbrev pub four : (kind first second third : ℕ) → NodeRecord
four kind first second third = record { kind = kind; first = first; second = second; third = third }

module _ (a b c d : ℕ) (l : List ℕ) where
  later : (k m : ℕ) → m ≡ suc (suc (suc (suc k))) → get_or (a ∷ b ∷ c ∷ d ∷ l) m 0 ≡ get_or l k 0
  later k m e = ap (λ (j : ℕ). get_or (a ∷ b ∷ c ∷ d ∷ l) j 0) e

  record_later : (j : ℕ) → node_record (a ∷ b ∷ c ∷ d ∷ l) (suc j) ≡ node_record l j
  unfolding node_record
  record_later j =
      let at = node_numbers * suc j in
      ap₂ (λ (x y : ℕ). four x y (get_or (a ∷ b ∷ c ∷ d ∷ l) (at + 2) 0) (get_or (a ∷ b ∷ c ∷ d ∷ l) (at + 3) 0))
      (later (node_numbers * j) at (omega arith)) (later (node_numbers * j + 1) (at + 1) (omega arith))
      ∙ ap₂ (λ (x y : ℕ). four (get_or l (node_numbers * j) 0) (get_or l (node_numbers * j + 1) 0) x y)
      (later (node_numbers * j + 2) (at + 2) (omega arith)) (later (node_numbers * j + 3) (at + 3) (omega arith))

  -- four numbers, and then the records of the rest
  pub records_first : node_records (a ∷ b ∷ c ∷ d ∷ l) ≡ four a b c d ∷ node_records l
  unfolding node_records tabulate tabulate_from node_record
  records_first =
      let e : length (a ∷ b ∷ c ∷ d ∷ l) / node_numbers ≡ suc (length l / node_numbers) = omega arith in
      ap (λ (n : ℕ). tabulate_from 0 n (node_record (a ∷ b ∷ c ∷ d ∷ l))) e
      ∙ ap (λ (rs : List NodeRecord). four a b c d ∷ rs) (later_from (node_record (a ∷ b ∷ c ∷ d ∷ l)) 0 (length l / node_numbers)
      ∙ tabulate_same no_record (λ j. node_record (a ∷ b ∷ c ∷ d ∷ l) (suc j)) (node_record l) (length l / node_numbers) (λ j h. record_later j))

-- the numbers of the records of n records' numbers are those numbers
pub numbers_back : (n : ℕ) (l : List ℕ) → length l ≡ node_numbers * n → node_numbers_of (node_records l) ≡ l
unfolding node_numbers_of node_records tabulate tabulate_from
numbers_back zero [] h = refl
numbers_back zero (x ∷ l) h = absurd (omega arith)
numbers_back (suc n) [] h = absurd (omega arith)
numbers_back (suc n) (x ∷ []) h = absurd (omega arith)
numbers_back (suc n) (x ∷ y ∷ []) h = absurd (omega arith)
numbers_back (suc n) (x ∷ y ∷ z ∷ []) h = absurd (omega arith)
numbers_back (suc n) (x ∷ y ∷ z ∷ w ∷ l) h =
    ap node_numbers_of (records_first x y z w l) ∙ ap (λ (r : List ℕ). x ∷ y ∷ z ∷ w ∷ r) (numbers_back n l (omega arith))

-- the records of records' numbers are those records, and each has four
pub records_back : (rs : List NodeRecord) → node_records (node_numbers_of rs) ≡ rs
unfolding node_numbers_of node_records tabulate tabulate_from
records_back [] = refl
records_back (r ∷ rs) = records_first r.kind r.first r.second r.third (node_numbers_of rs) ∙ ap (λ (l : List NodeRecord). r ∷ l) (records_back rs)

pub length_numbers : (rs : List NodeRecord) → length (node_numbers_of rs) ≡ node_numbers * length rs
unfolding node_numbers_of
length_numbers [] = refl
length_numbers (r ∷ rs) = omega (arith, length_numbers rs)
