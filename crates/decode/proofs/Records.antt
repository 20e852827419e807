-- Records in a store, four numbers each: a record put after those that stand there.
use mathlib.Core.Path.{◌≡◌, sym, ap, ◌∙◌}
use mathlib.Core.List.{List, [], ◌∷◌, ◌++◌}
use Prim.Native.Nat.{ℕ, zero, suc, ◌+◌, ◌*◌, ◌≤◌}
use native.Mathlib.Omega.{arith}
use lib.ListN.{length, set, take, drop, length-append}
use lib.Seq.{sets, sets-eq, take_at, length-take-le}
use Rattle.limits.specs.Limits.{node_numbers}
use Rattle.scope.specs.Numbers.{tabulate_from, tabulate}
use Rattle.scope.specs.Nodes.{NodeRecord, node_records}
use Rattle.common.specs.Nodes.{four, records_first}
use Rattle.decode.specs.Stores.{record_put}

-- a record after n others
records_last : (n : ℕ) (l : List ℕ) (a b c d : ℕ) → length l ≡ node_numbers * n → node_records (l ++ a ∷ b ∷ c ∷ d ∷ []) ≡ node_records l ++ four a b c d ∷ []
unfolding node_records tabulate tabulate_from
records_last zero [] a b c d h = records_first a b c d []
records_last zero (x ∷ l) a b c d h = absurd (omega arith)
records_last (suc n) [] a b c d h = absurd (omega arith)
records_last (suc n) (x ∷ []) a b c d h = absurd (omega arith)
records_last (suc n) (x ∷ y ∷ []) a b c d h = absurd (omega arith)
records_last (suc n) (x ∷ y ∷ z ∷ []) a b c d h = absurd (omega arith)
records_last (suc n) (x ∷ y ∷ z ∷ w ∷ l) a b c d h =
    records_first x y z w (l ++ a ∷ b ∷ c ∷ d ∷ [])
    ∙ ap (λ (rs : List NodeRecord). four x y z w ∷ rs) (records_last n l a b c d (omega arith))
    ∙ sym (ap (λ (rs : List NodeRecord). rs ++ four a b c d ∷ []) (records_first x y z w l))

-- a record put at its place stands there after those before it
module _ (nodes : List ℕ) (i : ℕ) (r : NodeRecord) (room : node_numbers * i + node_numbers ≤ length nodes) where
  abbrev numbers : List ℕ
  numbers = r.kind ∷ r.first ∷ r.second ∷ r.third ∷ []

  put_sets : record_put nodes i r ≡ sets nodes (node_numbers * i) numbers
  put_sets =
      let at = node_numbers * i in
      ap (λ (x : ℕ). set (set (set (set nodes at r.kind) x r.first) (at + 2) r.second) (at + 3) r.third)
      (let e : at + 1 ≡ suc at = omega arith in e)
      ∙ ap (λ (x : ℕ). set (set (set (set nodes at r.kind) (suc at) r.first) x r.second) (at + 3) r.third)
      (let e : at + 2 ≡ suc (suc at) = omega arith in e)
      ∙ ap (λ (x : ℕ). set (set (set (set nodes at r.kind) (suc at) r.first) (suc (suc at)) r.second) x r.third)
      (let e : at + 3 ≡ suc (suc (suc at)) = omega arith in e)

  before_length : length (take (node_numbers * i) nodes) ≡ node_numbers * i
  before_length = length-take-le (node_numbers * i) nodes (omega arith)

  put_front : take (node_numbers * (i + 1)) (record_put nodes i r) ≡ take (node_numbers * i) nodes ++ numbers
  put_front =
      ap (take (node_numbers * (i + 1))) (put_sets ∙ sets-eq numbers nodes (node_numbers * i) room)
      ∙ take_at (take (node_numbers * i) nodes ++ numbers) (drop (node_numbers * i + node_numbers) nodes) (node_numbers * (i + 1))
      (length-append (take (node_numbers * i) nodes) numbers ∙ (omega (arith, before_length)))

  pub put_records : node_records (take (node_numbers * (i + 1)) (record_put nodes i r)) ≡ node_records (take (node_numbers * i) nodes) ++ r ∷ []
  put_records = ap node_records put_front ∙ records_last i (take (node_numbers * i) nodes) r.kind r.first r.second r.third before_length
