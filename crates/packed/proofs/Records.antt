-- Laws on the parts before a part of a record.
use Rattle.std.proofs.Common.{◌≡◌, ℕ, suc, ◌+◌, ◌-◌, ◌<◌, ◌≤◌, List, drop, ap, ◌∙◌, add-one, arith}
use Rattle.packed.specs.Records.{number, after_parts}

module _ (v : List ℕ) where
  -- one part is passed over, or there is none before this one
  pub next_part : (j k : ℕ) (rest : List ℕ) → j < k → after_parts v j (k - j) rest ≡ after_parts v (j + 1) (k - (j + 1)) (drop (number v j) rest)
  unfolding after_parts
  next_part j k rest h =
      let e : k - j ≡ suc (k - (j + 1)) = omega arith in
      ap (λ (n : ℕ). after_parts v j n rest) e ∙ rw (add-one j)

  pub no_part : (j k : ℕ) (rest : List ℕ) → k ≤ j → after_parts v j (k - j) rest ≡ rest
  unfolding after_parts
  no_part j k rest h =
      let e : k - j ≡ 0 = omega arith in
      ap (λ (n : ℕ). after_parts v j n rest) e
