-- Nodes fall into buckets by their keys and arrows, so that only nodes of one bucket are held against each other. Equal nodes are in one
-- bucket; how well others spread is a matter of speed alone. Nodes that have no key are in none.
use Rattle.std.specs.Prelude.{◌≡◌, List, [], ◌∷◌, ℕ, ◌+◌, ◌*◌, ◌-◌, ◌%◌, ◌≤◌, ◌<◌, get_or, Option, None, Some}
use Rattle.std.specs.Option.{option_map}
use Rattle.report.specs.Bits.{number_from}
use Rattle.scope.specs.Arrows.{Arrow, arrow_records, source, target}
use Rattle.equal.specs.Keys.{key_at}

-- how many there are: a prime of which 2 is a primitive root, so that a word's number depends on the place of each of its bits
abbrev pub buckets : ℕ
buckets = 8179

-- a key as a number: its numbers are taken as binary digits are
unfoldable pub key_number : List ℕ → Option ℕ
unfolding number_from
key_number [] = None
key_number (x ∷ xs) = Some (number_from x xs % buckets)

-- an arrow as a number
unfoldable pub arrow_number : List Arrow → (i : ℕ) → ℕ
unfolding source target
arrow_number arrows i = source arrows i * 65536 + target arrows i

-- the bucket of a key with an arrow
unfoldable pub bucket_of : List ℕ → (arrow : ℕ) → Option ℕ
unfolding key_number
bucket_of key arrow = option_map (λ k. (k + 97 * arrow) % buckets) (key_number key)

module _ (nodes arrows program hashes : List ℕ) where
  -- the bucket of node i
  unfoldable pub bucket_at : (i : ℕ) → Option ℕ
  unfolding bucket_of key_at arrow_number arrow_records
  bucket_at i = bucket_of (key_at nodes arrows program hashes i) (arrow_number (arrow_records arrows) i)

  -- m is one more than the last node below i of bucket b, or 0 where there is none
  pub record Last (m i b : ℕ) : Type 0 where
    pub within : m ≤ i
    pub none_after : (j : ℕ) → m ≤ j → j < i → bucket_at j ≡ Some b → ⊥
    pub of_bucket : 0 < m → bucket_at (m - 1) ≡ Some b

  -- the same of the bucket that node i is in
  abbrev pub LastOfBucket : (m i : ℕ) → Type 0
  LastOfBucket m i = (b : ℕ) × (bucket_at i ≡ Some b) × Last m i b

  -- `before` leads from each node below i to the last one before it in its bucket
  abbrev pub Chained : (before : List ℕ) → (i : ℕ) → Type 0
  Chained before i = (a b : ℕ) → a < i → bucket_at a ≡ Some b → Last (get_or before a 0) a b

  -- and `latest` leads to the last of each bucket
  abbrev pub Latest : (latest : List ℕ) → (i : ℕ) → Type 0
  Latest latest i = (b : ℕ) → b < buckets → Last (get_or latest b 0) i b
