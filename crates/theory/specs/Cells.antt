-- Ranges of cells: a place in a range, ranges that share none, equal ranges, and what is kept outside of two ranges.
-- The laws of written and copied cells are stated with them (proofs/Cells).
use Rattle.std.specs.Prelude.{◌≡◌, ℕ, ◌+◌, ◌≤◌, ◌<◌}
use Rattle.report.specs.Values.{Cells}

-- j is one of the n places from `at` on
abbrev pub In : (at n j : ℕ) → Type 0
In at n j = (at ≤ j) × (j < at + n)

-- no place is in both ranges
abbrev pub Apart : (a n b m : ℕ) → Type 0
Apart a n b m = (j : ℕ) → In a n j → In b m j → ⊥

-- the n cells from a on in c are those from b on in d
abbrev pub Same : Cells → ℕ → Cells → ℕ → ℕ → Type 0
Same c a d b n = (k : ℕ) → k < n → c (a + k) ≡ d (b + k)

-- the cells are as they were, but for the n from `at` on and the x from nx on
abbrev pub Kept : (at n nx x : ℕ) → Cells → Cells → Type 0
Kept at n nx x c d = (j : ℕ) → (In at n j → ⊥) → (In nx x j → ⊥) → d j ≡ c j
