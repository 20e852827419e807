-- The tags of records, and their numbers.
use Rattle.std.specs.Prelude.{◌≡◌, ℕ, ◌<◌, Result, MatchResult}
use Rattle.types.specs.declared.Tag.{Tag}
use Rattle.types.specs.declared.Tag.TheVariants.{Unit, Sum, Product}
use Rattle.types.specs.declared.UnknownTag.{UnknownTag}

abbrev pub tag_number : Tag → ℕ
tag_number Unit = 0
tag_number Sum = 1
tag_number Product = 2

-- the tag with this number, or the number where no tag has it
abbrev pub Numbered : ℕ → Result Tag UnknownTag → Type 0
Numbered n r = MatchResult r (λ tag. tag_number tag ≡ n) (λ e. (e.0 ≡ n) × (2 < n))
