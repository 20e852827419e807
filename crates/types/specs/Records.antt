-- One record of the type table: its width from the widths of its parts, whether it keeps the rules, and how a value of it goes on.
-- A type without padding has a mark: its compact bits are its cells. Of the others a product with a part of width 0 is passed over
-- for its other part, and any other record matters itself.
use Rattle.std.specs.Prelude.{Bool, true, false, Option, Some, None, List, [], ◌∷◌, ℕ, zero, suc, ◌+◌, max, leb, eqb, length}
use Rattle.std.proofs.Math.ListN.{get_or}
use Rattle.limits.specs.Limits.{type_width}
use Rattle.report.specs.Table.{entries}
use Rattle.report.specs.Types.{Ty, one, sum, prod, width}
use Rattle.scope.specs.Numbers.{every, any_below}
use Rattle.scope.specs.Types.{TypeRecord, ty_at, type_at, same_type, parts_rule}

-- record j is of this tag and of these two parts
unfoldable pub is_record : (types : List TypeRecord) → (tag j left right : ℕ) → Bool
unfolding type_at every
is_record types tag j left right = every (eqb (type_at types j).tag tag ∷ eqb (type_at types j).left left ∷ eqb (type_at types j).right right ∷ [])

-- the width of a record of this tag whose parts have these widths
abbrev pub parts_width : (tag left right : ℕ) → ℕ
parts_width zero left right = 0
parts_width (suc zero) left right = 1 + max left right
parts_width (suc (suc k)) left right = left + right

-- a record keeps the rules where its parts do, its width fits and no earlier record equals it
abbrev pub verdict : (parts fits repeated : Bool) → (w : ℕ) → Option ℕ
verdict true true false w = Some w
verdict true true true w = None
verdict true false repeated w = None
verdict false fits repeated w = None

-- record i, where the widths of the earlier records are known
abbrev pub record_judged : (types : List TypeRecord) → (widths : List ℕ) → (i : ℕ) → Option ℕ
record_judged types widths i =
    let r = type_at types i in
    let w = parts_width r.tag (get_or widths r.left 0) (get_or widths r.right 0) in
    verdict (parts_rule types i r.tag r.left r.right) (leb w type_width) (any_below i (same_type types i)) w

-- of a product whose parts have these widths: the other part where one has width 0, else itself
abbrev pub pass_over : {X : Type 0} → (left_width right_width : ℕ) → (left right self : X) → X
pass_over zero b left right self = right
pass_over (suc a) zero left right self = left
pass_over (suc a) (suc b) left right self = self

-- no value of the type has padding
unfoldable pub unpadded : Ty → Bool
unfolding width every
unpadded one = true
unpadded (sum A B) = every (unpadded A ∷ unpadded B ∷ eqb (width A) (width B) ∷ [])
unpadded (prod A B) = every (unpadded A ∷ unpadded B ∷ [])

-- what stands for a type without padding in place of a next record: the index of no record
abbrev pub unpadded_mark : ℕ
unpadded_mark = 65535

-- a record stands for a type without padding, by the widths and the entries of its parts
abbrev pub unpadded_from : (tag left_width right_width left right : ℕ) → Bool
unpadded_from zero a b left right = true
unpadded_from (suc zero) a b left right = every (eqb left unpadded_mark ∷ eqb right unpadded_mark ∷ eqb a b ∷ [])
unpadded_from (suc (suc k)) a b left right = every (eqb left unpadded_mark ∷ eqb right unpadded_mark ∷ [])

-- the mark where the test holds, and else the record
abbrev pub mark_where : Bool → ℕ → ℕ
mark_where true j = unpadded_mark
mark_where false j = j

-- the next record that matters for a type with padding, of the widths of the parts and of the next ones of the parts
abbrev pub padded_next : (tag left_width right_width left right self : ℕ) → ℕ
padded_next zero a b left right self = self
padded_next (suc zero) a b left right self = self
padded_next (suc (suc k)) a b left right self = pass_over a b left right self

-- the entry of a record: the mark, or the next record that matters
abbrev pub next_from : (tag left_width right_width left right self : ℕ) → ℕ
next_from tag a b left right self = mark_where (unpadded_from tag a b left right) (padded_next tag a b left right self)

-- the entry of record r at index i, where the widths and the entries of the earlier records are known
abbrev pub record_next : TypeRecord → (widths next : List ℕ) → (i : ℕ) → ℕ
record_next r widths next i =
    next_from r.tag (get_or widths r.left 0) (get_or widths r.right 0) (get_or next r.left 0) (get_or next r.right 0) i

module _ (types : List TypeRecord) where
  -- the entry of a record, of those of the records before it
  unfoldable pub next_make : List ℕ → TypeRecord → ℕ
  unfolding ty_at width
  next_make before r =
      next_from r.tag (width (ty_at types r.left)) (width (ty_at types r.right)) (get_or before r.left 0) (get_or before r.right 0) (length before)

  -- the entry of record i
  unfoldable pub next_at : (i : ℕ) → ℕ
  unfolding entries next_make
  next_at i = get_or (entries next_make types) i 0
