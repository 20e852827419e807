-- Laws of one record: what it is in the bytes of a table, its rules, its width and its entry,
-- each in the form in which a way through the code meets it.
use mathlib.Core.Path.{◌≡◌, refl, ap, sym, ◌∙◌}
use mathlib.Core.Bool.{Bool, true, false}
use mathlib.Core.List.{List, [], ◌∷◌}
use Prim.Native.Nat.{ℕ, zero, suc, ◌/◌, ◌≤◌, ◌<◌}
use native.Mathlib.Omega.{arith}
use lib.ListN.{length}
use Rattle.limits.specs.Limits.{type_bytes}
use Rattle.scope.specs.Numbers.{every}
use Rattle.scope.specs.Types.{TypeRecord, type_record, type_records, type_at, no_type, parts_rule}
use Rattle.types.specs.Records.{unpadded_mark, unpadded_from, mark_where, padded_next, next_from}
use Rattle.common.specs.Tables.{tabulate_at, tabulate_past, length-tabulate}
use Rattle.common.specs.Checks.{every_held, every_one}

-- the records of a table of bytes
pub length_records : (bytes : List ℕ) → length (type_records bytes) ≡ length bytes / type_bytes
unfolding type_records
length_records bytes = length-tabulate (type_record bytes) (length bytes / type_bytes)

pub record_in : (bytes : List ℕ) (i : ℕ) → i < length bytes / type_bytes → type_at (type_records bytes) i ≡ type_record bytes i
unfolding type_at type_records
record_in bytes i h = tabulate_at (type_record bytes) (length bytes / type_bytes) i no_type h

pub record_past : (bytes : List ℕ) (i : ℕ) → length bytes / type_bytes ≤ i → type_at (type_records bytes) i ≡ no_type
unfolding type_at type_records
record_past bytes i h = tabulate_past (type_record bytes) (length bytes / type_bytes) i no_type h

-- a conjunction of two tests, one of which holds
pub every_both : (a b : Bool) → a ≡ true → every (a ∷ b ∷ []) ≡ b
every_both a b e = every_held a (b ∷ []) e ∙ every_one b

pub every_left : (a b : Bool) → b ≡ true → every (a ∷ b ∷ []) ≡ a
unfolding every
every_left true b e = every_one b ∙ e
every_left false b e = refl

-- the rule does not look at the other records
pub rule_any : (S T : List TypeRecord) (i t a b : ℕ) → parts_rule S i t a b ≡ parts_rule T i t a b
unfolding parts_rule
rule_any S T i zero a b = refl
rule_any S T i (suc zero) a b = refl
rule_any S T i (suc (suc zero)) a b = refl
rule_any S T i (suc (suc (suc t))) a b = refl

-- a record of no tag breaks it
pub rule_of_no_tag : (S : List TypeRecord) (i t a b : ℕ) → 2 < t → parts_rule S i t a b ≡ false
unfolding parts_rule
rule_of_no_tag S i zero a b h = absurd (omega arith)
rule_of_no_tag S i (suc zero) a b h = absurd (omega arith)
rule_of_no_tag S i (suc (suc zero)) a b h = absurd (omega arith)
rule_of_no_tag S i (suc (suc (suc t))) a b h = refl

-- the entry of a record, with and without padding
module _ (t a b left right self : ℕ) where
  pub next_marked : true ≡ unpadded_from t a b left right → next_from t a b left right self ≡ unpadded_mark
  next_marked e = ap (λ (u : Bool). mark_where u (padded_next t a b left right self)) (sym e)

  pub next_padded : false ≡ unpadded_from t a b left right → next_from t a b left right self ≡ padded_next t a b left right self
  next_padded e = ap (λ (u : Bool). mark_where u (padded_next t a b left right self)) (sym e)
