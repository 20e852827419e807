-- Equal nodes of lent tables. A record has a key, as its node has in the definitions, with one thing more: past the end of the program a
-- word's bits are 0, so that every record has a key, and not only those that keep the rules of 26.
use Rattle.std.specs.Prelude.{Bool, true, false, List, [], ◌∷◌, ℕ, ltb, Option, None, Some, min, length, get_or, take as take_l, drop as drop_l}
use Rattle.std.proofs.Math.Bool.{not}
use Rattle.std.proofs.Math.Dec.{eqb}
use Rattle.limits.specs.Limits.{node_count, fail_bytes}
use Rattle.report.specs.Bits.{bits_of}
use Rattle.scope.specs.Check.{first_failing}
use Rattle.scope.specs.Numbers.{every, any_below}
use Rattle.scope.specs.Nodes.{Kind, k_comp, k_case, k_pair, k_disconnect, k_injl, k_injr, k_take, k_drop, k_iden, k_unit, k_fail, k_disconnect1, k_witness, k_hidden, k_word, k_unknown, kind_number, kind_of, NodeRecord, node_records}
use Rattle.scope.specs.Equal.{same_key}
use Rattle.scope.specs.Arrows.{arrow_records, source, target}
use Rattle.scope.specs.Stages.{no_record}
use Rattle.common.specs.Words.{word_bits}
use Rattle.common.specs.Cells.{bits_from}

-- the key of a kind with these two numbers
unfoldable pub key_from : (program hashes : List ℕ) → Kind → (a b : ℕ) → List ℕ
unfolding bits_from word_bits bits_of
key_from program hashes k_comp a b = kind_number k_comp ∷ a ∷ b ∷ []
key_from program hashes k_case a b = kind_number k_case ∷ a ∷ b ∷ []
key_from program hashes k_pair a b = kind_number k_pair ∷ a ∷ b ∷ []
key_from program hashes k_disconnect a b = []
key_from program hashes k_injl a b = kind_number k_injl ∷ a ∷ []
key_from program hashes k_injr a b = kind_number k_injr ∷ a ∷ []
key_from program hashes k_take a b = kind_number k_take ∷ a ∷ []
key_from program hashes k_drop a b = kind_number k_drop ∷ a ∷ []
key_from program hashes k_iden a b = kind_number k_iden ∷ []
key_from program hashes k_unit a b = kind_number k_unit ∷ []
key_from program hashes k_fail a b = kind_number k_fail ∷ take_l fail_bytes (drop_l a hashes)
key_from program hashes k_disconnect1 a b = []
key_from program hashes k_witness a b = []
key_from program hashes k_hidden a b = []
key_from program hashes k_word a b = kind_number k_word ∷ a ∷ bits_from (bits_of program) b (word_bits a)
key_from program hashes k_unknown a b = []

-- the key of a record
abbrev pub record_key : (program hashes : List ℕ) → NodeRecord → List ℕ
record_key program hashes r = key_from program hashes (kind_of r.kind) r.first r.second

module _ (nodes arrows program hashes : List ℕ) where
  -- the key of node i
  unfoldable pub key_at : (i : ℕ) → List ℕ
  unfolding key_from kind_of node_records
  key_at i = record_key program hashes (get_or (node_records nodes) i no_record)

  -- nodes j and i have the same key and the same arrow
  unfoldable pub equal_at : (j i : ℕ) → Bool
  unfolding key_at same_key arrow_records source target every
  equal_at j i = every (
      same_key (key_at j) (key_at i)
      ∷ eqb (source (arrow_records arrows) j) (source (arrow_records arrows) i)
      ∷ eqb (target (arrow_records arrows) j) (target (arrow_records arrows) i)
      ∷ [])

  -- no earlier node is equal to node i
  unfoldable pub fresh : (i : ℕ) → Bool
  unfolding any_below equal_at
  fresh i = not (any_below i (λ j. equal_at j i))

  -- the first node that an earlier one is equal to, of as many as a table may have
  unfoldable pub first_repeat : Option ℕ
  unfolding first_failing fresh
  first_repeat =
      let n = min (length (node_records nodes)) node_count in
      let i = first_failing fresh n 0 in
      elim (ltb i n) [ true ↦ Some i | false ↦ None ]
