-- What is read along a type is a value of the type, be the numbers that are read bits or not.
-- So as many bits as a word has hold a word.
use Rattle.std.specs.Prelude.{◌≡◌, List, [], ◌∷◌, ℕ, zero, suc, ◌^◌, ◌≤◌, length}
use Rattle.report.specs.Bits.{Bit}
use Rattle.report.specs.Types.{Ty, one, sum, prod, word_ty}
use Rattle.report.specs.Values.{Val, ⟨⟩, HasTy, is_unit, is_left, is_right, is_pair, Read, value, short, and_then, read_value}
use Rattle.scope.specs.Program.{value_from}
use Rattle.exactness.specs.Values.{word_read}
use Rattle.common.specs.Checks.{clash}

-- what is read is a value of the type, or the bits ran out
pub data ReadTyped (A : Ty) : Read → Type 0 where
  a_value : {v : Val} {rest : List Bit} → HasTy v A → ReadTyped A (value v rest)
  too_few : ReadTyped A short

-- what is read after a value
read_then : {A B : Ty} (r : Read) (f : Val → List Bit → Read) → ReadTyped A r
    → ((v : Val) (rest : List Bit) → HasTy v A → ReadTyped B (f v rest)) → ReadTyped B (and_then r f)
unfolding and_then
read_then r f (a_value {v} {rest} h) k = k v rest h
read_then r f too_few k = too_few

-- WHAT IS READ ALONG A TYPE IS A VALUE OF THE TYPE
pub read_typed : (A : Ty) (bits : List Bit) → ReadTyped A (read_value A bits)
unfolding read_value
read_typed one bits = a_value is_unit
read_typed (sum A B) [] = too_few
read_typed (sum A B) (zero ∷ bits) = read_then (read_value A bits) _ (read_typed A bits) (λ v rest h. a_value (is_left h))
read_typed (sum A B) (suc b ∷ bits) = read_then (read_value B bits) _ (read_typed B bits) (λ v rest h. a_value (is_right h))
read_typed (prod A B) bits =
    read_then (read_value A bits) _ (read_typed A bits) (λ v rest h. read_then (read_value B rest) _ (read_typed B rest) (λ w rest' k. a_value (is_pair h k)))

-- the value at the front of bits that hold a word
pub word_from : (k : ℕ) (bits : List Bit) → 2 ^ k ≤ length bits → HasTy (value_from (word_ty k) bits) (word_ty k)
unfolding value_from
word_from k bits h =
    go (read_value (word_ty k) bits) (read_typed (word_ty k) bits) (word_read k bits h).1
  where
    go : (r : Read) → ReadTyped (word_ty k) r → {v : Val} {rest : List Bit} → r ≡ value v rest → HasTy (elim r [ value v rest ↦ v | short ↦ ⟨⟩ ]) (word_ty k)
    go r (a_value h) e = h
    go r too_few e = clash (cc)
