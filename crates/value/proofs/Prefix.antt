-- Reading from the first n bits of a stream, as witness and input bits are read: a value that ends within them is read, any other is short.
use mathlib.Core.Path.{◌≡◌, refl, ap, sym, ◌∙◌}
use mathlib.Core.Bool.{true, false}
use mathlib.Core.List.{List, [], ◌∷◌}
use Prim.Native.Nat.{ℕ, zero, suc, ◌+◌, ◌-◌, ◌≤◌, ◌<◌}
use native.Mathlib.Decide.{dec_lt}
use native.Mathlib.Omega.{arith}
use lib.Dec.{leb}
use lib.ListN.{length, take, length-append}
use borrow.Author.Tests.{le-leb, lt-leb}
use Rattle.report.specs.Bits.{Bit}
use Rattle.report.specs.Types.{Ty, one, sum, prod}
use Rattle.report.specs.Values.{Val, ⟨⟩, inl, inr, ◌&◌, compact, Read, value, short, and_then, read_value}

-- what is left of a reading where only the first n bits are there
unfoldable pub within : (n : ℕ) → Read → Read
unfolding compact
within n (value v rest) = elim (leb (length (compact v)) n) [ true ↦ value v (take (n - length (compact v)) rest) | false ↦ short ]
within n short = short

within_yes : (n : ℕ) (v : Val) (rest : List Bit) → length (compact v) ≤ n → within n (value v rest) ≡ value v (take (n - length (compact v)) rest)
unfolding within
within_yes n v rest h = rw (le-leb (length (compact v)) n h, within)

within_no : (n : ℕ) (v : Val) (rest : List Bit) → n < length (compact v) → within n (value v rest) ≡ short
unfolding within
within_no n v rest h = rw (lt-leb (length (compact v)) n h, within)

-- a part, after k bits, of which the value is made
module _ (f : Val → Val) (k : ℕ) (longer : (v : Val) → length (compact (f v)) ≡ k + length (compact v)) where
  pub within_part : (n : ℕ) (r : Read) → and_then (within n r) (λ v rest. value (f v) rest) ≡ within (k + n) (and_then r λ v rest. value (f v) rest)
  unfolding and_then within
  within_part n (value v rest) = elim (dec_lt n (length (compact v))) [
    | yes h ↦ ap (λ (r : Read). and_then r λ v rest. value (f v) rest) (within_no n v rest h) ∙ sym (within_no (k + n) (f v) rest (omega (arith, longer v)))
    | no m ↦ ap (λ (r : Read). and_then r λ v rest. value (f v) rest) (within_yes n v rest (omega arith))
        ∙ ap (λ (j : ℕ). value (f v) (take j rest)) (let z : n - length (compact v) ≡ k + n - length (compact (f v)) = omega (arith, longer v) in z)
        ∙ sym (within_yes (k + n) (f v) rest (omega (arith, longer v)))
  ]
  within_part n short = refl

  within_past : (n : ℕ) (r : Read) → n < k → short ≡ within n (and_then r λ v rest. value (f v) rest)
  unfolding and_then within
  within_past n (value v rest) h = sym (within_no n (f v) rest (omega (arith, longer v)))
  within_past n short h = refl

-- reading from the first n bits
abbrev ReadsFirst : Ty → Type 0
ReadsFirst A = (n : ℕ) (bs : List Bit) → read_value A (take n bs) ≡ within n (read_value A bs)

module _ (A B : Ty) where
  first_sum : ReadsFirst A → ReadsFirst B → ReadsFirst (sum A B)
  unfolding read_value within and_then compact
  first_sum h k zero [] = refl
  first_sum h k (suc n) [] = refl
  first_sum h k zero (zero ∷ bs) = within_past inl 1 (λ v. omega arith) 0 (read_value A bs) (omega arith)
  first_sum h k zero (suc b ∷ bs) = within_past inr 1 (λ v. omega arith) 0 (read_value B bs) (omega arith)
  first_sum h k (suc n) (zero ∷ bs) =
      ap (λ (r : Read). and_then r λ v rest. value (inl v) rest) (h n bs)
      ∙ within_part inl 1 (λ v. omega arith) n (read_value A bs)
      ∙ ap (λ (j : ℕ). within j (and_then (read_value A bs) λ v rest. value (inl v) rest)) (let z : 1 + n ≡ suc n = omega arith in z)
  first_sum h k (suc n) (suc b ∷ bs) =
      ap (λ (r : Read). and_then r λ v rest. value (inr v) rest) (k n bs)
      ∙ within_part inr 1 (λ v. omega arith) n (read_value B bs)
      ∙ ap (λ (j : ℕ). within j (and_then (read_value B bs) λ v rest. value (inr v) rest)) (let z : 1 + n ≡ suc n = omega arith in z)

  first_product : ReadsFirst A → ReadsFirst B → ReadsFirst (prod A B)
  unfolding read_value within and_then compact
  first_product h k n bs =
      ap (λ (r : Read). and_then r λ v bs. and_then (read_value B bs) λ w rest. value (v & w) rest) (h n bs) ∙ go (read_value A bs)
    where
      longer : (v w : Val) → length (compact (v & w)) ≡ length (compact v) + length (compact w)
      longer v w = length-append (compact v) (compact w)

      go : (r : Read) → and_then (within n r) (λ v bs. and_then (read_value B bs) λ w rest. value (v & w) rest)
          ≡ within n (and_then r λ v bs. and_then (read_value B bs) λ w rest. value (v & w) rest)
      go (value v m) = elim (dec_lt n (length (compact v))) [
        | yes l ↦ ap (λ (r : Read). and_then r λ v bs. and_then (read_value B bs) λ w rest. value (v & w) rest) (within_no n v m l)
            ∙ within_past (λ w. v & w) (length (compact v)) (longer v) n (read_value B m) l
        | no l ↦ ap (λ (r : Read). and_then r λ v bs. and_then (read_value B bs) λ w rest. value (v & w) rest) (within_yes n v m (omega arith))
            ∙ ap (λ (r : Read). and_then r λ w rest. value (v & w) rest) (k (n - length (compact v)) m)
            ∙ within_part (λ w. v & w) (length (compact v)) (longer v) (n - length (compact v)) (read_value B m)
            ∙ ap (λ (j : ℕ). within j (and_then (read_value B m) λ w rest. value (v & w) rest))
            (let z : length (compact v) + (n - length (compact v)) ≡ n = omega arith in z)
      ]
      go short = refl

pub read_first : (A : Ty) → ReadsFirst A
unfolding read_value within compact
read_first one n bs = ap (λ (j : ℕ). value ⟨⟩ (take j bs)) (let z : n ≡ n - 0 = omega arith in z) ∙ sym (within_yes n ⟨⟩ bs (omega arith))
read_first (sum A B) n bs = first_sum A B (read_first A) (read_first B) n bs
read_first (prod A B) n bs = first_product A B (read_first A) (read_first B) n bs
