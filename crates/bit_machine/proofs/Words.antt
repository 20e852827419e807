-- Words in bits: the padded cells of a word are its bits. So a word or a hash is written as it stands.
use mathlib.Core.Path.{◌≡◌, refl, sym, ap, ◌∙◌}
use mathlib.Core.List.{List, [], ◌++◌, append-nil}
use Prim.Native.Nat.{ℕ, zero, suc, ◌^◌}
use native.Mathlib.Omega.{arith}
use lib.ListN.{length, drop, drop_of_length-le}
use Rattle.report.specs.Bits.{Bit}
use Rattle.report.specs.Types.{word_ty}
use Rattle.report.specs.Values.{padded, compact, short, and_then, read_value}
use Rattle.scope.specs.Program.{value_from}
use Rattle.common.specs.Bits.{AreBits}
use Rattle.exactness.specs.Values.{read_is_compact, word_read, word_unpadded}

-- 2 ^ k bits are the cells of the word that they hold
pub word_cells : (k : ℕ) (bits : List Bit) → AreBits bits → length bits ≡ 2 ^ k → padded (word_ty k) (value_from (word_ty k) bits) ≡ bits
unfolding value_from
word_cells k bits b e =
    let r = word_read k bits (omega arith) in
    let c = read_is_compact (word_ty k) bits r.0 (drop (2 ^ k) bits) b r.1 in
    rw (r.1, value_from) (word_unpadded k c.0
    ∙ sym (c.1 ∙ ap (λ (l : List Bit). compact r.0 ++ l) (drop_of_length-le bits {i = 2 ^ k} (omega arith)) ∙ append-nil (compact r.0)))

nothing : (k : ℕ) → read_value (word_ty k) [] ≡ short
unfolding read_value word_ty and_then
nothing zero = refl
nothing (suc k) = rw (nothing k)

-- no bits hold no word, and the cells of what stands for it are none
pub no_word_cells : (k : ℕ) → padded (word_ty k) (value_from (word_ty k) []) ≡ []
unfolding value_from padded
no_word_cells k = rw (nothing k, value_from)
