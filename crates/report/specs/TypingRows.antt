-- A derivation for each typing rule, at types that are all different.
use Rattle.std.specs.Prelude.{refl}
use Rattle.report.specs.Lines.{b1, b2, b3}
use Rattle.report.specs.Types.{one, sum, prod, word_ty}
use Rattle.report.specs.Values.{Val, ⟨⟩, inl, inr, ◌&◌, HasTy, is_unit, is_left, is_right, is_pair}
use Rattle.report.specs.Terms.{iden, comp, unit, injl, injr, case, pair, take, drop, assertl, assertr, fail, witness, word, disconnect}
use Rattle.report.specs.Typing.{Typed, of_iden, of_comp, of_unit, of_injl, of_injr, of_case, of_pair, of_take, of_drop, of_assertl, of_assertr, of_fail, of_witness, of_word, of_disconnect}

-- two bits as a value
abbrev two : Val
two = inr ⟨⟩ & inl ⟨⟩

typed_two : HasTy two b2
typed_two = is_pair (is_right is_unit) (is_left is_unit)

typed_iden : Typed (iden b2) b2 b2
typed_iden = of_iden

typed_unit : Typed unit b2 one
typed_unit = of_unit

typed_comp : Typed (comp b1 (take (iden b1)) (injr one b1 (iden b1))) (prod b1 b2) (sum one b1)
typed_comp = of_comp (of_take of_iden) (of_injr of_iden)

typed_injl : Typed (injl b2 b1 (take (iden b2))) (prod b2 b3) (sum b2 b1)
typed_injl = of_injl (of_take of_iden)

typed_injr : Typed (injr b1 b2 (take (iden b2))) (prod b2 b3) (sum b1 b2)
typed_injr = of_injr (of_take of_iden)

typed_take : Typed (take unit) (prod b2 b3) one
typed_take = of_take of_unit

typed_take_left : Typed (take (iden b2)) (prod b2 b3) b2
typed_take_left = of_take of_iden

typed_drop : Typed (drop b2 (iden b3)) (prod b2 b3) b3
typed_drop = of_drop of_iden

-- each branch gets its own part of the sum, and what stands beside it
typed_case : Typed (case b1 b2 (iden (prod b1 b3)) (pair b1 (take (take (iden b1))) (drop b2 (iden b3)))) (prod (sum b1 b2) b3) (prod b1 b3)
typed_case = of_case of_iden (of_pair (of_take (of_take of_iden)) (of_drop of_iden))

typed_pair : Typed (pair b2 (take (iden b2)) (drop b2 (iden b3))) (prod b2 b3) (prod b2 b3)
typed_pair = of_pair (of_take of_iden) (of_drop of_iden)

typed_assertl : Typed (assertl 5 b2 b1 (iden (prod b2 b3))) (prod (sum b2 b1) b3) (prod b2 b3)
typed_assertl = of_assertl of_iden

typed_assertr : Typed (assertr 6 b1 b2 (iden (prod b2 b3))) (prod (sum b1 b2) b3) (prod b2 b3)
typed_assertr = of_assertr of_iden

typed_fail : Typed (fail 3) b2 b1
typed_fail = of_fail

typed_witness : Typed (witness b2 two) b3 b2
typed_witness = of_witness typed_two

typed_word : Typed (word b2 two) one b2
unfolding word_ty
typed_word = of_word 1 refl typed_two

-- from b1 to 1 × (b1 + 1): the left child hands on all that it gets, the right one takes the input out of it
typed_disconnect : (h : Val) → HasTy h (word_ty 8)
    → Typed (disconnect b1 one (prod (word_ty 8) b1) h (pair one unit (iden (prod (word_ty 8) b1))) (drop (word_ty 8) (injl b1 one (iden b1))))
    b1 (prod one (sum b1 one))
typed_disconnect h k = of_disconnect k (of_pair of_unit of_iden) (of_drop (of_injl of_iden))
