-- The meaning of each kind of term and the count of its evaluations, computed: on values of unlike parts, where it fails, and where no rule applies.
use Rattle.std.specs.Prelude.{refl, [], ◌∷◌}
use Rattle.report.specs.Lines.{◌is◌, Hold, b1, b2, o, i}
use Rattle.report.specs.Types.{one}
use Rattle.report.specs.Values.{Val, ⟨⟩, inl, inr, ◌&◌}
use Rattle.report.specs.Terms.{Term, iden, comp, unit, injl, injr, case, pair, take, drop, assertl, assertr, fail, witness, word, disconnect, bad}
use Rattle.report.specs.Meaning.{done, failed, pruned, stuck, eval, visits}

-- the two branches of a case told apart by the tag of what they answer
abbrev left : Term
left = injl b2 b2 (iden b2)

abbrev right : Term
right = injr b2 b2 (iden b2)

meanings : Hold (
    eval (iden b1) i is done i
    ∷ eval unit i is done ⟨⟩
    ∷ eval (comp b1 (take (iden b1)) (injr one b1 (iden b1))) (o & i) is done (inr o)
    ∷ eval (injl b1 one (iden b1)) i is done (inl i)
    ∷ eval (injr b1 one (iden b1)) i is done (inr i)
    ∷ eval (pair b1 (drop b1 (iden b1)) (take (iden b1))) (i & o) is done (o & i)
    ∷ eval (take (iden b1)) (i & o) is done i
    ∷ eval (drop b1 (iden b1)) (i & o) is done o
    ∷ eval (witness b1 i) o is done i
    ∷ eval (word b2 (i & o)) ⟨⟩ is done (i & o)
    -- the branch that the tag names, on the part and what stands beside it
    ∷ eval (case b1 b1 left right) (inl i & o) is done (inl (i & o))
    ∷ eval (case b1 b1 left right) (inr i & o) is done (inr (i & o))
    ∷ eval (assertl 5 b1 b1 left) (inl i & o) is done (inl (i & o))
    ∷ eval (assertl 5 b1 b1 left) (inr i & o) is pruned 5 tt
    ∷ eval (assertr 6 b1 b1 right) (inl i & o) is pruned 6 tt
    ∷ eval (assertr 6 b1 b1 right) (inr i & o) is done (inr (i & o))
    -- the left child gets the hash and the input; what it hands on goes through the right child
    ∷ eval (disconnect b1 b1 b1 i (iden b2) (injl b1 one (iden b1))) o is done (i & inl o)
    -- the left child fails first; after a failure nothing is evaluated
    ∷ eval (fail 3) o is failed 3 tt
    ∷ eval (pair b1 (fail 1) (fail 2)) o is failed 1 tt
    ∷ eval (pair b1 (iden b1) (fail 2)) o is failed 2 tt
    ∷ eval (comp b1 (fail 1) (fail 2)) o is failed 1 tt
    ∷ eval (comp one unit (fail 2)) o is failed 2 tt
    ∷ eval (comp b1 (assertl 5 b1 b1 left) (fail 2)) (inr i & o) is pruned 5 tt
    ∷ eval (injl b1 one (fail 1)) o is failed 1 tt
    ∷ eval (injr b1 one (fail 1)) o is failed 1 tt
    ∷ eval (disconnect b1 b1 b1 i (fail 1) (fail 2)) o is failed 1 tt
    ∷ eval (disconnect b1 b1 b1 i (iden b2) (fail 2)) o is failed 2 tt
    -- no rule applies: a node that stands for no term, a value that is no pair, a value that is no sum
    ∷ eval bad o is stuck
    ∷ eval (comp b1 bad (fail 2)) o is stuck
    ∷ eval (take unit) ⟨⟩ is stuck
    ∷ eval (take unit) (inl o) is stuck
    ∷ eval (take unit) (inr o) is stuck
    ∷ eval (case b1 b1 left right) (⟨⟩ & o) is stuck
    ∷ eval (case b1 b1 left right) ((o & o) & o) is stuck
    ∷ [])
unfolding Hold eval
meanings = refl

-- one evaluation more on the right than on the left: 2 where a bit is 0, 3 where it is 1
abbrev told : Term
told = case one one unit (take unit)

-- a bit with nothing beside it
abbrev bit : Val → Val
bit b = b & ⟨⟩

counted : Hold (
    visits (iden b1) o is 1
    ∷ visits unit o is 1
    ∷ visits (witness b1 i) o is 1
    ∷ visits (word b1 i) ⟨⟩ is 1
    ∷ visits told (bit o) is 2
    ∷ visits told (bit i) is 3
    ∷ visits (injl b1 one told) (bit i) is 4
    ∷ visits (injr b1 one told) (bit i) is 4
    ∷ visits (take told) (bit o & bit i) is 3
    ∷ visits (drop b1 told) (bit o & bit i) is 4
    ∷ visits (comp b1 (take (iden b1)) told) (bit i & bit o) is 6
    ∷ visits (comp b1 told unit) (bit i) is 5
    ∷ visits (pair b1 told (iden b1)) (bit i) is 5
    ∷ visits (pair b1 (iden b1) told) (bit i) is 5
    -- one branch of a case, on the part and what stands beside it
    ∷ visits (case b1 b1 (take told) unit) (inl (bit i) & bit o) is 5
    ∷ visits (case b1 b1 unit (drop b1 told)) (inr (bit o) & bit i) is 5
    ∷ visits (assertl 5 b1 b1 (take told)) (inl (bit i) & bit o) is 5
    ∷ visits (assertr 6 b1 b1 (drop b1 told)) (inr (bit o) & bit i) is 5
    -- of a disconnect the left child on the hash and the input, the right one on what is handed on
    ∷ visits (disconnect b1 b1 b1 (bit i) (pair one (take told) (iden b1)) unit) (bit o) is 8
    ∷ visits (disconnect b1 b1 b1 (bit o) (iden b2) told) (bit i) is 5
    -- a failing one counts, a pruned branch does not, and after either there are none
    ∷ visits (fail 1) o is 1
    ∷ visits (assertl 5 b1 b1 unit) (inr i & o) is 1
    ∷ visits (assertr 6 b1 b1 unit) (inl i & o) is 1
    ∷ visits (comp b1 (fail 1) unit) o is 2
    ∷ visits (comp b1 (assertl 5 b1 b1 unit) unit) (inr i & o) is 2
    ∷ visits (pair b1 (fail 1) unit) o is 2
    -- where no rule applies
    ∷ visits bad o is 0
    ∷ visits (comp b1 bad unit) o is 1
    ∷ visits (take unit) ⟨⟩ is 1
    ∷ visits (take unit) (inl o) is 1
    ∷ visits (take unit) (inr o) is 1
    ∷ visits told (⟨⟩ & o) is 1
    ∷ visits told ((o & o) & o) is 1
    ∷ [])
unfolding Hold visits
counted = refl
