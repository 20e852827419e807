-- The term that each kind of node stands for, computed, and what is said of a whole program. The children's terms are `fail` with their own index.
use Rattle.std.specs.Prelude.{refl, List, [], ◌∷◌, get_or}
use Rattle.report.specs.Lines.{◌is◌, Hold, b1, b2, o, i}
use Rattle.report.specs.Types.{one, sum, prod}
use Rattle.report.specs.Values.{⟨⟩, inl, ◌&◌}
use Rattle.report.specs.Nodes.{Node}
use Rattle.report.specs.Terms.{iden, comp, unit, injl, injr, case, pair, take, drop, assertl, assertr, fail, witness, word, disconnect, bad}
use Rattle.scope.specs.Types.{TypeRecord}
use Rattle.scope.specs.Program.{Program, value_from, source_ty, target_ty, term_of, term_at, last, whole, whole_source, whole_target}
use Rattle.scope.specs.Bounds.{whole_cells, whole_frames, whole_cost}
use Rattle.scope.specs.Shorthand.{ty, to}

values_from_lem : Hold (
    value_from b2 (1 ∷ 0 ∷ 1 ∷ []) is (i & o)
    ∷ value_from b2 (1 ∷ []) is ⟨⟩
    ∷ [])
unfolding Hold value_from
values_from_lem = refl

-- unit, b1, b2, b1 + b2, (b1 + b2) × unit, b2 × (b1 + b2)
abbrev types : List TypeRecord
types = ty 0 0 0 ∷ ty 1 0 0 ∷ ty 2 1 1 ∷ ty 1 1 2 ∷ ty 2 3 0 ∷ ty 2 2 3 ∷ []

-- node 2 is hidden; the hash of node 1 is 0, that of node 2 is 1
abbrev P : Program
P = record {
  types = types;
  nodes = Node.unit ∷ Node.unit ∷ Node.hidden [] ∷ [];
  arrows = to 1 2 ∷ to 3 1 ∷ to 0 0 ∷ to 4 5 ∷ to 1 3 ∷ [];
  witnesses = ⟨⟩ ∷ ⟨⟩ ∷ ⟨⟩ ∷ ⟨⟩ ∷ inl i ∷ [];
  hash = λ j. get_or (⟨⟩ ∷ o ∷ i ∷ []) j ⟨⟩;
}

arrows_typed : Hold (
    source_ty P 3 is prod (sum b1 b2) one
    ∷ target_ty P 3 is prod b2 (sum b1 b2)
    ∷ [])
unfolding Hold source_ty target_ty
arrows_typed = refl

terms : Hold (
    term_of P 3 (Node.comp 0 1) fail is comp b2 (fail 0) (fail 1)
    ∷ term_of P 3 (Node.pair 0 1) fail is pair b2 (fail 0) (fail 1)
    ∷ term_of P 3 (Node.case 0 1) fail is case b1 b2 (fail 0) (fail 1)
    ∷ term_of P 3 (Node.case 0 2) fail is assertl 3 b1 b2 (fail 0)
    ∷ term_of P 3 (Node.case 2 1) fail is assertr 3 b1 b2 (fail 1)
    ∷ term_of P 3 (Node.case 2 2) fail is bad
    ∷ term_of P 3 (Node.disconnect 0 1) fail is disconnect (prod (sum b1 b2) one) b2 (sum b1 b2) o (fail 0) (fail 1)
    ∷ term_of P 4 (Node.injl 1) fail is injl b1 b2 (fail 1)
    ∷ term_of P 4 (Node.injr 1) fail is injr b1 b2 (fail 1)
    ∷ term_of P 3 (Node.take 0) fail is take (fail 0)
    ∷ term_of P 3 (Node.drop 0) fail is drop (sum b1 b2) (fail 0)
    ∷ term_of P 3 (Node.disconnect1 0) fail is bad
    ∷ term_of P 3 Node.iden fail is iden (prod (sum b1 b2) one)
    ∷ term_of P 3 Node.unit fail is unit
    ∷ term_of P 4 Node.witness fail is witness (sum b1 b2) (inl i)
    -- past the values a witness is the empty one
    ∷ term_of P 9 Node.witness fail is witness one ⟨⟩
    ∷ term_of P 3 (Node.fail []) fail is fail 3
    ∷ term_of P 3 (Node.hidden []) fail is bad
    ∷ term_of P 0 (Node.word 2 (1 ∷ 0 ∷ [])) fail is word b2 (i & o)
    ∷ [])
unfolding Hold term_of
terms = refl

-- comp of iden and injl, from b1 to b1 + b2
abbrev Q : Program
Q = record {
  types = types;
  nodes = Node.iden ∷ Node.injl 0 ∷ Node.comp 0 1 ∷ [];
  arrows = to 1 1 ∷ to 1 3 ∷ to 1 3 ∷ [];
  witnesses = [];
  hash = λ j. ⟨⟩;
}

-- each node's term is made of its children's; past the table stands a node that can only fail
terms_at : Hold (
    term_at Q 0 is iden b1
    ∷ term_at Q 1 is injl b1 b2 (iden b1)
    ∷ whole Q is comp b1 (iden b1) (injl b1 b2 (iden b1))
    ∷ term_at Q 3 is fail 3
    ∷ [])
unfolding Hold term_at whole
terms_at = refl

wholes : Hold (
    whole_source Q is b1
    ∷ whole_target Q is sum b1 b2
    ∷ [])
unfolding Hold whole_source whole_target
wholes = refl

-- source 1, target 3, and 1 between; two frames and one; the cost
needs : Hold (
    last Q is 2
    ∷ whole_cells Q is 5
    ∷ whole_frames Q is 3
    ∷ whole_cost Q is 403
    ∷ [])
unfolding Hold last whole_cells whole_frames whole_cost
needs = refl
