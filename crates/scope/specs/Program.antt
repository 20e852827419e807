-- A program that passed the checks of its tables, and the report's term that each node stands for.
-- A case with a hidden child is an assertion. Hidden nodes and one-child disconnects stand for no term.
use Rattle.std.specs.Prelude.{Bool, true, false, List, ℕ, ◌-◌, length, get_or}
use Rattle.report.specs.Bits.{Bit}
use Rattle.report.specs.Table.{entries}
use Rattle.report.specs.Types.{Ty, left_of, right_of, word_ty}
use Rattle.report.specs.Values.{Val, ⟨⟩, value, short, read_value}
use Rattle.report.specs.Nodes.{Node}
use Rattle.report.specs.Terms.{Term, iden, comp, unit, injl, injr, case, pair, take, drop, assertl, assertr, fail, witness, word, disconnect, bad}
use Rattle.scope.specs.Types.{TypeRecord, ty_at}
use Rattle.scope.specs.Walk.{hidden_at}
use Rattle.scope.specs.Arrows.{Arrow, source, target}

-- `witnesses` has a value for each node, of which only those of witness nodes are used; `hash j` is the hash of the branch at node j, as a word of 256 bits
pub record Program : Type 0 where
  pub types : List TypeRecord
  pub nodes : List Node
  pub arrows : List Arrow
  pub witnesses : List Val
  pub hash : (j : ℕ) → Val

-- the value at the front of compact bits that are known to hold one
unfoldable pub value_from : Ty → List Bit → Val
unfolding read_value
value_from A bits = elim (read_value A bits) [ value v rest ↦ v | short ↦ ⟨⟩ ]

-- the source and the target of node i
unfoldable pub source_ty : Program → (i : ℕ) → Ty
unfolding ty_at source
source_ty P i = ty_at P.types (source P.arrows i)

unfoldable pub target_ty : Program → (i : ℕ) → Ty
unfolding ty_at target
target_ty P i = ty_at P.types (target P.arrows i)

-- a case from S, by which of its children are hidden
unfoldable pub case_term : (left_hidden right_hidden : Bool) → (place : ℕ) → (S : Ty) → Term → Term → Term
unfolding left_of right_of
case_term false false i S s t = case (left_of (left_of S)) (right_of (left_of S)) s t
case_term false true i S s t = assertl i (left_of (left_of S)) (right_of (left_of S)) s
case_term true false i S s t = assertr i (left_of (left_of S)) (right_of (left_of S)) t
case_term true true i S s t = bad

-- the term of node i, of the terms of its children
unfoldable pub term_of : (P : Program) → (i : ℕ) → Node → (child : ℕ → Term) → Term
unfolding source_ty target_ty hidden_at case_term left_of right_of value_from word_ty
term_of P i (Node.comp a b) child = comp (target_ty P a) (child a) (child b)
term_of P i (Node.case a b) child = case_term (hidden_at P.nodes a) (hidden_at P.nodes b) i (source_ty P i) (child a) (child b)
term_of P i (Node.pair a b) child = pair (target_ty P a) (child a) (child b)
term_of P i (Node.disconnect a b) child = disconnect (source_ty P i) (left_of (target_ty P i)) (source_ty P b) (P.hash b) (child a) (child b)
term_of P i (Node.injl a) child = injl (left_of (target_ty P i)) (right_of (target_ty P i)) (child a)
term_of P i (Node.injr a) child = injr (left_of (target_ty P i)) (right_of (target_ty P i)) (child a)
term_of P i (Node.take a) child = take (child a)
term_of P i (Node.drop a) child = drop (left_of (source_ty P i)) (child a)
term_of P i (Node.disconnect1 a) child = bad
term_of P i Node.iden child = iden (source_ty P i)
term_of P i Node.unit child = unit
term_of P i Node.witness child = witness (target_ty P i) (get_or P.witnesses i ⟨⟩)
term_of P i (Node.fail bytes) child = fail i
term_of P i (Node.hidden bytes) child = bad
term_of P i (Node.word n bits) child = word (target_ty P i) (value_from (target_ty P i) bits)

unfoldable pub term_make : (P : Program) → List Term → Node → Term
unfolding term_of
term_make P before n = term_of P (length before) n (λ j. get_or before j (fail j))

-- the term of node i; past the table's end that of `no_node`
unfoldable pub term_at : (P : Program) → (i : ℕ) → Term
unfolding entries term_make
term_at P i = get_or (entries (term_make P) P.nodes) i (fail i)

-- the whole program: its last node
unfoldable pub last : Program → ℕ
last P = length P.nodes - 1

unfoldable pub whole : Program → Term
unfolding term_at last
whole P = term_at P (last P)

unfoldable pub whole_source : Program → Ty
unfolding source_ty last
whole_source P = source_ty P (last P)

unfoldable pub whole_target : Program → Ty
unfolding target_ty last
whole_target P = target_ty P (last P)
