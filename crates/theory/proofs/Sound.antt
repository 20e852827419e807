-- A sound program: its tables keep the rules that the checks ask for, and its values are values of their types.
-- That is not yet the report's typing. `term_typed` makes it so: the term of each node that is not hidden is `Typed` from the node's source to its target.
use Rattle.std.specs.Prelude.{◌≡◌, true, false, not, ℕ, zero, suc, ◌-◌, ◌<◌, length}
use Rattle.std.proofs.Math.Path.{refl}
use Rattle.std.proofs.Common.{subst₂, arith, not-suc-le-zero}
use mathlib.Core.List.{List, [], ◌∷◌}
use Rattle.std.proofs.lemmas.Bool.{not-true}
use Rattle.refusal.specs.declared.Refusal.TheVariants.{HiddenElsewhere, BothHidden}
use Rattle.report.specs.Types.{Ty, sum, prod, left_of, right_of}
use Rattle.report.specs.Nodes.{Node}
use Rattle.report.specs.Canonical.{children}
use Rattle.report.specs.Terms.{Term}
use Rattle.report.specs.Typing.{Typed, of_iden, of_comp, of_unit, of_injl, of_injr, of_case, of_pair, of_take, of_drop, of_assertl, of_assertr, of_fail, of_witness, of_word, of_disconnect}
use Rattle.scope.specs.Check.{passed, require}
use Rattle.scope.specs.Numbers.{every}
use Rattle.scope.specs.Nodes.{node_at}
use Rattle.scope.specs.Walk.{hidden_at, none_hidden, allowed}
use Rattle.scope.specs.Arrows.{arrow_rule}
use Rattle.scope.specs.Program.{Program, source_ty, target_ty, case_term, term_of, term_at}
use Rattle.common.specs.Checks.{not_both, both_passed, require_holds}
use Rattle.common.specs.Bits.{AllBelow}
use Rattle.exactness.specs.Types.{TypesPass}
use Rattle.exactness.specs.NodeTyping.{Branch, NodeTyped, from_ty, to_ty}
use Rattle.exactness.proofs.Arrows.{arrow_typed}
use Rattle.theory.proofs.Values.{word_from}
use Rattle.theory.proofs.NodeTerms.{term_step}
use Rattle.theory.specs.Sound.{Sound}

module _ (nodes : List Node) where
  -- none of the list is hidden
  abbrev pub Shown : List ℕ → Type 0
  Shown [] = Unit {0}
  Shown (j ∷ js) = (hidden_at nodes j ≡ false) × Shown js

  -- what the walk asked of the children has told
  pub none_hidden_lem : (i : ℕ) (js : List ℕ) → none_hidden nodes i js ≡ passed tt → Shown js
  unfolding none_hidden
  none_hidden_lem i [] e = tt
  none_hidden_lem i (j ∷ js) e =
      let h = both_passed (require (not (hidden_at nodes j)) (HiddenElsewhere i)) (λ shown. none_hidden nodes i js) tt e in
      (not-true (hidden_at nodes j) (require_holds (not (hidden_at nodes j)) (HiddenElsewhere i) _ h.1), none_hidden_lem i js h.2)

-- node i, given terms for the nodes below it
module _ (P : Program) (ok : Sound P) (i : ℕ) (child : ℕ → Term)
    (typed : (j : ℕ) → j < i → hidden_at P.nodes j ≡ false → Typed (child j) (source_ty P j) (target_ty P j)) where
  -- a child at the types that are asked for
  typed_at : (j : ℕ) (A B : Ty) → j < i → hidden_at P.nodes j ≡ false → source_ty P j ≡ A → target_ty P j ≡ B → Typed (child j) A B
  typed_at j A B l h e f = subst₂ (λ S T. Typed (child j) S T) e f (typed j l h)

  -- a case, by which of its children are hidden
  typed_case : (s t : ℕ) (X Y C D : Ty) → s < i → t < i → not (every (hidden_at P.nodes s ∷ hidden_at P.nodes t ∷ [])) ≡ true
      → Branch P.nodes (source_ty P) (target_ty P) s X C D → Branch P.nodes (source_ty P) (target_ty P) t Y C D
      → Typed (case_term (hidden_at P.nodes s) (hidden_at P.nodes t) i (prod (sum X Y) C) (child s) (child t)) (prod (sum X Y) C) D
  unfolding case_term left_of right_of every
  typed_case s t X Y C D ls lt m (Branch.of_shown e g) (Branch.of_shown f h) =
      rw (e, f, case_term) (of_case (typed_at s _ _ ls e g.starts g.ends) (typed_at t _ _ lt f h.starts h.ends))
  typed_case s t X Y C D ls lt m (Branch.of_shown e g) (Branch.of_pruned f) = rw (e, f, case_term) (of_assertl (typed_at s _ _ ls e g.starts g.ends))
  typed_case s t X Y C D ls lt m (Branch.of_pruned e) (Branch.of_shown f h) = rw (e, f, case_term) (of_assertr (typed_at t _ _ lt f h.starts h.ends))
  typed_case s t X Y C D ls lt m (Branch.of_pruned e) (Branch.of_pruned f) = not_both m (rw (e, f, every))

  -- a node of each kind, as the report types it by the arrows of its children
  typed_node : (n : Node) (A B : Ty) → node_at P.nodes i ≡ n → hidden_at P.nodes i ≡ false → AllBelow i (children n) → allowed P.nodes i n ≡ passed tt
      → source_ty P i ≡ A → target_ty P i ≡ B → NodeTyped P.nodes (source_ty P) (target_ty P) n A B → Typed (term_of P i n child) A B
  unfolding term_of allowed children left_of right_of
  typed_node _ A B e shown b w x y NodeTyped.of_iden = rw x of_iden
  typed_node _ A C e shown b w x y (NodeTyped.of_comp {s = s} {t = t} g h) =
      let k = none_hidden_lem P.nodes i (s ∷ t ∷ []) w in
      rw g.ends (of_comp (typed_at s _ _ b.0 k.0 g.starts g.ends) (typed_at t _ _ b.1.0 k.1.0 h.starts h.ends))
  typed_node _ A B e shown b w x y NodeTyped.of_unit = of_unit
  typed_node _ A B e shown b w x y (NodeTyped.of_injl {s = s} g) =
      let k = none_hidden_lem P.nodes i (s ∷ []) w in
      rw y (of_injl (typed_at s _ _ b.0 k.0 g.starts g.ends))
  typed_node _ A B e shown b w x y (NodeTyped.of_injr {s = s} g) =
      let k = none_hidden_lem P.nodes i (s ∷ []) w in
      rw y (of_injr (typed_at s _ _ b.0 k.0 g.starts g.ends))
  typed_node _ _ _ e shown b w x y (NodeTyped.of_case {s = s} {t = t} {A = A} {B = B} {C = C} {D = D} g h) =
      rw x
      (typed_case s t A B C D b.0 b.1.0
      (require_holds (not (every (hidden_at P.nodes s ∷ hidden_at P.nodes t ∷ []))) (BothHidden i) _ w) g h)
  typed_node _ A B e shown b w x y (NodeTyped.of_pair {s = s} {t = t} g h) =
      let k = none_hidden_lem P.nodes i (s ∷ t ∷ []) w in
      rw g.ends (of_pair (typed_at s _ _ b.0 k.0 g.starts g.ends) (typed_at t _ _ b.1.0 k.1.0 h.starts h.ends))
  typed_node _ A B e shown b w x y (NodeTyped.of_take {s = s} g) =
      let k = none_hidden_lem P.nodes i (s ∷ []) w in
      of_take (typed_at s _ _ b.0 k.0 g.starts g.ends)
  typed_node _ A B e shown b w x y (NodeTyped.of_drop {s = s} g) =
      let k = none_hidden_lem P.nodes i (s ∷ []) w in
      rw x (of_drop (typed_at s _ _ b.0 k.0 g.starts g.ends))
  typed_node _ A B e shown b w x y NodeTyped.of_fail = of_fail
  typed_node _ A B e shown b w x y NodeTyped.of_witness = rw (← y) (of_witness (ok.witness_values i e))
  typed_node _ A B e shown b w x y (NodeTyped.of_word {n = n} {bits = bits}) =
      rw y (of_word (n - 1) refl (word_from (n - 1) bits (omega (arith, ok.word_bits i n bits e))))
  typed_node _ A B e shown b w x y (NodeTyped.of_disconnect {s = s} {t = t} g h) =
      let k = none_hidden_lem P.nodes i (s ∷ t ∷ []) w in
      rw (x, y, h.starts)
      (of_disconnect (ok.hash_values i s t e) (typed_at s _ _ b.0 k.0 g.starts g.ends) (typed_at t _ _ b.1.0 k.1.0 h.starts h.ends))
  typed_node _ A B e shown b w x y NodeTyped.of_hidden = not_both (rw e) shown

-- a node whose arrow keeps its rule is typed by the report, in the words of a program
pub arrow_typed_in : (P : Program) → TypesPass P.types → (i : ℕ) → arrow_rule P.types P.nodes P.arrows i ≡ true
    → NodeTyped P.nodes (source_ty P) (target_ty P) (node_at P.nodes i) (source_ty P i) (target_ty P i)
unfolding from_ty to_ty source_ty target_ty
arrow_typed_in P pass i e = arrow_typed P.types pass P.nodes P.arrows i e

-- the terms of the nodes below n are typed
typed_below : (P : Program) → Sound P → (n i : ℕ) → i < n → i < length P.nodes → hidden_at P.nodes i ≡ false
    → Typed (term_at P i) (source_ty P i) (target_ty P i)
typed_below P ok zero i l h shown = absurd (not-suc-le-zero l)
typed_below P ok (suc n) i l h shown =
    rw (term_step P i (ok.children_below i h))
    (typed_node P ok i (term_at P) (λ j p q. typed_below P ok n j (omega arith) (omega arith) q) (node_at P.nodes i) (source_ty P i) (target_ty P i) refl shown
    (ok.children_below i h) (ok.hidden_rules i h shown) refl refl (arrow_typed_in P ok.type_rules i (ok.arrow_rules i h)))

-- THE TERM OF EACH NODE IS TYPED BY ITS ARROW
pub term_typed : (P : Program) → Sound P → (i : ℕ) → i < length P.nodes → hidden_at P.nodes i ≡ false → Typed (term_at P i) (source_ty P i) (target_ty P i)
term_typed P ok i h shown = typed_below P ok (suc i) i (omega arith) h shown
