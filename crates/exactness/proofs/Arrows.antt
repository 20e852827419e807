-- The arrow rule holds of a node exactly if the report types the node at that arrow, and the check of all arrows passes exactly if it types
-- every node and no two nodes are equal.
-- First from the test to the typing, kind by kind, then back; the tests are of indices, the typing is of types.
use Rattle.std.specs.Prelude.{◌≡◌, Bool, List, [], ◌∷◌}
use Rattle.std.proofs.Math.Path.{refl, sym, ap, subst, subst₂}
use Rattle.std.proofs.Common.{◌∙◌, arith}
use Rattle.std.proofs.Math.Bool.{true, false, not}
use Prim.Native.Nat.{ℕ, ◌-◌, ◌<◌}
use Rattle.std.proofs.Math.Dec.{eqb, ltb}
use Rattle.std.proofs.Math.ListN.{length}
use borrow.Author.Tests.{eqb-true, eq-eqb, ltb-true, lt-ltb, not-true}
use Rattle.refusal.specs.declared.Refusal.TheVariants.{OneChildDisconnect, Arrow as BadArrow}
use Rattle.report.specs.Types.{Ty, sum, prod, word_ty}
use Rattle.report.specs.Nodes.{Node, comp, case, pair, disconnect, injl, injr, take, drop, disconnect1, iden, unit, witness, fail, hidden, word}
use Rattle.report.specs.Canonical.{children}
use Rattle.scope.specs.Check.{Check, passed, ◌>>=◌, require, each}
use Rattle.scope.specs.Numbers.{every}
use Rattle.scope.specs.Types.{TypeRecord, type_from, ty_at, is_unit, is_sum, is_product, left_at, right_at, is_word}
use Rattle.scope.specs.Nodes.{node_at, on_one_child}
use Rattle.scope.specs.Walk.{hidden_at}
use Rattle.scope.specs.Arrows.{Arrow, source, target}
use Rattle.scope.specs.Arrows.{goes, branch_rule, kind_rule, arrow_rule, no_one_child, repeats, node_rule, node_refusal, check_arrows}
use Rattle.common.specs.Types.{first_unit}
use Rattle.common.specs.Checks.{clash, AllTrue, every_all, all_every, require_holds, holds_require, both_passed, then_passes, each_holds, holds_each}
use Rattle.common.specs.Bits.{AllBelow}
use Rattle.exactness.specs.Types.{TypesPass, parts_kept}
use Rattle.exactness.specs.TypeTests.{Joined, same_test, unit_type_lem, type_unit, joins_type, type_joins, joined_test}
use Rattle.exactness.proofs.TypeTests.{word_type, type_word}
use Rattle.exactness.specs.Equal.{NoneEqual, none_equal, equal_none}
use Rattle.exactness.specs.NodeTyping.{Goes, Branch, of_shown, of_pruned, from_ty, to_ty, InRange, ArrowsTyped}
use Rattle.exactness.specs.NodeTyping.{NodeTyped, of_iden, of_comp, of_unit, of_injl, of_injr, of_case, of_pair, of_take, of_drop, of_fail, of_witness, of_word, of_disconnect, of_hidden}
use Rattle.exactness.specs.Arrows.{RulesHold}

module _ (types : List TypeRecord) (pass : TypesPass types) (nodes : List Node) (arrows : List Arrow) where
  -- the type of a record, and the ends of a node's arrow
  abbrev ty : (i : ℕ) → Ty
  ty i = ty_at types i

  abbrev src : (j : ℕ) → ℕ
  src j = source arrows j

  abbrev tgt : (j : ℕ) → ℕ
  tgt j = target arrows j

  -- the report's typing by these arrows
  abbrev Typed : Node → Ty → Ty → Type 0
  Typed n A B = NodeTyped nodes (from_ty types arrows) (to_ty types arrows) n A B

  -- node j goes from A to B
  arrow : (j : ℕ) (A B : Ty) → ty (src j) ≡ A → ty (tgt j) ≡ B → Goes (from_ty types arrows) (to_ty types arrows) j A B
  unfolding from_ty to_ty
  arrow j A B p q = record { starts = p; ends = q }

  -- equal indices are equal types
  same : (i j : ℕ) → eqb i j ≡ true → ty i ≡ ty j
  same i j e = ap (ty_at types) (eqb-true i j e)

  -- what a record that is tested as a sum, or as a product, stands for
  sum_is : (j l r : ℕ) → is_sum types j l r ≡ true → ty j ≡ sum (ty l) (ty r)
  unfolding is_sum left_at right_at type_from
  sum_is j l r e = joins_type types pass 1 j l r (omega arith) e

  product_is : (j l r : ℕ) → is_product types j l r ≡ true → ty j ≡ prod (ty l) (ty r)
  unfolding is_product left_at right_at type_from
  product_is j l r e = joins_type types pass 2 j l r (omega arith) e

  -- a branch that passes its test is typed
  branch_typed : (j part rest to : ℕ) → branch_rule types nodes arrows j part rest to ≡ true
      → Branch nodes (from_ty types arrows) (to_ty types arrows) j (ty part) (ty rest) (ty to)
  unfolding branch_rule
  branch_typed j part rest to e = go (hidden_at nodes j) refl e
    where
      go : (b : Bool) → hidden_at nodes j ≡ b → elim b [ true ↦ true | false ↦ every (is_product types (src j) part rest ∷ eqb (tgt j) to ∷ []) ] ≡ true
          → Branch nodes (from_ty types arrows) (to_ty types arrows) j (ty part) (ty rest) (ty to)
      go true p e = of_pruned p
      go false p e =
          let q = every_all (is_product types (src j) part rest ∷ eqb (tgt j) to ∷ []) e in
          of_shown p (arrow j _ _ (product_is (src j) part rest q.0) (same (tgt j) to q.1.0))

  -- from the test to the typing: a node from A to B
  module _ (A B : ℕ) where
    kind_typed : (n : Node) → kind_rule types nodes arrows A B n ≡ true → Typed n (ty A) (ty B)
    unfolding kind_rule
    kind_typed (comp s t) e =
        let p = every_all (eqb (src s) A ∷ goes types nodes arrows t (tgt s) B ∷ []) e in
        let q = every_all (eqb (src t) (tgt s) ∷ eqb (tgt t) B ∷ []) p.1.0 in
        of_comp (arrow s (ty A) (ty (tgt s)) (same (src s) A p.0) refl)
        (arrow t (ty (tgt s)) (ty B) (same (src t) (tgt s) q.0) (same (tgt t) B q.1.0))
    kind_typed (case s t) e =
        let S : ℕ = left_at types A in
        let R : ℕ = right_at types A in
        let P : ℕ = left_at types S in
        let Q : ℕ = right_at types S in
        let p = every_all (is_product types A S R ∷ is_sum types S P Q
        ∷ branch_rule types nodes arrows s P R B ∷ branch_rule types nodes arrows t Q R B ∷ []) e in
        let S-is : ty S ≡ sum (ty P) (ty Q) = sum_is S P Q p.1.0 in
        let A-is : ty A ≡ prod (sum (ty P) (ty Q)) (ty R) = product_is A S R p.0 ∙ ap (λ (X : Ty). prod X (ty R)) S-is in
        let left = branch_typed s P R B p.1.1.0 in
        let right = branch_typed t Q R B p.1.1.1.0 in
        subst (λ (X : Ty). Typed (case s t) X (ty B)) (sym A-is) (of_case left right)
    kind_typed (pair s t) e =
        let p = every_all (eqb (src s) A ∷ eqb (src t) A ∷ is_product types B (tgt s) (tgt t) ∷ []) e in
        subst (λ (X : Ty). Typed (pair s t) (ty A) X) (sym (product_is B (tgt s) (tgt t) p.1.1.0))
        (of_pair (arrow s (ty A) (ty (tgt s)) (same (src s) A p.0) refl) (arrow t (ty A) (ty (tgt t)) (same (src t) A p.1.0) refl))
    kind_typed (disconnect s t) e =
        let W : ℕ = left_at types (src s) in
        let L : ℕ = left_at types (tgt s) in
        let C : ℕ = right_at types (tgt s) in
        let p = every_all (is_product types (src s) W A ∷ is_word types 8 W ∷ is_product types (tgt s) L C
        ∷ eqb (src t) C ∷ is_product types B L (tgt t) ∷ []) e in
        let W-is : ty W ≡ word_ty 8 = word_type types pass 8 W p.1.0 in
        let from-s = product_is (src s) W A p.0 ∙ ap (λ (X : Ty). prod X (ty A)) W-is in
        let to-s = product_is (tgt s) L C p.1.1.0 in
        subst (λ (X : Ty). Typed (disconnect s t) (ty A) X) (sym (product_is B L (tgt t) p.1.1.1.1.0))
        (of_disconnect (arrow s _ _ from-s to-s) (arrow t (ty C) (ty (tgt t)) (same (src t) C p.1.1.1.0) refl))
    kind_typed (injl s) e =
        let p = every_all (eqb (src s) A ∷ is_sum types B (tgt s) (right_at types B) ∷ []) e in
        subst (λ (X : Ty). Typed (injl s) (ty A) X) (sym (sum_is B (tgt s) (right_at types B) p.1.0))
        (of_injl (arrow s (ty A) (ty (tgt s)) (same (src s) A p.0) refl))
    kind_typed (injr s) e =
        let p = every_all (eqb (src s) A ∷ is_sum types B (left_at types B) (tgt s) ∷ []) e in
        subst (λ (X : Ty). Typed (injr s) (ty A) X) (sym (sum_is B (left_at types B) (tgt s) p.1.0))
        (of_injr (arrow s (ty A) (ty (tgt s)) (same (src s) A p.0) refl))
    kind_typed (take s) e =
        let p = every_all (is_product types A (src s) (right_at types A) ∷ eqb (tgt s) B ∷ []) e in
        subst (λ (X : Ty). Typed (take s) X (ty B)) (sym (product_is A (src s) (right_at types A) p.0))
        (of_take (arrow s (ty (src s)) (ty B) refl (same (tgt s) B p.1.0)))
    kind_typed (drop s) e =
        let p = every_all (is_product types A (left_at types A) (src s) ∷ eqb (tgt s) B ∷ []) e in
        subst (λ (X : Ty). Typed (drop s) X (ty B)) (sym (product_is A (left_at types A) (src s) p.0))
        (of_drop (arrow s (ty (src s)) (ty B) refl (same (tgt s) B p.1.0)))
    kind_typed (disconnect1 s) e = clash (cc)
    kind_typed iden e = subst (λ (X : Ty). Typed iden (ty A) X) (same A B e) of_iden
    kind_typed unit e = subst (λ (X : Ty). Typed unit (ty A) X) (sym (unit_type_lem types pass B e)) of_unit
    kind_typed witness e = of_witness
    kind_typed (fail bytes) e = of_fail
    kind_typed (hidden hash) e =
        let p = every_all (eqb A 0 ∷ eqb B 0 ∷ []) e in
        let zero_is = first_unit types (parts_kept types pass) in
        subst₂ (λ (X Y : Ty). Typed (hidden hash) X Y) (sym (same A 0 p.0 ∙ zero_is)) (sym (same B 0 p.1.0 ∙ zero_is)) of_hidden
    kind_typed (word n bits) e =
        let p = every_all (is_unit types A ∷ is_word types (n - 1) B ∷ []) e in
        let A-is = unit_type_lem types pass A p.0 in
        let B-is = word_type types pass (n - 1) B p.1.0 in
        subst₂ (λ (X Y : Ty). Typed (word n bits) X Y) (sym A-is) (sym B-is) of_word

  -- the other way: parts of a sum's type or a product's, and the tests that they pass
  sum_parts : (j : ℕ) (A B : Ty) → j < length types → ty j ≡ sum A B → Joined types 1 j A B
  unfolding type_from
  sum_parts j A B h e = type_joins types pass 0 j A B (omega arith) h e

  product_parts : (j : ℕ) (A B : Ty) → j < length types → ty j ≡ prod A B → Joined types 2 j A B
  unfolding type_from
  product_parts j A B h e = type_joins types pass 1 j A B (omega arith) h e

  is_sum_lem : (j l r : ℕ) (A B : Ty) → Joined types 1 j A B → l < length types → r < length types → ty l ≡ A → ty r ≡ B → is_sum types j l r ≡ true
  unfolding is_sum left_at right_at
  is_sum_lem j l r A B h m n p q = joined_test types pass 1 j l r A B h m n p q

  is_product_lem : (j l r : ℕ) (A B : Ty) → Joined types 2 j A B → l < length types → r < length types → ty l ≡ A → ty r ≡ B
      → is_product types j l r ≡ true
  unfolding is_product left_at right_at
  is_product_lem j l r A B h m n p q = joined_test types pass 2 j l r A B h m n p q

  -- a branch that is typed passes its test
  typed_branch : (j part rest to : ℕ) (P R T : Ty) → InRange types arrows j → part < length types → rest < length types → to < length types
      → ty part ≡ P → ty rest ≡ R → ty to ≡ T → Branch nodes (from_ty types arrows) (to_ty types arrows) j P R T
      → branch_rule types nodes arrows j part rest to ≡ true
  unfolding branch_rule from_ty to_ty
  typed_branch j part rest to P R T h k l m p q r (of_shown e g) =
      rw (e, branch_rule)
      (all_every (is_product types (src j) part rest ∷ eqb (tgt j) to ∷ []) (
        is_product_lem (src j) part rest P R (product_parts (src j) P R h.source_in g.starts) k l p q,
        (same_test types pass (tgt j) to h.target_in m (g.ends ∙ sym r), tt),
      ))
  typed_branch j part rest to P R T h k l m p q r (of_pruned e) = rw (e, branch_rule)

  module _ (i : ℕ) (ranges : (j : ℕ) → j < i → InRange types arrows j) (A B : ℕ) (A-in : A < length types) (B-in : B < length types) where
    -- the tests of a child's source and target
    from_test : (s k : ℕ) (X : Ty) → s < i → k < length types → from_ty types arrows s ≡ X → ty k ≡ X → eqb (src s) k ≡ true
    unfolding from_ty
    from_test s k X b h e x = same_test types pass (src s) k (ranges s b).source_in h (e ∙ sym x)

    to_test : (s k : ℕ) (X : Ty) → s < i → k < length types → to_ty types arrows s ≡ X → ty k ≡ X → eqb (tgt s) k ≡ true
    unfolding to_ty
    to_test s k X b h e x = same_test types pass (tgt s) k (ranges s b).target_in h (e ∙ sym x)

    typed_kind : (n : Node) → AllBelow i (children n) → (X Y : Ty) → ty A ≡ X → ty B ≡ Y → Typed n X Y → kind_rule types nodes arrows A B n ≡ true
    unfolding kind_rule children from_ty to_ty
    typed_kind _ b _ _ x y of_iden = same_test types pass A B A-in B-in (x ∙ sym y)
    typed_kind _ b _ _ x y (of_comp {s = s} {t = t} g h) =
        let t-goes = all_every (eqb (src t) (tgt s) ∷ eqb (tgt t) B ∷ []) (
          from_test t (tgt s) _ b.1.0 (ranges s b.0).target_in h.starts g.ends,
          (to_test t B _ b.1.0 B-in h.ends y, tt),
        ) in
        all_every (eqb (src s) A ∷ goes types nodes arrows t (tgt s) B ∷ []) (from_test s A _ b.0 A-in g.starts x, (t-goes, tt))
    typed_kind _ b _ _ x y of_unit = type_unit types pass B B-in y
    typed_kind _ b _ _ x y (of_injl {s = s} {B = P} {C = Q} g) =
        let j = sum_parts B P Q B-in y in
        all_every (eqb (src s) A ∷ is_sum types B (tgt s) (right_at types B) ∷ []) (
          from_test s A _ b.0 A-in g.starts x,
          (is_sum_lem B (tgt s) (right_at types B) P Q j (ranges s b.0).target_in j.right_in g.ends j.right_is, tt),
        )
    typed_kind _ b _ _ x y (of_injr {s = s} {B = P} {C = Q} g) =
        let j = sum_parts B P Q B-in y in
        all_every (eqb (src s) A ∷ is_sum types B (left_at types B) (tgt s) ∷ []) (
          from_test s A _ b.0 A-in g.starts x,
          (is_sum_lem B (left_at types B) (tgt s) P Q j j.left_in (ranges s b.0).target_in j.left_is g.ends, tt),
        )
    typed_kind _ b _ _ x y (of_case {s = s} {t = t} {A = P} {B = Q} {C = R} {D = T} g h) =
        let S : ℕ = left_at types A in
        let r : ℕ = right_at types A in
        let p : ℕ = left_at types S in
        let q : ℕ = right_at types S in
        let j = product_parts A (sum P Q) R A-in x in
        let k = sum_parts S P Q j.left_in j.left_is in
        let left = typed_branch s p r B P R T (ranges s b.0) k.left_in j.right_in B-in k.left_is j.right_is y g in
        let right = typed_branch t q r B Q R T (ranges t b.1.0) k.right_in j.right_in B-in k.right_is j.right_is y h in
        all_every (is_product types A S r ∷ is_sum types S p q ∷ branch_rule types nodes arrows s p r B ∷ branch_rule types nodes arrows t q r B ∷ []) (
          is_product_lem A S r (sum P Q) R j j.left_in j.right_in j.left_is j.right_is,
          (is_sum_lem S p q P Q k k.left_in k.right_in k.left_is k.right_is, (left, (right, tt))),
        )
    typed_kind _ b _ _ x y (of_pair {s = s} {t = t} {B = P} {C = Q} g h) =
        let j = product_parts B P Q B-in y in
        all_every (eqb (src s) A ∷ eqb (src t) A ∷ is_product types B (tgt s) (tgt t) ∷ []) (
          from_test s A _ b.0 A-in g.starts x,
          (
            from_test t A _ b.1.0 A-in h.starts x,
            (is_product_lem B (tgt s) (tgt t) P Q j (ranges s b.0).target_in (ranges t b.1.0).target_in g.ends h.ends, tt),
          ),
        )
    typed_kind _ b _ _ x y (of_take {s = s} {A = P} {B = Q} g) =
        let j = product_parts A P Q A-in x in
        all_every (is_product types A (src s) (right_at types A) ∷ eqb (tgt s) B ∷ []) (
          is_product_lem A (src s) (right_at types A) P Q j (ranges s b.0).source_in j.right_in g.starts j.right_is,
          (to_test s B _ b.0 B-in g.ends y, tt),
        )
    typed_kind _ b _ _ x y (of_drop {s = s} {A = P} {B = Q} g) =
        let j = product_parts A P Q A-in x in
        all_every (is_product types A (left_at types A) (src s) ∷ eqb (tgt s) B ∷ []) (
          is_product_lem A (left_at types A) (src s) P Q j j.left_in (ranges s b.0).source_in j.left_is g.starts,
          (to_test s B _ b.0 B-in g.ends y, tt),
        )
    typed_kind _ b _ _ x y of_fail = refl
    typed_kind _ b _ _ x y of_witness = refl
    typed_kind _ b _ _ x y (of_word {n = n}) =
        all_every (is_unit types A ∷ is_word types (n - 1) B ∷ []) (type_unit types pass A A-in x, (type_word types pass (n - 1) B B-in y, tt))
    typed_kind _ b _ _ x y (of_disconnect {s = s} {t = t} {A = P} {B = Q} {C = R} {D = T} g h) =
        let W : ℕ = left_at types (src s) in
        let L : ℕ = left_at types (tgt s) in
        let C : ℕ = right_at types (tgt s) in
        let j = product_parts (src s) (word_ty 8) P (ranges s b.0).source_in g.starts in
        let k = product_parts (tgt s) Q R (ranges s b.0).target_in g.ends in
        let B-is = is_product_lem B L (tgt t) Q T (product_parts B Q T B-in y) k.left_in (ranges t b.1.0).target_in k.left_is h.ends in
        all_every (is_product types (src s) W A ∷ is_word types 8 W ∷ is_product types (tgt s) L C ∷ eqb (src t) C ∷ is_product types B L (tgt t) ∷ []) (
          is_product_lem (src s) W A (word_ty 8) P j j.left_in A-in j.left_is x,
          (
            type_word types pass 8 W j.left_in j.left_is,
            (
              is_product_lem (tgt s) L C Q R k k.left_in k.right_in k.left_is k.right_is,
              (from_test t C _ b.1.0 k.right_in h.starts k.right_is, (B-is, tt)),
            ),
          ),
        )
    typed_kind _ b _ _ x y of_hidden =
        let zero_is = first_unit types (parts_kept types pass) in
        let A-is = same_test types pass A 0 A-in (omega arith) (x ∙ sym zero_is) in
        let B-is = same_test types pass B 0 B-in (omega arith) (y ∙ sym zero_is) in
        all_every (eqb A 0 ∷ eqb B 0 ∷ []) (A-is, (B-is, tt))

  -- an arrow that keeps the rule is in range
  pub arrow_range : (i : ℕ) → arrow_rule types nodes arrows i ≡ true → InRange types arrows i
  unfolding arrow_rule
  arrow_range i e =
      let p = every_all (ltb (src i) (length types) ∷ ltb (tgt i) (length types)
      ∷ kind_rule types nodes arrows (src i) (tgt i) (node_at nodes i) ∷ []) e in
      record { source_in = ltb-true (src i) (length types) p.0; target_in = ltb-true (tgt i) (length types) p.1.0 }

  -- the rule holds exactly if the arrow is in range and the report types the node at it; the way back is for a node above its children
  pub arrow_typed : (i : ℕ) → arrow_rule types nodes arrows i ≡ true
      → NodeTyped nodes (from_ty types arrows) (to_ty types arrows) (node_at nodes i) (from_ty types arrows i) (to_ty types arrows i)
  unfolding arrow_rule from_ty to_ty
  arrow_typed i e =
      let p = every_all (ltb (src i) (length types) ∷ ltb (tgt i) (length types)
      ∷ kind_rule types nodes arrows (src i) (tgt i) (node_at nodes i) ∷ []) e in
      kind_typed (src i) (tgt i) (node_at nodes i) p.1.1.0

  module _ (i : ℕ) (below : AllBelow i (children (node_at nodes i))) (ranges : (j : ℕ) → j < i → InRange types arrows j) where
    pub typed_arrow : InRange types arrows i
        → NodeTyped nodes (from_ty types arrows) (to_ty types arrows) (node_at nodes i) (from_ty types arrows i) (to_ty types arrows i)
        → arrow_rule types nodes arrows i ≡ true
    unfolding arrow_rule from_ty to_ty
    typed_arrow h t =
        let rule = typed_kind i ranges (src i) (tgt i) h.source_in h.target_in (node_at nodes i) below (ty (src i)) (ty (tgt i)) refl refl t in
        all_every (ltb (src i) (length types) ∷ ltb (tgt i) (length types) ∷ kind_rule types nodes arrows (src i) (tgt i) (node_at nodes i) ∷ [])
        (lt-ltb (src i) (length types) h.source_in, (lt-ltb (tgt i) (length types) h.target_in, (rule, tt)))

-- no disconnect with one child is typed
typed_two : (nodes : List Node) (from to : ℕ → Ty) (n : Node) (A B : Ty) → NodeTyped nodes from to n A B → on_one_child n (λ child. false) true ≡ true
unfolding on_one_child
typed_two nodes from to _ _ _ of_iden = refl
typed_two nodes from to _ _ _ (of_comp g h) = refl
typed_two nodes from to _ _ _ of_unit = refl
typed_two nodes from to _ _ _ (of_injl g) = refl
typed_two nodes from to _ _ _ (of_injr g) = refl
typed_two nodes from to _ _ _ (of_case g h) = refl
typed_two nodes from to _ _ _ (of_pair g h) = refl
typed_two nodes from to _ _ _ (of_take g) = refl
typed_two nodes from to _ _ _ (of_drop g) = refl
typed_two nodes from to _ _ _ of_fail = refl
typed_two nodes from to _ _ _ of_witness = refl
typed_two nodes from to _ _ _ of_word = refl
typed_two nodes from to _ _ _ (of_disconnect g h) = refl
typed_two nodes from to _ _ _ of_hidden = refl

-- the whole check of the arrows, in its three parts
module _ (types : List TypeRecord) (nodes : List Node) (arrows : List Arrow) where
  abbrev two_children : Check (Unit {0})
  two_children = each (length nodes) (no_one_child types nodes arrows) OneChildDisconnect

  abbrev one_each : Check (Unit {0})
  one_each = require (eqb (length arrows) (length nodes)) (BadArrow (length nodes))

  abbrev each_node : Check (Unit {0})
  each_node = each (length nodes) (node_rule types nodes arrows) (node_refusal types nodes arrows)

  -- where it passes the rules hold, and no two nodes are equal
  pub arrows_pass : check_arrows types nodes arrows ≡ passed tt → RulesHold types nodes arrows × NoneEqual nodes arrows
  unfolding check_arrows node_rule
  arrows_pass e =
      let a = both_passed two_children (λ whole. one_each >>= λ count. each_node) tt e in
      let b = both_passed one_each (λ count. each_node) tt a.2 in
      let kept : (i : ℕ) → i < length nodes → AllTrue (not (repeats nodes arrows i) ∷ arrow_rule types nodes arrows i ∷ []) =
      λ i l. every_all (not (repeats nodes arrows i) ∷ arrow_rule types nodes arrows i ∷ [])
      (each_holds (length nodes) (node_rule types nodes arrows) (node_refusal types nodes arrows) tt b.2 i l) in (
        (
          eqb-true (length arrows) (length nodes) (require_holds (eqb (length arrows) (length nodes)) (BadArrow (length nodes)) b.0 b.1),
          (λ i l. (kept i l).1.0),
        ),
        none_equal nodes arrows (λ i l. not-true (repeats nodes arrows i) (kept i l).0),
      )

-- what the check asks of arrows is the report's typing, whether nodes are equal or not
module _ (types : List TypeRecord) (pass : TypesPass types) (nodes : List Node) (arrows : List Arrow) where
  pub rules_typed : RulesHold types nodes arrows → ArrowsTyped types nodes arrows
  rules_typed p =
      record {
        one_each = p.0;
        in_range = λ i l. arrow_range types pass nodes arrows i (p.1 i l);
        typed = λ i l. arrow_typed types pass nodes arrows i (p.1 i l);
      }

  module _ (below : (i : ℕ) → i < length nodes → AllBelow i (children (node_at nodes i))) where
    pub typed_rules : ArrowsTyped types nodes arrows → RulesHold types nodes arrows
    typed_rules h = (
      h.one_each,
      (λ i l. typed_arrow types pass nodes arrows i (below i l) (λ j m. h.in_range j (omega arith)) (h.in_range i l) (h.typed i l)),
    )

    -- THE WHOLE CHECK OF THE ARROWS PASSES EXACTLY IF EVERY NODE IS TYPED AND NO TWO ARE EQUAL
    pub arrows_typed : check_arrows types nodes arrows ≡ passed tt → ArrowsTyped types nodes arrows × NoneEqual nodes arrows
    arrows_typed e = let p = arrows_pass types nodes arrows e in (rules_typed p.0, p.1)

    pub typed_arrows : ArrowsTyped types nodes arrows → NoneEqual nodes arrows → check_arrows types nodes arrows ≡ passed tt
    unfolding check_arrows no_one_child node_rule
    typed_arrows h apart =
        then_passes (two_children types nodes arrows) (λ whole. one_each types nodes arrows >>= λ count. each_node types nodes arrows) tt
        (holds_each (length nodes) (no_one_child types nodes arrows) OneChildDisconnect (λ i l. typed_two nodes _ _ (node_at nodes i) _ _ (h.typed i l)))
        ∙ then_passes (one_each types nodes arrows) (λ count. each_node types nodes arrows) tt
        (holds_require _ _ (eq-eqb (length arrows) (length nodes) h.one_each))
        ∙ holds_each (length nodes) (node_rule types nodes arrows) (node_refusal types nodes arrows)
        (λ i l. all_every (not (repeats nodes arrows i) ∷ arrow_rule types nodes arrows i ∷ [])
        (ap not (equal_none nodes arrows apart i l), ((typed_rules h).1 i l, tt)))
