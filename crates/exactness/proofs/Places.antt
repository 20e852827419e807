-- Hidden nodes stand where they may exactly if the walk allows each node and the last one is not hidden:
-- that is what the walk asks of each node and of the last one (refusals 7, 8 and 9).
use Rattle.std.specs.Prelude.{◌≡◌, Bool, ℕ, ◌-◌, ◌<◌, length}
use Rattle.std.proofs.Math.Path.{refl, ap}
use Rattle.std.proofs.Common.{sym, ◌∙◌, subst}
use Rattle.std.proofs.Math.Bool.{true, false, not}
use mathlib.Core.List.{List, [], ◌∷◌}
use Rattle.std.proofs.Math.Dec.{eqb}
use borrow.Author.Tests.{eqb-true, eq-eqb, not-true}
use Rattle.refusal.specs.declared.Refusal.TheVariants.{HiddenElsewhere, BothHidden, NodeRepeated}
use Rattle.report.specs.Nodes.{Node, comp, case, pair, disconnect, injl, injr, take, drop, disconnect1, iden, unit, witness, fail, hidden, word}
use Rattle.report.specs.Canonical.{children, is_done}
use Rattle.scope.specs.Check.{passed, require}
use Rattle.scope.specs.Numbers.{every, any_below, same}
use Rattle.scope.specs.Nodes.{node_at, on_hidden}
use Rattle.scope.specs.Walk.{hidden_at, hides, none_hidden, allowed}
use Rattle.common.specs.Checks.{clash, not_both, all_every, none_below, below_none, same_equal, equal_same, require_holds, holds_require, both_passed}
use Rattle.exactness.specs.Hidden.{IsHidden, IsCase, HiddenPlaces}

-- a test of hidden nodes holds of a hidden node alone, of its hash
hidden_holds : (f : List ℕ → Bool) (n : Node) → on_hidden n f false ≡ true → (hash : List ℕ) × (n ≡ hidden hash) × (f hash ≡ true)
unfolding on_hidden
hidden_holds f (comp a b) e = clash (cc)
hidden_holds f (case a b) e = clash (cc)
hidden_holds f (pair a b) e = clash (cc)
hidden_holds f (disconnect a b) e = clash (cc)
hidden_holds f (injl a) e = clash (cc)
hidden_holds f (injr a) e = clash (cc)
hidden_holds f (take a) e = clash (cc)
hidden_holds f (drop a) e = clash (cc)
hidden_holds f (disconnect1 a) e = clash (cc)
hidden_holds f iden e = clash (cc)
hidden_holds f unit e = clash (cc)
hidden_holds f witness e = clash (cc)
hidden_holds f (fail bytes) e = clash (cc)
hidden_holds f (hidden bytes) e = (bytes, refl, e)
hidden_holds f (word n bits) e = clash (cc)

-- a test that does not hold fails
not_true-false : (b : Bool) → (b ≡ true → ⊥) → b ≡ false
not_true-false true h = absurd (h refl)
not_true-false false h = refl

-- a number is one of a list that begins with it, and of a longer list
done_first : (j : ℕ) (js : List ℕ) → is_done j (j ∷ js) ≡ true
unfolding is_done
done_first j js = rw (eq-eqb j j refl, is_done)

done_later : (j k : ℕ) (js : List ℕ) → is_done j js ≡ true → is_done j (k ∷ js) ≡ true
unfolding is_done
done_later j k js d = go (eqb j k)
  where
    go : (b : Bool) → elim b [ true ↦ true | false ↦ is_done j js ] ≡ true
    go true = refl
    go false = d

module _ (nodes : List Node) where
  -- the tests of hidden nodes hold exactly of hidden nodes
  hidden_test : (j : ℕ) → hidden_at nodes j ≡ true → IsHidden nodes j
  unfolding hidden_at
  hidden_test j e = let h = hidden_holds (λ hash. true) (node_at nodes j) e in (h.0, h.1)

  test_hidden : (j : ℕ) → IsHidden nodes j → hidden_at nodes j ≡ true
  unfolding hidden_at
  test_hidden j h = rw h.1

  hides_test : (hash : List ℕ) (j : ℕ) → hides nodes hash j ≡ true → node_at nodes j ≡ hidden hash
  unfolding hides
  hides_test hash j e =
      let h = hidden_holds (λ other. same other hash) (node_at nodes j) e in
      h.1 ∙ ap hidden (same_equal h.0 hash h.2)

  test_hides : (hash : List ℕ) (j : ℕ) → node_at nodes j ≡ hidden hash → hides nodes hash j ≡ true
  unfolding hides
  test_hides hash j e = rw e (equal_same hash)

  -- no child is hidden
  none_hidden_lem : (i : ℕ) (js : List ℕ) (x : Unit {0}) → none_hidden nodes i js ≡ passed x → (j : ℕ) → is_done j js ≡ true → hidden_at nodes j ≡ false
  unfolding none_hidden is_done
  none_hidden_lem i [] x e j d = clash (cc)
  none_hidden_lem i (k ∷ js) x e j d =
      let p = both_passed (require (not (hidden_at nodes k)) (HiddenElsewhere i)) (λ shown. none_hidden nodes i js) x e in
      let shown = not-true (hidden_at nodes k) (require_holds (not (hidden_at nodes k)) (HiddenElsewhere i) p.0 p.1) in
      go (eqb j k) refl shown d (none_hidden_lem i js x p.2 j)
    where
      go : (b : Bool) → eqb j k ≡ b → hidden_at nodes k ≡ false → elim b [ true ↦ true | false ↦ is_done j js ] ≡ true
          → (is_done j js ≡ true → hidden_at nodes j ≡ false) → hidden_at nodes j ≡ false
      go true q shown d rest = ap (hidden_at nodes) (eqb-true j k q) ∙ shown
      go false q shown d rest = rest d

  all_shown : (i : ℕ) (js : List ℕ) → ((j : ℕ) → is_done j js ≡ true → hidden_at nodes j ≡ false) → none_hidden nodes i js ≡ passed tt
  unfolding none_hidden require
  all_shown i [] h = refl
  all_shown i (k ∷ js) h = rw (h k (done_first k js)) (all_shown i js (λ j d. h j (done_later j k js d)))

  -- a node is a case, hidden, or asks that none of its children is hidden
  data Sort : Node → Type 0 where
    of_case : (a b : ℕ) → Sort (case a b)
    of_hidden : (hash : List ℕ) → Sort (hidden hash)
    of_other : (n : Node) → ((i : ℕ) → allowed nodes i n ≡ none_hidden nodes i (children n)) → ((a b : ℕ) → n ≡ case a b → ⊥)
        → ((hash : List ℕ) → n ≡ hidden hash → ⊥) → Sort n

  sort : (n : Node) → Sort n
  unfolding allowed none_hidden children
  sort (comp a b) = of_other (comp a b) (λ i. refl) (λ a b e. clash (cc)) (λ hash e. clash (cc))
  sort (case a b) = of_case a b
  sort (pair a b) = of_other (pair a b) (λ i. refl) (λ a b e. clash (cc)) (λ hash e. clash (cc))
  sort (disconnect a b) = of_other (disconnect a b) (λ i. refl) (λ a b e. clash (cc)) (λ hash e. clash (cc))
  sort (injl a) = of_other (injl a) (λ i. refl) (λ a b e. clash (cc)) (λ hash e. clash (cc))
  sort (injr a) = of_other (injr a) (λ i. refl) (λ a b e. clash (cc)) (λ hash e. clash (cc))
  sort (take a) = of_other (take a) (λ i. refl) (λ a b e. clash (cc)) (λ hash e. clash (cc))
  sort (drop a) = of_other (drop a) (λ i. refl) (λ a b e. clash (cc)) (λ hash e. clash (cc))
  sort (disconnect1 a) = of_other (disconnect1 a) (λ i. refl) (λ a b e. clash (cc)) (λ hash e. clash (cc))
  sort iden = of_other iden (λ i. refl) (λ a b e. clash (cc)) (λ hash e. clash (cc))
  sort unit = of_other unit (λ i. refl) (λ a b e. clash (cc)) (λ hash e. clash (cc))
  sort witness = of_other witness (λ i. refl) (λ a b e. clash (cc)) (λ hash e. clash (cc))
  sort (fail bytes) = of_other (fail bytes) (λ i. refl) (λ a b e. clash (cc)) (λ hash e. clash (cc))
  sort (hidden bytes) = of_hidden bytes
  sort (word n bits) = of_other (word n bits) (λ i. refl) (λ a b e. clash (cc)) (λ hash e. clash (cc))

  -- what node i asks, in the terms of the report
  record Asks (i : ℕ) (n : Node) : Type 0 where
    under_case : (j : ℕ) → is_done j (children n) ≡ true → IsHidden nodes j → IsCase n
    one_branch : (a b : ℕ) → n ≡ case a b → IsHidden nodes a → IsHidden nodes b → ⊥
    no_repeat : (j : ℕ) (hash : List ℕ) → j < i → node_at nodes j ≡ hidden hash → n ≡ hidden hash → ⊥

  case_asks : (a b : ℕ) → not (every (hidden_at nodes a ∷ hidden_at nodes b ∷ [])) ≡ true → IsHidden nodes a → IsHidden nodes b → ⊥
  unfolding every
  case_asks a b e h k =
      not_both (all_every (hidden_at nodes a ∷ hidden_at nodes b ∷ []) (test_hidden a h, (test_hidden b k, tt)))
      (not-true (every (hidden_at nodes a ∷ hidden_at nodes b ∷ [])) e)

  allowed_asks : (i : ℕ) (n : Node) (x : Unit {0}) → allowed nodes i n ≡ passed x → Sort n → Asks i n
  unfolding allowed children is_done
  allowed_asks i n x e (of_case a b) = record {
    under_case = λ j d h. (a, b, refl);
    one_branch = λ c d q h k.
        (let p : c ≡ a = cc in
        let r : d ≡ b = cc in
        case_asks a b (require_holds (not (every (hidden_at nodes a ∷ hidden_at nodes b ∷ []))) (BothHidden i) x e)
        (subst (IsHidden nodes) p h) (subst (IsHidden nodes) r k));
    no_repeat = λ j hash l h q. clash (cc);
  }
  allowed_asks i n x e (of_hidden hash) = record {
    under_case = λ j d h. clash (cc);
    one_branch = λ a b q h k. clash (cc);
    no_repeat = λ j other l h q.
        (let r : other ≡ hash = cc in
        let none = not-true (any_below i (hides nodes hash)) (require_holds (not (any_below i (hides nodes hash))) (NodeRepeated i) x e) in
        not_both (test_hides hash j (h ∙ ap hidden r)) (none_below i (hides nodes hash) none j l));
  }
  allowed_asks i _ x e (of_other n p q r) = record {
    under_case = λ j d h. absurd (not_both (test_hidden j h) (none_hidden_lem i (children n) x (sym (p i) ∙ e) j d));
    one_branch = λ a b k h l. absurd (q a b k);
    no_repeat = λ j hash l h k. absurd (r hash k);
  }

  both_false : (a b : ℕ) → (IsHidden nodes a → IsHidden nodes b → ⊥) → not (every (hidden_at nodes a ∷ hidden_at nodes b ∷ [])) ≡ true
  unfolding every
  both_false a b h = go (hidden_at nodes a) (hidden_at nodes b) refl refl
    where
      go : (x y : Bool) → hidden_at nodes a ≡ x → hidden_at nodes b ≡ y → not (every (x ∷ y ∷ [])) ≡ true
      go true true p q = absurd (h (hidden_test a p) (hidden_test b q))
      go true false p q = refl
      go false y p q = refl

  asks_allowed : (i : ℕ) (n : Node) → Asks i n → Sort n → allowed nodes i n ≡ passed tt
  unfolding allowed
  asks_allowed i n h (of_case a b) = holds_require _ _ (both_false a b (h.one_branch a b refl))
  asks_allowed i n h (of_hidden hash) =
      holds_require _ _ (ap not (below_none i (hides nodes hash) (λ j l. not_true-false _ (λ e. h.no_repeat j hash l (hides_test hash j e) refl))))
  asks_allowed i _ h (of_other n p q r) =
      p i ∙ all_shown i (children n) (λ j d. not_true-false _ (λ e. (let c = h.under_case j d (hidden_test j e) in q c.0 c.1 c.2)))

  -- hidden nodes stand where they may exactly if each node is allowed and the last is not hidden
  pub allowed_places : ((i : ℕ) → i < length nodes → allowed nodes i (node_at nodes i) ≡ passed tt)
      → hidden_at nodes (length nodes - 1) ≡ false → HiddenPlaces nodes
  allowed_places h last = record {
    under_case = λ i j l d k. (asks i l).under_case j d k;
    one_branch = λ i a b l p u v. (asks i l).one_branch a b p u v;
    no_repeat = λ i j hash m l p q. (asks j m).no_repeat i hash l p q;
    last_shown = λ k. not_both (test_hidden (length nodes - 1) k) last;
  }
    where
      asks : (i : ℕ) → i < length nodes → Asks i (node_at nodes i)
      asks i l = allowed_asks i (node_at nodes i) tt (h i l) (sort (node_at nodes i))

  pub places_allowed : HiddenPlaces nodes → (i : ℕ) → i < length nodes → allowed nodes i (node_at nodes i) ≡ passed tt
  places_allowed p i l = asks_allowed i (node_at nodes i) (record {
    under_case = λ j d k. p.under_case i j l d k;
    one_branch = λ a b q u v. p.one_branch i a b l q u v;
    no_repeat = λ j hash m q r. p.no_repeat j i hash l m q r;
  }) (sort (node_at nodes i))

  pub places_last : HiddenPlaces nodes → hidden_at nodes (length nodes - 1) ≡ false
  places_last p = not_true-false _ (λ e. p.last_shown (hidden_test (length nodes - 1) e))
