-- Two equal nodes, in words: the same node of the report, of no exempt kind, at the same arrow. The test holds exactly of such nodes, since a
-- node's key tells the node.
use Rattle.std.specs.Prelude.{◌≡◌, refl, Bool, List, [], ◌∷◌, ℕ, ◌<◌, eqb, length, get_or}
use Rattle.std.proofs.Common.{sym, ap, ◌∙◌}
use Rattle.std.proofs.Math.Path.{subst}
use Rattle.std.proofs.Math.Bool.{true, false}
use borrow.Author.Tests.{eqb-true, eq-eqb}
use Rattle.report.specs.Nodes.{Node, comp, case, pair, disconnect, injl, injr, take, drop, disconnect1, iden, unit, witness, fail, hidden, word}
use Rattle.scope.specs.Nodes.{Kind, k_comp, k_case, k_pair, k_disconnect, k_injl, k_injr, k_take, k_drop, k_iden, k_unit, k_fail, k_disconnect1, k_witness, k_hidden, k_word, k_unknown, kind_of, node_at, no_node}
use Rattle.scope.specs.Equal.{key_of, same_key}
use Rattle.scope.specs.Arrows.{Arrow, source, target, equal_nodes, repeats}
use Rattle.common.specs.Checks.{clash, not_both, every_all, all_every, keys_same, same_keys, none_below, below_none}

-- the kinds that are never held equal
pub data Exempt : Node → Type 0 where
  of_disconnect : {a b : ℕ} → Exempt (disconnect a b)
  of_disconnect1 : {a : ℕ} → Exempt (disconnect1 a)
  of_witness : Exempt witness
  of_hidden : {hash : List ℕ} → Exempt (hidden hash)

-- nodes j and i are equal
pub record EqualNodes (nodes : List Node) (arrows : List Arrow) (j i : ℕ) : Type 0 where
  pub same_node : node_at nodes j ≡ node_at nodes i
  pub compared : Exempt (node_at nodes i) → ⊥
  pub same_source : source arrows j ≡ source arrows i
  pub same_target : target arrows j ≡ target arrows i

-- no two nodes are equal
abbrev pub NoneEqual : (nodes : List Node) → (arrows : List Arrow) → Type 0
NoneEqual nodes arrows = (j i : ℕ) → j < i → i < length nodes → EqualNodes nodes arrows j i → ⊥

-- the node of a kind that has these numbers after it in its key
unfoldable of_kind : Kind → List ℕ → Node
of_kind k_comp rest = comp (get_or rest 0 0) (get_or rest 1 0)
of_kind k_case rest = case (get_or rest 0 0) (get_or rest 1 0)
of_kind k_pair rest = pair (get_or rest 0 0) (get_or rest 1 0)
of_kind k_disconnect rest = no_node
of_kind k_injl rest = injl (get_or rest 0 0)
of_kind k_injr rest = injr (get_or rest 0 0)
of_kind k_take rest = take (get_or rest 0 0)
of_kind k_drop rest = drop (get_or rest 0 0)
of_kind k_iden rest = iden
of_kind k_unit rest = unit
of_kind k_fail rest = fail rest
of_kind k_disconnect1 rest = no_node
of_kind k_witness rest = no_node
of_kind k_hidden rest = no_node
of_kind k_word [] = no_node
of_kind k_word (n ∷ bits) = word n bits
of_kind k_unknown rest = no_node

-- the node of a key
unfoldable of_key : List ℕ → Node
unfolding of_kind kind_of
of_key [] = no_node
of_key (kind ∷ rest) = of_kind (kind_of kind) rest

-- a node is exempt, or it is told by its key
data Told (n : Node) : Type 0 where
  exempt : Exempt n → Told n
  told : (key_of n ≡ [] → ⊥) → of_key (key_of n) ≡ n → Told n

key_told : (n : Node) → Told n
unfolding key_of of_key of_kind kind_of
key_told (comp a b) = told (λ e. clash (cc)) refl
key_told (case a b) = told (λ e. clash (cc)) refl
key_told (pair a b) = told (λ e. clash (cc)) refl
key_told (disconnect a b) = exempt of_disconnect
key_told (injl a) = told (λ e. clash (cc)) refl
key_told (injr a) = told (λ e. clash (cc)) refl
key_told (take a) = told (λ e. clash (cc)) refl
key_told (drop a) = told (λ e. clash (cc)) refl
key_told (disconnect1 a) = exempt of_disconnect1
key_told iden = told (λ e. clash (cc)) refl
key_told unit = told (λ e. clash (cc)) refl
key_told witness = exempt of_witness
key_told (fail bytes) = told (λ e. clash (cc)) refl
key_told (hidden hash) = exempt of_hidden
key_told (word n bits) = told (λ e. clash (cc)) refl

-- the exempt kinds have no key
exempt_none : (n : Node) → Exempt n → key_of n ≡ []
unfolding key_of
exempt_none _ of_disconnect = refl
exempt_none _ of_disconnect1 = refl
exempt_none _ of_witness = refl
exempt_none _ of_hidden = refl

-- nodes with the same key are the same node
same_told : (m n : Node) → key_of m ≡ key_of n → (key_of n ≡ [] → ⊥) → m ≡ n
same_told m n e h = go (key_told m) (key_told n)
  where
    go : Told m → Told n → m ≡ n
    go (exempt x) t = absurd (h (sym e ∙ exempt_none m x))
    go (told g p) (exempt y) = absurd (h (exempt_none n y))
    go (told g p) (told f q) = sym p ∙ ap of_key e ∙ q

module _ (nodes : List Node) (arrows : List Arrow) where
  -- the tests that two equal nodes pass
  abbrev tests : (j i : ℕ) → List Bool
  tests j i =
      same_key (key_of (node_at nodes j)) (key_of (node_at nodes i)) ∷ eqb (source arrows j) (source arrows i)
      ∷ eqb (target arrows j) (target arrows i) ∷ []

  -- THE TEST HOLDS EXACTLY OF EQUAL NODES
  pub test_equal : (j i : ℕ) → equal_nodes nodes arrows j i ≡ true → EqualNodes nodes arrows j i
  unfolding equal_nodes
  test_equal j i e =
      let p = every_all (tests j i) e in
      let k = keys_same (key_of (node_at nodes j)) (key_of (node_at nodes i)) p.0 in
      record {
        same_node = same_told (node_at nodes j) (node_at nodes i) k.0 k.1;
        compared = λ x. k.1 (exempt_none (node_at nodes i) x);
        same_source = eqb-true (source arrows j) (source arrows i) p.1.0;
        same_target = eqb-true (target arrows j) (target arrows i) p.1.1.0;
      }

  pub equal_test : (j i : ℕ) → EqualNodes nodes arrows j i → equal_nodes nodes arrows j i ≡ true
  unfolding equal_nodes
  equal_test j i q =
      all_every (tests j i) (
        subst (λ (n : Node). same_key (key_of n) (key_of (node_at nodes i)) ≡ true) (sym q.same_node) (own (key_told (node_at nodes i))),
        (eq-eqb (source arrows j) (source arrows i) q.same_source, (eq-eqb (target arrows j) (target arrows i) q.same_target, tt)),
      )
    where
      own : Told (node_at nodes i) → same_key (key_of (node_at nodes i)) (key_of (node_at nodes i)) ≡ true
      own (exempt x) = absurd (q.compared x)
      own (told h p) = same_keys (key_of (node_at nodes i)) h

  -- no node repeats an earlier one exactly if no two are equal
  pub none_equal : ((i : ℕ) → i < length nodes → repeats nodes arrows i ≡ false) → NoneEqual nodes arrows
  unfolding repeats
  none_equal h j i l m q =
      not_both (equal_test j i q) (none_below i (λ k. equal_nodes nodes arrows k i) (h i m) j l)

  pub equal_none : NoneEqual nodes arrows → (i : ℕ) → i < length nodes → repeats nodes arrows i ≡ false
  unfolding repeats
  equal_none h i m = below_none i (λ k. equal_nodes nodes arrows k i) (λ j l. unlike j l (equal_nodes nodes arrows j i) refl)
    where
      unlike : (j : ℕ) → j < i → (b : Bool) → equal_nodes nodes arrows j i ≡ b → equal_nodes nodes arrows j i ≡ false
      unlike j l true e = absurd (h j i l m (test_equal j i e))
      unlike j l false e = e
