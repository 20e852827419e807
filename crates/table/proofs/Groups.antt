-- What the groups of kinds have in common: how many children, whether hidden. A law is shown kind by kind.
use mathlib.Core.Path.{◌≡◌, refl, sym, ap, ◌∙◌}
use mathlib.Core.Bool.{true, false}
use mathlib.Core.List.{List, [], ◌∷◌}
use Prim.Native.Nat.{ℕ, zero, suc, ◌<◌, ◌≤◌}
use native.Mathlib.Omega.{arith}
use lib.Dec.{eqb}
use lib.ListN.{length, get_or, take, length-take, get_or-eq_default}
use borrow.Author.Tests.{ne_eqb}
use Rattle.report.specs.Canonical.{children}
use Rattle.scope.specs.Nodes.{Kind, k_comp, k_case, k_pair, k_disconnect, k_injl, k_injr, k_take, k_drop, k_iden, k_unit, k_fail, k_disconnect1, k_witness, k_hidden, k_word, k_unknown, kind_of, node_of, on_hidden}
use Rattle.table.specs.Lent.{child_count, hidden_kind, hash_is}

-- the children are the first numbers, as many as the kind has
pub children_taken : (bits hashes : List ℕ) (kind : Kind) (a b : ℕ)
    → children (node_of bits hashes kind a b) ≡ take (length (children (node_of [] [] kind 0 0))) (a ∷ b ∷ [])
unfolding children node_of
children_taken bits hashes k_comp a b = refl
children_taken bits hashes k_case a b = refl
children_taken bits hashes k_pair a b = refl
children_taken bits hashes k_disconnect a b = refl
children_taken bits hashes k_injl a b = refl
children_taken bits hashes k_injr a b = refl
children_taken bits hashes k_take a b = refl
children_taken bits hashes k_drop a b = refl
children_taken bits hashes k_iden a b = refl
children_taken bits hashes k_unit a b = refl
children_taken bits hashes k_fail a b = refl
children_taken bits hashes k_disconnect1 a b = refl
children_taken bits hashes k_witness a b = refl
children_taken bits hashes k_hidden a b = refl
children_taken bits hashes k_word a b = refl
children_taken bits hashes k_unknown a b = refl

-- so they are the same whatever the bits and the bytes
pub same_children : (bits hashes : List ℕ) (kind : Kind) (a b : ℕ) → children (node_of bits hashes kind a b) ≡ children (node_of [] [] kind a b)
same_children bits hashes kind a b = children_taken bits hashes kind a b ∙ sym (children_taken [] [] kind a b)

-- at most two
pub few_children : (bits hashes : List ℕ) (kind : Kind) (a b : ℕ) → length (children (node_of bits hashes kind a b)) ≤ 2
few_children bits hashes kind a b =
    omega (arith, ap length (children_taken bits hashes kind a b), length-take (length (children (node_of [] [] kind 0 0))) (a ∷ b ∷ []))

first_taken : (n a b i : ℕ) → 1 ≤ n → get_or (take n (a ∷ b ∷ [])) 0 i ≡ a
first_taken zero a b i h = absurd (omega arith)
first_taken (suc n) a b i h = refl

no_first : (n a b i : ℕ) → n < 1 → get_or (take n (a ∷ b ∷ [])) 0 i ≡ i
no_first zero a b i h = refl
no_first (suc n) a b i h = absurd (omega arith)

second_taken : (n a b i : ℕ) → 2 ≤ n → get_or (take n (a ∷ b ∷ [])) 1 i ≡ b
second_taken zero a b i h = absurd (omega arith)
second_taken (suc zero) a b i h = absurd (omega arith)
second_taken (suc (suc n)) a b i h = refl

no_second : (n a b i : ℕ) → n < 2 → get_or (take n (a ∷ b ∷ [])) 1 i ≡ i
no_second zero a b i h = refl
no_second (suc zero) a b i h = refl
no_second (suc (suc n)) a b i h = absurd (omega arith)

module _ (kind a b i : ℕ) where
  pub left_first : 1 ≤ child_count kind → get_or (children (node_of [] [] (kind_of kind) a b)) 0 i ≡ a
  unfolding child_count
  left_first h = ap (λ (l : List ℕ). get_or l 0 i) (children_taken [] [] (kind_of kind) a b) ∙ first_taken _ a b i h

  pub left_none : child_count kind < 1 → get_or (children (node_of [] [] (kind_of kind) a b)) 0 i ≡ i
  unfolding child_count
  left_none h = ap (λ (l : List ℕ). get_or l 0 i) (children_taken [] [] (kind_of kind) a b) ∙ no_first _ a b i h

  pub right_second : 2 ≤ child_count kind → get_or (children (node_of [] [] (kind_of kind) a b)) 1 i ≡ b
  unfolding child_count
  right_second h = ap (λ (l : List ℕ). get_or l 1 i) (children_taken [] [] (kind_of kind) a b) ∙ second_taken _ a b i h

  pub right_none : child_count kind < 2 → get_or (children (node_of [] [] (kind_of kind) a b)) 1 i ≡ i
  unfolding child_count
  right_none h = ap (λ (l : List ℕ). get_or l 1 i) (children_taken [] [] (kind_of kind) a b) ∙ no_second _ a b i h

-- what is made of a hidden node is made of its hash, and what is made of any other is the same for all
pub by_hidden : {X : Type 0} (bits hashes : List ℕ) (kind : Kind) (a b : ℕ) (f : List ℕ → X) (other : X)
    → on_hidden (node_of bits hashes kind a b) f other
    ≡ elim (on_hidden (node_of [] [] kind 0 0) (λ hash. true) false) [ true ↦ f (hash_is (node_of [] hashes kind a b)) | false ↦ other ]
unfolding on_hidden node_of
by_hidden bits hashes k_comp a b f other = refl
by_hidden bits hashes k_case a b f other = refl
by_hidden bits hashes k_pair a b f other = refl
by_hidden bits hashes k_disconnect a b f other = refl
by_hidden bits hashes k_injl a b f other = refl
by_hidden bits hashes k_injr a b f other = refl
by_hidden bits hashes k_take a b f other = refl
by_hidden bits hashes k_drop a b f other = refl
by_hidden bits hashes k_iden a b f other = refl
by_hidden bits hashes k_unit a b f other = refl
by_hidden bits hashes k_fail a b f other = refl
by_hidden bits hashes k_disconnect1 a b f other = refl
by_hidden bits hashes k_witness a b f other = refl
by_hidden bits hashes k_hidden a b f other = refl
by_hidden bits hashes k_word a b f other = refl
by_hidden bits hashes k_unknown a b f other = refl

-- what holds of the fifteen kinds and of every number above them holds of all numbers
pub by_kind : (P : ℕ → Type 0) → P 0 → P 1 → P 2 → P 3 → P 4 → P 5 → P 6 → P 7 → P 8 → P 9 → P 10 → P 11 → P 12 → P 13 → P 14
    → ((k : ℕ) → 14 < k → P k) → (k : ℕ) → P k
by_kind P a b c d e f g h i j k l m n o rest zero = a
by_kind P a b c d e f g h i j k l m n o rest (suc zero) = b
by_kind P a b c d e f g h i j k l m n o rest (suc (suc zero)) = c
by_kind P a b c d e f g h i j k l m n o rest (suc (suc (suc zero))) = d
by_kind P a b c d e f g h i j k l m n o rest (suc (suc (suc (suc zero)))) = e
by_kind P a b c d e f g h i j k l m n o rest (suc (suc (suc (suc (suc zero))))) = f
by_kind P a b c d e f g h i j k l m n o rest (suc (suc (suc (suc (suc (suc zero)))))) = g
by_kind P a b c d e f g h i j k l m n o rest (suc (suc (suc (suc (suc (suc (suc zero))))))) = h
by_kind P a b c d e f g h i j k l m n o rest (suc (suc (suc (suc (suc (suc (suc (suc zero)))))))) = i
by_kind P a b c d e f g h i j k l m n o rest (suc (suc (suc (suc (suc (suc (suc (suc (suc zero))))))))) = j
by_kind P a b c d e f g h i j k l m n o rest (suc (suc (suc (suc (suc (suc (suc (suc (suc (suc zero)))))))))) = k
by_kind P a b c d e f g h i j k l m n o rest (suc (suc (suc (suc (suc (suc (suc (suc (suc (suc (suc zero))))))))))) = l
by_kind P a b c d e f g h i j k l m n o rest (suc (suc (suc (suc (suc (suc (suc (suc (suc (suc (suc (suc zero)))))))))))) = m
by_kind P a b c d e f g h i j k l m n o rest (suc (suc (suc (suc (suc (suc (suc (suc (suc (suc (suc (suc (suc zero))))))))))))) = n
by_kind P a b c d e f g h i j k l m n o rest (suc (suc (suc (suc (suc (suc (suc (suc (suc (suc (suc (suc (suc (suc zero)))))))))))))) = o
by_kind P a b c d e f g h i j k l m n o rest (suc (suc (suc (suc (suc (suc (suc (suc (suc (suc (suc (suc (suc (suc (suc x))))))))))))))) = rest _ (omega arith)

-- a number above the kinds is no kind
pub unknown : (k : ℕ) → 14 < k → kind_of k ≡ k_unknown
unfolding kind_of
unknown k h =
    get_or-eq_default
    (k_comp ∷ k_case ∷ k_pair ∷ k_disconnect ∷ k_injl ∷ k_injr ∷ k_take ∷ k_drop ∷ k_iden ∷ k_unit ∷ k_fail ∷ k_disconnect1 ∷ k_witness ∷ k_hidden ∷ k_word ∷ [])
    k_unknown h

-- whether a kind is hidden
pub hidden_by : (k : ℕ) → hidden_kind k ≡ eqb k 13
unfolding hidden_kind on_hidden node_of kind_of
hidden_by =
    by_kind (λ k. hidden_kind k ≡ eqb k 13)
    refl refl refl refl refl refl refl refl refl refl refl refl refl refl refl
    (λ k h. ap (λ (x : Kind). on_hidden (node_of [] [] x 0 0) (λ hash. true) false) (unknown k h) ∙ rw (ne_eqb k 13 (omega arith)))

-- only a node of the kind hidden has a hash
pub no_hash : (hashes : List ℕ) (k a b : ℕ) → (k ≡ 13 → ⊥) → hash_is (node_of [] hashes (kind_of k) a b) ≡ []
unfolding on_hidden node_of kind_of
no_hash hashes k a b =
    by_kind (λ k. (k ≡ 13 → ⊥) → hash_is (node_of [] hashes (kind_of k) a b) ≡ [])
    (λ n. refl) (λ n. refl) (λ n. refl) (λ n. refl) (λ n. refl) (λ n. refl) (λ n. refl) (λ n. refl) (λ n. refl) (λ n. refl) (λ n. refl) (λ n. refl) (λ n. refl)
    (λ n. absurd (n refl)) (λ n. refl)
    (λ k h n. ap (λ (x : Kind). hash_is (node_of [] hashes x a b)) (unknown k h))
    k
