-- The walk passes exactly if the table is canonical, as the report's plain walk has it, and its hidden nodes stand where they may.
-- Node by node: with the nodes below k done a walk passes with those below m done exactly if the plain walk does just so and the nodes from k to m are allowed.
use Rattle.std.specs.Prelude.{◌≡◌, Bool, take, get_or}
use Rattle.std.proofs.Math.Path.{refl, sym, ap, ap₂, subst, subst₂, fun_ext}
use Rattle.std.proofs.Common.{◌∙◌, not-suc-le-zero, length-take-le, get_or-take}
use Rattle.std.proofs.Math.Bool.{true, false, not}
use mathlib.Core.List.{List, [], ◌∷◌, ◌++◌, append_assoc, append-nil}
use Prim.Native.Nat.{ℕ, zero, suc, ◌+◌, ◌-◌, ◌≤◌, ◌<◌}
use Rattle.std.proofs.Math.Nat.{zero-add}
use native.Mathlib.Omega.{arith}
use Rattle.std.proofs.Math.Decide.{dec_lt}
use Rattle.std.proofs.Math.ListN.{length, length-append, get_or-eq_default}
use Rattle.std.proofs.Math.Seq.{get_or-append_seam}
use Rattle.std.proofs.lemmas.Bool.{not-true}
use Rattle.refusal.specs.declared.Refusal.TheVariants.{HiddenElsewhere}
use Rattle.report.specs.Table.{entries}
use Rattle.report.specs.Nodes.{Node}
use Rattle.report.specs.Canonical.{children, is_done, up_from, order, Canonical}
use Rattle.report.specs.Canonical.{walk_each as plain_each, walk_make as plain_make}
use Rattle.scope.specs.Check.{Check, passed, require}
use Rattle.scope.specs.Nodes.{no_node, node_at}
use Rattle.scope.specs.Walk.{hidden_at, allowed, walk_each, walk_make, walk_from, check_walk}
use Rattle.common.specs.Tables.{length-entries, entries_at, before_none}
use Rattle.common.specs.Checks.{clash, require_holds, holds_require, both_passed, then_passes}
use Rattle.exactness.specs.Walk.{Counted, of_upto, arrive, Walks, walk_in, walk_node, walks_before}
use Rattle.exactness.specs.Walk.{length-up_from, up_from_more}
use Rattle.exactness.proofs.Walk.{upto_count, arrive-passed, arrive_passes, each_counted, walk_node_counted, walk_at, walk_past, walk_counted, walk_passed}
use Rattle.exactness.specs.Hidden.{HiddenPlaces}
use Rattle.exactness.proofs.Places.{allowed_places, places_allowed, places_last}

-- a part of 0, 1, .. from the front is one itself
front_up_from : (a m : ℕ) (d more : List ℕ) → d ++ more ≡ up_from a m → (d ≡ up_from a (length d)) × (length d ≤ m)
unfolding up_from
front_up_from a m [] more e = (refl, omega arith)
front_up_from a zero (x ∷ d) more e = clash (cc)
front_up_from a (suc m) (x ∷ d) more e =
    let p : x ≡ a = cc in
    let q : d ++ more ≡ up_from (suc a) m = cc in
    let ih = front_up_from (suc a) m d more q in
    (ap₂ ◌∷◌ p ih.0, omega arith)

same_last : (xs : List ℕ) (x y : ℕ) → xs ++ x ∷ [] ≡ xs ++ y ∷ [] → x ≡ y
same_last xs x y e = sym (get_or-append_seam xs x [] 0) ∙ ap (λ (l : List ℕ). get_or l (length xs) 0) e ∙ get_or-append_seam xs y [] 0

-- plain walks, by the node that they start from, and the one from node j
abbrev Plains : Type 0
Plains = List (List ℕ → List ℕ)

abbrev plain_in : Plains → (j : ℕ) → List ℕ → List ℕ
plain_in walks j = get_or walks j (λ d. d)

-- a plain walk only adds to the nodes done
Grows : (List ℕ → List ℕ) → Type 0
Grows walk = (d : List ℕ) → (more : List ℕ) × (walk d ≡ d ++ more)

each_grows : (walks : Plains) → ((j : ℕ) → Grows (plain_in walks j)) → (js : List ℕ) → Grows (plain_each walks js)
unfolding plain_each Grows
each_grows walks h [] d = ([], sym (append-nil d))
each_grows walks h (j ∷ js) d =
    let one = h j d in
    let rest = each_grows walks h js (plain_in walks j d) in
    (one.0 ++ rest.0, rest.1 ∙ ap (λ (l : List ℕ). l ++ rest.0) one.1 ∙ append_assoc d one.0 rest.0)

-- the plain walk from node i
plain_node : Bool → (i : ℕ) → Plains → Node → List ℕ → List ℕ
plain_node true i walks n d = d
plain_node false i walks n d = plain_each walks (children n) d ++ i ∷ []

node_grows : (b : Bool) (i : ℕ) (walks : Plains) → ((j : ℕ) → Grows (plain_in walks j)) → (n : Node) (d : List ℕ)
    → (more : List ℕ) × (plain_node b i walks n d ≡ d ++ more)
unfolding Grows plain_node
node_grows true i walks h n d = ([], sym (append-nil d))
node_grows false i walks h n d =
    let e = each_grows walks h (children n) d in
    (e.0 ++ i ∷ [], ap (λ (l : List ℕ). l ++ i ∷ []) e.1 ∙ append_assoc d e.0 (i ∷ []))

module _ (nodes : List Node) where
  -- node j may stand where it does
  Allowed : (j : ℕ) → Type 0
  Allowed j = allowed nodes j (node_at nodes j) ≡ passed tt

  -- the plain walk has done just the nodes from k to m, and each is allowed
  Plain : (k m : ℕ) → List ℕ → Type 0
  Plain k m d = (d ≡ up_from 0 m) × ((j : ℕ) → k ≤ j → j < m → Allowed j)

  -- a walk passes exactly as the plain walk goes
  record Matches (walk : List ℕ → Check (List ℕ)) (plain : List ℕ → List ℕ) : Type 0 where
    counted : (k : ℕ) → Counted k (walk (up_from 0 k))
    grows : Grows plain
    there : (k m : ℕ) → walk (up_from 0 k) ≡ passed (up_from 0 m) → Plain k m (plain (up_from 0 k))
    back : (k m : ℕ) → Plain k m (plain (up_from 0 k)) → walk (up_from 0 k) ≡ passed (up_from 0 m)

  same_count : (k m : ℕ) → up_from 0 k ≡ up_from 0 m → k ≡ m
  same_count k m e = sym (length-up_from 0 k) ∙ ap length e ∙ length-up_from 0 m

  stays : Matches (λ d. passed d) (λ d. d)
  unfolding Grows Plain
  stays = record {
    counted = λ k. of_upto k (omega arith);
    grows = λ d. ([], sym (append-nil d));
    there = λ k m e. (let p : up_from 0 k ≡ up_from 0 m = cc in let q = same_count k m p in (p, λ j l h. absurd (omega arith)));
    back = λ k m h. ap passed h.0;
  }

  -- a plain walk that comes to the nodes below m was at those below some count on its way
  front_count : (k m : ℕ) (d more : List ℕ) → (rest : List ℕ) × (d ≡ up_from 0 k ++ rest) → d ++ more ≡ up_from 0 m
      → (c : ℕ) × (k ≤ c) × (c ≤ m) × (d ≡ up_from 0 c)
  front_count k m d more g e =
      let f = front_up_from 0 m d more e in
      (length d, omega (arith, ap length g.1, length-append (up_from 0 k) g.0, length-up_from 0 k), f.1, f.0)

  module _ (walks : Walks) (plains : Plains) (match : (j : ℕ) → Matches (walk_in walks j) (plain_in plains j)) where
    each_there : (js : List ℕ) (k m : ℕ) → walk_each nodes walks js (up_from 0 k) ≡ passed (up_from 0 m) → Plain k m (plain_each plains js (up_from 0 k))
    unfolding walk_each plain_each Plain
    each_there [] k m e = stays.there k m e
    each_there (j ∷ js) k m e =
        let p = both_passed (walk_in walks j (up_from 0 k)) (walk_each nodes walks js) (up_from 0 m) e in
        let c = upto_count nodes k _ p.0 ((match j).counted k) p.1 in
        let one = (match j).there k c.0 (p.1 ∙ ap {B = Check (List ℕ)} passed c.2) in
        let rest = each_there js c.0 m (ap (walk_each nodes walks js) (sym c.2) ∙ p.2) in (
          ap (plain_each plains js) one.0 ∙ rest.0,
          λ i l h. elim (dec_lt i c.0) [ yes u ↦ one.1 i l u | no v ↦ rest.1 i (omega arith) h ],
        )

    each_back : (js : List ℕ) (k m : ℕ) → Plain k m (plain_each plains js (up_from 0 k)) → walk_each nodes walks js (up_from 0 k) ≡ passed (up_from 0 m)
    unfolding walk_each plain_each Plain Grows
    each_back [] k m h = ap passed h.0
    each_back (j ∷ js) k m h =
        let one : List ℕ = plain_in plains j (up_from 0 k) in
        let g = each_grows plains (λ i. (match i).grows) js one in
        let c = front_count k m one g.0 ((match j).grows (up_from 0 k)) (sym g.1 ∙ h.0) in
        let first = (match j).back k c.0 (c.3, λ i l u. h.1 i l (omega arith)) in
        then_passes _ (walk_each nodes walks js) (up_from 0 c.0) first
        ∙ each_back js c.0 m (ap (plain_each plains js) (sym c.3) ∙ h.0, λ i l u. h.1 i (omega arith) u)

    -- a node that is not done: its children first, then itself
    arrive_there : (i k c m : ℕ) (d : List ℕ) → Plain k c d → arrive nodes i (node_at nodes i) (up_from 0 c) ≡ passed (up_from 0 m)
        → Plain k m (d ++ i ∷ [])
    unfolding Plain Allowed
    arrive_there i k c m d h e =
        let a = arrive-passed nodes i (node_at nodes i) c m e in
        let size : suc c ≡ m = omega arith in (
          ap₂ (λ (l : List ℕ) (j : ℕ). l ++ j ∷ []) h.0 (a.0 ∙ sym (zero-add c)) ∙ up_from_more 0 c ∙ ap (up_from 0) size,
          λ j l u. elim (dec_lt j c) [ yes v ↦ h.1 j l v | no v ↦ (let q : i ≡ j = omega arith in subst Allowed q a.2) ],
        )

    node_there : (b : Bool) (i : ℕ) (k m : ℕ) → walk_node nodes b i walks (node_at nodes i) (up_from 0 k) ≡ passed (up_from 0 m)
        → Plain k m (plain_node b i plains (node_at nodes i) (up_from 0 k))
    unfolding walk_node plain_node
    node_there true i k m e = stays.there k m e
    node_there false i k m e =
        let p = both_passed (walk_each nodes walks (children (node_at nodes i)) (up_from 0 k)) (arrive nodes i (node_at nodes i)) (up_from 0 m) e in
        let c = upto_count nodes k _ p.0 (each_counted nodes walks (λ j. (match j).counted) (children (node_at nodes i)) k) p.1 in
        arrive_there i k c.0 m _ (each_there (children (node_at nodes i)) k c.0 (p.1 ∙ ap {B = Check (List ℕ)} passed c.2))
        (ap (arrive nodes i (node_at nodes i)) (sym c.2) ∙ p.2)

    arrive_back : (i k c m : ℕ) (d : List ℕ) → k ≤ c → d ≡ up_from 0 c → Plain k m (d ++ i ∷ [])
        → Plain k c d × (arrive nodes i (node_at nodes i) (up_from 0 c) ≡ passed (up_from 0 m))
    unfolding Plain Allowed
    arrive_back i k c m d b e h =
        let size : suc c ≡ m = omega (arith, ap length e, length-up_from 0 c, ap length h.0, length-up_from 0 m, length-append d (i ∷ [])) in
        let both : up_from 0 c ++ i ∷ [] ≡ up_from 0 c ++ (0 + c) ∷ [] =
        ap (λ (l : List ℕ). l ++ i ∷ []) (sym e) ∙ h.0 ∙ ap (up_from 0) (sym size) ∙ sym (up_from_more 0 c) in
        let next : i ≡ c = same_last (up_from 0 c) i (0 + c) both ∙ zero-add c in (
          (e, λ j l u. h.1 j l (omega arith)),
          ap (λ (j : ℕ). arrive nodes j (node_at nodes j) (up_from 0 c)) next
              ∙ arrive_passes nodes (node_at nodes c) c (h.1 c b (omega arith)) ∙ ap (λ (j : ℕ). passed (up_from 0 j)) size,
        )

    node_back : (b : Bool) (i : ℕ) (k m : ℕ) → Plain k m (plain_node b i plains (node_at nodes i) (up_from 0 k))
        → walk_node nodes b i walks (node_at nodes i) (up_from 0 k) ≡ passed (up_from 0 m)
    unfolding walk_node plain_node Plain Grows
    node_back true i k m h = ap passed h.0
    node_back false i k m h =
        let one : List ℕ = plain_each plains (children (node_at nodes i)) (up_from 0 k) in
        let c = front_count k m one (i ∷ []) (each_grows plains (λ j. (match j).grows) (children (node_at nodes i)) (up_from 0 k)) h.0 in
        let r = arrive_back i k c.0 m one c.1 c.3 h in
        then_passes _ (arrive nodes i (node_at nodes i)) (up_from 0 c.0) (each_back (children (node_at nodes i)) k c.0 r.0) ∙ r.1

  plains_before : (i : ℕ) → Plains
  plains_before i = take i (entries plain_make nodes)

  -- the plain walk from node i
  plain_from : (i : ℕ) → List ℕ → List ℕ
  plain_from i = get_or (entries plain_make nodes) i (λ d. d)

  plain_make_lem : (walks : Plains) (n : Node) (d : List ℕ) → plain_make walks n d ≡ plain_node (is_done (length walks) d) (length walks) walks n d
  unfolding plain_make plain_node
  plain_make_lem walks n d = go (is_done (length walks) d)
    where
      go : (b : Bool) → elim b [ true ↦ d | false ↦ plain_each walks (children n) d ++ length walks ∷ [] ] ≡ plain_node b (length walks) walks n d
      go true = refl
      go false = refl

  plain_at : (i : ℕ) → i < length nodes → (d : List ℕ) → plain_from i d ≡ plain_node (is_done i d) i (plains_before i) (node_at nodes i) d
  unfolding plain_from node_at plains_before
  plain_at i h d =
      ap (λ (w : List ℕ → List ℕ). w d) (entries_at plain_make nodes i (λ d. d) no_node h)
      ∙ plain_make_lem (plains_before i) (node_at nodes i) d
      ∙ ap (λ (l : ℕ). plain_node (is_done l d) l (plains_before i) (node_at nodes i) d)
      (length-take-le i (entries plain_make nodes) (omega (arith, length-entries plain_make nodes)))

  plain_past : (i : ℕ) → length nodes ≤ i → (d : List ℕ) → plain_from i d ≡ d
  unfolding plain_from
  plain_past i h d =
      ap (λ (w : List ℕ → List ℕ). w d) (get_or-eq_default (entries plain_make nodes) (λ d. d) (omega (arith, length-entries plain_make nodes)))

  -- walks that go alike match where one of them does
  alike : (w w' : List ℕ → Check (List ℕ)) (p p' : List ℕ → List ℕ) → ((d : List ℕ) → w d ≡ w' d) → ((d : List ℕ) → p d ≡ p' d)
      → Matches w' p' → Matches w p
  alike w w' p p' e f h = subst₂ Matches (fun_ext (λ d. sym (e d))) (fun_ext (λ d. sym (f d))) h

  node_matches : (i : ℕ) → i < length nodes → ((j : ℕ) → Matches (walk_in (walks_before nodes i) j) (plain_in (plains_before i) j))
      → Matches (walk_from nodes i) (plain_from i)
  unfolding Grows
  node_matches i h match =
      alike _ (λ d. walk_node nodes (is_done i d) i (walks_before nodes i) (node_at nodes i) d) _
      (λ d. plain_node (is_done i d) i (plains_before i) (node_at nodes i) d)
      (walk_at nodes i h) (plain_at i h) (record {
        counted = λ k. walk_node_counted nodes (is_done i (up_from 0 k)) i (walks_before nodes i) (λ j. (match j).counted) (node_at nodes i) k;
        grows = λ d. node_grows (is_done i d) i (plains_before i) (λ j. (match j).grows) (node_at nodes i) d;
        there = λ k m. node_there (walks_before nodes i) (plains_before i) match (is_done i (up_from 0 k)) i k m;
        back = λ k m. node_back (walks_before nodes i) (plains_before i) match (is_done i (up_from 0 k)) i k m;
      })

  before_matches : (i : ℕ) → i ≤ length nodes → ((j : ℕ) → j < i → Matches (walk_from nodes j) (plain_from j))
      → (j : ℕ) → Matches (walk_in (walks_before nodes i) j) (plain_in (plains_before i) j)
  unfolding walks_before plains_before walk_from plain_from
  before_matches i h below j =
      elim (dec_lt j i) [
        | yes l ↦ subst₂ Matches (sym (get_or-take i (entries (walk_make nodes) nodes) j (λ d. passed d) l))
            (sym (get_or-take i (entries plain_make nodes) j (λ d. d) l)) (below j l)
        | no m ↦ subst₂ Matches (sym (before_none (walk_make nodes) nodes i j (λ d. passed d) h (omega arith)))
            (sym (before_none plain_make nodes i j (λ d. d) h (omega arith))) stays
      ]

  matches_upto : (n i : ℕ) → i < n → Matches (walk_from nodes i) (plain_from i)
  matches_upto zero i l = absurd (not-suc-le-zero l)
  matches_upto (suc n) i l =
      elim (dec_lt i (length nodes)) [
        | yes h ↦ node_matches i h (before_matches i (omega arith) (λ j m. matches_upto n j (omega arith)))
        | no m ↦ alike _ (λ d. passed d) _ (λ d. d) (walk_past nodes i (omega arith)) (plain_past i (omega arith)) stays
      ]

  -- every walk passes exactly as the plain one goes
  walk_matches : (i : ℕ) → Matches (walk_from nodes i) (plain_from i)
  walk_matches i = matches_upto (suc i) i (omega arith)

  -- the whole walk passes exactly if the table is canonical and hidden nodes stand where they may
  pub walk_canonical : 1 ≤ length nodes → check_walk nodes ≡ passed tt → Canonical nodes × HiddenPlaces nodes
  unfolding check_walk order plain_from Plain Allowed up_from
  walk_canonical h e =
      let last : ℕ = length nodes - 1 in
      let p = both_passed (walk_from nodes last []) (λ all. require (not (hidden_at nodes last)) (HiddenElsewhere last)) tt e in
      let c = upto_count nodes 0 _ p.0 (walk_counted nodes last 0) p.1 in
      let done : walk_from nodes last (up_from 0 0) ≡ passed (up_from 0 c.0) = p.1 ∙ ap {B = Check (List ℕ)} passed c.2 in
      let size : c.0 ≡ length nodes = omega (arith, walk_passed nodes last 0 c.0 (omega arith) done) in
      let plain = (walk_matches last).there 0 c.0 done in (
        plain.0 ∙ ap (up_from 0) size,
        allowed_places nodes (λ i l. plain.1 i (omega arith) (omega arith))
            (not-true (hidden_at nodes last) (require_holds (not (hidden_at nodes last)) (HiddenElsewhere last) tt p.2)),
      )

  pub canonical_walk : Canonical nodes → HiddenPlaces nodes → check_walk nodes ≡ passed tt
  unfolding check_walk order plain_from Plain Allowed up_from
  canonical_walk c h =
      let last : ℕ = length nodes - 1 in
      let done : walk_from nodes last [] ≡ passed (up_from 0 (length nodes)) =
      (walk_matches last).back 0 (length nodes) (c, λ j l u. places_allowed nodes h j u) in
      then_passes _ (λ all. require (not (hidden_at nodes last)) (HiddenElsewhere last)) (up_from 0 (length nodes)) done
      ∙ holds_require _ _ (ap not (places_last nodes h))
