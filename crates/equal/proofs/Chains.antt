-- The search for an earlier equal node along a bucket: equal nodes are in one bucket, so those of other buckets need no look; and what the
-- two arrays hold when a node has been entered.
use mathlib.Core.Path.{◌≡◌, refl, sym, ap, ap₂, ◌∙◌, subst}
use mathlib.Core.Bool.{Bool, true, false, not}
use mathlib.Core.List.{List, [], ◌∷◌}
use Prim.Native.Nat.{ℕ, ◌+◌, ◌*◌, ◌-◌, ◌≤◌, ◌<◌, min}
use native.Mathlib.Omega.{arith}
use native.Mathlib.Decide.{ℕ_discrete, dec_lt}
use lib.Dec.{eqb, ltb}
use lib.ListN.{length, get_or, set}
use lib.Seq.{get_or-set_same, get_or-set_other}
use borrow.Author.Tests.{eqb-true, lt-ltb, le-ltb}
use Rattle.scope.specs.Equal.{same_key}
use Rattle.scope.specs.Arrows.{arrow_records, source, target}
use Rattle.std.specs.Prelude.{Option, None, Some}
use Rattle.std.proofs.lemmas.Option.{same_Some}
use Rattle.limits.specs.Limits.{node_count}
use Rattle.scope.specs.Check.{first_failing}
use Rattle.scope.specs.Nodes.{node_records}
use Rattle.common.specs.Checks.{clash, every_all, keys_same, below_none, some_below}
use Rattle.equal.specs.Keys.{key_at, equal_at, fresh, first_repeat}
use Rattle.equal.specs.Buckets.{buckets, key_number, arrow_number, bucket_of, bucket_at, Last, LastOfBucket, Chained, Latest}

module _ (nodes arrows program hashes : List ℕ) where
  abbrev bucket : (i : ℕ) → Option ℕ
  bucket i = bucket_at nodes arrows program hashes i

  abbrev equal : (j i : ℕ) → Bool
  equal j i = equal_at nodes arrows program hashes j i

  -- EQUAL NODES ARE IN ONE BUCKET
  pub one_bucket : (j i : ℕ) → equal j i ≡ true → bucket j ≡ bucket i
  unfolding equal_at bucket_at arrow_number
  one_bucket j i e =
      let A = arrow_records arrows in
      let p = every_all (same_key (key_at nodes arrows program hashes j) (key_at nodes arrows program hashes i)
      ∷ eqb (source A j) (source A i) ∷ eqb (target A j) (target A i) ∷ []) e in
      ap₂ bucket_of (keys_same (key_at nodes arrows program hashes j) (key_at nodes arrows program hashes i) p.0).0
      (ap₂ (λ (s t : ℕ). s * 65536 + t) (eqb-true (source A j) (source A i) p.1.0) (eqb-true (target A j) (target A i) p.1.1.0))

  pub other_bucket : (j i : ℕ) → (bucket j ≡ bucket i → ⊥) → equal j i ≡ false
  other_bucket j i ne = go (equal j i) refl
    where
      go : (b : Bool) → equal j i ≡ b → equal j i ≡ false
      go true e = absurd (ne (one_bucket j i e))
      go false e = e

  -- and a node that has none is equal to no other
  pub unbucketed : (i : ℕ) → bucket i ≡ None → fresh nodes arrows program hashes i ≡ true
  unfolding fresh bucket_at bucket_of key_number equal_at
  unbucketed i h = ap not (below_none i (λ j. equal j i) (λ j l. apart j (equal j i) refl))
    where
      told : (key : List ℕ) (arrow : ℕ) → bucket_of key arrow ≡ None → key ≡ []
      told [] arrow e = refl
      told (x ∷ xs) arrow e = clash (cc)

      apart : (j : ℕ) (b : Bool) → equal j i ≡ b → equal j i ≡ false
      apart j true e =
          let A = arrow_records arrows in
          let p = every_all (same_key (key_at nodes arrows program hashes j) (key_at nodes arrows program hashes i)
          ∷ eqb (source A j) (source A i) ∷ eqb (target A j) (target A i) ∷ []) e in
          absurd ((keys_same (key_at nodes arrows program hashes j) (key_at nodes arrows program hashes i) p.0).1
          (told (key_at nodes arrows program hashes i) (arrow_number A i) h))
      apart j false e = e

  -- THE SEARCH: no node from m on is equal to node i, and the node before m is of its bucket
  pub record Searched (i m : ℕ) : Type 0 where
    pub within : m ≤ i
    pub none_equal : (j : ℕ) → m ≤ j → j < i → equal j i ≡ false
    pub of_bucket : 0 < m → bucket (m - 1) ≡ bucket i

  pub search_starts : (i m : ℕ) → LastOfBucket nodes arrows program hashes m i → Searched i m
  search_starts i m h = record {
    within = h.2.within;
    none_equal = λ j l k. other_bucket j i (λ same. h.2.none_after j l k (same ∙ h.1));
    of_bucket = λ k. h.2.of_bucket k ∙ sym h.1;
  }

  pub search_finds : (i m : ℕ) → Searched i m → 0 < m → equal (m - 1) i ≡ true → not true ≡ fresh nodes arrows program hashes i
  unfolding fresh
  search_finds i m h l e = sym (ap not (some_below i (λ j. equal j i) (m - 1) (omega (arith, h.within)) e))

  pub search_goes_on : (i m b : ℕ) (before : List ℕ) → Searched i m → 0 < m → bucket i ≡ Some b → Chained nodes arrows program hashes before i
      → equal (m - 1) i ≡ false → (get_or before (m - 1) 0 < m) × Searched i (get_or before (m - 1) 0)
  search_goes_on i m b before h l own chained e =
      let here : bucket (m - 1) ≡ bucket i = h.of_bucket l in
      let up = chained (m - 1) b (omega (arith, h.within)) (here ∙ own) in (
        omega (arith, up.within),
        record {
          within = omega (arith, up.within, h.within);
          none_equal = λ j k n. elim (dec_lt j (m - 1)) [
            | yes q ↦ other_bucket j i (λ same. up.none_after j k q (same ∙ own))
            | no q ↦ elim (ℕ_discrete j (m - 1)) [
              | yes s ↦ ap (λ (x : ℕ). equal x i) s ∙ e
              | no s ↦ h.none_equal j (omega arith) n
            ]
          ];
          of_bucket = λ k. up.of_bucket k ∙ sym own;
        },
      )

  pub search_ends : (i m : ℕ) → Searched i m → m ≤ 0 → not false ≡ fresh nodes arrows program hashes i
  unfolding fresh
  search_ends i m h l = sym (ap not (below_none i (λ j. equal j i) (λ j k. h.none_equal j (omega arith) k)))

  -- THE ARRAYS: empty ones, and what they hold when node i is entered, or left out where it has no bucket
  pub latest_empty : (latest : List ℕ) → ((b : ℕ) → b < buckets → get_or latest b 0 ≡ 0) → Latest nodes arrows program hashes latest 0
  latest_empty latest zeros b l = record {
    within = omega (arith, zeros b l);
    none_after = λ j k n e. absurd (omega arith);
    of_bucket = λ k. absurd (omega (arith, zeros b l));
  }

  pub chained_empty : (before : List ℕ) → Chained nodes arrows program hashes before 0
  chained_empty before a b l e = absurd (omega arith)

  -- one node more, of another bucket
  last_kept : (m i b : ℕ) → (bucket i ≡ Some b → ⊥) → Last nodes arrows program hashes m i b → Last nodes arrows program hashes m (i + 1) b
  last_kept m i b ne h = record {
    within = omega (arith, h.within);
    none_after = λ j l k e. elim (ℕ_discrete j i) [ yes s ↦ ne (ap bucket (sym s) ∙ e) | no s ↦ h.none_after j l (omega arith) e ];
    of_bucket = h.of_bucket;
  }

  last_own : (i b : ℕ) → bucket i ≡ Some b → Last nodes arrows program hashes (i + 1) (i + 1) b
  last_own i b own = record {
    within = omega arith;
    none_after = λ j l k e. absurd (omega arith);
    of_bucket = λ l. ap bucket (let q : i + 1 - 1 ≡ i = omega arith in q) ∙ own;
  }

  module _ (i : ℕ) (latest before : List ℕ) (last : Latest nodes arrows program hashes latest i) (chained : Chained nodes arrows program hashes before i) where
    pub latest_passed : bucket i ≡ None → Latest nodes arrows program hashes latest (i + 1)
    latest_passed none b l = last_kept (get_or latest b 0) i b (λ e. clash (let q = sym none ∙ e in cc)) (last b l)

    pub chained_passed : bucket i ≡ None → Chained nodes arrows program hashes before (i + 1)
    chained_passed none a b l e =
        elim (ℕ_discrete a i) [ yes s ↦ clash (let q = sym none ∙ ap bucket (sym s) ∙ e in cc) | no s ↦ chained a b (omega arith) e ]

    module _ (b : ℕ) (own : bucket i ≡ Some b) where
      pub latest_entered : b < length latest → Latest nodes arrows program hashes (set latest b (i + 1)) (i + 1)
      latest_entered h c l = elim (ℕ_discrete c b) [
        | yes s ↦ subst (λ (m : ℕ). Last nodes arrows program hashes m (i + 1) c)
            (sym (ap (λ (x : ℕ). get_or (set latest b (i + 1)) x 0) s ∙ get_or-set_same latest b (i + 1) 0 h))
            (subst (Last nodes arrows program hashes (i + 1) (i + 1)) (sym s) (last_own i b own))
        | no s ↦ subst (λ (m : ℕ). Last nodes arrows program hashes m (i + 1) c) (sym (get_or-set_other latest b c (i + 1) 0 s))
            (last_kept (get_or latest c 0) i c (λ e. s (same_Some c b (sym e ∙ own))) (last c l))
      ]

      pub chained_entered : i < length before → b < buckets → Chained nodes arrows program hashes (set before i (get_or latest b 0)) (i + 1)
      chained_entered h k a c l e = elim (ℕ_discrete a i) [
        | yes s ↦ subst (λ (x : ℕ). Last nodes arrows program hashes (get_or (set before i (get_or latest b 0)) x 0) x c) (sym s)
            (subst (λ (m : ℕ). Last nodes arrows program hashes m i c) (sym (get_or-set_same before i (get_or latest b 0) 0 h))
            (subst (Last nodes arrows program hashes (get_or latest b 0) i) (same_Some b c (sym own ∙ ap bucket (sym s) ∙ e)) (last b k)))
        | no s ↦ subst (λ (m : ℕ). Last nodes arrows program hashes m a c) (sym (get_or-set_other before i a (get_or latest b 0) 0 s))
            (chained a c (omega arith) e)
      ]

  -- THE FIRST NODE THAT REPEATS ONE, of those judged
  module _ (n i : ℕ) (judged : n ≡ min (length (node_records nodes)) node_count) where
    repeat_by : first_failing (fresh nodes arrows program hashes) n 0 ≡ i → elim (ltb i n) [ true ↦ Some i | false ↦ None ] ≡ first_repeat nodes arrows program hashes
    unfolding first_repeat
    repeat_by e =
        ap (λ (k : ℕ). elim (ltb k n) [ true ↦ Some k | false ↦ None ]) (sym e)
        ∙ ap (λ (m : ℕ). elim (ltb (first_failing (fresh nodes arrows program hashes) m 0) m) [ true ↦ Some (first_failing (fresh nodes arrows program hashes) m 0) | false ↦ None ]) judged

    pub repeat_found : i < n → first_failing (fresh nodes arrows program hashes) n 0 ≡ i → Some i ≡ first_repeat nodes arrows program hashes
    repeat_found h e = rw (lt-ltb i n h) at (repeat_by e)

    pub none_repeats : n ≤ i → first_failing (fresh nodes arrows program hashes) n 0 ≡ i → None ≡ first_repeat nodes arrows program hashes
    none_repeats h e = rw (le-ltb i n h) at (repeat_by e)
