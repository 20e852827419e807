-- The key of a record by the number of its kind, with its bucket; and the number of an arrow.
use mathlib.Core.Path.{◌≡◌, refl, sym, ap, ap₂, ◌∙◌}
use mathlib.Core.Bool.{Bool, true, false}
use mathlib.Core.List.{List, [], ◌∷◌}
use Prim.Native.Nat.{ℕ, ◌+◌, ◌*◌, ◌/◌, ◌%◌, ◌≤◌, ◌<◌}
use native.Mathlib.Omega.{arith}
use lib.Dec.{eqb}
use lib.ListN.{length, get_or}
use borrow.Author.Tests.{eqb-true, eq-eqb, ne_eqb}
use Rattle.limits.specs.Limits.{arrow_bytes}
use Rattle.scope.specs.Numbers.{be16, every, same}
use Rattle.scope.specs.Nodes.{kind_of}
use Rattle.scope.specs.Equal.{same_key}
use Rattle.scope.specs.Arrows.{Arrow, no_arrow, arrow_record, arrow_records, source, target}
use Rattle.std.specs.Prelude.{Some}
use Rattle.std.proofs.lemmas.Option.{same_Some}
use Rattle.report.specs.Bits.{number_from}
use Rattle.common.specs.Checks.{clash, every_all, every_one, keys_same}
use Rattle.common.specs.Tables.{tabulate_at, tabulate_past}
use Rattle.table.proofs.Groups.{by_kind, unknown}
use Rattle.equal.specs.Keys.{key_from, key_at, equal_at}
use Rattle.equal.specs.Buckets.{buckets, key_number, arrow_number, bucket_of, bucket_at}

module _ (program hashes : List ℕ) (a b : ℕ) where
  abbrev key : (kind : ℕ) → List ℕ
  key kind = key_from program hashes (kind_of kind) a b

  -- a key begins with its kind
  pub key_head : (kind : ℕ) → (key kind ≡ [] → ⊥) → get_or (key kind) 0 0 ≡ kind
  unfolding key_from kind_of
  key_head =
      by_kind (λ k. (key_from program hashes (kind_of k) a b ≡ [] → ⊥) → get_or (key_from program hashes (kind_of k) a b) 0 0 ≡ k)
      (λ h. refl) (λ h. refl) (λ h. refl) (λ h. absurd (h refl)) (λ h. refl) (λ h. refl) (λ h. refl) (λ h. refl) (λ h. refl) (λ h. refl)
      (λ h. refl) (λ h. absurd (h refl)) (λ h. absurd (h refl)) (λ h. absurd (h refl)) (λ h. refl)
      (λ k g h. absurd (h (ap (λ x. key_from program hashes x a b) (unknown k g))))

-- so keys of unlike kinds are not the same
pub kinds_apart : (program hashes : List ℕ) (k a b l c d : ℕ) → (k ≡ l → ⊥)
    → false ≡ same_key (key_from program hashes (kind_of k) a b) (key_from program hashes (kind_of l) c d)
kinds_apart program hashes k a b l c d ne = go (same_key (key program hashes a b k) (key program hashes c d l)) refl
  where
    go : (t : Bool) → same_key (key program hashes a b k) (key program hashes c d l) ≡ t
        → false ≡ same_key (key program hashes a b k) (key program hashes c d l)
    go true e =
        let p = keys_same (key program hashes a b k) (key program hashes c d l) e in
        absurd (ne (sym (key_head program hashes a b k (λ z. p.1 (sym p.0 ∙ z))) ∙ ap (λ (xs : List ℕ). get_or xs 0 0) p.0
        ∙ key_head program hashes c d l p.1))
    go false e = sym e

-- keys that begin alike are as their rests are
pub same_next : (x y : ℕ) (xs ys : List ℕ) → x ≡ y → same (x ∷ xs) (y ∷ ys) ≡ same xs ys
unfolding same
same_next x y xs ys e = rw (eq-eqb x y e, same)

pub same_unlike : (x y : ℕ) (xs ys : List ℕ) → (x ≡ y → ⊥) → same (x ∷ xs) (y ∷ ys) ≡ false
unfolding same
same_unlike x y xs ys ne = rw (ne_eqb x y ne, same)

-- the number of a key is that of a bucket
pub key_small : (key : List ℕ) (k : ℕ) → Some k ≡ key_number key → k < buckets
unfolding key_number
key_small [] k e = clash (cc)
key_small (x ∷ xs) k e = omega (arith, same_Some k (number_from x xs % buckets) e)

-- and a node's bucket is one of them
pub bucket_within : (nodes arrows program hashes : List ℕ) (i b : ℕ) → Some b ≡ bucket_at nodes arrows program hashes i → b < buckets
unfolding bucket_at bucket_of key_number
bucket_within nodes arrows program hashes i b e = go (key_at nodes arrows program hashes i) e
  where
    go : (key : List ℕ) → Some b ≡ bucket_of key (arrow_number (arrow_records arrows) i) → b < buckets
    go [] e = clash (cc)
    go (x ∷ xs) e = omega (arith, same_Some b ((number_from x xs % buckets + 97 * arrow_number (arrow_records arrows) i) % buckets) e)

-- the number of an arrow in its table, and past it
module _ (arrows : List ℕ) (i : ℕ) where
  pub arrow_in : (s t : ℕ) → i < length arrows / arrow_bytes → s ≡ be16 arrows (arrow_bytes * i) → t ≡ be16 arrows (arrow_bytes * i + 2)
      → (s * 65536 + t ≡ arrow_number (arrow_records arrows) i) × (t ≡ target (arrow_records arrows) i)
  unfolding arrow_number source target arrow_records arrow_record
  arrow_in s t h p q =
      let own = tabulate_at (arrow_record arrows) (length arrows / arrow_bytes) i no_arrow h in (
        ap₂ (λ (x y : ℕ). x * 65536 + y) (p ∙ sym (ap (λ (a : Arrow). a.source) own)) (q ∙ sym (ap (λ (a : Arrow). a.target) own)),
        q ∙ sym (ap (λ (a : Arrow). a.target) own),
      )

  pub arrow_past : length arrows / arrow_bytes ≤ i → (0 ≡ arrow_number (arrow_records arrows) i) × (0 ≡ target (arrow_records arrows) i)
  unfolding arrow_number source target arrow_records arrow_record
  arrow_past h =
      let none = tabulate_past (arrow_record arrows) (length arrows / arrow_bytes) i no_arrow h in
      (sym (ap (λ (a : Arrow). a.source * 65536 + a.target) none), sym (ap (λ (a : Arrow). a.target) none))

-- two arrows are the same exactly if their numbers are
module _ (nodes arrows program hashes : List ℕ) (j i : ℕ) where
  abbrev A : List Arrow
  A = arrow_records arrows

  pub arrows_unlike : target A j < 65536 → target A i < 65536 → (arrow_number A j ≡ arrow_number A i → ⊥) → false ≡ equal_at nodes arrows program hashes j i
  unfolding equal_at arrow_number
  arrows_unlike h k ne = go (equal_at nodes arrows program hashes j i) refl
    where
      go : (b : Bool) → equal_at nodes arrows program hashes j i ≡ b → false ≡ equal_at nodes arrows program hashes j i
      go true e =
          let p = every_all (same_key (key_at nodes arrows program hashes j) (key_at nodes arrows program hashes i)
          ∷ eqb (source A j) (source A i) ∷ eqb (target A j) (target A i) ∷ []) e in
          absurd (ne (ap₂ (λ (s t : ℕ). s * 65536 + t) (eqb-true (source A j) (source A i) p.1.0) (eqb-true (target A j) (target A i) p.1.1.0)))
      go false e = sym e

  pub arrows_same : target A j < 65536 → target A i < 65536 → arrow_number A j ≡ arrow_number A i
      → same_key (key_at nodes arrows program hashes j) (key_at nodes arrows program hashes i) ≡ equal_at nodes arrows program hashes j i
  unfolding equal_at arrow_number every
  arrows_same h k e =
      let t : target A j ≡ target A i = omega arith in
      let s : source A j ≡ source A i = omega arith in
      sym (rw (eq-eqb (source A j) (source A i) s, eq-eqb (target A j) (target A i) t)
      (every_one (same_key (key_at nodes arrows program hashes j) (key_at nodes arrows program hashes i))))
