-- The supplied hashes, entry by entry: one that is whole, two that are compared, and what each way out of the pass answers.
-- The pass looks at neither the bits of words nor the bytes of the hash store, so its answer is that for the nodes with all of them.
use mathlib.Core.Path.{◌≡◌, refl, sym, ap, ◌∙◌}
use mathlib.Core.Bool.{false, not}
use mathlib.Core.List.{List, []}
use Prim.Native.Nat.{ℕ, ◌+◌, ◌*◌, ◌/◌, ◌≤◌}
use native.Mathlib.Omega.{arith}
use lib.Dec.{eqb}
use lib.ListN.{length, get_or, take, drop, length-take, length-drop}
use borrow.Author.Tests.{eq-eqb, ne_eqb}
use Rattle.limits.specs.Limits.{node_count, hash_bytes}
use Rattle.refusal.specs.declared.Refusal.TheVariants.{Hash}
use Rattle.report.specs.Nodes.{Node}
use Rattle.scope.specs.Check.{Check, passed, refused, ◌>>=◌, require, each}
use Rattle.scope.specs.Numbers.{same, every}
use Rattle.scope.specs.Nodes.{NodeRecord, node_records, nodes_of}
use Rattle.scope.specs.Hashes.{rights, whole_hash, entry, clash, count_place, check_hashes}
use Rattle.scope.specs.Stages.{counted}
use Rattle.table.specs.Lent.{lent_nodes}
use Rattle.common.specs.Checks.{every_one, passes}
use Rattle.hashes.specs.Hashes.{unlike_at, clash_at, counted_hashes}
use Rattle.hashes.proofs.Rights.{rights_alike}

-- 32 bytes, and any other number of them
pub whole_there : (l : List ℕ) → length l ≡ hash_bytes → l ≡ whole_hash l
unfolding whole_hash
whole_there l e = rw (whole_hash, eq-eqb (length l) hash_bytes e)

pub entry_there : (s : List ℕ) (e : ℕ) → hash_bytes * (e + 1) ≤ length s → whole_hash (entry s e) ≡ entry s e
unfolding entry
entry_there s e h = sym (whole_there (take hash_bytes (drop (hash_bytes * e) s)) (simp (length-take, length-drop) (omega arith)))

-- two entries, by what the code finds
module _ (children given : List ℕ) (e d : ℕ) where
  pub other_child : (get_or children d 0 ≡ get_or children e 0 → ⊥) → false ≡ unlike_at children given e d
  unfolding unlike_at every
  other_child n = sym (rw (ne_eqb (get_or children d 0) (get_or children e 0) n))

  pub same_child : get_or children d 0 ≡ get_or children e 0 → not (same (entry given d) (entry given e)) ≡ unlike_at children given e d
  unfolding unlike_at every
  same_child q = sym (rw (eq-eqb (get_or children d 0) (get_or children e 0) q) (every_one (not (same (entry given d) (entry given e)))))

-- what the check of the hashes sees of the nodes are the right children
hashes_of : (children : List ℕ) → (given : List ℕ) → Check (Unit {0})
hashes_of children given =
    require (eqb (length given / hash_bytes) (length children)) (Hash (count_place (length given / hash_bytes))) >>= λ count.
    each (length children) (λ e. not (clash_at children given e)) Hash

hashes_are_lem : (nodes : List Node) (given : List ℕ) → check_hashes nodes given ≡ hashes_of (rights nodes) given
unfolding check_hashes clash unlike_at hashes_of
hashes_are_lem nodes given = refl

pub hashes_alike : (bits hashes : List ℕ) (rs : List NodeRecord) (given : List ℕ)
    → check_hashes (nodes_of bits hashes rs) given ≡ check_hashes (nodes_of [] [] rs) given
hashes_alike bits hashes rs given =
    hashes_are_lem (nodes_of bits hashes rs) given ∙ ap (λ (l : List ℕ). hashes_of l given) (rights_alike bits hashes rs)
    ∙ sym (hashes_are_lem (nodes_of [] [] rs) given)

-- the pass, once the nodes are counted
module _ (nodes given : List ℕ) (some : counted (length (node_records nodes)) node_count ≡ passed tt) where
  hashes_by : hashes_of (rights (lent_nodes [] nodes)) given ≡ counted_hashes nodes given
  unfolding counted_hashes
  hashes_by = sym (hashes_are_lem (lent_nodes [] nodes) given) ∙ passes some (λ x. check_hashes (lent_nodes [] nodes) given)

  pub hashes_stop : (length given / hash_bytes ≡ length (rights (lent_nodes [] nodes)) → ⊥)
      → refused (Hash (count_place (length given / hash_bytes))) ≡ counted_hashes nodes given
  unfolding ◌>>=◌ require hashes_of
  hashes_stop n = rw (ne_eqb (length given / hash_bytes) (length (rights (lent_nodes [] nodes))) n) at hashes_by

  -- the entries, each for the right child in a list that is the table's
  pub hashes_judged : (children : List ℕ) → children ≡ rights (lent_nodes [] nodes) → length given / hash_bytes ≡ length (rights (lent_nodes [] nodes))
      → each (length children) (λ e. not (clash_at children given e)) Hash ≡ counted_hashes nodes given
  unfolding ◌>>=◌ require hashes_of
  hashes_judged children c e =
      ap (λ (l : List ℕ). each (length l) (λ e. not (clash_at l given e)) Hash) c
      ∙ rw (eq-eqb (length given / hash_bytes) (length (rights (lent_nodes [] nodes))) e) at hashes_by
