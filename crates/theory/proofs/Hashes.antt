-- The entries of the supplied hashes: the right child of each disconnect is among the nodes that have one, its first entry is found, and
-- an entry that is all there has 32 bytes. That a passed check gives each such child a hash is shown in HashTyped.
use Rattle.std.specs.Prelude.{◌≡◌, Bool, drop as drop_l}
use Rattle.std.proofs.Math.Path.{refl}
use Rattle.std.proofs.Common.{sym, subst, not-suc-le-zero}
use Rattle.std.proofs.Math.Bool.{true, false}
use mathlib.Core.List.{List, [], ◌∷◌}
use Prim.Native.Nat.{ℕ, zero, suc, ◌+◌, ◌*◌, ◌/◌, ◌<◌}
use native.Mathlib.Omega.{arith}
use Rattle.std.proofs.Math.Dec.{eqb}
use borrow.Author.Tests.{eqb-false, eq-eqb}
use Rattle.std.proofs.Math.ListN.{length, get_or, length-drop}
use Rattle.std.proofs.Math.Seq.{length-take-le}
use Rattle.limits.specs.Limits.{hash_bytes}
use Rattle.report.specs.Nodes.{Node, comp, case, pair, disconnect, injl, injr, take, drop, disconnect1, iden, unit, witness, fail, hidden, word}
use Rattle.scope.specs.Nodes.{node_at, on_disconnect}
use Rattle.scope.specs.Hashes.{rights, whole_hash, entry, entry_for}
use Rattle.common.specs.Checks as Checks

-- j is one of the list
abbrev pub Among : ℕ → List ℕ → Type 0
Among j js = (k : ℕ) × (k < length js) × (get_or js k 0 ≡ j)

-- what is among the right children stays among them when a node comes in front
among_more : (n : Node) (j : ℕ) (js : List ℕ) → Among j js → Among j (on_disconnect n (λ left right. right ∷ js) js)
unfolding on_disconnect
among_more (comp a b) j js h = h
among_more (case a b) j js h = h
among_more (pair a b) j js h = h
among_more (disconnect a b) j js h = (suc h.0, omega (arith, h.1), h.2)
among_more (injl a) j js h = h
among_more (injr a) j js h = h
among_more (take a) j js h = h
among_more (drop a) j js h = h
among_more (disconnect1 a) j js h = h
among_more iden j js h = h
among_more unit j js h = h
among_more witness j js h = h
among_more (fail bytes) j js h = h
among_more (hidden bytes) j js h = h
among_more (word n bits) j js h = h

-- the right child of a disconnect is among them
pub among_rights : (nodes : List Node) (i a b : ℕ) → node_at nodes i ≡ disconnect a b → Among b (rights nodes)
unfolding rights node_at on_disconnect
among_rights [] i a b e = Checks.clash (cc)
among_rights (n ∷ ns) zero a b e = subst (λ (m : Node). Among b (on_disconnect m (λ left right. right ∷ rights ns) (rights ns))) (sym e) (0, omega arith, refl)
among_rights (n ∷ ns) (suc i) a b e = among_more n b (rights ns) (among_rights ns i a b e)

module _ (nodes : List Node) (given : List ℕ) where
  -- the first entry for a node that is among the right children
  pub entry_found : (j e : ℕ) (rs : List ℕ) → Among j rs → (d : ℕ) × (d < e + length rs) × (entry_for nodes given j e rs ≡ whole_hash (entry given d))
  unfolding entry_for
  entry_found j e [] h = absurd (not-suc-le-zero h.1)
  entry_found j e (r ∷ rs) h = go (eqb r j) refl h.0 h.1 h.2 (λ g. entry_found j (suc e) rs g)
    where
      go : (x : Bool) → eqb r j ≡ x → (k : ℕ) → k < suc (length rs) → get_or (r ∷ rs) k 0 ≡ j
          → (Among j rs → (d : ℕ) × (d < suc e + length rs) × (entry_for nodes given j (suc e) rs ≡ whole_hash (entry given d)))
          → (d : ℕ) × (d < e + suc (length rs)) × (entry_for nodes given j e (r ∷ rs) ≡ whole_hash (entry given d))
      go true f k l q later = (e, omega arith, rw (f, entry_for))
      go false f zero l q later = absurd (eqb-false r j f q)
      go false f (suc k) l q later = let p = later (k, omega arith, q) in (p.0, omega (arith, p.1), rw (f, entry_for) p.2)

  -- an entry that is all there has 32 bytes
  pub entry_whole : (d : ℕ) → d < length given / hash_bytes → length (whole_hash (entry given d)) ≡ hash_bytes
  unfolding whole_hash entry
  entry_whole d h =
      let l : length (entry given d) ≡ hash_bytes = length-take-le hash_bytes (drop_l (hash_bytes * d) given) (omega (arith, length-drop (hash_bytes * d) given)) in
      rw (eq-eqb (length (entry given d)) hash_bytes l, whole_hash) l
