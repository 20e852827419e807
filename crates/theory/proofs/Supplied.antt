-- What the supplied values and hashes are, once their checks have passed: each witness has a value of its target, the input is a value of the source,
-- and the right child of each disconnect has a hash of 256 bits.
use Rattle.std.specs.Prelude.{◌≡◌, length, take}
use Rattle.std.proofs.Math.Path.{refl, sym, ap, subst}
use Rattle.std.proofs.Common.{◌∙◌, arith, add-zero, zero-add}
use mathlib.Core.List.{List, [], ◌∷◌, ◌++◌}
use Prim.Native.Nat.{ℕ, zero, suc, ◌+◌, ◌<◌}
use Rattle.std.proofs.Math.ListN.{get_or, get_or-append}
use Rattle.std.proofs.Math.Seq.{get_or-append_seam}
use Rattle.refusal.specs.declared.Refusal.TheVariants.{Witness, Input}
use Rattle.report.specs.Bits.{Bit}
use Rattle.report.specs.Types.{Ty}
use Rattle.report.specs.Values.{Val, ⟨⟩, HasTy, Read, value, short, read_value}
use Rattle.report.specs.Nodes.{Node, comp, case, pair, disconnect, injl, injr, disconnect1, iden, unit, witness, fail, hidden, word}
use Rattle.scope.specs.Check.{passed, refused, ◌>>=◌, require}
use Rattle.scope.specs.Numbers.{held_bits}
use Rattle.scope.specs.Types.{TypeRecord, ty_at}
use Rattle.scope.specs.Nodes.{no_node, node_at, on_witness}
use Rattle.scope.specs.Closing.{used_up}
use Rattle.scope.specs.Arrows.{Arrow, target}
use Rattle.scope.specs.Witness.{Values, values_from, check_witness}
use Rattle.scope.specs.Input.{check_input}
use Rattle.common.specs.Lists.{length_snoc}
use Rattle.common.specs.Checks.{clash, both_passed}
use Rattle.theory.proofs.Values.{ReadTyped, a_value, too_few, read_typed}

module _ (types : List TypeRecord) (arrows : List Arrow) where
  -- the target of node i
  abbrev to : (i : ℕ) → Ty
  to i = ty_at types (target arrows i)

  -- what is read for a node: for a witness a value of its target
  data ReadFor (i : ℕ) (n : Node) : Read → Type 0 where
    read_for : {v : Val} {rest : List Bit} → (n ≡ witness → HasTy v (to i)) → ReadFor i n (value v rest)
    ran_out : ReadFor i n short

  -- what is read along a type is typed
  read_for_witness : (i : ℕ) (r : Read) → ReadTyped (to i) r → ReadFor i witness r
  read_for_witness i r (a_value h) = read_for (λ e. h)
  read_for_witness i r too_few = ran_out

  -- a node that is no witness takes no bits
  read_for_node : (i : ℕ) (n : Node) (bits : List Bit) → ReadFor i n (on_witness n (read_value (to i) bits) (value ⟨⟩ bits))
  unfolding on_witness
  read_for_node i (comp a b) bits = read_for (λ e. clash (cc))
  read_for_node i (case a b) bits = read_for (λ e. clash (cc))
  read_for_node i (pair a b) bits = read_for (λ e. clash (cc))
  read_for_node i (disconnect a b) bits = read_for (λ e. clash (cc))
  read_for_node i (injl a) bits = read_for (λ e. clash (cc))
  read_for_node i (injr a) bits = read_for (λ e. clash (cc))
  read_for_node i (Node.take a) bits = read_for (λ e. clash (cc))
  read_for_node i (Node.drop a) bits = read_for (λ e. clash (cc))
  read_for_node i (disconnect1 a) bits = read_for (λ e. clash (cc))
  read_for_node i iden bits = read_for (λ e. clash (cc))
  read_for_node i unit bits = read_for (λ e. clash (cc))
  read_for_node i witness bits = read_for_witness i (read_value (to i) bits) (read_typed (to i) bits)
  read_for_node i (fail bytes) bits = read_for (λ e. clash (cc))
  read_for_node i (hidden bytes) bits = read_for (λ e. clash (cc))
  read_for_node i (word n bs) bits = read_for (λ e. clash (cc))

  -- what is read from the bits of the nodes from node i on, after the values of those before: those values, and a value of its target for each witness
  abbrev TypedFrom : (i : ℕ) → List Node → (before after : List Val) → Type 0
  TypedFrom i ns vs ws =
      ((k : ℕ) → k < i → get_or ws k ⟨⟩ ≡ get_or vs k ⟨⟩) × ((k : ℕ) → get_or ns k no_node ≡ witness → HasTy (get_or ws (i + k) ⟨⟩) (to (i + k)))

  -- one node, and then the others
  typed_from_step : (i : ℕ) (n : Node) (ns : List Node) (vs ws : List Val) (v : Val) → i ≡ length vs → (n ≡ witness → HasTy v (to i))
      → TypedFrom (suc i) ns (vs ++ v ∷ []) ws → TypedFrom i (n ∷ ns) vs ws
  typed_from_step i n ns vs ws v e h t = (λ k l. t.0 k (omega arith) ∙ get_or-append vs (v ∷ []) ⟨⟩ k (omega arith), after)
    where
      here : get_or ws (i + 0) ⟨⟩ ≡ v
      here = rw (add-zero i) (t.0 i (omega arith) ∙ ap (λ (m : ℕ). get_or (vs ++ v ∷ []) m ⟨⟩) e ∙ get_or-append_seam vs v [] ⟨⟩)

      after : (k : ℕ) → get_or (n ∷ ns) k no_node ≡ witness → HasTy (get_or ws (i + k) ⟨⟩) (to (i + k))
      after zero q = rw here (rw (add-zero i) (h q))
      after (suc k) q = let f : suc i + k ≡ i + suc k = omega arith in subst (λ (m : ℕ). HasTy (get_or ws m ⟨⟩) (to m)) f (t.1 k q)

  -- all the nodes from node i on
  values_typed : (ns : List Node) (i : ℕ) (vs : List Val) (rest : List Bit) (R : Values) → i ≡ length vs → values_from types arrows i ns vs rest ≡ passed R
      → TypedFrom i ns vs R.values
  unfolding values_from
  values_typed [] i vs rest R e p = let q : vs ≡ R.values = cc in (λ k l. ap (λ (ws : List Val). get_or ws k ⟨⟩) (sym q), λ k w. clash (cc))
  values_typed (n ∷ ns) i vs rest R e p =
      go (on_witness n (read_value (to i) rest) (value ⟨⟩ rest)) (read_for_node i n rest) p
      (λ v rest' q. values_typed ns (suc i) (vs ++ v ∷ []) rest' R (ap suc e ∙ sym (length_snoc vs v)) q)
    where
      go : (r : Read) → ReadFor i n r
          → (elim r [ value v rest ↦ values_from types arrows (suc i) ns (vs ++ v ∷ []) rest | short ↦ refused (Witness i) ]) ≡ passed R
          → ((v : Val) (rest : List Bit) → values_from types arrows (suc i) ns (vs ++ v ∷ []) rest ≡ passed R → TypedFrom (suc i) ns (vs ++ v ∷ []) R.values)
          → TypedFrom i (n ∷ ns) vs R.values
      go r (read_for {v} {rest} h) q later = typed_from_step i n ns vs R.values v e h (later v rest q)
      go r ran_out q later = clash (cc)

  -- EACH WITNESS HAS A VALUE OF ITS TARGET
  pub witness_typed : (nodes : List Node) (bytes : List ℕ) (count : ℕ) (values : List Val) → check_witness types nodes arrows bytes count ≡ passed values
      → (i : ℕ) → node_at nodes i ≡ witness → HasTy (get_or values i ⟨⟩) (to i)
  unfolding check_witness node_at
  witness_typed nodes bytes count values e i w =
      let p = both_passed (values_from types arrows 0 nodes [] (take count (held_bits bytes)))
      (λ read. require (used_up bytes count read.rest) (Witness (length nodes)) >>= λ used. passed read.values) values e in
      let q = both_passed (require (used_up bytes count p.0.rest) (Witness (length nodes))) (λ used. passed p.0.values) values p.2 in
      let r : p.0.values ≡ values = cc in
      let t = values_typed nodes 0 [] (take count (held_bits bytes)) p.0 refl p.1 in
      subst (λ (vs : List Val). HasTy (get_or vs i ⟨⟩) (to i)) r (rw (zero-add i) at (t.1 i w))

-- THE INPUT IS A VALUE OF THE SOURCE
pub input_typed : (A : Ty) (bytes : List ℕ) (count : ℕ) (v : Val) → check_input A bytes count ≡ passed v → HasTy v A
unfolding check_input
input_typed A bytes count v e = go (read_value A (take count (held_bits bytes))) (read_typed A (take count (held_bits bytes))) e
  where
    go : (r : Read) → ReadTyped A r
        → (elim r [
          | value v rest ↦ (require (used_up bytes count rest) (Input 0) >>= λ used. passed v)
          | short ↦ refused (Input 0)
        ]) ≡ passed v → HasTy v A
    go r (a_value {v = w} {rest = rest} h) q =
        let p = both_passed (require (used_up bytes count rest) (Input 0)) (λ used. passed w) v q in
        let f : w ≡ v = cc in
        subst (λ (u : Val). HasTy u A) f h
    go r too_few q = clash (cc)
