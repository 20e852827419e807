-- Laws of the walk over witness nodes: by the positions of the nodes it comes to the end of the table, or runs out of bits at a node.
-- So where it passes, the values that it has read are those at the nodes' positions.
use mathlib.Core.Path.{◌≡◌, refl, ap, sym, ◌∙◌}
use mathlib.Core.List.{List, [], ◌∷◌, ◌++◌}
use Prim.Native.Nat.{ℕ, zero, suc, ◌+◌, ◌≤◌, ◌<◌}
use native.Mathlib.Omega.{arith}
use lib.ListN.{length, drop, drop_of_length-le}
use lib.Seq.{drop-drop, drop-cons}
use Rattle.refusal.specs.declared.Refusal.TheVariants.{Witness}
use Rattle.report.specs.Bits.{Bit}
use Rattle.report.specs.Types.{Ty}
use Rattle.report.specs.Values.{Val, ⟨⟩, compact, Read, value, short, read_value}
use Rattle.report.specs.Nodes.{Node, comp, case, pair, disconnect, injl, injr, disconnect1, iden, unit, witness, fail, hidden, word}
use Rattle.scope.specs.Check.{passed, refused}
use Rattle.scope.specs.Numbers.{tabulate}
use Rattle.scope.specs.Types.{TypeRecord, ty_at}
use Rattle.scope.specs.Nodes.{no_node, node_at, on_witness}
use Rattle.scope.specs.Arrows.{Arrow, target}
use Rattle.scope.specs.Program.{value_from}
use Rattle.scope.specs.Witness.{Values, values_from}
use Rattle.common.specs.Checks.{clash}
use Rattle.common.specs.Tables.{tabulate_more}
use Rattle.value.proofs.Types.{read_fit}
use Rattle.ready.specs.Positions.{bits_taken, read_for, position_at}

-- what holds of what is made of a witness, and of what is made of any other node, holds of what is made of a node
pub witness_or : {X Y : Type 0} (P : X → Y → Type 0) (n : Node) (for other : X) (for' other' : Y) → (n ≡ witness → P for for') → P other other'
    → P (on_witness n for other) (on_witness n for' other')
unfolding on_witness
witness_or P (comp a b) for other for' other' h k = k
witness_or P (case a b) for other for' other' h k = k
witness_or P (pair a b) for other for' other' h k = k
witness_or P (disconnect a b) for other for' other' h k = k
witness_or P (injl a) for other for' other' h k = k
witness_or P (injr a) for other for' other' h k = k
witness_or P (Node.take a) for other for' other' h k = k
witness_or P (Node.drop a) for other for' other' h k = k
witness_or P (disconnect1 a) for other for' other' h k = k
witness_or P iden for other for' other' h k = k
witness_or P unit for other for' other' h k = k
witness_or P witness for other for' other' h k = h refl
witness_or P (fail bytes) for other for' other' h k = k
witness_or P (hidden bytes) for other for' other' h k = k
witness_or P (word n bits) for other for' other' h k = k

-- the value of what was read, and none where the bits ran out
unfoldable pub value_read : Read → Val
value_read (value v rest) = v
value_read short = ⟨⟩

pub from_read : (A : Ty) (bits : List Bit) → value_from A bits ≡ value_read (read_value A bits)
unfolding value_from value_read
from_read A bits = go (read_value A bits)
  where
    go : (r : Read) → elim r [ value v rest ↦ v | short ↦ ⟨⟩ ] ≡ value_read r
    go (value v rest) = refl
    go short = refl

module _ (types : List TypeRecord) (nodes : List Node) (arrows : List Arrow) (bits : List Bit) where
  -- the target of node i
  abbrev pub to : (i : ℕ) → Ty
  to i = ty_at types (target arrows i)

  -- node i's position, and what is read there
  abbrev pub at : (i : ℕ) → ℕ
  at i = position_at types nodes arrows bits i

  abbrev pub read_at : (i : ℕ) → Read
  read_at i = read_for types nodes arrows bits i (at i)

  -- what is read leaves the bits after it
  read_leaves : (i p : ℕ) (v : Val) (rest : List Bit) → read_for types nodes arrows bits i p ≡ value v rest → rest ≡ drop (p + length (compact v)) bits
  unfolding read_for compact
  read_leaves i p v rest e =
      witness_or {Y = Unit {0}} (λ r u. r ≡ value v rest → rest ≡ drop (p + length (compact v)) bits) (node_at nodes i) (read_value (to i) (drop p bits))
      (value ⟨⟩ (drop p bits)) tt tt (λ w. one) none e
    where
      none : value ⟨⟩ (drop p bits) ≡ value v rest → rest ≡ drop (p + length (compact v)) bits
      none f =
          let a : ⟨⟩ ≡ v = cc in
          let b : drop p bits ≡ rest = cc in
          sym b ∙ ap (λ (j : ℕ). drop j bits) (let z : p ≡ p + length (compact ⟨⟩) = omega arith in z) ∙ ap (λ (w : Val). drop (p + length (compact w)) bits) a

      one : read_value (to i) (drop p bits) ≡ value v rest → rest ≡ drop (p + length (compact v)) bits
      one f = (read_fit (to i) (drop p bits) v rest f).after ∙ drop-drop (length (compact v)) p bits

  -- a node whose value is read: the walk goes on with the next one
  pub walk_on : (i : ℕ) (vs : List Val) (v : Val) (rest : List Bit) → i < length nodes → read_at i ≡ value v rest
      → values_from types arrows i (drop i nodes) vs (drop (at i) bits)
      ≡ values_from types arrows (suc i) (drop (suc i) nodes) (vs ++ v ∷ []) (drop (at (suc i)) bits)
  unfolding values_from read_for position_at bits_taken node_at
  walk_on i vs v rest h e =
      ap (λ (ns : List Node). values_from types arrows i ns vs (drop (at i) bits)) (drop-cons nodes i no_node h)
      ∙ ap (λ (r : Read). elim r [ value v rest ↦ values_from types arrows (suc i) (drop (suc i) nodes) (vs ++ v ∷ []) rest | short ↦ refused (Witness i) ]) e
      ∙ ap (λ (l : List Bit). values_from types arrows (suc i) (drop (suc i) nodes) (vs ++ v ∷ []) l)
      (read_leaves i (at i) v rest e ∙ ap (λ (r : Read). drop (at i + bits_taken r) bits) (sym e))

  -- a node at which the bits run out: so does the walk
  pub walk_short : (i : ℕ) (vs : List Val) → i < length nodes → read_at i ≡ short
      → values_from types arrows i (drop i nodes) vs (drop (at i) bits) ≡ refused (Witness i)
  unfolding values_from read_for node_at
  walk_short i vs h e =
      ap (λ (ns : List Node). values_from types arrows i ns vs (drop (at i) bits)) (drop-cons nodes i no_node h)
      ∙ ap (λ (r : Read). elim r [ value v rest ↦ values_from types arrows (suc i) (drop (suc i) nodes) (vs ++ v ∷ []) rest | short ↦ refused (Witness i) ]) e

  -- the end of the table
  pub walk_ends : (i : ℕ) (vs : List Val) (rest : List Bit) → length nodes ≤ i
      → values_from types arrows i (drop i nodes) vs rest ≡ passed (record { values = vs; rest = rest })
  unfolding values_from
  walk_ends i vs rest h = ap (λ (ns : List Node). values_from types arrows i ns vs rest) (drop_of_length-le nodes h)

  -- the value of node i
  abbrev pub value_here : (i : ℕ) → Val
  value_here i = value_read (read_at i)

  -- the walk has come to node i
  abbrev pub Walked : (i : ℕ) → Type 0
  Walked i = values_from types arrows 0 nodes [] bits ≡ values_from types arrows i (drop i nodes) (tabulate i value_here) (drop (at i) bits)

  pub walked_start : Walked 0
  unfolding tabulate position_at
  walked_start = refl

  pub walked_on : (i : ℕ) (v : Val) (rest : List Bit) → i < length nodes → read_at i ≡ value v rest → Walked i → Walked (suc i)
  unfolding value_read
  walked_on i v rest h e w =
      w ∙ walk_on i (tabulate i value_here) v rest h e
      ∙ ap (λ (vs : List Val). values_from types arrows (suc i) (drop (suc i) nodes) vs (drop (at (suc i)) bits))
      (ap (λ (r : Read). tabulate i value_here ++ value_read r ∷ []) (sym e) ∙ sym (tabulate_more value_here i))

  -- a walk that passes
  module _ (R : Values) (passes : values_from types arrows 0 nodes [] bits ≡ passed R) where
    -- the bits do not run out at any node
    read_here : (i : ℕ) → i < length nodes → Walked i → (v : Val) × (rest : List Bit) × (read_at i ≡ value v rest)
    read_here i h w = go (read_at i) refl
      where
        go : (r : Read) → read_at i ≡ r → (v : Val) × (rest : List Bit) × (read_at i ≡ value v rest)
        go (value v rest) e = (v, rest, e)
        go short e = let f : passed R ≡ refused (Witness i) = sym passes ∙ w ∙ walk_short i (tabulate i value_here) h e in clash (cc)

    pub walked_all : (i : ℕ) → i ≤ length nodes → Walked i
    walked_all zero h = walked_start
    walked_all (suc i) h =
        let w = walked_all i (omega arith) in
        let r = read_here i (omega arith) w in
        walked_on i r.0 r.1 (omega arith) r.2 w

    -- EVERY NODE'S VALUE IS READ AT ITS POSITION
    pub all_read : (i : ℕ) → i < length nodes → (v : Val) × (rest : List Bit) × (read_at i ≡ value v rest)
    all_read i h = read_here i h (walked_all i (omega arith))

    -- and these are the values that the walk answers
    pub values_here : R.values ≡ tabulate (length nodes) value_here
    values_here =
        let e = sym passes ∙ walked_all (length nodes) (omega arith)
        ∙ walk_ends (length nodes) (tabulate (length nodes) value_here) (drop (at (length nodes)) bits) (omega arith) in
        cc
