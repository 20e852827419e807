-- Where values end, as the code finds it: of a value by the type tables beside it, of a node by its kind, and of all the bits that are lent.
use Rattle.std.specs.Prelude.{Some}
use mathlib.Core.Path.{◌≡◌, refl, ap, ap₂, sym, ◌∙◌}
use mathlib.Core.Bool.{Bool, true, false}
use mathlib.Core.List.{List, [], ◌∷◌}
use Prim.Native.Nat.{ℕ, ◌+◌, ◌-◌, ◌≤◌, ◌<◌}
use native.Mathlib.Omega.{arith}
use native.Mathlib.Decide.{dec_lt}
use lib.Dec.{eqb}
use lib.ListN.{length, get_or, take, drop, length-take, length-drop}
use lib.Seq.{length-take-le}
use borrow.Author.Tests.{eq-eqb, ne_eqb, le-leb, lt-leb}
use Rattle.limits.specs.Limits.{dossier_bytes}
use Rattle.report.specs.Bits.{Bit}
use Rattle.report.specs.Types.{width}
use Rattle.report.specs.Values.{⟨⟩, compact, Read, value, short, read_value}
use Rattle.report.specs.Nodes.{Node}
use Rattle.scope.specs.Numbers.{stream_of, held_bits, every}
use Rattle.scope.specs.Types.{TypeRecord, type_records, ty_at}
use Rattle.scope.specs.Nodes.{Kind, kind_of, node_of, NodeRecord, nodes_of, node_at, on_witness}
use Rattle.scope.specs.Arrows.{Arrow, no_arrow, target}
use Rattle.scope.specs.Stages.{no_record}
use Rattle.scope.specs.Closing.{closes, used_up}
use Rattle.common.specs.Bits.{held_within}
use Rattle.common.specs.Checks.{not_both}
use Rattle.bititer.proofs.Closing.{closes_past}
use Rattle.common.specs.Nodes.{node_at_lem}
use Rattle.table.proofs.Groups.{by_kind, unknown}
use Rattle.types.proofs.Sound.{passed_table, widths_are_lem}
use Rattle.value.specs.Bits.{skip_shape, skipped}
use Rattle.value.specs.Shapes.{shape_at}
use Rattle.value.proofs.Sound.{read_to, skip_is}
use Rattle.ready.specs.Lent.{TypesShown}
use Rattle.ready.specs.Positions.{read_for}
use Rattle.ready.specs.Answers.{end_of}
use Rattle.ready.proofs.Positions.{witness_or}

-- skipping a value along the tables that are shown to be right comes to its end
pub skip_ends : (types widths next : List ℕ) → TypesShown types widths next → (i p : ℕ) (bits : List Bit)
    → skipped p (skip_shape (shape_at types widths next i) bits) ≡ end_of p (read_value (ty_at (type_records types) i) bits)
unfolding end_of read_to
skip_ends types widths next ok i p bits =
    ap₂ (λ (w n : List ℕ). skipped p (skip_shape (shape_at types w n i) bits)) ok.widths_are ok.next_are
    ∙ skip_is types ok.count (passed_table types ok.count ok.passes) i p bits
    ∙ go (read_value (ty_at (type_records types) i) bits)
  where
    go : (r : Read) → read_to p r ≡ end_of p r
    go (value v rest) = refl
    go short = refl

module _ (bits : List Bit) (end count : ℕ) where
  -- all of the first bits are used, and what is after them closes the last byte
  abbrev first_used : Bool
  first_used = every (eqb (length (drop end (take count bits))) 0 ∷ closes bits count ∷ [])

  left : length (drop end (take count bits)) ≡ length (take count bits) - end
  left = length-drop end (take count bits)

  -- bits are left over, or the count passes the bits
  first_short : end < count → false ≡ first_used
  unfolding every
  first_short h = go (dec_lt (length bits) count)
    where
      not_closed : (b : Bool) → false ≡ every (b ∷ false ∷ [])
      not_closed true = refl
      not_closed false = refl

      go : Dec (length bits < count) → false ≡ first_used
      go (yes k) =
          not_closed (eqb (length (drop end (take count bits))) 0)
          ∙ ap (λ (b : Bool). every (eqb (length (drop end (take count bits))) 0 ∷ b ∷ [])) (sym (closes_past bits count k))
      go (no k) =
          let n = length-take-le count bits (omega arith) in
          let l = left in
          ap (λ (b : Bool). every (b ∷ closes bits count ∷ [])) (sym (ne_eqb (length (drop end (take count bits))) 0 (omega arith)))

  -- none is left over
  first_all : count ≤ end → closes bits count ≡ first_used
  unfolding every
  first_all h =
      let n = length-take count bits in
      let l = left in
      last (closes bits count)
      ∙ ap (λ (b : Bool). every (b ∷ closes bits count ∷ [])) (sym (eq-eqb (length (drop end (take count bits))) 0 (omega arith)))
    where
      last : (b : Bool) → b ≡ every (true ∷ b ∷ [])
      last true = refl
      last false = refl

module _ (bytes : List ℕ) (end count : ℕ) where
  -- all of the bytes is used
  abbrev pub all_used : Bool
  all_used = used_up bytes count (drop end (take count (held_bits bytes)))

  -- bytes stand above the limit
  pub used_over : dossier_bytes < length bytes → false ≡ all_used
  unfolding every
  used_over h =
      not_within (eqb (length (drop end (take count (held_bits bytes)))) 0)
      ∙ ap (λ (b : Bool). every (eqb (length (drop end (take count (held_bits bytes)))) 0 ∷ b ∷ closes (stream_of bytes) count ∷ []))
      (sym (lt-leb (length bytes) dossier_bytes h))
    where
      not_within : (b : Bool) → false ≡ every (b ∷ false ∷ closes (stream_of bytes) count ∷ [])
      not_within true = refl
      not_within false = refl

  module _ (within : length bytes ≤ dossier_bytes) where
    -- none does: the bits are judged alone
    first_is : first_used (stream_of bytes) end count ≡ all_used
    unfolding every
    first_is =
        ap (λ (l : List Bit). every (eqb (length (drop end (take count l))) 0 ∷ closes (stream_of bytes) count ∷ [])) (sym (held_within bytes within))
        ∙ ends_within (eqb (length (drop end (take count (held_bits bytes)))) 0)
        ∙ ap (λ (b : Bool). every (eqb (length (drop end (take count (held_bits bytes)))) 0 ∷ b ∷ closes (stream_of bytes) count ∷ []))
        (sym (le-leb (length bytes) dossier_bytes within))
      where
        ends_within : (b : Bool) → every (b ∷ closes (stream_of bytes) count ∷ []) ≡ every (b ∷ true ∷ closes (stream_of bytes) count ∷ [])
        ends_within true = refl
        ends_within false = refl

    -- bits are left over, or the count passes the bits
    pub used_short : end < count → false ≡ all_used
    used_short h = first_short (stream_of bytes) end count h ∙ first_is

    -- none is left over
    pub used_all : count ≤ end → closes (stream_of bytes) count ≡ all_used
    used_all h = first_all (stream_of bytes) end count h ∙ first_is

-- a node is a witness where its kind has the witness's number
kind_is : (bits hashes : List ℕ) (a b kind : ℕ) → eqb kind 12 ≡ on_witness (node_of bits hashes (kind_of kind) a b) true false
unfolding on_witness node_of kind_of
kind_is bits hashes a b =
    by_kind (λ k. eqb k 12 ≡ on_witness (node_of bits hashes (kind_of k) a b) true false)
    refl refl refl refl refl refl refl refl refl refl refl refl refl refl refl
    (λ k h. ne_eqb k 12 (omega arith) ∙ sym (ap (λ (x : Kind). on_witness (node_of bits hashes x a b) true false) (unknown k h)))

pub witness_is_lem : (bits hashes : List ℕ) (records : List NodeRecord) (i : ℕ) (r : NodeRecord) → r ≡ get_or records i no_record
    → eqb r.kind 12 ≡ on_witness (node_at (nodes_of bits hashes records) i) true false
witness_is_lem bits hashes records i r e =
    kind_is bits hashes r.first r.second r.kind
    ∙ ap (λ (x : NodeRecord). on_witness (node_of bits hashes (kind_of x.kind) x.first x.second) true false) e
    ∙ ap (λ (n : Node). on_witness n true false) (sym (node_at_lem bits hashes records i))

module _ (types : List TypeRecord) (nodes : List Node) (arrows : List Arrow) (bits : List Bit) (i p : ℕ) where
  -- a node that is no witness ends where it begins
  pub ends_here : on_witness (node_at nodes i) true false ≡ false → Some p ≡ end_of p (read_for types nodes arrows bits i p)
  unfolding read_for end_of compact
  ends_here e =
      witness_or (λ (b : Bool) (r : Read). b ≡ false → Some p ≡ end_of p r) (node_at nodes i) true false
      (read_value (ty_at types (target arrows i)) (drop p bits)) (value ⟨⟩ (drop p bits))
      (λ w f. not_both refl f) (λ f. ap Some (let z : p ≡ p + 0 = omega arith in z)) e

  -- a witness ends where its value does
  pub ends_there : on_witness (node_at nodes i) true false ≡ true → (a : Arrow) → a ≡ get_or arrows i no_arrow
      → end_of p (read_value (ty_at types a.target) (drop p bits)) ≡ end_of p (read_for types nodes arrows bits i p)
  unfolding read_for target
  ends_there e a f =
      witness_or (λ (b : Bool) (r : Read). b ≡ true → end_of p (read_value (ty_at types a.target) (drop p bits)) ≡ end_of p r) (node_at nodes i) true false
      (read_value (ty_at types (target arrows i)) (drop p bits)) (value ⟨⟩ (drop p bits))
      (λ w g. ap (λ (x : Arrow). end_of p (read_value (ty_at types x.target) (drop p bits))) f) (λ g. not_both g refl) e

-- the width of a type by the tables that are shown to be right
pub width_shown : (types widths next : List ℕ) → TypesShown types widths next → (i : ℕ) → get_or widths i 0 ≡ width (ty_at (type_records types) i)
width_shown types widths next ok i =
    ap (λ (w : List ℕ). get_or w i 0) ok.widths_are ∙ widths_are_lem types ok.count (passed_table types ok.count ok.passes) i
