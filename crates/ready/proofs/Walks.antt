-- The code's walk over the nodes: how far it has come with the bits that it has passed and the positions that it has put down, and what is
-- then said of the witness bits.
use Rattle.std.specs.Prelude.{Option, Some, None, Result, Ok, Err}
use mathlib.Core.Path.{◌≡◌, refl, ap, ap₂, sym, subst, ◌∙◌}
use mathlib.Core.Bool.{Bool, true, false}
use mathlib.Core.List.{List}
use Prim.Native.Nat.{ℕ, ◌+◌, ◌≤◌, ◌<◌}
use native.Mathlib.Numerals.{add-one}
use native.Mathlib.Omega.{arith}
use lib.ListN.{length, set, take, drop}
use Rattle.limits.specs.Limits.{dossier_bytes, node_count}
use Rattle.refusal.specs.declared.Refusal.{Refusal}
use Rattle.refusal.specs.declared.Refusal.TheVariants.{Witness}
use Rattle.report.specs.Bits.{Bit}
use Rattle.report.specs.Values.{Val, ⟨⟩, compact, Read, value, short, read_value}
use Rattle.report.specs.Nodes.{Node}
use Rattle.scope.specs.Check.{Check, passed, refused, ◌>>=◌, require}
use Rattle.scope.specs.Numbers.{zeros, tabulate, stream_of, held_bits}
use Rattle.scope.specs.Types.{TypeRecord, ty_at}
use Rattle.scope.specs.Nodes.{node_at}
use Rattle.scope.specs.Arrows.{Arrow, target}
use Rattle.scope.specs.Closing.{used_up}
use Rattle.scope.specs.Witness.{Values, check_witness}
use Rattle.common.specs.Checks.{clash}
use Rattle.common.specs.Filling.{filled_to, fill_start, fill_more}
use Rattle.ready.specs.Positions.{bits_taken, read_for, position_at, positions_of}
use Rattle.ready.specs.Answers.{end_of, witness_table}
use Rattle.ready.proofs.FirstBits.{ends_inside}
use Rattle.ready.proofs.Positions.{witness_or, walk_short, walk_ends, value_here, Walked, walked_start, walked_on}
use Rattle.ready.proofs.Ends.{all_used}

-- where a value that was read ends
read_to_lem : (p q : ℕ) (r : Read) → Some q ≡ end_of p r → (v : Val) × (rest : List Bit) × (r ≡ value v rest) × (q ≡ p + bits_taken r)
unfolding end_of bits_taken
read_to_lem p q (value v rest) e = (v, rest, refl, cc)
read_to_lem p q short e = clash (cc)

not_read : (p : ℕ) (r : Read) → None ≡ end_of p r → r ≡ short
unfolding end_of
not_read p (value v rest) e = clash (cc)
not_read p short e = refl

module _ (types : List TypeRecord) (nodes : List Node) (arrows : List Arrow) (bytes : List ℕ) (count : ℕ) where
  abbrev bits : List Bit
  bits = take count (held_bits bytes)

  abbrev at : (i : ℕ) → ℕ
  at i = position_at types nodes arrows bits i

  -- a node's end in a slice that is the bytes up to the limit
  pub end_held : (own : List ℕ) → own ≡ take dossier_bytes bytes → (i p : ℕ) (r : Option ℕ)
      → r ≡ end_of p (read_for types nodes arrows (take count (stream_of own)) i p) → r ≡ end_of p (read_for types nodes arrows bits i p)
  end_held own e i p r f = f ∙ ap (λ (l : List ℕ). end_of p (read_for types nodes arrows (take count (stream_of l)) i p)) e

  -- the walk has come to node i, with p bits passed and the positions of the nodes before put down
  pub record Come (i p : ℕ) (positions : List ℕ) : Type 0 where
    pub walked : Walked types nodes arrows bits i
    pub passes : p ≡ at i
    pub puts : positions ≡ filled_to at 0 node_count i

  pub come_start : Come 0 0 (zeros node_count)
  unfolding position_at
  come_start = record { walked = walked_start types nodes arrows bits; passes = refl; puts = fill_start at 0 node_count }

  module _ (i p : ℕ) (positions : List ℕ) (come : Come i p positions) where
    -- what is read at p is read at node i's position
    read_here : read_for types nodes arrows bits i p ≡ read_for types nodes arrows bits i (at i)
    read_here = ap (read_for types nodes arrows bits i) come.passes

    pub come_on : (q : ℕ) → i < length nodes → i < node_count → Some q ≡ end_of p (read_for types nodes arrows bits i p) → Come (i + 1) q (set positions i p)
    unfolding position_at
    come_on q h k e =
        let r = read_to_lem p q (read_for types nodes arrows bits i p) e in
        subst (λ (j : ℕ). Come j q (set positions i p)) (sym (add-one i)) (record {
          walked = walked_on types nodes arrows bits i r.0 r.1 h (sym read_here ∙ r.2) come.walked;
          passes = r.3 ∙ ap₂ (λ (x y : ℕ). x + y) come.passes (ap bits_taken read_here);
          puts = ap (λ (l : List ℕ). set l i p) come.puts ∙ fill_more at 0 node_count i p k come.passes ∙ ap (filled_to at 0 node_count) (add-one i);
        })

    -- what is answered of what the check says
    answered : (c : Check (List Val)) → check_witness types nodes arrows bytes count ≡ c
        → (elim c [
          | passed values ↦ Ok (positions_of types nodes arrows bytes count)
          | refused why ↦ Err why
        ]) ≡ witness_table types nodes arrows bytes count
    unfolding witness_table
    answered c e =
        ap (λ (c : Check (List Val)). elim c as (λ z. Result (List ℕ) Refusal) [
          | passed values ↦ Ok (positions_of types nodes arrows bytes count)
          | refused why ↦ Err why
        ]) (sym e)

    -- the bits run out
    pub come_short : i < length nodes → None ≡ end_of p (read_for types nodes arrows bits i p)
        → Err (Witness i) ≡ witness_table types nodes arrows bytes count
    unfolding check_witness
    come_short h e =
        let f = come.walked ∙ walk_short types nodes arrows bits i (tabulate i (value_here types nodes arrows bits)) h
        (sym read_here ∙ not_read p (read_for types nodes arrows bits i p) e) in
        answered (refused (Witness i)) (ap (λ (c : Check Values). c >>= λ read.
        require (used_up bytes count read.rest) (Witness (length nodes)) >>= λ used. passed read.values) f)

    -- the end of the table
    all_checked : i ≡ length nodes → (used : Bool) → all_used bytes p count ≡ used
        → check_witness types nodes arrows bytes count
        ≡ (require used (Witness (length nodes)) >>= λ used. passed (tabulate i (value_here types nodes arrows bits)))
    unfolding check_witness
    all_checked e used f =
        let vs : List Val = tabulate i (value_here types nodes arrows bits) in
        ap (λ (c : Check Values). c >>= λ read.
        require (used_up bytes count read.rest) (Witness (length nodes)) >>= λ used. passed read.values)
        (come.walked ∙ walk_ends types nodes arrows bits i vs (drop (at i) bits) (omega arith))
        ∙ ap (λ (q : ℕ). require (all_used bytes q count) (Witness (length nodes)) >>= λ used. passed vs) (sym come.passes)
        ∙ ap (λ (b : Bool). require b (Witness (length nodes)) >>= λ used. passed vs) f

    pub come_unused : (n : ℕ) → i ≡ length nodes → n ≡ length nodes → all_used bytes p count ≡ false
        → Err (Witness n) ≡ witness_table types nodes arrows bytes count
    unfolding require ◌>>=◌
    come_unused n e g f = ap (λ (k : ℕ). Err (Witness k)) g ∙ answered (refused (Witness (length nodes))) (all_checked e false f)

    pub come_used : i ≡ length nodes → all_used bytes p count ≡ true
        → Ok positions ≡ witness_table types nodes arrows bytes count
    unfolding require ◌>>=◌ positions_of
    come_used e f =
        ap (λ (l : List ℕ). Ok l) (come.puts ∙ ap (filled_to at 0 node_count) e)
        ∙ answered (passed (tabulate i (value_here types nodes arrows bits))) (all_checked e true f)

    -- what a node takes is within the first bits
    pub come_inside : (q : ℕ) → p ≤ count → Some q ≡ end_of p (read_for types nodes arrows bits i p) → q ≤ count
    unfolding read_for end_of compact
    come_inside q h e =
        witness_or {Y = Unit {0}} (λ r u. Some q ≡ end_of p r → q ≤ count) (node_at nodes i)
        (read_value (ty_at types (target arrows i)) (drop p bits)) (value ⟨⟩ (drop p bits)) tt tt
        (λ w f. ends_inside (ty_at types (target arrows i)) p count (held_bits bytes) q f h)
        (λ f. (let z : q ≡ p + 0 = cc in omega arith)) e
