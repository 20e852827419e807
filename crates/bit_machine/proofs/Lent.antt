-- The program of the lent tables: its nodes, widths, paddings, words, witnesses and hashes, as the code finds them in the tables.
use mathlib.Core.Path.{◌≡◌, refl, sym, ap, ◌∙◌, subst}
use mathlib.Core.Bool.{Bool, true, false}
use mathlib.Core.List.{List, [], ◌∷◌}
use mathlib.Core.Logic.{◌⊎◌, inl, inr}
use Prim.Native.Nat.{ℕ, suc, ◌+◌, ◌-◌, ◌^◌, ◌≤◌}
use native.Mathlib.Omega.{arith}
use native.Mathlib.Decide.{dec_lt}
use borrow.Author.Tests.{eqb-true}
use lib.Dec.{eqb}
use lib.ListN.{length, get_or, take, drop, length-take, length-drop, get_or-eq_default}
use lib.Pow.{pow_pos}
use Rattle.limits.specs.Limits.{hash_bytes}
use Rattle.report.specs.Bits.{Bit, bits_of}
use Rattle.report.specs.Types.{Ty, width, pad_l, pad_r, left_of, right_of, word_ty}
use Rattle.report.specs.Values.{⟨⟩, padded}
use Rattle.report.specs.Nodes.{Node}
use Rattle.report.specs.Canonical.{children}
use Rattle.scope.specs.Numbers.{stream_of}
use Rattle.scope.specs.Types.{type_records, ty_at, left_at, right_at}
use Rattle.scope.specs.Nodes.{kind_of, NodeRecord, node_records, no_node, node_of, nodes_of, node_at, on_hidden, on_witness}
use Rattle.scope.specs.Arrows.{arrow_records, source, target}
use Rattle.scope.specs.Hashes.{rights, whole_hash, entry, entry_for, branch_hash}
use Rattle.scope.specs.Program.{Program, value_from, source_ty, target_ty}
use Rattle.scope.specs.Run.{program_of}
use Rattle.scope.specs.Stages.{tables_lent}
use Rattle.common.specs.Bits.{AllBelow, AreBits, below_take, below_drop, are_bits, length_bits, stream_within}
use Rattle.exactness.specs.Values.{width_word}
use Rattle.value.proofs.Types.{read_fit}
use Rattle.common.specs.Tables.{tabulate_at}
use Rattle.hashes.proofs.Branch.{branch_bits}
use Rattle.lookup.specs.Lookup.{padding_in, record_at}
use Rattle.ready.specs.Lent.{program_nodes, value_of, program_at, Reads, Shown}
use Rattle.bit_machine.proofs.Words.{word_cells, no_word_cells}
use Rattle.ready.proofs.Ends.{width_shown}
use Rattle.bit_machine.proofs.Types.{left_found, right_found}
use Rattle.common.specs.Nodes.{node_at_lem}

-- all of a hash, or nothing
abbrev pub Whole : List ℕ → Type 0
Whole bytes = (length bytes ≡ hash_bytes) ⊎ (bytes ≡ [])

whole_or_none : (bytes : List ℕ) → Whole (whole_hash bytes)
unfolding whole_hash
whole_or_none bytes = go (eqb (length bytes) hash_bytes) refl
  where
    go : (x : Bool) → eqb (length bytes) hash_bytes ≡ x → Whole (elim x [ true ↦ bytes | false ↦ [] ])
    go true e = inl (eqb-true (length bytes) hash_bytes e)
    go false e = inr refl

entry_whole : (ns : List Node) (given : List ℕ) (j e : ℕ) (rs : List ℕ) → Whole (entry_for ns given j e rs)
unfolding entry_for
entry_whole ns given j e [] = inr refl
entry_whole ns given j e (r ∷ rs) = go (eqb r j) (entry_whole ns given j (suc e) rs)
  where
    go : (x : Bool) → Whole (entry_for ns given j (suc e) rs) → Whole (elim x [ true ↦ whole_hash (entry given e) | false ↦ entry_for ns given j (suc e) rs ])
    go true later = whole_or_none (entry given e)
    go false later = later

hidden_whole : (n : Node) (o : List ℕ) → Whole o → Whole (on_hidden n whole_hash o)
unfolding on_hidden
hidden_whole (Node.comp a b) o h = h
hidden_whole (Node.case a b) o h = h
hidden_whole (Node.pair a b) o h = h
hidden_whole (Node.disconnect a b) o h = h
hidden_whole (Node.injl a) o h = h
hidden_whole (Node.injr a) o h = h
hidden_whole (Node.take a) o h = h
hidden_whole (Node.drop a) o h = h
hidden_whole (Node.disconnect1 a) o h = h
hidden_whole Node.iden o h = h
hidden_whole Node.unit o h = h
hidden_whole Node.witness o h = h
hidden_whole (Node.fail bytes) o h = h
hidden_whole (Node.hidden bytes) o h = whole_or_none bytes
hidden_whole (Node.word n bits) o h = h

pub hash_whole : (ns : List Node) (given : List ℕ) (j : ℕ) → Whole (branch_hash ns given j)
unfolding branch_hash
hash_whole ns given j = hidden_whole (node_at ns j) (entry_for ns given j 0 (rights ns)) (entry_whole ns given j 0 (rights ns))

-- the cells of a hash are its bits
pub hash_cells : (hash : List ℕ) → Whole hash → padded (word_ty 8) (value_from (word_ty 8) (bits_of hash)) ≡ bits_of hash
unfolding bits_of
hash_cells hash (inl e) = word_cells 8 (bits_of hash) (are_bits hash) (omega (arith, length_bits hash))
hash_cells hash (inr e) = rw e (no_word_cells 8)

module _ {types widths next nodes arrows program hashes given witnesses positions : List ℕ}
    (shown : Shown types widths next nodes arrows program hashes given witnesses positions) (i : ℕ) where
  abbrev pub P : Program
  P = program_at types nodes arrows program hashes given witnesses positions

  -- node i is that of its record
  pub node_is_lem : (r : NodeRecord) → r ≡ record_at nodes i → node_at P.nodes i ≡ node_of (stream_of program) hashes (kind_of r.kind) r.first r.second
  unfolding program_at program_of tables_lent
  node_is_lem r e =
      node_at_lem (stream_of program) hashes (node_records nodes) i
      ∙ ap (λ (r : NodeRecord). node_of (stream_of program) hashes (kind_of r.kind) r.first r.second) (sym e)

  pub children_below_lem : (j : ℕ) → AllBelow j (children (node_at P.nodes j))
  unfolding program_at program_of tables_lent
  children_below_lem j = shown.below j

  -- widths of the source and of the target
  pub source_wide : get_or widths (source (arrow_records arrows) i) 0 ≡ width (source_ty P i)
  unfolding source_ty program_at program_of tables_lent
  source_wide = width_shown types widths next shown.typed (source (arrow_records arrows) i)

  pub target_wide : get_or widths (target (arrow_records arrows) i) 0 ≡ width (target_ty P i)
  unfolding target_ty program_at program_of tables_lent
  target_wide = width_shown types widths next shown.typed (target (arrow_records arrows) i)

  -- widths of their left parts
  part_wide : (k : ℕ) → get_or widths (left_at (type_records types) k) 0 ≡ width (left_of (ty_at (type_records types) k))
  part_wide k = width_shown types widths next shown.typed (left_at (type_records types) k) ∙ ap width (sym (left_found types widths next shown.typed k))

  pub source_left_wide : get_or widths (left_at (type_records types) (source (arrow_records arrows) i)) 0 ≡ width (left_of (source_ty P i))
  unfolding source_ty program_at program_of tables_lent
  source_left_wide = part_wide (source (arrow_records arrows) i)

  pub target_left_wide : get_or widths (left_at (type_records types) (target (arrow_records arrows) i)) 0 ≡ width (left_of (target_ty P i))
  unfolding target_ty program_at program_of tables_lent
  target_left_wide = part_wide (target (arrow_records arrows) i)

  -- paddings of a type
  other_wide : (k : ℕ) → get_or widths (right_at (type_records types) k) 0 ≡ width (right_of (ty_at (type_records types) k))
  other_wide k = width_shown types widths next shown.typed (right_at (type_records types) k) ∙ ap width (sym (right_found types widths next shown.typed k))

  left_padded : (k : ℕ) → (padding_in types widths k).left ≡ pad_l (left_of (ty_at (type_records types) k)) (right_of (ty_at (type_records types) k))
  unfolding pad_l
  left_padded k = rw (part_wide k, other_wide k)

  right_padded : (k : ℕ) → (padding_in types widths k).right ≡ pad_r (left_of (ty_at (type_records types) k)) (right_of (ty_at (type_records types) k))
  unfolding pad_r
  right_padded k = rw (part_wide k, other_wide k)

  pub target-left_padded : (padding_in types widths (target (arrow_records arrows) i)).left ≡ pad_l (left_of (target_ty P i)) (right_of (target_ty P i))
  unfolding target_ty program_at program_of tables_lent
  target-left_padded = left_padded (target (arrow_records arrows) i)

  pub target-right_padded : (padding_in types widths (target (arrow_records arrows) i)).right ≡ pad_r (left_of (target_ty P i)) (right_of (target_ty P i))
  unfolding target_ty program_at program_of tables_lent
  target-right_padded = right_padded (target (arrow_records arrows) i)

  -- paddings of the sum that is the left part of the source
  abbrev sum_at : ℕ
  sum_at = left_at (type_records types) (source (arrow_records arrows) i)

  sum_is : ty_at (type_records types) sum_at ≡ left_of (source_ty P i)
  unfolding source_ty program_at program_of tables_lent
  sum_is = sym (left_found types widths next shown.typed (source (arrow_records arrows) i))

  pub sum_left_padded : (padding_in types widths sum_at).left ≡ pad_l (left_of (left_of (source_ty P i))) (right_of (left_of (source_ty P i)))
  sum_left_padded = left_padded sum_at ∙ ap (λ (A : Ty). pad_l (left_of A) (right_of A)) sum_is

  pub sum_right_padded : (padding_in types widths sum_at).right ≡ pad_r (left_of (left_of (source_ty P i))) (right_of (left_of (source_ty P i)))
  sum_right_padded = right_padded sum_at ∙ ap (λ (A : Ty). pad_r (left_of A) (right_of A)) sum_is

  -- the hash of a right child, in cells
  pub hash_is_lem : (j : ℕ) → padded (word_ty 8) (P.hash j) ≡ bits_of (branch_hash (nodes_of [] hashes (node_records nodes)) given j)
  unfolding program_at program_of tables_lent
  hash_is_lem j =
      hash_cells (branch_hash (program_nodes nodes program hashes) given j) (hash_whole (program_nodes nodes program hashes) given j)
      ∙ ap bits_of (branch_bits (stream_of program) hashes (node_records nodes) given j)

  -- a value that stands at the front of bits takes as many cells as its type is wide
  pub value_wide : (k : ℕ) (bits : List Bit) → Reads (ty_at (type_records types) k) bits
      → get_or widths k 0 ≡ length (padded (ty_at (type_records types) k) (value_from (ty_at (type_records types) k) bits))
  unfolding value_from
  value_wide k bits h =
      let A : Ty = ty_at (type_records types) k in
      width_shown types widths next shown.typed k ∙ sym (rw (h.2, value_from) (read_fit A bits h.0 h.1 h.2).wide)

  -- a witness's value stands at its position
  pub witness_is_lem : node_at P.nodes i ≡ Node.witness → get_or P.witnesses i ⟨⟩ ≡ value_from (target_ty P i) (drop (get_or positions i 0) (stream_of witnesses))
  unfolding program_at program_of tables_lent target_ty node_at value_of on_witness
  witness_is_lem e = elim (dec_lt i (length (program_nodes nodes program hashes))) [
    | yes h ↦ tabulate_at (value_of types nodes arrows program hashes witnesses positions) (length (program_nodes nodes program hashes)) i ⟨⟩ h
        ∙ ap (λ (n : Node). on_witness n
        (value_from (ty_at (type_records types) (target (arrow_records arrows) i)) (drop (get_or positions i 0) (stream_of witnesses))) ⟨⟩) e
    | no n ↦ absurd (past (let h : length (program_nodes nodes program hashes) ≤ i = omega arith in h))
  ]
    where
      past : length (program_nodes nodes program hashes) ≤ i → ⊥
      past h =
          let d : node_at (program_nodes nodes program hashes) i ≡ no_node = get_or-eq_default (program_nodes nodes program hashes) no_node {n = i} h in
          let z : ◌≡◌ {A = ℕ} 0 1 = cc in
          omega arith

  -- a word's bits stand in the program, as many as its target is wide
  module _ (n b : ℕ) (e : node_at P.nodes i ≡ Node.word n (take (2 ^ (n - 1)) (drop b (stream_of program)))) where
    abbrev size : ℕ
    size = get_or widths (target (arrow_records arrows) i) 0

    word_typed_lem : target_ty P i ≡ word_ty (n - 1)
    unfolding program_at program_of tables_lent target_ty
    word_typed_lem = shown.word_typed i n (take (2 ^ (n - 1)) (drop b (stream_of program))) e

    word_wide : size ≡ 2 ^ (n - 1)
    word_wide = target_wide ∙ ap width word_typed_lem ∙ width_word (n - 1)

    word_whole_lem : length (take (2 ^ (n - 1)) (drop b (stream_of program))) ≡ 2 ^ (n - 1)
    unfolding program_at program_of tables_lent
    word_whole_lem = shown.word_whole i n (take (2 ^ (n - 1)) (drop b (stream_of program))) e

    in_bits : stream_of program ≡ bits_of program
    in_bits = stream_within program shown.program_fits

    pub word_inside : b + size ≤ length (bits_of program)
    word_inside =
        let k : ℕ = 2 ^ (n - 1) in
        let l : length (take k (drop b (bits_of program))) ≡ k = ap (λ (s : List ℕ). length (take k (drop b s))) (sym in_bits) ∙ word_whole_lem in
        omega (arith, length-take k (drop b (bits_of program)), length-drop b (bits_of program), word_wide, pow_pos (n - 1))

    pub word_is : take size (drop b (bits_of program)) ≡ padded (target_ty P i) (value_from (target_ty P i) (take (2 ^ (n - 1)) (drop b (stream_of program))))
    word_is =
        let k : ℕ = 2 ^ (n - 1) in
        let bits : List ℕ = take k (drop b (stream_of program)) in
        let small : AreBits bits = subst (λ (s : List ℕ). AreBits (take k (drop b s))) (sym in_bits)
        (below_take 2 k (drop b (bits_of program)) (below_drop 2 b (bits_of program) (are_bits program))) in
        sym (ap (λ (A : Ty). padded A (value_from A bits)) word_typed_lem ∙ word_cells (n - 1) bits small word_whole_lem
        ∙ ap (λ (s : List ℕ). take k (drop b s)) in_bits ∙ ap (λ (j : ℕ). take j (drop b (bits_of program))) (sym word_wide))
