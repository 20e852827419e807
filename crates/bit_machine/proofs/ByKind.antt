-- A node of a safe program by the number of its kind: what the code needs there, and what it then has shown of the node's run.
-- r is the node's record as the code holds it, m the machine before the node's own work, m' the machine after it.
use mathlib.Core.Path.{◌≡◌, refl, sym, ap, ◌∙◌, subst}
use mathlib.Core.Bool.{Bool, true, false}
use mathlib.Core.Logic.{◌⊎◌, inl, inr}
use mathlib.Core.List.{List, []}
use Prim.Native.Nat.{ℕ, ◌+◌, ◌-◌, ◌^◌, ◌≤◌, ◌<◌}
use native.Mathlib.Omega.{arith}
use lib.ListN.{length, get_or, take, drop, length-drop}
use lib.Seq.{length-take-le}
use native.Mathlib.Decide.{ℕ_discrete}
use Rattle.report.specs.Bits.{Bit, bits_of}
use Rattle.report.specs.Values.{⟨⟩, padded}
use Rattle.report.specs.Nodes.{Node}
use Rattle.report.specs.Meaning.{done, failed, pruned}
use Rattle.scope.specs.Numbers.{stream_of}
use Rattle.scope.specs.Types.{type_records, ty_at, left_at}
use Rattle.scope.specs.Nodes.{NodeRecord, kind_of, kind_number, node_of, node_at, nodes_of, node_records}
use Rattle.scope.specs.Walk.{hidden_at}
use Rattle.scope.specs.Arrows.{arrow_records, source, target}
use Rattle.scope.specs.Hashes.{branch_hash}
use Rattle.scope.specs.Program.{Program, value_from, target_ty, term_at}
use Rattle.scope.specs.Run.{program_of}
use Rattle.scope.specs.Stages.{tables_lent}
use Rattle.layout.specs.Mach.{Mach}
use Rattle.layout.specs.Rules.{bit_written, bits_written, skipped, copied, forwarded, peeked}
use Rattle.layout.specs.Exec.{run_term}
use Rattle.layout.specs.Safe.{WriteOk, ReadOk, CopyOk, Safe}
use Rattle.table.specs.Answers.{kind_meant}
use Rattle.table.specs.declared.Kind.{Kind as Known}
use Rattle.table.specs.declared.Kind.TheVariants.{Fail, Disconnect1, Hidden}
use Rattle.table.proofs.Groups.{unknown}
use Rattle.table.proofs.Hashes.{hidden_kind_lem}
use Rattle.lookup.specs.Lookup.{padding_in, record_at, around_by, around_in}
use Rattle.ready.specs.Lent.{program_at, Reads, Shown}
use Rattle.bit_machine.specs.Engine.{OneOk, TwoKind, around_of}
use Rattle.lookup.specs.declared.Around.{Around}
use Rattle.lookup.specs.declared.Around.TheVariants.{Pairing, Composing, Disconnecting}
use Rattle.lookup.proofs.Lookup.{around_pair, around_comp, around_disconnect}
use Rattle.bit_machine.proofs.Nodes
use Rattle.bit_machine.proofs.Nodes.{TwoOk}
use Rattle.bit_machine.proofs.Lent

module _ {types widths next nodes arrows program hashes given witnesses positions : List ℕ}
    (shown : Shown types widths next nodes arrows program hashes given witnesses positions) (i : ℕ) (r : NodeRecord) (at : r ≡ record_at nodes i)
    (m : Mach) (safe : Safe (term_at (program_at types nodes arrows program hashes given witnesses positions) i) m) where
  abbrev P : Program
  P = program_at types nodes arrows program hashes given witnesses positions

  -- node i is n
  abbrev Is : Node → Type 0
  Is n = node_at P.nodes i ≡ n

  by_kind : (k : ℕ) → r.kind ≡ k → Is (node_of (stream_of program) hashes (kind_of k) r.first r.second)
  by_kind k e = Lent.node_is_lem shown i r at ∙ ap (λ (k : ℕ). node_of (stream_of program) hashes (kind_of k) r.first r.second) e

  -- nodes with no child

  pub unit_run_lem : r.kind ≡ 9 → run_term (term_at P i) m ≡ done m
  unfolding kind_of node_of
  unit_run_lem e = Nodes.run_unit P (Lent.children_below_lem shown i) i m (by_kind 9 e)

  module _ (e : r.kind ≡ 8) (n : ℕ) (en : n ≡ get_or widths (source (arrow_records arrows) i) 0) where
    pub iden_need : 0 < n → CopyOk (length m.bits) n m
    unfolding kind_of node_of
    iden_need = Nodes.need_iden P (Lent.children_below_lem shown i) i m (by_kind 8 e) safe n (en ∙ Lent.source_wide shown i)

    pub iden_run : (m' : Mach) → m' ≡ copied n m → run_term (term_at P i) m ≡ done m'
    unfolding kind_of node_of
    iden_run = Nodes.run_iden P (Lent.children_below_lem shown i) i m (by_kind 8 e) n (en ∙ Lent.source_wide shown i)

  module _ (e : r.kind ≡ 12) (k : ℕ) (ek : k ≡ target (arrow_records arrows) i) (p : ℕ) (ep : p ≡ get_or positions i 0) where
    is_witness : Is Node.witness
    unfolding kind_of node_of
    is_witness = by_kind 12 e

    pub witness_reads : Reads (ty_at (type_records types) k) (drop p (stream_of witnesses))
    unfolding program_at program_of tables_lent
    witness_reads = rw (ek, ep) (shown.witness_held i is_witness)

    value_is : padded (ty_at (type_records types) k) (value_from (ty_at (type_records types) k) (drop p (stream_of witnesses)))
        ≡ padded (target_ty P i) (get_or P.witnesses i ⟨⟩)
    unfolding program_at program_of tables_lent target_ty
    value_is = rw (ek, ep) (ap (padded (target_ty P i)) (sym (Lent.witness_is_lem shown i is_witness)))

    pub witness_need : 0 < get_or widths k 0 → WriteOk (length m.bits) (get_or widths k 0) m
    witness_need = subst (λ (n : ℕ). 0 < n → WriteOk (length m.bits) n m) (sym (Lent.value_wide shown i k (drop p (stream_of witnesses)) witness_reads))
        (Nodes.need_witness P (Lent.children_below_lem shown i) i m _ is_witness value_is safe)

    pub witness_run : (m' : Mach)
        → m' ≡ bits_written (padded (ty_at (type_records types) k) (value_from (ty_at (type_records types) k) (drop p (stream_of witnesses)))) m
        → run_term (term_at P i) m ≡ done m'
    witness_run = Nodes.run_witness P (Lent.children_below_lem shown i) i m _ is_witness value_is

  module _ (e : r.kind ≡ 14) (n : ℕ) (en : n ≡ get_or widths (target (arrow_records arrows) i) 0) where
    is_word_lem : Is (Node.word r.first (take (2 ^ (r.first - 1)) (drop r.second (stream_of program))))
    unfolding kind_of node_of
    is_word_lem = by_kind 14 e

    pub word_inside : r.second + n ≤ length (bits_of program)
    word_inside = rw en (Lent.word_inside shown i r.first r.second is_word_lem)

    bits_are : take n (drop r.second (bits_of program))
        ≡ padded (target_ty P i) (value_from (target_ty P i) (take (2 ^ (r.first - 1)) (drop r.second (stream_of program))))
    bits_are = rw en (Lent.word_is shown i r.first r.second is_word_lem)

    pub word_need : 0 < n → WriteOk (length m.bits) n m
    word_need =
        let size : length (drop r.second (bits_of program)) ≡ length (bits_of program) - r.second = length-drop r.second (bits_of program) in
        let long : length (take n (drop r.second (bits_of program))) ≡ n =
        length-take-le n (drop r.second (bits_of program)) (omega (arith, word_inside)) in
        subst (λ (k : ℕ). 0 < k → WriteOk (length m.bits) k m) long
        (Nodes.need_word P (Lent.children_below_lem shown i) i m (take n (drop r.second (bits_of program))) r.first _ is_word_lem bits_are safe)

    pub word_run : (m' : Mach) → m' ≡ bits_written (take n (drop r.second (bits_of program))) m → run_term (term_at P i) m ≡ done m'
    word_run = Nodes.run_word P (Lent.children_below_lem shown i) i m (take n (drop r.second (bits_of program))) r.first _ is_word_lem bits_are

  -- a fail node can only fail; a disconnect of one child and a hidden node are never run; what has no kind can only fail
  fail_run : r.kind ≡ 10 → run_term (term_at P i) m ≡ failed i m
  unfolding kind_of node_of
  fail_run e = Nodes.run_fail P (Lent.children_below_lem shown i) i m _ (by_kind 10 e)

  pub no_run : (kind : Known) → r.kind ≡ kind_number (kind_meant kind)
      → (kind ≡ Fail) ⊎ ((kind ≡ Disconnect1) ⊎ (kind ≡ Hidden)) → run_term (term_at P i) m ≡ failed i m
  unfolding kind_of node_of
  no_run kind number (inl e) = fail_run (number ∙ ap (λ k. kind_number (kind_meant k)) e)
  no_run kind number (inr (inl e)) = absurd (Nodes.never_one_child P (Lent.children_below_lem shown i) i m _
      (by_kind 11 (number ∙ ap (λ k. kind_number (kind_meant k)) e)) safe)
  no_run kind number (inr (inr e)) = absurd (Nodes.never_hidden P (Lent.children_below_lem shown i) i m _
      (by_kind 13 (number ∙ ap (λ k. kind_number (kind_meant k)) e)) safe)

  pub unknown_run : 14 < r.kind → run_term (term_at P i) m ≡ failed i m
  unfolding node_of
  unknown_run h = Nodes.run_fail P (Lent.children_below_lem shown i) i m _
      (by_kind r.kind refl ∙ ap (λ kind. node_of (stream_of program) hashes kind r.first r.second) (unknown r.kind h))

  -- nodes with one child

  pub take_one : r.kind ≡ 6 → OneOk P i m m r.first 0
  unfolding kind_of node_of
  take_one e = Nodes.one_take P (Lent.children_below_lem shown i) i m r.first (by_kind 6 e) safe

  module _ (e : r.kind ≡ 7) (n : ℕ) (en : n ≡ get_or widths (left_at (type_records types) (source (arrow_records arrows) i)) 0) where
    pub drop_need : 0 < n → ReadOk (length m.bits) n m
    unfolding kind_of node_of
    drop_need = Nodes.need_drop P (Lent.children_below_lem shown i) i m r.first (by_kind 7 e) safe n (en ∙ Lent.source_left_wide shown i)

    pub drop_one : (m' : Mach) → m' ≡ forwarded n m → OneOk P i m m' r.first n
    unfolding kind_of node_of
    drop_one = Nodes.one_drop P (Lent.children_below_lem shown i) i m r.first (by_kind 7 e) safe n (en ∙ Lent.source_left_wide shown i)

  pub injl_need : r.kind ≡ 4 → WriteOk (length m.bits) 1 m
  unfolding kind_of node_of
  injl_need e = Nodes.need_injl P (Lent.children_below_lem shown i) i m r.first (by_kind 4 e) safe

  module _ (e : r.kind ≡ 4) (n : ℕ) (en : n ≡ (padding_in types widths (target (arrow_records arrows) i)).left) (m1 : Mach) (e1 : m1 ≡ bit_written 0 m) where
    pub injl_skip : 0 < n → WriteOk (length m.bits) n m1
    unfolding kind_of node_of
    injl_skip = Nodes.need_injl_skip P (Lent.children_below_lem shown i) i m r.first (by_kind 4 e) safe n (en ∙ Lent.target-left_padded shown i) m1 e1

    pub injl_one : (m' : Mach) → m' ≡ skipped n m1 → OneOk P i m m' r.first 0
    unfolding kind_of node_of
    injl_one = Nodes.one_injl P (Lent.children_below_lem shown i) i m r.first (by_kind 4 e) safe n (en ∙ Lent.target-left_padded shown i) m1 e1

  pub injr_need : r.kind ≡ 5 → WriteOk (length m.bits) 1 m
  unfolding kind_of node_of
  injr_need e = Nodes.need_injr P (Lent.children_below_lem shown i) i m r.first (by_kind 5 e) safe

  module _ (e : r.kind ≡ 5) (n : ℕ) (en : n ≡ (padding_in types widths (target (arrow_records arrows) i)).right) (m1 : Mach) (e1 : m1 ≡ bit_written 1 m) where
    pub injr_skip : 0 < n → WriteOk (length m.bits) n m1
    unfolding kind_of node_of
    injr_skip = Nodes.need_injr_skip P (Lent.children_below_lem shown i) i m r.first (by_kind 5 e) safe n (en ∙ Lent.target-right_padded shown i) m1 e1

    pub injr_one : (m' : Mach) → m' ≡ skipped n m1 → OneOk P i m m' r.first 0
    unfolding kind_of node_of
    injr_one = Nodes.one_injr P (Lent.children_below_lem shown i) i m r.first (by_kind 5 e) safe n (en ∙ Lent.target-right_padded shown i) m1 e1

  -- a case and its assertions

  module _ (e : r.kind ≡ 1) where
    is_case : Is (Node.case r.first r.second)
    unfolding kind_of node_of
    is_case = by_kind 1 e

    pub case_look : ReadOk (length m.bits) 1 m
    case_look = Nodes.need_look P (Lent.children_below_lem shown i) i m r.first r.second is_case safe

    -- whether a child is hidden, as the code finds it
    abbrev Found : (j : ℕ) → Bool → Type 0
    Found j x = x ≡ hidden_at (nodes_of [] [] (node_records nodes)) j

    found : (j : ℕ) (x : Bool) → Found j x → hidden_at P.nodes j ≡ x
    unfolding program_at program_of tables_lent
    found j x f = hidden_kind_lem (stream_of program) hashes (node_records nodes) j ∙ sym (f ∙ hidden_kind_lem [] [] (node_records nodes) j)

    pub left_pruned : peeked m ≡ 0 → (x : Bool) → Found r.first x → x ≡ true → run_term (term_at P i) m ≡ pruned i m
    left_pruned v x f h =
        Nodes.run_pruned_left P (Lent.children_below_lem shown i) i m r.first r.second is_case safe v (found r.first x f ∙ h)

    pub right_pruned : (peeked m ≡ 0 → ⊥) → (x : Bool) → Found r.second x → x ≡ true → run_term (term_at P i) m ≡ pruned i m
    right_pruned v x f h =
        Nodes.run_pruned_right P (Lent.children_below_lem shown i) i m r.first r.second is_case safe v (found r.second x f ∙ h)

    module _ (v : peeked m ≡ 0) (x : Bool) (f : Found r.first x) (h : x ≡ false) (n : ℕ)
        (en : n ≡ (padding_in types widths (left_at (type_records types) (source (arrow_records arrows) i))).left) where
      pub left_need : 0 < 1 + n → ReadOk (length m.bits) (1 + n) m
      left_need = Nodes.need_left P (Lent.children_below_lem shown i) i m r.first r.second is_case safe v (found r.first x f ∙ h) (1 + n)
          (ap (λ (k : ℕ). 1 + k) (en ∙ Lent.sum_left_padded shown i))

      pub left_one : (m' : Mach) → m' ≡ forwarded (1 + n) m → OneOk P i m m' r.first (1 + n)
      left_one = Nodes.one_left P (Lent.children_below_lem shown i) i m r.first r.second is_case safe v (found r.first x f ∙ h) (1 + n)
          (ap (λ (k : ℕ). 1 + k) (en ∙ Lent.sum_left_padded shown i))

    module _ (v : peeked m ≡ 0 → ⊥) (x : Bool) (f : Found r.second x) (h : x ≡ false) (n : ℕ)
        (en : n ≡ (padding_in types widths (left_at (type_records types) (source (arrow_records arrows) i))).right) where
      pub right_need : 0 < 1 + n → ReadOk (length m.bits) (1 + n) m
      right_need = Nodes.need_right P (Lent.children_below_lem shown i) i m r.first r.second is_case safe v (found r.second x f ∙ h) (1 + n)
          (ap (λ (k : ℕ). 1 + k) (en ∙ Lent.sum_right_padded shown i))

      pub right_one : (m' : Mach) → m' ≡ forwarded (1 + n) m → OneOk P i m m' r.second (1 + n)
      right_one = Nodes.one_right P (Lent.children_below_lem shown i) i m r.first r.second is_case safe v (found r.second x f ∙ h) (1 + n)
          (ap (λ (k : ℕ). 1 + k) (en ∙ Lent.sum_right_padded shown i))

  -- nodes with two children

  abbrev hash : List Bit
  hash = bits_of (branch_hash (nodes_of [] hashes (node_records nodes)) given r.second)

  abbrev Two : Around → Type 0
  Two w = TwoOk P (Lent.children_below_lem shown i) i m (around_of w hash) r.first r.second

  pair_two : r.kind ≡ 2 → Two Pairing
  unfolding kind_of node_of
  pair_two e = Nodes.two_pair P (Lent.children_below_lem shown i) i m r.first r.second safe (by_kind 2 e)

  comp_two : r.kind ≡ 0 → Two (Composing (get_or widths (target (arrow_records arrows) r.first) 0))
  unfolding kind_of node_of
  comp_two e =
      subst (λ (n : ℕ). Two (Composing n)) (sym (Lent.target_wide shown r.first))
      (Nodes.two_comp P (Lent.children_below_lem shown i) i m r.first r.second safe (by_kind 0 e))

  disconnect_two : r.kind ≡ 3
      → Two (Disconnecting (get_or widths (source (arrow_records arrows) i) 0) (get_or widths (left_at (type_records types) (target (arrow_records arrows) i)) 0)
      (get_or widths (source (arrow_records arrows) r.second) 0))
  unfolding kind_of node_of
  disconnect_two e =
      rw (Lent.source_wide shown i, Lent.target_left_wide shown i, Lent.source_wide shown r.second, sym (Lent.hash_is_lem shown i r.second))
      (Nodes.two_disconnect P (Lent.children_below_lem shown i) i m r.first r.second safe (by_kind 3 e))

  pub two_is : TwoKind nodes i → (w : Around) → w ≡ around_in types widths nodes arrows i → Two w
  two_is h w ew =
      subst (λ (w : Around). Two w) (sym ew)
      (subst (λ (r : NodeRecord). Two (around_by types widths arrows i r)) at (decide (ℕ_discrete r.kind 2) (ℕ_discrete r.kind 0)))
    where
      third_kind : (r.kind ≡ 2 → ⊥) → (r.kind ≡ 0 → ⊥) → r.kind ≡ 3
      third_kind n l =
          let k : r.kind ≡ (record_at nodes i).kind = ap (λ (r : NodeRecord). r.kind) at in
          let c : r.kind ≡ 1 → ⊥ = λ z. h.1 (sym k ∙ z) in
          omega (arith, h.0)

      decide : Dec (r.kind ≡ 2) → Dec (r.kind ≡ 0) → Two (around_by types widths arrows i r)
      decide (yes e) d = subst (λ (w : Around). Two w) (around_pair types widths arrows i r e) (pair_two e)
      decide (no n) (yes e) = subst (λ (w : Around). Two w) (around_comp types widths arrows i r n e) (comp_two e)
      decide (no n) (no l) = subst (λ (w : Around). Two w) (around_disconnect types widths arrows i r n l)
          (disconnect_two (third_kind n l))
