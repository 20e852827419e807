-- The bounds that a pass reads off tables that passed the checks are those of the requirements: of each node's term, and of the whole program.
-- What is asked of the tables: the widths are those of the types, the parts of a record stand for those of its type, and children stand below their parents.
use mathlib.Core.Path.{◌≡◌, refl, sym, ap, ap₂, ◌∙◌, subst}
use mathlib.Core.Bool.{Bool, true, false}
use mathlib.Core.List.{List}
use Prim.Native.Nat.{ℕ, zero, suc, ◌+◌, ◌-◌, ◌<◌, ◌≤◌}
use native.Mathlib.Nat.{not-suc-le-zero}
use native.Mathlib.Omega.{arith}
use native.Mathlib.Decide.{dec_lt}
use lib.ListN.{length, get_or}
use Rattle.report.specs.Types.{Ty, width, word_ty, left_of}
use Rattle.report.specs.Values.{Val}
use Rattle.report.specs.Canonical.{children}
use Rattle.report.specs.Terms.{Term, fail}
use Rattle.scope.specs.Check.{passed, ◌>>=◌}
use Rattle.scope.specs.Types.{TypeRecord, ty_at, left_at}
use Rattle.scope.specs.Nodes.{Kind, k_comp, k_case, k_pair, k_disconnect, k_injl, k_injr, k_take, k_drop, k_iden, k_unit, k_fail, k_disconnect1, k_witness, k_hidden, k_word, k_unknown, kind_of, NodeRecord, node_of, nodes_of, node_at}
use Rattle.scope.specs.Walk.{hidden_at}
use Rattle.scope.specs.Arrows.{Arrow, source, target}
use Rattle.scope.specs.Program.{Program, source_ty, target_ty, case_term, term_of, term_make, term_at, last, whole, whole_source, whole_target}
use Rattle.scope.specs.Bounds.{Bound, bounds, comp_row, pair_row, child_row, disconnect_row, copy_row, witness_row, no_row, whole_cells, whole_frames, whole_cost, check_bounds}
use Rattle.scope.specs.Stages.{no_record}
use Rattle.common.specs.Tables.{entries_past}
use Rattle.common.specs.Bits.{AllBelow}
use Rattle.theory.proofs.NodeTerms.{with_values, term_step}
use Rattle.common.specs.Nodes.{length_nodes, node_at_lem}
use Rattle.table.proofs.Hashes.{hidden_alike}
use Rattle.lookup.specs.Lookup.{source_width, target_width, kept_width}
use Rattle.analysis.specs.Rows.{case_bound, row_of, bound_at}
use Rattle.analysis.specs.Limits.{limited, lent_totals, program_totals}
use Rattle.analysis.proofs.Tables.{bound_past, child_bound, child_below, bound_made}

-- a case's bounds, of those of its branches
case_bounds : (left right : Bool) (i : ℕ) (S : Ty) (s t : Term) → case_bound left right (bounds s) (bounds t) ≡ bounds (case_term left right i S s t)
unfolding case_bound case_term bounds
case_bounds false false i S s t = refl
case_bounds false true i S s t = refl
case_bounds true false i S s t = refl
case_bounds true true i S s t = refl

module _ (types : List TypeRecord) (records : List NodeRecord) (arrows : List Arrow) (bits hashes : List ℕ) (values : List Val) (hash : ℕ → Val) where
  -- the program of the tables, with any witness values and any hashes
  abbrev pub program : Program
  program = with_values types (nodes_of bits hashes records) arrows values hash

  module _ (widths : List ℕ) (wide : (j : ℕ) → get_or widths j 0 ≡ width (ty_at types j))
      (parted : (j : ℕ) → left_of (ty_at types j) ≡ ty_at types (left_at types j)) where
    source_is : (i : ℕ) → source_width widths arrows i ≡ width (source_ty program i)
    unfolding source_ty
    source_is i = wide (source arrows i)

    target_is : (i : ℕ) → target_width widths arrows i ≡ width (target_ty program i)
    unfolding target_ty
    target_is i = wide (target arrows i)

    kept_is : (i : ℕ) → kept_width types widths arrows i ≡ width (left_of (target_ty program i))
    unfolding target_ty
    kept_is i = wide (left_at types (target arrows i)) ∙ ap width (sym (parted (target arrows i)))

    -- the row of node i, where `found` has the bounds of the nodes below it
    module _ (i : ℕ) (found : ℕ → Bound) (same : (j : ℕ) → j < i → found j ≡ bounds (term_at program j)) where
      row_is : (kind : Kind) (a b : ℕ) → AllBelow i (children (node_of bits hashes kind a b))
          → row_of types widths records arrows i kind a b (found a) (found b)
          ≡ bounds (term_of program i (node_of bits hashes kind a b) (term_at program))
      unfolding row_of bounds term_of node_of children
      row_is k_comp a b h = λ k. comp_row (target_is a k) (same a h.0 k) (same b h.1.0 k)
      row_is k_case a b h =
          (λ k. case_bound (sym (hidden_alike bits hashes records a) k) (sym (hidden_alike bits hashes records b) k) (same a h.0 k)
          (same b h.1.0 k))
          ∙ case_bounds (hidden_at (nodes_of bits hashes records) a) (hidden_at (nodes_of bits hashes records) b) i (source_ty program i)
          (term_at program a) (term_at program b)
      row_is k_pair a b h = ap₂ pair_row (same a h.0) (same b h.1.0)
      row_is k_disconnect a b h =
          λ k. disconnect_row (width (word_ty 8) + source_is i k) (kept_is i k + source_is b k) (kept_is i k) (same a h.0 k) (same b h.1.0 k)
      row_is k_injl a b h = ap child_row (same a h.0)
      row_is k_injr a b h = ap child_row (same a h.0)
      row_is k_take a b h = ap child_row (same a h.0)
      row_is k_drop a b h = ap child_row (same a h.0)
      row_is k_iden a b h = ap copy_row (source_is i)
      row_is k_unit a b h = refl
      row_is k_fail a b h = refl
      row_is k_disconnect1 a b h = refl
      row_is k_witness a b h = ap witness_row (target_is i)
      row_is k_hidden a b h = refl
      row_is k_word a b h = ap copy_row (target_is i)
      row_is k_unknown a b h = refl

    module _ (below : (i : ℕ) → i < length records → AllBelow i (children (node_at (nodes_of bits hashes records) i))) where
      bounds_past : (i : ℕ) → length records ≤ i → no_row ≡ bounds (term_at program i)
      unfolding term_at bounds
      bounds_past i h = ap bounds (sym (entries_past (term_make program) (nodes_of bits hashes records) i (fail i)
          (omega (arith, length_nodes bits hashes records))))

      bounds_below : (n i : ℕ) → i < n → bound_at types widths records arrows i ≡ bounds (term_at program i)
      bounds_below zero i l = absurd (not-suc-le-zero l)
      bounds_below (suc n) i l = elim (dec_lt i (length records)) [
        | yes h ↦ (
            let r : NodeRecord = get_or records i no_record in
            let own : node_at (nodes_of bits hashes records) i ≡ node_of bits hashes (kind_of r.kind) r.first r.second = node_at_lem bits hashes
            records i in
            sym (bound_made types widths records arrows i h r refl)
            ∙ row_is i (child_bound types widths records arrows i)
            (λ j m. child_below types widths records arrows i j m ∙ bounds_below n j (omega arith))
            (kind_of r.kind) r.first r.second
            (subst (λ m. AllBelow i (children m)) own (below i h))
            ∙ ap (λ m. bounds (term_of program i m (term_at program))) (sym own)
            ∙ ap bounds (sym (term_step program i (below i h))))
        | no h ↦ bound_past types widths records arrows i (omega arith) ∙ bounds_past i (omega arith)
      ]

      -- THE BOUNDS OF EVERY NODE ARE THOSE OF ITS TERM
      pub bounds_are : (i : ℕ) → bound_at types widths records arrows i ≡ bounds (term_at program i)
      bounds_are i = bounds_below (suc i) i (omega arith)

      -- THE WHOLE PROGRAM'S NUMBERS ARE THE REQUIREMENTS'
      pub totals_are : lent_totals types widths records arrows ≡ program_totals program
      unfolding lent_totals program_totals whole_cells whole_frames whole_cost whole whole_source whole_target last
      totals_are =
          let n : length records - 1 ≡ length (nodes_of bits hashes records) - 1 = ap (λ k. k - 1) (sym (length_nodes bits hashes records)) in
          let b : bound_at types widths records arrows (length records - 1) ≡ bounds (term_at program (length (nodes_of bits hashes records) - 1)) =
          bounds_are (length records - 1) ∙ ap (λ k. bounds (term_at program k)) n in
          let s : source_width widths arrows (length records - 1) ≡ width (source_ty program (length (nodes_of bits hashes records) - 1)) =
          source_is (length records - 1) ∙ ap (λ k. width (source_ty program k)) n in
          let t : target_width widths arrows (length records - 1) ≡ width (target_ty program (length (nodes_of bits hashes records) - 1)) =
          target_is (length records - 1) ∙ ap (λ k. width (target_ty program k)) n in
          λ k. record { cells = s k + t k + (b k).cells; frames = (b k).frames + 2; cost = (b k).cost }

      -- so the limits judge the program
      pub limits_judge : limited (lent_totals types widths records arrows) ≡ (check_bounds program >>= λ within. passed (program_totals program))
      unfolding limited check_bounds program_totals
      limits_judge = ap limited totals_are
