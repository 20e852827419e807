-- What a run may rest on once its checks have passed: the tables are as `Shown` says, their program is the one that was made ready,
-- its input stands at the front of the input bits, the stores have room for the bounds, and the machine is never stuck.
use mathlib.Core.Path.{◌≡◌, refl, ap, sym, subst, ◌∙◌}
use mathlib.Core.List.{List, []}
use Prim.Native.Nat.{ℕ, ◌-◌, ◌/◌, ◌≤◌, ◌<◌}
use native.Mathlib.Omega.{arith}
use native.Mathlib.Decide.{dec_lt}
use lib.ListN.{length, get_or, take, drop, get_or-append, get_or-eq_default}
use Rattle.limits.specs.Limits.{node_count, type_count, cell_count, frame_count, frame_numbers}
use Rattle.refusal.specs.declared.Refusal.TheVariants.{Witness}
use Rattle.report.specs.Bits.{Bit, bits_of}
use Rattle.report.specs.Types.{Ty, width, word_ty}
use Rattle.report.specs.Values.{Val, ⟨⟩, Read, value, read_value}
use Rattle.report.specs.Nodes.{Node, witness, word}
use Rattle.report.specs.Canonical.{children}
use Rattle.report.specs.Meaning.{stuck}
use Rattle.scope.specs.Check.{passed, ◌>>=◌, require}
use Rattle.scope.specs.Numbers.{stream_of, held_bits, tabulate, bytes_for, zeros}
use Rattle.scope.specs.Types.{TypeRecord, type_records, ty_at, check_types}
use Rattle.scope.specs.Nodes.{node_records, no_node, node_at, on_witness}
use Rattle.scope.specs.Closing.{used_up}
use Rattle.scope.specs.Arrows.{Arrow, arrow_records, target}
use Rattle.scope.specs.Program.{Program, value_from, whole, whole_source, whole_target}
use Rattle.scope.specs.Bounds.{whole_cells, whole_frames, whole_cost, check_bounds}
use Rattle.scope.specs.Witness.{Values, values_from, check_witness}
use Rattle.scope.specs.Input.{check_input}
use Rattle.scope.specs.Stores.{check_stores}
use Rattle.scope.specs.Run.{Tables, program_of, Ready, check_ready, cells_of}
use Rattle.scope.specs.Stages.{counted, tables_lent, arrow_stage, hash_stage}
use Rattle.scope.specs.Machine.{machine}
use Rattle.common.specs.Checks.{clash, both_passed, then_passes, counted-passed}
use Rattle.common.specs.Bits.{AllBelow, held_within}
use Rattle.exactness.specs.NodeTyping.{NodeTyped, of_word, from_ty, to_ty}
use Rattle.exactness.specs.Types.{types_pass}
use Rattle.exactness.proofs.Arrows.{arrow_typed}
use Rattle.layout.specs.Mach.{empty}
use Rattle.layout.specs.Safe.{WholeOk}
use Rattle.theory.proofs.Accepted.{Checked, ready_sound, ready_input}
use Rattle.theory.proofs.LentTables.{lent_checked}
use Rattle.theory.proofs.NodeTerms.{cells_alike, frames_alike, target_alike, source_alike}
use Rattle.theory.proofs.Supply.{witness_fits}
use Rattle.theory.proofs.Theorems.{never_stuck, whole_safe}
use Rattle.common.specs.Nodes.{length_nodes}
use Rattle.stages.proofs.Passed.{LentPassed, lent_passed, stage_passed, stage_arrows, hashes_passed}
use Rattle.types.specs.Table.{check_table, type_widths, type_next}
use Rattle.common.specs.Tables.{length-tabulate, tabulate_at, tabulate_same}
use Rattle.ready.specs.Lent.{program_nodes, value_of, program_at, Reads, TypesShown, Shown}
use Rattle.ready.specs.Positions.{read_for, position_at, positions_of}
use Rattle.ready.proofs.FirstBits.{in_all_lem}
use Rattle.ready.proofs.Passes.{limits_kept, stores_fit, input_read}
use Rattle.ready.proofs.Positions.{witness_or, value_read, from_read, value_here, all_read, values_here}

-- witness bits that passed
module _ (types : List TypeRecord) (nodes : List Node) (arrows : List Arrow) (bytes : List ℕ) (count : ℕ) (values : List Val)
    (passes : check_witness types nodes arrows bytes count ≡ passed values) where
  abbrev bits : List Bit
  bits = take count (held_bits bytes)

  abbrev held : (i : ℕ) → Ty
  held i = ty_at types (target arrows i)

  walk : (R : Values) × (values_from types arrows 0 nodes [] bits ≡ passed R) × (R.values ≡ values)
  unfolding check_witness
  walk =
      let p = both_passed (values_from types arrows 0 nodes [] bits)
      (λ read. require (used_up bytes count read.rest) (Witness (length nodes)) >>= λ used. passed read.values) values passes in
      let q = both_passed (require (used_up bytes count p.0.rest) (Witness (length nodes))) (λ used. passed p.0.values) values p.2 in
      (p.0, p.1, cc)

  -- they are within the limit, so all their bytes are held
  all_held : stream_of bytes ≡ held_bits bytes
  all_held = sym (held_within bytes (witness_fits types arrows nodes bytes count values passes).bits.within)

  -- a node's entry in the array of positions
  pub position_in : (i : ℕ) → i < length nodes → get_or (positions_of types nodes arrows bytes count) i 0 ≡ position_at types nodes arrows bits i
  unfolding positions_of
  position_in i h =
      get_or-append (tabulate (length nodes) (position_at types nodes arrows bits)) (zeros (node_count - length nodes)) 0 i
      (omega (arith, length-tabulate (position_at types nodes arrows bits) (length nodes)))
      ∙ tabulate_at (position_at types nodes arrows bits) (length nodes) i 0 h

  -- the value of a witness stands at its position in all bits
  pub witness_here : (i : ℕ) → i < length nodes → node_at nodes i ≡ witness → (v : Val) → value_here types nodes arrows bits i ≡ v
      → (more : List Bit) × (read_value (held i) (drop (get_or (positions_of types nodes arrows bytes count) i 0) (stream_of bytes)) ≡ value v more)
  unfolding read_for value_read on_witness
  witness_here i h w v e =
      let r = all_read types nodes arrows bits walk.0 walk.1 i h in
      let f : read_value (held i) (drop (position_at types nodes arrows bits i) bits) ≡ value r.0 r.1 =
      ap (λ (n : Node). on_witness n (read_value (held i) (drop (position_at types nodes arrows bits i) bits))
      (value ⟨⟩ (drop (position_at types nodes arrows bits i) bits))) (sym w)
      ∙ r.2 in
      let g : r.0 ≡ v = ap value_read (sym r.2) ∙ e in
      let m = in_all_lem (held i) (position_at types nodes arrows bits i) count (held_bits bytes) r.0 r.1 f in (
        m.0,
        ap (λ (p : ℕ). read_value (held i) (drop p (stream_of bytes))) (position_in i h)
            ∙ ap (λ (l : List Bit). read_value (held i) (drop (position_at types nodes arrows bits i) l)) all_held ∙ m.1 ∙ ap (λ (u : Val). value u m.0) g,
      )

  -- the value at the position of node i, where it is a witness
  abbrev pub value_in : (i : ℕ) → Val
  value_in i = on_witness (node_at nodes i) (value_from (held i) (drop (get_or (positions_of types nodes arrows bytes count) i 0) (stream_of bytes))) ⟨⟩

  -- so the value of every node is the one at its position
  pub value_in_lem : (i : ℕ) → i < length nodes → value_here types nodes arrows bits i ≡ value_in i
  unfolding read_for value_read
  value_in_lem i h =
      witness_or (λ (r : Read) (v : Val). value_read r ≡ v) (node_at nodes i) found (value ⟨⟩ (drop (position_at types nodes arrows bits i) bits))
      (value_from (held i) (drop (get_or (positions_of types nodes arrows bytes count) i 0) (stream_of bytes))) ⟨⟩ one refl
    where
      found : Read
      found = read_value (held i) (drop (position_at types nodes arrows bits i) bits)

      one : node_at nodes i ≡ witness → value_read found ≡ value_from (held i) (drop (get_or (positions_of types nodes arrows bytes count) i 0) (stream_of bytes))
      one w =
          let m = witness_here i h w (value_read found)
          (ap (λ (n : Node). value_read (on_witness n found (value ⟨⟩ (drop (position_at types nodes arrows bits i) bits)))) w) in
          sym (from_read (held i) (drop (get_or (positions_of types nodes arrows bytes count) i 0) (stream_of bytes)) ∙ ap value_read m.1)

  -- the values that the check answers
  pub values_in : tabulate (length nodes) value_in ≡ values
  values_in =
      sym (tabulate_same ⟨⟩ (value_here types nodes arrows bits) value_in (length nodes) value_in_lem)
      ∙ sym (values_here types nodes arrows bits walk.0 walk.1)
      ∙ walk.2

module _ (types nodes arrows program hashes given witnesses : List ℕ) (witness_bits : ℕ) (input : List ℕ) (input_bits : ℕ)
    (tables_pass : hash_stage types nodes arrows program hashes given ≡ passed tt) where
  -- the tables, and the positions of their nodes
  abbrev pub T : Tables
  T = tables_lent types nodes arrows program hashes given witnesses witness_bits input input_bits

  abbrev pub positions : List ℕ
  positions = positions_of (type_records types) (program_nodes nodes program hashes) (arrow_records arrows) witnesses witness_bits

  checked : Checked T
  checked = lent_checked types nodes arrows program hashes given witnesses witness_bits input input_bits tables_pass

  arrows_pass : arrow_stage types nodes arrows program hashes ≡ passed tt
  arrows_pass = (hashes_passed types nodes program hashes arrows given tables_pass).0

  lent_pass : LentPassed types nodes program hashes
  lent_pass = lent_passed types nodes program hashes (stage_passed types nodes program hashes arrows arrows_pass).0

  pub nodes_counted : (1 ≤ length (node_records nodes)) × (length (node_records nodes) ≤ node_count)
  nodes_counted = counted-passed (length (node_records nodes)) node_count lent_pass.nodes_counted

  pub types_shown : TypesShown types (type_widths types) (type_next types)
  unfolding check_table
  types_shown = record {
    count = length (type_records types);
    passes =
        then_passes (counted (length (type_records types)) type_count)
        (λ some. check_types (type_records types) >>= λ sound. passed (length (type_records types))) tt lent_pass.types_counted
        ∙ then_passes (check_types (type_records types)) (λ sound. passed (length (type_records types))) tt lent_pass.types_kept;
    widths_are = refl;
    next_are = refl;
  }

  -- children stand below their node, and past the table's end there are none
  all_below : (i : ℕ) → AllBelow i (children (node_at (program_nodes nodes program hashes) i))
  unfolding tables_lent node_at children
  all_below i = go (dec_lt i (length (program_nodes nodes program hashes)))
    where
      go : Dec (i < length (program_nodes nodes program hashes)) → AllBelow i (children (node_at (program_nodes nodes program hashes) i))
      go (yes h) = checked.below i h
      go (no h) =
          subst (λ (n : Node). AllBelow i (children n)) (sym (get_or-eq_default (program_nodes nodes program hashes) no_node {n = i} (omega arith))) tt

  -- a node other than `no_node` is in the table
  in_table : (i : ℕ) (n : Node) → node_at (program_nodes nodes program hashes) i ≡ n → (n ≡ no_node → ⊥) → i < length (program_nodes nodes program hashes)
  unfolding node_at
  in_table i n e other = elim (dec_lt i (length (program_nodes nodes program hashes))) [
    | yes h ↦ h
    | no h ↦ absurd (other (sym e ∙ get_or-eq_default (program_nodes nodes program hashes) no_node {n = i} (omega arith)))
  ]

  -- the type of a word
  word_typed_lem : (i n : ℕ) (bits : List Bit) → node_at (program_nodes nodes program hashes) i ≡ word n bits
      → ty_at (type_records types) (target (arrow_records arrows) i) ≡ word_ty (n - 1)
  unfolding to_ty
  word_typed_lem i n bits e =
      let h = in_table i (word n bits) e (λ f. clash (cc)) in
      let r = stage_arrows types nodes program hashes arrows arrows_pass i (omega (arith, length_nodes (stream_of program) hashes (node_records nodes))) in
      go (from_ty (type_records types) (arrow_records arrows) i) (to_ty (type_records types) (arrow_records arrows) i)
      (subst (λ (m : Node). NodeTyped (program_nodes nodes program hashes) (from_ty (type_records types) (arrow_records arrows))
      (to_ty (type_records types) (arrow_records arrows)) m
      (from_ty (type_records types) (arrow_records arrows) i) (to_ty (type_records types) (arrow_records arrows) i)) e
      (arrow_typed (type_records types) (types_pass (type_records types) lent_pass.types_kept) (program_nodes nodes program hashes) (arrow_records arrows) i r))
    where
      go : (A B : Ty) → NodeTyped (program_nodes nodes program hashes) (from_ty (type_records types) (arrow_records arrows))
          (to_ty (type_records types) (arrow_records arrows)) (word n bits) A B
          → B ≡ word_ty (n - 1)
      go A B of_word = refl

  module _ (cells frames answer : List ℕ) (R : Ready) (passes : check_ready T cells frames answer ≡ passed R) where
    -- what 14 to 17 have told: bounds, values, input, stores
    parts : (values : List Val) × (v : Val) × (check_bounds (program_of T []) ≡ passed tt)
        × (check_witness T.types T.nodes T.arrows T.witness T.witness_bits ≡ passed values)
        × (check_input (whole_source (program_of T [])) T.input T.input_bits ≡ passed v)
        × (check_stores (program_of T []) cells frames answer ≡ passed tt) × (R ≡ record { program = program_of T values; input = v })
    unfolding check_ready
    parts =
        let P : Program = program_of T [] in
        let a = both_passed (check_bounds P) (λ bounded. check_witness T.types T.nodes T.arrows T.witness T.witness_bits >>= λ values.
        check_input (whole_source P) T.input T.input_bits >>= λ v.
        check_stores P cells frames answer >>= λ stored. passed (record { program = program_of T values; input = v })) R passes in
        let b = both_passed (check_witness T.types T.nodes T.arrows T.witness T.witness_bits) (λ values.
        check_input (whole_source P) T.input T.input_bits >>= λ v.
        check_stores P cells frames answer >>= λ stored. passed (record { program = program_of T values; input = v })) R a.2 in
        let c = both_passed (check_input (whole_source P) T.input T.input_bits) (λ v.
        check_stores P cells frames answer >>= λ stored. passed (record { program = program_of T b.0; input = v })) R b.2 in
        let d = both_passed (check_stores P cells frames answer) (λ stored. passed (record { program = program_of T b.0; input = c.0 })) R c.2 in
        (b.0, c.0, a.1, b.1, c.1, d.1, cc)

    witness_held_lem : (i : ℕ) → node_at (program_nodes nodes program hashes) i ≡ witness
        → Reads (ty_at (type_records types) (target (arrow_records arrows) i)) (drop (get_or positions i 0) (stream_of witnesses))
    unfolding tables_lent
    witness_held_lem i w =
        let m = witness_here (type_records types) (program_nodes nodes program hashes) (arrow_records arrows) witnesses witness_bits parts.0 parts.3 i
        (in_table i witness w (λ f. clash (cc))) w _ refl in
        (_, m.0, m.1)

    -- THE TABLES ARE AS `Shown` SAYS
    pub shown : Shown types (type_widths types) (type_next types) nodes arrows program hashes given witnesses positions
    unfolding tables_lent
    shown = record {
      below = all_below;
      typed = types_shown;
      program_fits = lent_pass.program_fits;
      word_typed = word_typed_lem;
      word_whole = checked.words;
      witness_held = witness_held_lem;
    }

    -- THEIR PROGRAM IS THE ONE THAT WAS MADE READY
    pub program_is_lem : program_at types nodes arrows program hashes given witnesses positions ≡ R.program
    unfolding program_at value_of tables_lent program_of
    program_is_lem =
        ap (λ (vs : List Val). program_of (tables_lent types nodes arrows program hashes given witnesses 0 [] 0) vs)
        (values_in (type_records types) (program_nodes nodes program hashes) (arrow_records arrows) witnesses witness_bits parts.0 parts.3)
        ∙ sym (ap (λ (Q : Ready). Q.program) parts.6)

    abbrev P : Program
    P = R.program

    -- the program without values has the same tables, and so the same source, target and bounds
    same_types : P.types ≡ (program_of T []).types
    unfolding program_of
    same_types = ap (λ (Q : Ready). Q.program.types) parts.6

    same_nodes : P.nodes ≡ (program_of T []).nodes
    unfolding program_of
    same_nodes = ap (λ (Q : Ready). Q.program.nodes) parts.6

    same_arrows : P.arrows ≡ (program_of T []).arrows
    unfolding program_of
    same_arrows = ap (λ (Q : Ready). Q.program.arrows) parts.6

    pub same_source : whole_source P ≡ whole_source (program_of T [])
    same_source = source_alike P (program_of T []) same_types same_nodes same_arrows

    pub same_target : whole_target P ≡ whole_target (program_of T [])
    same_target = target_alike P (program_of T []) same_types same_nodes same_arrows

    pub same_cells : whole_cells P ≡ whole_cells (program_of T [])
    same_cells = cells_alike P (program_of T []) same_types same_nodes same_arrows

    pub same_frames : whole_frames P ≡ whole_frames (program_of T [])
    same_frames = frames_alike P (program_of T []) same_types same_nodes same_arrows

    -- THE INPUT STANDS AT THE FRONT OF THE INPUT BITS
    pub input_held : (rest : List Bit) × (read_value (whole_source P) (stream_of input) ≡ value R.input rest)
    unfolding tables_lent
    input_held =
        let m = input_read (whole_source (program_of T [])) input input_bits parts.1 parts.4 in
        (m.0, ap (λ (A : Ty). read_value A (stream_of input)) same_source ∙ m.1 ∙ ap (λ (Q : Ready). value Q.input m.0) (sym parts.6))

    -- THE STORES HAVE ROOM FOR THE BOUNDS
    pub room : (bytes_for (whole_cells P) ≤ length cells) × (whole_frames P ≤ length frames / frame_numbers) × (bytes_for (width (whole_target P)) ≤ length answer)
    room =
        let m = stores_fit (program_of T []) cells frames answer parts.5 in (
          subst (λ (n : ℕ). bytes_for n ≤ length cells) (sym same_cells) m.0,
          subst (λ (n : ℕ). n ≤ length frames / frame_numbers) (sym same_frames) m.1,
          subst (λ (A : Ty). bytes_for (width A) ≤ length answer) (sym same_target) m.2,
        )

    -- THE BOUNDS ARE WITHIN THE LIMITS
    pub within_limits : (whole_cells P ≤ cell_count) × (whole_frames P ≤ frame_count)
    unfolding check_bounds
    within_limits =
        let m = limits_kept (whole_cells (program_of T [])) (whole_frames (program_of T [])) (whole_cost (program_of T [])) parts.2 in
        (subst (λ (n : ℕ). n ≤ cell_count) (sym same_cells) m.0, subst (λ (n : ℕ). n ≤ frame_count) (sym same_frames) m.1)

    -- THE MACHINE IS NEVER STUCK
    pub not_stuck : machine (whole_cells P) (whole_frames P) (whole P) (whole_source P) (whole_target P) R.input (cells_of cells) ≡ stuck → ⊥
    not_stuck =
        never_stuck P (ready_sound T checked cells frames answer R passes) R.input (ready_input T checked cells frames answer R passes)
        (cells_of cells)

    -- so the machine on lent stores is safe
    pub whole_ok : WholeOk (whole P) (whole_source P) (whole_target P) R.input (empty (bits_of (take (bytes_for (whole_cells P)) cells)) (whole_frames P))
    whole_ok =
        whole_safe cells (bytes_for (whole_cells P)) (whole_cells P) (whole_frames P) room.0 (omega arith) (whole P) (whole_source P)
        (whole_target P) R.input not_stuck
